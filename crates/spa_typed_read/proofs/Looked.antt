-- Pods that are looked at where they are.
use Rattle.std.proofs.Common.{◌≡◌, ℕ, ◌<◌, ◌≤◌, List, sym, ap, ◌∙◌, subst, arith}
use Rattle.spa_format.specs.Tree.{Tree, Properties, join_properties, no_properties, property}
use Rattle.spa_format.specs.Pod.{AreProperties}
use Rattle.spa_format.proofs.Sequences.{props_left}
use Rattle.spa_canonical.specs.Depth.{NestsDeeper, depth_of, levels_looked_into, property_depth}
use Rattle.std.specs.Borrow.{Bor}
use Rattle.spa_format.specs.Faults.{Fault, Stands}
use Rattle.spa_fixed_sized.specs.declared.fault.Refusal.{Refusal}
use Rattle.spa_fixed_sized.specs.declared.fault.Refusal.TheVariants as refusal
use Rattle.spa_bodies.specs.Reading.{MayLackMemory, OnMemory, RefusesInput}
use Rattle.spa_bodies.specs.Refusing.{Says, error_of}
use Rattle.spa_canonical.proofs.Accepted.{fault_front}
use Rattle.spa_canonical.proofs.Depths.{deep_begun}
use Rattle.spa_typed_read.specs.Lookup.{HoldsDeep}
use Rattle.spa_typed_read.proofs.Lookups.{first_of_all, some_long}

-- a fault is no want of memory
fault_memory : (stands : Fault → Type 0) (fact : Type 0) (place : Bor (List ℕ)) (why : Refusal) → Says stands ⊥ why → OnMemory fact (error_of place why)
fault_memory stands fact place refusal.OutOfMemory s = absurd s
fault_memory stands fact place _ s = tt

-- the refusal of a fault, which is none for lack of memory
pub fault_refused : (input : List ℕ) (place : Bor (List ℕ)) (why : Refusal) → Says (λ k. Stands k place.now input) ⊥ why →
    RefusesInput input (error_of place why) × OnMemory (NestsDeeper levels_looked_into input) (error_of place why)
fault_refused input place why s =
    let r = fault_front input place why s in (
      record {
        refused = r.refused;
        memory = fault_memory (λ k. Stands k place.now input) (MayLackMemory input) place why s;
        short_first = r.short_first;
        named = r.named;
      },
      fault_memory (λ k. Stands k place.now input) (NestsDeeper levels_looked_into input) place why s,
    )

-- a property nests no deeper than they all
depth_among : (ps qs : Properties) (k f : ℕ) (v : Tree) → depth_of v ≤ property_depth (join_properties ps (property k f v qs))
depth_among no_properties qs k f v = omega arith
depth_among (property j g w ps) qs k f v = (let more = depth_among ps qs k f v in omega (arith, more))

-- properties are deep where one of them is
pub deep_nests : (b : List ℕ) (ps : Properties) → HoldsDeep b → AreProperties ps b → levels_looked_into < property_depth ps
deep_nests b ps d m =
    let k = props_left d.properties ps d.first d.left d.are (subst (AreProperties ps) d.parts m) in
    let f = first_of_all d.left k.0 (some_long d.left d.header) k.2 in
    let deep = deep_begun levels_looked_into _ f.value d.deep f.begins in
    let all : ps ≡ join_properties d.properties (property f.key f.flags f.value f.others) = k.1 ∙ ap (join_properties d.properties) f.is in
    let among = depth_among d.properties f.others f.key f.flags f.value in
    subst (λ qs. levels_looked_into < property_depth qs) (sym all) (omega (arith, deep, among))
