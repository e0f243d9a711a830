-- Pods that a look accepts or refuses.
use Rattle.std.proofs.Common.{◌≡◌, ℕ, ◌+◌, ◌-◌, ◌<◌, ◌≤◌, List, ◌++◌, length, refl, sym, ap, ◌∙◌, subst, arith, append_assoc, length-append}
use Rattle.std.specs.Borrow.{Bor}
use Rattle.std.specs.Prelude.{Bool}
use Rattle.spa_format.specs.Words.{header_size}
use Rattle.spa_format.specs.Tree.{Tree, no_trees, member, join_members}
use Rattle.spa_format.specs.Front.{Begins, HasFront, IsRefused, front_of}
use Rattle.spa_format.specs.Faults.{Short, Text, InvalidType, InvalidChoiceType, MissingChoiceValues, WrongSize, Stands, StandsAtFront, at_front}
use Rattle.spa_format.proofs.Refused.{begun}
use Rattle.spa_format.proofs.Refused as format
use Rattle.spa_format.proofs.Sequences.{members_push}
use Rattle.spa_bytes.specs.Opening.{Opens}
use Rattle.spa_fixed_sized.specs.declared.fault.Refusal.{Refusal}
use Rattle.spa_fixed_sized.specs.declared.fault.Refusal.TheVariants as refusal
use Rattle.spa_bodies.specs.Reading.{BeginsWith}
use Rattle.spa_bodies.specs.Refusing.{Says, error_of}
use Rattle.spa_bodies.proofs.Refusals.{says_through}
use Rattle.spa_canonical.specs.Depth.{depth_of, levels_looked_into}
use Rattle.spa_canonical.specs.Look.{IsFaultAt, IsRejected, StandsAt, StopsAt, at_pod, from_pod}
use Rattle.spa_canonical.specs.Rewriting.{ArePodsWithin, IsLeft, RefusesFront}
use Rattle.spa_events.specs.Inside.{IsInside}
use Rattle.spa_canonical.specs.declared.look.Rejected.{Rejected}
use Rattle.spa_canonical.specs.declared.look.Rejected.TheVariants as rejected
use Rattle.spa_canonical.proofs.FirstPods.{left_behind_pods}
use Rattle.spa_canonical.proofs.Depths.{deep_begun}
use Rattle.spa_canonical.proofs.Looks.{stands_opened}
use Rattle.spa_canonical.proofs.Offsets.{body_long, offset_opened}
use Rattle.spa_canonical.proofs.Refusals.{front_refused}
use Rattle.spa_canonical.proofs.ShorterLemmas.{first_within, within_behind}
use Rattle.spa_canonical.proofs.Stretches.{FirstMembers}
use Rattle.spa_canonical.proofs.Lengths.{lengths}
use Rattle.spa_bodies.proofs.Steps.{parted}

-- what stands at a place is no pod of the grammar
fault_refuses : (input place : List ℕ) (why : Refusal) → Says (λ k. Stands k place input) ⊥ why → IsRefused input
fault_refuses input place refusal.Short s = format.refused Short place input s
fault_refuses input place refusal.Text s = format.refused Text place input s
fault_refuses input place refusal.InvalidType s = format.refused InvalidType place input s
fault_refuses input place refusal.InvalidChoiceType s = format.refused InvalidChoiceType place input s
fault_refuses input place refusal.MissingChoiceValues s = format.refused MissingChoiceValues place input s
fault_refuses input place refusal.WrongSize s = format.refused WrongSize place input s
fault_refuses input place refusal.OutOfMemory s = absurd s

-- what is found in a struct or an object is found of it
pub inside_stops : (type : ℕ) (input body rest inside place : List ℕ) (inner : Bool) (behind at : ℕ) (why : Refusal) → Opens input type body rest →
    IsInside type body inner inside → StopsAt inner inside place behind → at ≡ header_size + length body - (length place + behind) →
    Says (λ k. StandsAtFront k place) ⊥ why → IsFaultAt input place at why
inside_stops type input body rest inside place inner behind at why o i s e f =
    let long = body_long type body inside inner i in
    let stands = says_through (λ k. StandsAtFront k place) (λ k. Stands k place input) ⊥ ⊥
    (λ k x. stands_opened type input body rest inside inner k place o i (s.stands k x)) (λ n. n) why f in
    record {
      refused = fault_refuses input place why stands;
      stands = stands;
      offset = says_through (λ k. StandsAtFront k place) (λ k. StandsAt k from_pod at input) ⊥ ⊥
          (λ k x. subst (λ n. StandsAt k from_pod n input) (omega arith)
          (offset_opened type input body rest inside inner k (length inside - (length place + behind)) o i (s.offset k x))) (λ n. n) why f;
      within = omega arith;
    }

pub front_stops : (input : List ℕ) (why : Refusal) → Says (λ k. StandsAtFront k input) ⊥ why → IsFaultAt input input 0 why
front_stops input why f =
    let stands = says_through (λ k. StandsAtFront k input) (λ k. Stands k input input) ⊥ ⊥ (λ k x. at_front input refl x) (λ n. n) why f in
    record {
      refused = fault_refuses input input why stands;
      stands = stands;
      offset = says_through (λ k. StandsAtFront k input) (λ k. StandsAt k from_pod 0 input) ⊥ ⊥ (λ k x. at_pod input x) (λ n. n) why f;
      within = omega arith;
    }

-- what is rejected is a pod of no value, or of one with more levels
pub rejected_value : (input : List ℕ) (r : Rejected) → IsRejected input r → (v : Tree) → Begins input v → levels_looked_into < depth_of v
rejected_value input (rejected.Fault place at why) s v b = absurd (s.refused v b)
rejected_value input rejected.TooDeep s v b = deep_begun levels_looked_into input v s b

-- so it isn't the first of pods of so many levels
pub rejected_first : (left : List ℕ) (r : Rejected) → 0 < length left → IsRejected left r → ¬ (ArePodsWithin levels_looked_into left)
rejected_first left r l s w =
    let f = first_within levels_looked_into left l w in
    let d = rejected_value left r s f.value (record { there = f.there; pod = f.pod }) in
    omega arith

-- less is left behind an accepted pod
pub less_left : (pod rest : List ℕ) (v : Tree) → BeginsWith pod v rest → length rest + 8 ≤ length pod
less_left pod rest v b =
    let d = ap length (parted pod v rest b) ∙ length-append (front_of pod) rest in
    omega lengths

pub fewer_left : (pod rest : List ℕ) (v : Tree) → BeginsWith pod v rest → length rest < length pod
fewer_left pod rest v b = let l = less_left pod rest v b in omega arith

-- The public refusal of a fault.
pub fault_front : (input : List ℕ) (place : Bor (List ℕ)) (why : Refusal) → Says (λ k. Stands k place.now input) ⊥ why → RefusesFront input (error_of place why)
fault_front input place why s =
    front_refused input place why (says_through (λ k. Stands k place.now input) (λ k. Stands k place.now input) ⊥ (HasFront input) (λ k x. x) (λ n. absurd n) why s)

-- what is left behind first pods
pub left_behind : (input left pod : List ℕ) → FirstMembers input left → IsLeft left pod → IsLeft input pod
left_behind input left pod h l = left_behind_pods input h.first left pod h.values h.parts h.members l

pub missed_behind : (input left : List ℕ) → FirstMembers input left → ¬ (ArePodsWithin levels_looked_into left) → ¬ (ArePodsWithin levels_looked_into input)
missed_behind input left h n w = n (within_behind h.values h.first left levels_looked_into h.members (subst (ArePodsWithin levels_looked_into) h.parts w))

-- behind the pod that is left of them
pub behind_left : (input left pod rest : List ℕ) (v : Tree) → FirstMembers input left → IsLeft left pod → BeginsWith pod v rest → FirstMembers input rest
behind_left input left pod rest v h l b =
    let i = left_behind input left pod h l in
    record {
      values = join_members i.0 (member v no_trees);
      first = i.1 ++ front_of pod;
      parts = i.2 ∙ ap (λ y. i.1 ++ y) (parted pod v rest b) ∙ sym (append_assoc i.1 (front_of pod) rest);
      members = members_push i.0 v i.1 (front_of pod) i.3 b.begins.pod;
    }

-- and it is shorter
pub shorter_left : (left pod rest : List ℕ) (v : Tree) → IsLeft left pod → BeginsWith pod v rest → length rest < length left
shorter_left left pod rest v l b =
    let a = ap length l.2 ∙ length-append l.1 pod in
    let f = fewer_left pod rest v b in
    omega arith
