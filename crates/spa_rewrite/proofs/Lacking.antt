-- Refusals of the pod at the front, and what memory is asked for.
use Rattle.std.proofs.Common.{◌≡◌, ℕ, ◌<◌, List, ◌++◌, length, sym, ap, subst, arith, inl, inr}
use Rattle.std.specs.Borrow.{Bor}
use Rattle.spa_format.specs.Faults.{Stands}
use Rattle.spa_format.specs.Front.{Begins, HasFront}
use Rattle.spa_format.specs.Pod.{AreMembers, IsBody, IsPod}
use Rattle.spa_format.specs.Tree.{Tree, Trees, no_trees, member, join_members, type_of}
use Rattle.spa_format.proofs.Sequences.{members_joined}
use Rattle.spa_canonical.specs.Canonical.{AreCanonical}
use Rattle.spa_canonical.specs.Look.{AreChanged}
use Rattle.spa_canonical.proofs.Changed.{changed_members}
use Rattle.spa_format.proofs.Fronts.{front_of_whole}
use Rattle.spa_fixed_sized.specs.declared.fault.Refusal.{Refusal}
use Rattle.spa_fixed_sized.specs.declared.fault.Refusal.TheVariants as refusal
use Rattle.spa_bodies.specs.Reading.{OnMemory}
use Rattle.spa_bodies.specs.Refusing.{Says, error_of}
use Rattle.spa_rewrite.specs.Refusals.{FrontAsksMemory, IsRefusal}
use Rattle.spa_canonical.proofs.Accepted.{fault_front}
use Rattle.spa_canonical.proofs.Deeper.{its_front}
use Rattle.spa_canonical.specs.Depth.{levels_looked_into}
use Rattle.spa_fixed_sized.specs.declared.fault.DeserializeError.TheVariants as error

-- the front that memory is asked for is there
pub front_asking : (input : List ℕ) → FrontAsksMemory input → HasFront input
front_asking input (inl b) = b.1.there
front_asking input (inr d) = its_front levels_looked_into input d

-- a list that isn't empty begins with a pod
pub begins_all : (vs : Trees) (input : List ℕ) → AreMembers vs input → 0 < length input → (v : Tree) × Begins input v
begins_all no_trees input m l = absurd (let z = ap length m in omega arith)
begins_all (member v vs) input m l =
    let f = front_of_whole input m.0 m.1 (type_of v) (IsBody v) m.2 m.3 in
    (v, record { there = f.0; pod = subst (λ b. IsPod b v) f.1 m.3 })

-- accepted pods behind canonical ones begin with a pod, where they are some
pub first_begins : (input first others : List ℕ) (changed : ℕ) → input ≡ first ++ others → AreCanonical first → AreChanged others changed →
    0 < length input → (v : Tree) × Begins input v
first_begins input first others changed e k h l =
    let m = changed_members others changed h in
    let vs = join_members k.values m.0 in
    begins_all vs input (subst (AreMembers vs) (sym e) (members_joined k.values m.0 first others k.members m.1)) l

-- memory ran out
pub lacks : (input : List ℕ) → FrontAsksMemory input → IsRefusal input error.OutOfMemory
lacks input a =
    let h = front_asking input a in
    record { refused = record { refused = tt; named = tt; short_first = λ n. absurd (n h); memory = h }; asks = a }

-- not for want of memory
pub fault_memory : (input : List ℕ) (place : Bor (List ℕ)) (why : Refusal) (A : Type 0) → Says (λ k. Stands k place.now input) ⊥ why →
    OnMemory A (error_of place why)
fault_memory input place refusal.OutOfMemory A s = absurd s
fault_memory input place _ A s = tt

-- a fault stands
pub is_fault : (input : List ℕ) (place : Bor (List ℕ)) (why : Refusal) → Says (λ k. Stands k place.now input) ⊥ why →
    IsRefusal input (error_of place why)
is_fault input place why s = record { refused = fault_front input place why s; asks = fault_memory input place why (FrontAsksMemory input) s }
