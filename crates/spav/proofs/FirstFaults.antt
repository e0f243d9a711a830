-- The first fault of the caller's bytes, at the offset that the look gives.
use Rattle.std.proofs.Common.{◌≡◌, ℕ, ◌+◌, ◌-◌, List, length, take, drop, refl, sym, ap, ◌∙◌, subst, arith, length-append}
use Rattle.std.proofs.lemmas.List.{take_at, drop_at}
use Rattle.spa_fixed_sized.specs.declared.fault.Refusal.{Refusal}
use Rattle.spa_format.specs.Front.{IsRefused}
use Rattle.spa_format.specs.Pod.{AreMembers}
use Rattle.spa_bodies.specs.Refusing.{Says}
use Rattle.spa_canonical.specs.Look.{IsFaultAt, StandsAt, from_pod}
use Rattle.spa_canonical.specs.Rewriting.{IsLeft}
use Rattle.spav.specs.Faults.{FaultStands, fault_number}
use Rattle.spav.proofs.Refusals.{said_by_both, some_left}

pub fault_stands : (input left place : List ℕ) (top at number : ℕ) (why : Refusal) → IsLeft input left → top ≡ length input - length left →
    IsFaultAt left place at why → Says (λ k. number ≡ fault_number k) ⊥ why → FaultStands input number top (top + at)
fault_stands input left place top at number why l t f n =
    let x =
    said_by_both (λ k. StandsAt k from_pod at left) (λ k. number ≡ fault_number k) ⊥ why f.offset n in
    let a = ap length l.2 in
    let s = length-append l.1 left in
    let long : length l.1 ≡ top = omega arith in
    let front : take top input ≡ l.1 = ap (take top) l.2 ∙ take_at l.1 left top long in
    let back : drop top input ≡ left = ap (drop top) l.2 ∙ drop_at l.1 left top long in
    let some = some_left AreMembers IsRefused input left l in
    record {
      first = l.0;
      before = subst (AreMembers l.0) (sym front) l.3;
      inside = omega arith;
      refused = subst IsRefused (sym back) f.refused;
      fault = x.0;
      its_kind = x.2;
      behind = at;
      its_byte = refl;
      found = subst (StandsAt x.0 from_pod at) (sym back) x.1;
    }
