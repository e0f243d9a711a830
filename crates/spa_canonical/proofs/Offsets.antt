-- Offsets at which faults stand, counted from further back.
use Rattle.std.proofs.Common.{◌≡◌, ◌≢◌, ℕ, ◌+◌, ◌-◌, ◌<◌, ◌≤◌, List, [], length, drop, sym, ap, ◌∙◌, subst, arith, length-drop}
use Rattle.std.specs.Prelude.{Bool, true, false}
use Rattle.spa_format.specs.Words.{body_of, header_size, word_at}
use Rattle.spa_format.specs.Tree.{Tree, object_type}
use Rattle.spa_format.specs.Faults.{Fault}
use Rattle.spa_format.specs.Front.{Begins, rest_of}
use Rattle.spa_bytes.specs.Opening.{Opens}
use Rattle.spa_bodies.specs.Reading.{BeginsWith}
use Rattle.spa_events.specs.Inside.{IsBehindKey, IsInside, key_size}
use Rattle.spa_canonical.specs.Look.{StandsAt, first_member, first_value, from_members, from_pod, from_properties, in_object, in_struct, next_member, next_property, scope_of}
use Rattle.spa_canonical.proofs.Lengths.{lengths}

pub key_long : (keyed : Bool) (left here : List ℕ) → IsBehindKey keyed left here → length left ≡ key_size keyed + length here
key_long true left here k = let l = ap length k.1 ∙ length-drop 8 left in let r = k.0 in omega arith
key_long false left here k = let l = ap length k in omega arith

pub body_long : (type : ℕ) (body inside : List ℕ) (inner : Bool) → IsInside type body inner inside → length body ≡ key_size inner + length inside
body_long type body inside true i = let l = ap length i.2 ∙ length-drop 8 body in let r = i.1 in omega arith
body_long type body inside false i = let l = ap length i.1 in omega arith

-- an offset of the first pod
pub offset_first : (keyed : Bool) (left here : List ℕ) (k : Fault) (n : ℕ) → 0 < length left → IsBehindKey keyed left here → StandsAt k from_pod n here →
    StandsAt k (scope_of keyed) (key_size keyed + n) left
offset_first true left here k n some i s = first_value n left i.0 (subst (StandsAt k from_pod n) i.1 s)
offset_first false left here k n some i s =
    let there : left ≢ [] = λ z. let l = ap length z in omega arith in
    subst (λ m. StandsAt k from_members m left) (omega arith) (first_member n left there (subst (StandsAt k from_pod n) i s))

-- one behind an accepted pod
pub offset_behind : (keyed : Bool) (left here rest : List ℕ) (v : Tree) (k : Fault) (n : ℕ) → IsBehindKey keyed left here → BeginsWith here v rest →
    StandsAt k (scope_of keyed) n rest → StandsAt k (scope_of keyed) (length left - length rest + n) left
offset_behind true left here rest v k n i b s =
    let x = drop header_size left in
    let begins : Begins x v = subst (λ y. Begins y v) i.1 b.begins in
    let after : rest ≡ rest_of x = b.follows ∙ ap rest_of i.1 in
    let a = ap length after in
    subst (λ m. StandsAt k from_properties m left) (omega lengths) (next_property n left v i.0 begins (subst (StandsAt k from_properties n) after s))
offset_behind false left here rest v k n i b s =
    let begins : Begins left v = subst (λ y. Begins y v) i b.begins in
    let after : rest ≡ rest_of left = b.follows ∙ ap rest_of i in
    let a = ap length after in
    subst (λ m. StandsAt k from_members m left) (omega lengths) (next_member n left v begins (subst (StandsAt k from_members n) after s))

-- one inside the first pod
pub offset_opened : (type : ℕ) (here body rest inside : List ℕ) (inner : Bool) (k : Fault) (n : ℕ) → Opens here type body rest →
    IsInside type body inner inside → StandsAt k (scope_of inner) n inside → StandsAt k from_pod (header_size + (key_size inner + n)) here
offset_opened type here body rest inside true k n o i s =
    let t : word_at here 4 ≡ object_type = sym o.its_type ∙ i.0 in
    let long : header_size ≤ length (body_of here) = subst (λ x. header_size ≤ length x) o.its_body i.1 in
    subst (λ m. StandsAt k from_pod m here) (omega arith)
    (in_object n here o.there t long (subst (StandsAt k from_properties n) (i.2 ∙ ap (drop header_size) o.its_body) s))
offset_opened type here body rest inside false k n o i s =
    subst (λ m. StandsAt k from_pod m here) (omega arith) (in_struct n here o.there (sym o.its_type ∙ i.0) (subst (StandsAt k from_members n) (i.1 ∙ o.its_body) s))
