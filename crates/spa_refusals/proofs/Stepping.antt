-- Steps into a pod.
use Rattle.std.proofs.Common.{◌≡◌, ◌≤◌, ◌∙◌, Bool, true, false, ℕ, List, [], ◌++◌, length, take, drop, ap, arith, subst, sym}
use Rattle.std.specs.Prelude.{Option, Some, None, Result, Ok, Err, IfNone, IfOk, IfSome}
use Rattle.spa_bytes.specs.Opening.{Opens}
use Rattle.spa_events.specs.Inside.{IsInside}
use Rattle.spa_format.specs.Words.{word_at}
use Rattle.spa_format.proofs.WordLemmas.{word_at-take}
use Rattle.spa_refusals.proofs.Passing.{Passed}
use Rattle.spa_refusals.specs.Paths.{HaveRead, HoldsProperty, IsInnermost, LeadsTo, itself, key_step, properties_read}

-- the value of a property is refused
pub value_found : (type key : ℕ) (properties left words value inner path now new : List ℕ) → Passed properties left → now ≡ path → 8 ≤ length left →
    words ≡ take 8 left → value ≡ drop 8 left → inner ≡ value → key ≡ word_at words 0 → new ≡ now ++ key_step type key →
    HoldsProperty type properties path inner new
value_found type key properties left words value inner path now new so kept long front back same is step =
    let its : key ≡ word_at left 0 = is ∙ ap (λ z. word_at z 0) front ∙ word_at-take 8 0 left (omega arith) in
    record {
      values = so.values;
      first = so.first;
      left = left;
      whole = so.whole;
      read = so.read;
      long = long;
      value = same ∙ back;
      step = step ∙ ap (λ z. z ++ key_step type key) kept ∙ ap (λ z. path ++ key_step type z) its;
    }

-- none is refused
pub object_none : (pod : List ℕ) (type : ℕ) (body rest inside : List ℕ) (keyed : Bool) → Opens pod type body rest → IsInside type body keyed inside →
    keyed ≡ true → HaveRead inside → IsInnermost pod
object_none pod type body rest inside true o i is h =
    properties_read (sym o.its_type ∙ i.0) (subst (λ z. HaveRead (drop 8 z)) o.its_body (subst HaveRead i.2 h))
object_none pod type body rest inside false o i is h = absurd (let z : false ≡ true = is in cc)

-- ---- Paths

pub leads_first : (pod path inner : List ℕ) → inner ≡ pod → path ≡ [] → LeadsTo pod path inner
leads_first pod path inner same none = subst (λ z. LeadsTo pod z inner) (sym none) (subst (LeadsTo pod []) (sym same) itself)

-- what is found implies more
pub some_more : {A E : Type 0} (r : Result (Option A) E) (P Q : A → Type 0) → ((x : A) → P x → Q x) → IfOk r (λ f. IfSome f P) → IfOk r (λ f. IfSome f Q)
some_more (Ok (Some x)) P Q more h = more x h
some_more (Ok None) P Q more h = tt
some_more (Err e) P Q more h = tt

pub none_more : {A E : Type 0} (r : Result (Option A) E) (P Q : Type 0) → (P → Q) → IfOk r (λ f. IfNone f P) → IfOk r (λ f. IfNone f Q)
none_more (Ok (Some x)) P Q more h = tt
none_more (Ok None) P Q more h = more h
none_more (Err e) P Q more h = tt
