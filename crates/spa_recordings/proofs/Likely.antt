-- Where pods plausibly begin.
use Rattle.std.proofs.Common.{◌≡◌, ◌≢◌, ◌∙◌, ◌+◌, ◌%◌, ◌<◌, ◌≤◌, suc, zero, ℕ, Bool, true, false, true≢false, List, [], ◌∷◌, ap, arith, drop, inl, inr, length, length-drop, length-take, refl, subst, sym, take}
use Rattle.std.specs.Prelude.{Decides, if◌then◌else◌, nat_eq}
use Rattle.std.proofs.lemmas.Bool.{cases_lt}
use Rattle.std.proofs.lemmas.Bool.Decides.{eqb_tells, leb_tells}
use Rattle.std.proofs.lemmas.List.{length-take-le}
use Rattle.spa_events.specs.Inside.{OpensFirst, key_size}
use Rattle.spa_format.specs.Fixation.{walk_size}
use Rattle.spa_format.specs.Tree.{object_type, struct_type}
use Rattle.spa_format.specs.Walk.{HasObject, extent_behind, properties_of, walk_at_most}
use Rattle.spa_format.specs.Words.{header_size, word_at}
use Rattle.spa_format.proofs.WalkLemmas.{walk_at_most-there}
use Rattle.spa_bytes.specs.Opening.{Opens}
use Rattle.spa_recordings.proofs.Ended.{first_passed}
use Rattle.spa_recordings.specs.Plausible.{AreWholeFirst, IsNextPlausible, IsNoneBehind, IsNoneBetween, IsParameter, IsPlausible, a_struct, an_object, looked_at}

-- ---- The first pods inside one

walk_none : (n k : ℕ) (b : List ℕ) → length b < extent_behind k b → walk_at_most (suc n) k b ≡ []
walk_none n k b h =
    elim (leb_tells (extent_behind k b) (length b)) [
      | inl p ↦ absurd (let l = p.1 in omega (arith, l, h))
      | inr p ↦ ap (λ t. if t then take (extent_behind k b) b ∷ walk_at_most n k (drop (extent_behind k b) b) else []) p.0
    ]

-- no pods are all whole, and so are those of no bytes
pub whole_none : (k : ℕ) (b : List ℕ) → AreWholeFirst 0 k b
whole_none k b = inr refl

pub whole_empty : (n k : ℕ) (b : List ℕ) → length b ≡ 0 → AreWholeFirst (suc n) k b
whole_empty n k b e = inl (ap walk_size (walk_none n k b (omega (arith, e))) ∙ sym e)

-- the first one isn't whole
pub whole_short : (n k : ℕ) (b : List ℕ) → length b ≢ 0 → length b < extent_behind k b → ¬ (AreWholeFirst (suc n) k b)
whole_short n k b some short h =
    elim h [
      | inl e ↦ some (sym (sym (ap walk_size (walk_none n k b short)) ∙ e))
      | inr e ↦ let l = sym (ap length (walk_none n k b short)) ∙ e in omega (arith, l)
    ]

-- it is
pub whole_one : (n k : ℕ) (b : List ℕ) → extent_behind k b ≤ length b → AreWholeFirst n k (drop (extent_behind k b) b) → AreWholeFirst (suc n) k b
whole_one n k b there h =
    let d = length-drop (extent_behind k b) b in
    let t = length-take-le (extent_behind k b) b there in
    let w = walk_at_most-there n k b there in
    elim h [
      | inl e ↦ inl (ap walk_size w ∙ (let s : length (take (extent_behind k b) b) + walk_size (walk_at_most n k (drop (extent_behind k b) b)) ≡ length b = omega (arith, d, t, e, there) in s))
      | inr e ↦ inr (ap length w ∙ ap suc e)
    ]

pub whole_rest : (n k : ℕ) (b : List ℕ) → extent_behind k b ≤ length b → AreWholeFirst (suc n) k b → AreWholeFirst n k (drop (extent_behind k b) b)
whole_rest n k b there h =
    let d = length-drop (extent_behind k b) b in
    let t = length-take-le (extent_behind k b) b there in
    let w = walk_at_most-there n k b there in
    elim h [
      | inl e ↦ inl (let s = sym (ap walk_size w) ∙ e in omega (arith, d, t, s, there))
      | inr e ↦ inr (let s = sym (ap length w) ∙ e in omega (arith, s))
    ]

-- how far the look at the pods inside is
pub record LooksSoFar (k : ℕ) (pods left : List ℕ) (i : ℕ) : Type 0 where
  pub more : ℕ
  pub counted : i + more ≡ looked_at
  pub back : AreWholeFirst more k left → AreWholeFirst looked_at k pods
  pub on : AreWholeFirst looked_at k pods → AreWholeFirst more k left

pub look_begins : (k : ℕ) (pods : List ℕ) → LooksSoFar k pods pods 0
look_begins k pods = record { more = looked_at; counted = refl; back = λ h. h; on = λ h. h }

empty_by : (k i more : ℕ) (left : List ℕ) → i + more ≡ looked_at → i < looked_at → length left ≡ 0 → AreWholeFirst more k left
empty_by k i zero left e l none = absurd (omega (arith, e, l))
empty_by k i (suc n) left e l none = whole_empty n k left none

short_by : (k i more : ℕ) (left : List ℕ) → i + more ≡ looked_at → i < looked_at → length left ≢ 0 → length left < extent_behind k left → ¬ (AreWholeFirst more k left)
short_by k i zero left e l some short = absurd (omega (arith, e, l))
short_by k i (suc n) left e l some short = whole_short n k left some short

pub yes : {P : Type 0} → P → Decides true P
yes p = (λ e. p, λ q. refl)

-- no whole pod is left
pub look_none : (k : ℕ) (pods left : List ℕ) (i : ℕ) (is : Bool) → i < looked_at → is ≡ nat_eq (length left) 0 → length left < extent_behind k left →
    LooksSoFar k pods left i → Decides is (AreWholeFirst looked_at k pods)
look_none k pods left i is l empty short so = elim (eqb_tells (length left) 0) [
  | inl t ↦ subst (λ z. Decides z (AreWholeFirst looked_at k pods)) (sym (empty ∙ t.0)) (yes (so.back (empty_by k i so.more left so.counted l t.1)))
  | inr f ↦ (λ e. absurd (true≢false (sym e ∙ empty ∙ f.0)), λ h. absurd (short_by k i so.more left so.counted l f.1 short (so.on h)))
]

next_by : (k : ℕ) (pods left : List ℕ) (i more : ℕ) → i + more ≡ looked_at → i < looked_at → extent_behind k left ≤ length left →
    (AreWholeFirst more k left → AreWholeFirst looked_at k pods) → (AreWholeFirst looked_at k pods → AreWholeFirst more k left) →
    LooksSoFar k pods (drop (extent_behind k left) left) (i + 1)
next_by k pods left i zero e l there back on = absurd (omega (arith, e, l))
next_by k pods left i (suc n) e l there back on = record {
  more = n;
  counted = omega (arith, e);
  back = λ h. back (whole_one n k left there h);
  on = λ h. whole_rest n k left there (on h);
}

pub look_next : (keyed : Bool) (pods left body rest : List ℕ) (i type : ℕ) → i < looked_at → OpensFirst keyed left type body rest →
    LooksSoFar (key_size keyed) pods left i → LooksSoFar (key_size keyed) pods rest (i + 1)
look_next keyed pods left body rest i type l o so =
    let k = key_size keyed in
    let passed = first_passed keyed left body rest type o in
    subst (λ z. LooksSoFar k pods z (i + 1)) (sym passed.1) (next_by k pods left i so.more so.counted l passed.0 so.back so.on)

ends_by : (k i more : ℕ) (left : List ℕ) → i + more ≡ looked_at → looked_at ≤ i → AreWholeFirst more k left
ends_by k i zero left e l = whole_none k left
ends_by k i (suc n) left e l = absurd (omega (arith, e, l))

pub look_ends : (k : ℕ) (pods left : List ℕ) (i : ℕ) → looked_at ≤ i → LooksSoFar k pods left i → AreWholeFirst looked_at k pods
look_ends k pods left i l so = so.back (ends_by k i so.more left so.counted l)

-- ---- The pod at the front

pub struct_by : (b body rest : List ℕ) (type : ℕ) (is : Bool) → Opens b type body rest → type ≡ struct_type → Decides is (AreWholeFirst looked_at 0 body) →
    Decides is (IsPlausible b)
struct_by b body rest type is opens e d = (
  λ t. a_struct opens.there (sym opens.its_type ∙ e) (subst (AreWholeFirst looked_at 0) opens.its_body (d.0 t)),
  λ h. by h,
)
  where
    by : IsPlausible b → is ≡ true
    by (a_struct f i whole) = d.1 (subst (AreWholeFirst looked_at 0) (sym opens.its_body) whole)
    by (an_object f its whole) = let t = sym e ∙ opens.its_type ∙ f.its_type in absurd (omega (arith, t))

-- an object is at the front
pub object_there : (b body rest : List ℕ) (type : ℕ) → Opens b type body rest → type ≡ object_type → header_size ≤ length body → HasObject b
object_there b body rest type opens e long =
    let l = ap length opens.its_body in
    let t = length-take (word_at b 0) (drop header_size b) in
    record { front = opens.there; its_type = sym opens.its_type ∙ e; parts = omega (arith, l, t, long) }

pub object_by : (b body rest properties : List ℕ) (type : ℕ) (is : Bool) → Opens b type body rest → type ≡ object_type → header_size ≤ length body →
    properties ≡ drop header_size body → IsParameter (word_at b header_size) → Decides is (AreWholeFirst looked_at header_size properties) →
    Decides is (IsPlausible b)
object_by b body rest properties type is opens e long p its d = (λ t. an_object there its (subst Whole same (d.0 t)), λ h. by h)
  where
    there : HasObject b
    there = object_there b body rest type opens e long

    Whole : List ℕ → Type 0
    Whole = AreWholeFirst looked_at header_size

    same : properties ≡ properties_of b
    same = p ∙ ap (drop header_size) opens.its_body

    by : IsPlausible b → is ≡ true
    by (a_struct f i whole) = let t = sym i ∙ there.its_type in absurd (omega (arith, t))
    by (an_object f i whole) = d.1 (subst Whole (sym same) whole)

-- ---- The search

pub record SeeksSoFar (input : List ℕ) (from at : ℕ) : Type 0 where
  pub behind : from ≤ at
  pub aligned : at % 8 ≡ 0
  pub none : IsNoneBetween input from at

pub seek_next : (input : List ℕ) (from at : ℕ) → ¬ (IsPlausible (drop at input)) → SeeksSoFar input from at → SeeksSoFar input from (at + 8)
seek_next input from at not_here so =
    let b = so.behind in
    let a = so.aligned in
    record {
      behind = omega (arith, b);
      aligned = omega (arith, a);
      none = λ n l h m p. elim (cases_lt n at) [
        | inl low ↦ so.none n l low m p
        | inr high ↦ not_here (subst (λ z. IsPlausible (drop z input)) (let e : n ≡ at = omega (arith, a, m, high, h) in e) p)
      ];
    }

pub seek_found : (input : List ℕ) (from at : ℕ) → IsPlausible (drop at input) → SeeksSoFar input from at → IsNextPlausible input from at
seek_found input from at is so = record { behind = so.behind; aligned = so.aligned; plausible = is; first = so.none }

header_there : (b : List ℕ) → IsPlausible b → 8 ≤ length b
header_there b (a_struct there i whole) = there.header
header_there b (an_object there its whole) = there.front.header

pub none_behind : (input : List ℕ) (n : ℕ) → length input ≤ n → ¬ (IsPlausible (drop n input))
none_behind input n h p = let l = length-drop n input in let t = header_there (drop n input) p in omega (arith, l, t, h)

pub seek_ends : (input : List ℕ) (from at : ℕ) → length input ≤ at → SeeksSoFar input from at → IsNoneBehind input from
seek_ends input from at h so = λ n l m p. elim (cases_lt n at) [
  | inl low ↦ so.none n l low m p
  | inr high ↦ none_behind input n (omega (arith, h, high)) p
]
