-- What is left of a body: whether anything is, and the property that it begins with.
use Rattle.std.proofs.Common.{◌≡◌, ◌≢◌, ℕ, ◌≤◌, List, [], ◌∷◌, ◌++◌, length, drop, take, sym, ap, ◌∙◌, refl, arith, subst, append_assoc, length-append, nat_eq, Bool, true, false}
use Rattle.std.proofs.lemmas.List.{append-nil, drop_at, length-take-le, nil_from_length, take-append-drop}
use Rattle.std.proofs.lemmas.Bool.{eqb-true}
use Rattle.spa_format.specs.Words.{header_size, word_at}
use Rattle.spa_format.specs.Tree.{Tree, Properties, no_properties, property}
use Rattle.spa_format.specs.Pod.{IsPod}
use Rattle.spa_format.specs.Lenient.{Conveys}
use Rattle.spa_format.specs.Front.{front_of}
use Rattle.spa_format.proofs.WordLemmas.{word_at-append}
use Rattle.spa_bodies.specs.Reading.{BeginsWith}
use Rattle.spa_read.specs.Reading.{BeginsIn, PropertiesIn}
use Rattle.spa_read.proofs.Readings.{parted}

pub emptied : (left : List ℕ) → true ≡ nat_eq (length left) 0 → left ≡ []
emptied left e = nil_from_length left (eqb-true (length left) 0 (sym e))

pub filled : (left : List ℕ) → false ≡ nat_eq (length left) 0 → left ≢ []
filled [] e n = cc
filled (x ∷ xs) e n = cc

-- what is left begins with a key and flags, and behind these stands a pod
pub record HasKey (left behind : List ℕ) (k f : ℕ) : Type 0 where
  pub long : header_size ≤ length left
  pub is_behind : behind ≡ drop header_size left
  pub key : k ≡ word_at left 0
  pub flags : f ≡ word_at left 4

-- the property that those make with the front behind them
pub record IsFirst (m : Bool) (left rest : List ℕ) (one : Properties) : Type 0 where
  pub here : List ℕ
  pub parts : left ≡ here ++ rest
  pub its_bytes : PropertiesIn m one here

-- one property
one_property : (m : Bool) (here front rest : List ℕ) (k f : ℕ) (v : Tree) → 8 ≤ length here → k ≡ word_at here 0 → f ≡ word_at here 4 →
    (behind : List ℕ) → front ≡ front_of behind → drop 8 here ≡ front ++ [] → BeginsIn m behind v rest → PropertiesIn m (property k f v no_properties) here
one_property false here front rest k f v l a c behind e d b =
    (l, a, c, front, [], d, subst (λ y. IsPod y v) (sym e) b.begins.pod, refl)
one_property true here front rest k f v l a c behind e d b =
    (l, a, c, front, [], d, subst (λ y. Conveys y v) (sym e) b.begins.conveys, refl)

pub first_in : (m : Bool) (left behind rest : List ℕ) (k f : ℕ) (v : Tree) → HasKey left behind k f →
    BeginsIn m behind v rest → IsFirst m left rest (property k f v no_properties)
first_in m left behind rest k f v h b =
    let head = take 8 left in
    let front = front_of behind in
    let here = head ++ front in
    let long : length head ≡ 8 = length-take-le 8 left h.long in
    let whole : left ≡ here ++ rest =
    sym (take-append-drop 8 left)
    ∙ ap (λ y. head ++ y) (sym h.is_behind ∙ parted m behind v rest b)
    ∙ sym (append_assoc head front rest) in
    let size = length-append head front in
    let w0 : word_at left 0 ≡ word_at here 0 = ap (λ y. word_at y 0) whole
    ∙ word_at-append here rest 0 (omega arith) in
    let w4 : word_at left 4 ≡ word_at here 4 = ap (λ y. word_at y 4) whole
    ∙ word_at-append here rest 4 (omega arith) in
    let value_here : drop 8 here ≡ front ++ [] = drop_at head front 8 long ∙ sym (append-nil front) in
    let enough : 8 ≤ length here = omega arith in
    record {
      here = here;
      parts = whole;
      its_bytes = one_property m here front rest k f v enough (h.key ∙ w0) (h.flags ∙ w4) behind refl value_here b;
    }

pub first_property : (left behind rest : List ℕ) (k f : ℕ) (v : Tree) → HasKey left behind k f →
    BeginsWith behind v rest → IsFirst false left rest (property k f v no_properties)
first_property left behind rest k f v h b = first_in false left behind rest k f v h b
