-- Values whose pods have sixteen bytes, looked at in several places in turn.
use Rattle.std.proofs.Common.{◌≡◌, ℕ, ◌+◌, ◌*◌, ◌<◌, ◌≤◌, inl, inr, List, [], ◌∷◌, length, take, get_or, zero, suc, sym, ap, ◌∙◌, subst, arith}
use Rattle.std.proofs.lemmas.Bool.{cases_lt}
use Rattle.std.proofs.lemmas.List.{get_or_default, take_all}
use Rattle.spa_format.specs.Words.{size_limit}
use Rattle.spa_value.specs.declared.value.Value.{Value}
use Rattle.spa_value.specs.View.{view}
use Rattle.spa_value.specs.Views.{views}
use Rattle.spa_write.specs.Measured.{AreMeasured, AreShort, IsMeasured}
use Rattle.spa_write.proofs.MemberLists.{measured_next, measured_none}

-- `n` short values from the index `from` on
pub record ShortAt (vs : List Value) (from n : ℕ) : Type 0 where
  pub each : (i : ℕ) (v : Value) → from ≤ i → i < from + n → v ≡ get_or vs i v → IsMeasured (view v) 16

-- `n` short values from each of four indexes on
pub record ShortAtFour (vs : List Value) (part n : ℕ) : Type 0 where
  pub first : ShortAt vs 0 n
  pub second : ShortAt vs part n
  pub third : ShortAt vs (2 * part) n
  pub fourth : ShortAt vs (3 * part) n

pub no_short : (vs : List Value) (from : ℕ) → ShortAt vs from 0
no_short vs from = record { each = λ i v l m e. absurd (omega (arith, l, m)) }

-- one more behind them
pub short_next : (vs : List Value) (from n at : ℕ) (w : Value) → at ≡ from + n → at < length vs → w ≡ get_or vs at w →
    IsMeasured (view w) 16 → ShortAt vs from n → ShortAt vs from (n + 1)
short_next vs from n at w a l e m h = record {
  each = λ i v from_on below is. elim (cases_lt i (from + n)) [
    | inl lt ↦ h.each i v from_on lt is
    | inr ge ↦
        let here : i ≡ at = omega (arith, a, ge, below) in
        let same : v ≡ w =
        is ∙ ap (λ k. get_or vs k v) here ∙ get_or_default vs at v w l ∙ sym e in
        subst (λ x. IsMeasured (view x) 16) (sym same) m
  ];
}

-- those from the next place on
short_join : (vs : List Value) (next m from n : ℕ) → next ≡ from + n → ShortAt vs from n → ShortAt vs next m →
    ShortAt vs from (n + m)
short_join vs next m from n a h k = record {
  each = λ i v from_on below is. elim (cases_lt i (from + n)) [
    | inl lt ↦ h.each i v from_on lt is
    | inr ge ↦ k.each i v (omega (arith, a, ge)) (omega (arith, a, below)) is
  ];
}

-- a quarter at each place
pub short_quarters : (vs : List Value) (part n : ℕ) → part ≤ n → n ≤ part → ShortAtFour vs part n → ShortAt vs 0 (4 * part)
short_quarters vs part n l m h =
    let same : n ≡ part = omega (arith, l, m) in
    let at : (from : ℕ) → ShortAt vs from n → ShortAt vs from part = λ from s. subst (ShortAt vs from) same s in
    let two = short_join vs part part 0 part (omega arith) (at 0 h.first) (at part h.second) in
    let three = short_join vs (2 * part) part 0 (part + part) (omega arith) two (at (2 * part) h.third) in
    let four = short_join vs (3 * part) part 0 (part + part + part) (omega arith) three (at (3 * part) h.fourth) in
    let all : part + part + part + part ≡ 4 * part = omega arith in
    subst (ShortAt vs 0) all four

-- all of them
pub all_short : (vs : List Value) (n : ℕ) → length vs ≤ n → ShortAt vs 0 n → AreShort vs
all_short vs n l h = λ i v m e. h.each i v (omega arith) (omega (arith, l, m)) e

first_short : (vs : List Value) (w : Value) (n : ℕ) → n ≤ length vs → AreShort vs → 16 * n < size_limit →
    AreMeasured (views (take n vs)) (16 * n)
first_short vs w zero l h s = measured_none
first_short vs w (suc n) l h s =
    let v = get_or vs n w in
    let there : n < length vs = omega (arith, l) in
    let is : v ≡ get_or vs n v = get_or_default vs n w v there in
    let before = first_short vs w n (omega (arith, l)) h (omega (arith, s)) in
    let next : n + 1 ≡ suc n = omega arith in
    subst (λ k. AreMeasured (views (take k vs)) (16 * suc n)) next
    (measured_next vs n v (16 * n) 16 (16 * suc n) there is before (h n v there is) (omega arith) s)

-- how many bytes their encodings have
pub short_measured : (vs : List Value) → AreShort vs → 16 * length vs < size_limit → AreMeasured (views vs) (16 * length vs)
short_measured [] h s = measured_none
short_measured (w ∷ ws) h s =
    let vs = w ∷ ws in
    subst (λ xs. AreMeasured (views xs) (16 * length vs)) (take_all (length vs) vs (omega arith))
    (first_short vs w (length vs) (omega arith) h s)
