-- Texts that end at the first NUL of a string's body.
use Rattle.std.proofs.Common.{◌≡◌, ℕ, suc, ◌-◌, ◌<◌, ◌≤◌, inl, inr, List, [], ◌∷◌, ◌++◌, length, take, drop, get_or, true, false, sym, ap, ◌∙◌, arith, drop-cons, length-drop, length-take}
use Rattle.std.specs.Prelude.{◌==◌, Contains, IsUtf8}
use Rattle.std.specs.List.{after_first, position_or_len}
use Rattle.std.proofs.Common.{drop_of_length-le}
use Rattle.std.proofs.lemmas.Bool.{cases_lt}
use Rattle.std.proofs.lemmas.Bool.Decides.{eqb_tells}
use Rattle.std.proofs.lemmas.List.{get_or-take, length-take-le, take-append-drop}
use Rattle.std.proofs.lemmas.List.Sums.{fails_before_first, passes_at_first, split_at_first}
use Rattle.spa_format.specs.Words.{word_at, extent, body_of}
use Rattle.spa_format.specs.Tree.{string}
use Rattle.spa_format.specs.Lenient.{ConveysText}
use Rattle.spa_view.specs.Settled.{Says}
use Rattle.spa_view.specs.Tests as t
use Rattle.spa_view.proofs.ViewedPods.{before_nul-ended}

is_nul : (x : ℕ) → (x == 0) ≡ true → x ≡ 0
is_nul x e = elim (eqb_tells x 0) [ inl p ↦ p.1 | inr p ↦ absurd (let f : true ≡ false = sym e ∙ p.0 in cc) ]

-- where a NUL stands, the first one stands there or before
first_at_most : (d : List ℕ) (k : ℕ) → get_or d k 0 ≡ 0 → position_or_len (λ x. x == 0) d ≤ k
first_at_most d k e =
    elim (cases_lt k (position_or_len (λ x. x == 0) d)) [
      | inl l ↦ absurd (let f : true ≡ false = sym (ap (λ x. x == 0) e) ∙ fails_before_first (λ x. x == 0) d k 0 l in cc)
      | inr l ↦ l
    ]

no_nul_before : (d : List ℕ) → ¬ (Contains (t.before_nul d) 0)
no_nul_before d m =
    let n = position_or_len (λ x. x == 0) d in
    let k = m.0 in
    let l = m.1 in
    let len = length-take n d in
    let small : k < n = omega arith in
    let e : get_or d k 0 ≡ 0 = sym (get_or-take n d k 0 small) ∙ m.2 in
    let f : true ≡ false = sym (ap (λ x. x == 0) e) ∙ fails_before_first (λ x. x == 0) d k 0 small in
    absurd (cc)

last_byte : (d : List ℕ) → 0 < length d → get_or d (length d - 1) 0 ≡ 0 → d ≡ take (length d - 1) d ++ 0 ∷ []
last_byte d l e =
    let k = length d - 1 in
    let behind = drop_of_length-le d (let q : length d ≤ suc k = omega arith in q) in
    sym (take-append-drop k d)
    ∙ ap (λ r. take k d ++ r) (drop-cons d k 0 (omega arith) ∙ ap (λ x. x ∷ drop (suc k) d) e ∙ ap (λ r. 0 ∷ r) behind)

-- a body that ends in NUL conveys the text before the first one
conveys_text : (d : List ℕ) → 0 < length d → get_or d (length d - 1) 0 ≡ 0 → IsUtf8 (t.before_nul d) → ConveysText (t.before_nul d) d
conveys_text d l e u =
    let n = position_or_len (λ x. x == 0) d in
    let at_most = first_at_most d (length d - 1) e in
    let inside : n < length d = omega arith in
    let nul = is_nul (get_or d n 0) (passes_at_first (λ x. x == 0) d 0 inside) in
    record {
      text = record { utf8 = u; no_nul = no_nul_before d };
      surplus = after_first (λ x. x == 0) d;
      parts = split_at_first (λ x. x == 0) d 0 inside ∙ ap (λ x. t.before_nul d ++ (x ∷ after_first (λ y. y == 0) d)) nul;
      before = take (length d - 1) d;
      last = last_byte d l e;
    }

pub text_said : (b : List ℕ) → length b ≡ extent (word_at b 0) → t.IsNulEnded b → IsUtf8 (t.before_nul (body_of b)) →
    Says (string (t.before_nul (body_of b))) b
text_said b w h u =
    let d = length-drop 8 b in
    let n : length (body_of b) ≡ word_at b 0 = length-take-le (word_at b 0) (drop 8 b) (omega arith) in
    let l = h.0.1 in
    let e : get_or (body_of b) (length (body_of b) - 1) 0 ≡ 0 = ap (λ k. get_or (body_of b) (k - 1) 0) n ∙ h.1 in
    record { whole = w; its_type = h.0.0; content = conveys_text (body_of b) (omega arith) e u }

pub said_text : (b s : List ℕ) → Says (string s) b → t.before_nul (body_of b) ≡ s
said_text b s h = ap t.before_nul h.content.parts ∙ before_nul-ended s h.content.surplus h.content.text.no_nul
