-- Bytes that are the same by two numbers each.
use Rattle.std.proofs.Common.{◌≡◌, ℕ, List, ◌++◌, length, take, drop, sym, ap, ◌∙◌, arith}
use Rattle.std.proofs.lemmas.List.{length-take-le, length-drop, take-append-drop}
use Rattle.spa_format.specs.Typed.{IsBytes}
use Rattle.spa_format.specs.Words.{wide_at, wide_bytes}
use Rattle.spa_format.proofs.WordLemmas.{IsBytes-drop, IsBytes-take, wide_at-drop}
use Rattle.spa_canonical.proofs.Words.{wide_back, wide_of_take}

halves : (b : List ℕ) → IsBytes b → length b ≡ 16 → b ≡ wide_bytes (wide_at b 0) ++ wide_bytes (wide_at b 8)
halves b h l =
    let front = wide_back (take 8 b) (IsBytes-take 8 b h) (length-take-le 8 b (omega arith)) in
    let long : length (drop 8 b) ≡ 8 = length-drop 8 b ∙ omega arith in
    let back = wide_back (drop 8 b) (IsBytes-drop 8 b h) long in
    sym (take-append-drop 8 b) ∙ ap (λ x. x ++ drop 8 b) (sym front ∙ ap wide_bytes (wide_of_take b))
    ∙ ap (λ x. wide_bytes (wide_at b 0) ++ x) (sym back ∙ ap wide_bytes (wide_at-drop 8 0 b))

pub same_halves : (b c : List ℕ) → IsBytes b → IsBytes c → length b ≡ 16 → length c ≡ 16 → wide_at b 0 ≡ wide_at c 0 → wide_at b 8 ≡ wide_at c 8 → b ≡ c
same_halves b c h k l m e f =
    halves b h l ∙ ap (λ n. wide_bytes n ++ wide_bytes (wide_at b 8)) e ∙ ap (λ n. wide_bytes (wide_at c 0) ++ wide_bytes n) f ∙ sym (halves c k m)
