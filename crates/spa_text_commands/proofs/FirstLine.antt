-- Where the first line ends.
use Rattle.std.proofs.Common.{◌≡◌, ◌<◌, ℕ, zero, suc, ◌+◌, ◌-◌, true, false, List, [], ◌∷◌, refl, sym, ap, ◌∙◌, subst, arith, length, length-drop, take, take_all, drop, slice_index}
use Rattle.std.proofs.lemmas.Option.{same_Some, none-some}
use Rattle.std.proofs.lemmas.Bool.{false_from_ne_true}
use Rattle.std.specs.Prelude.{Option, Some, None, ◌==◌, if◌then◌else◌}
use Rattle.memchr.specs.Find.{IsFirstByte, NoneBefore as NoneIn, Passes, is_byte}
use Rattle.spa_text_commands.specs.Hexadecimal.{behind_line, first_line}

-- no place before this one has a line feed
abbrev NoneBefore : List ℕ → ℕ → Type 0
NoneBefore bytes k = (i : ℕ) → i < k → ¬ ((slice_index bytes i == 10) ≡ true)

pub line_at : (bytes : List ℕ) (k : ℕ) → NoneBefore bytes k → k < length bytes → (slice_index bytes k == 10) ≡ true →
    (take k bytes ≡ first_line bytes) × (drop (suc k) bytes ≡ behind_line bytes)
line_at [] k none l e = let n : ⊥ = omega (arith, l) in absurd n
line_at (x ∷ xs) zero none l e = (
  sym (ap (λ b. if b then [] else x ∷ first_line xs) e),
  sym (ap (λ b. if b then xs else behind_line xs) e),
)
line_at (x ∷ xs) (suc k) none l e =
    let o : (x == 10) ≡ false = false_from_ne_true (x == 10) (none 0 (omega arith)) in
    let more = line_at xs k (λ i j. none (suc i) (omega (arith, j))) (omega (arith, l)) e in (
      ap (λ l. x ∷ l) more.0 ∙ sym (ap (λ b. if b then [] else x ∷ first_line xs) o),
      more.1 ∙ sym (ap (λ b. if b then xs else behind_line xs) o),
    )

pub line_is_all : (bytes : List ℕ) → NoneBefore bytes (length bytes) → (bytes ≡ first_line bytes) × ([] ≡ behind_line bytes)
line_is_all [] none = (refl, refl)
line_is_all (x ∷ xs) none =
    let o : (x == 10) ≡ false = false_from_ne_true (x == 10) (none 0 (omega arith)) in
    let more = line_is_all xs (λ i j. none (suc i) (omega (arith, j))) in (
      ap (λ l. x ∷ l) more.0 ∙ sym (ap (λ b. if b then [] else x ∷ first_line xs) o),
      more.1 ∙ sym (ap (λ b. if b then xs else behind_line xs) o),
    )

pub line_found : (bytes : List ℕ) (k : ℕ) (found : Option ℕ) → IsFirstByte (is_byte 10) bytes found → found ≡ Some k →
    (k < length bytes) × (take k bytes ≡ first_line bytes) × (take (length bytes - (k + 1)) (drop (k + 1) bytes) ≡ behind_line bytes)
line_found bytes k None h e = absurd (none-some k e)
line_found bytes k (Some j) h e =
    let f = subst (λ n. NoneIn (Passes (is_byte 10) bytes) 0 (length bytes) n × Passes (is_byte 10) bytes n) (same_Some j k e) h in
    let high = f.0.high in
    let line = line_at bytes k (λ i l. f.0.before i (omega arith) l) high f.1 in
    let next : suc k ≡ k + 1 = omega arith in
    let long = length-drop (k + 1) bytes in
    (high, line.0, take_all _ _ (omega (arith, long)) ∙ subst (λ n. drop n bytes ≡ behind_line bytes) next line.1)

pub no_line_found : (bytes : List ℕ) (found : Option ℕ) → IsFirstByte (is_byte 10) bytes found → found ≡ None →
    (bytes ≡ first_line bytes) × ([] ≡ behind_line bytes)
no_line_found bytes None h e = line_is_all bytes (λ i l. h i (omega arith) l)
no_line_found bytes (Some j) h e = absurd (none-some j (sym e))
