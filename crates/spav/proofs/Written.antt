-- Encodings at the front of an output, and what the output is behind them.
use Rattle.std.proofs.Common.{◌≡◌, ℕ, ◌<◌, ◌≤◌, inl, inr, List, [], ◌++◌, length, take, drop, refl, sym, ap, subst, ◌∙◌, arith, length-take}
use Rattle.std.proofs.Math.IntN.{pos-ne-negsuc}
use Rattle.std.proofs.lemmas.Slice.{drop-append-drop}
use Rattle.std.specs.Prelude.{ℤ}
use Rattle.spa_format.specs.Encoding.{member_encodings}
use Rattle.spa_format.specs.Tree.{Trees}
use Rattle.spa_format.proofs.Short.{short_members}
use Rattle.spa_canonical.specs.Rewriting.{AreRewritten}
use Rattle.spav.specs.Answers.{IsDone, IsPut}
use Rattle.spav.specs.Lists.{BeginsAs, IsWritten, ListIsWritten}

begins_as : (bytes out : List ℕ) (count : ℕ) → take count out ≡ bytes → count ≤ length out → BeginsAs bytes count out
begins_as bytes out count e within =
    let l = length-take count out in
    let n = ap length e in
    record { counted = omega arith; front = e }

pub list_written : (AreOf : Trees → List ℕ → Type 0) (input out : List ℕ) (count : ℕ) →
    ((vs : Trees) × AreOf vs input × (take count out ≡ member_encodings vs)) → count ≤ length out → ListIsWritten AreOf input count out
list_written AreOf input out count r within =
    record { values = r.0; members = r.1; written = begins_as (member_encodings r.0) out count r.2 within }

-- what is put at the front of an output is written there
pub put_written : (bytes put old new : List ℕ) (count : ℕ) → put ≡ bytes → new ≡ put ++ drop (length put) old → count ≡ length put →
    IsWritten bytes count old new
put_written bytes put old new count e n k =
    let counted = k ∙ ap length e in
    record {
      counted = counted;
      front = n ∙ ap (λ z. z ++ drop (length z) old) e ∙ ap (λ m. bytes ++ drop m old) (sym counted);
    }

pub put_short : (bytes put old : List ℕ) → put ≡ bytes → length old < length put → length old < length bytes
put_short bytes put old e l = subst (λ z. length old < length z) e l

-- an input's rewriting is no longer than the input
pub rewritten_short : (input begun made put : List ℕ) → begun ≡ [] → AreRewritten input begun made → put ≡ made → length put ≤ length input
rewritten_short input begun made put b r p =
    let s = short_members r.0 input r.1 in
    let e = ap length (p ∙ r.2 ∙ ap (λ z. z ++ member_encodings r.0) b) in
    omega arith

-- whatever is answered, what is behind what was to be put at the front is unchanged
pub put_keeps : (put old new : List ℕ) (answer : ℤ) (at : ℕ) → IsPut answer → (IsDone answer → new ≡ put ++ drop (length put) old) →
    (¬ (IsDone answer) → new ≡ old) → length put ≤ at → drop at new ≡ drop at old
put_keeps put old new answer at (inl d) w k h = ap (drop at) (w d) ∙ drop-append-drop (length put) old put at h refl
put_keeps put old new answer at (inr n) w k h = ap (drop at) (k (λ d. pos-ne-negsuc 0 27 (sym d ∙ n)))
