-- Bytes that a device takes by one write after another.
use Rattle.std.specs.Io.KnownBytes.{Appends}
use Rattle.std.proofs.Common.{◌≡◌, ℕ, ◌+◌, ◌≤◌, List, [], length, Option, Some, None, Bool, true, false, refl}
use Rattle.std.proofs.Common.{take, drop, sym, subst, append-nil, arith, length-drop, ◌∙◌}
use Rattle.std.proofs.Math.Seq.{take-add}
use Rattle.std.proofs.lemmas.List.{take_all, length-take-le}
use Rattle.std.proofs.KnownBytes.{Appends-nil}
use Rattle.spa_device.specs.Counting.{Attempted, Counted, Handed, Took, all_taken, one_failed, some_taken}
use Rattle.spa_device.specs.CountingLaws.{known_more}

-- what is said of a device's writes
abbrev pub Attempting : Type 0 → Type 1
Attempting D = D → List ℕ → Option ℕ → D → Type 0

-- writes up to now, whatever the others do
pub record Continues {D : Type 0} (attempts : Attempting D) (old : D) (bytes : List ℕ) (now : D) (left : List ℕ) (done : ℕ) : Type 0 where
  pub then : (last : D) (failed : Bool) (more : ℕ) → Handed attempts last failed more now left → Handed attempts last failed (done + more) old bytes
  pub parts : done + length left ≡ length bytes

pub goes_on : {D : Type 0} (attempts : Attempting D) (old : D) (bytes : List ℕ) (now next : D) (left : List ℕ) (done n : ℕ) →
    Continues attempts old bytes now left done → attempts now left (Some n) next → n ≤ length left →
    Continues attempts old bytes next (drop n left) (done + n)
goes_on attempts old bytes now next left done n c a l = record {
  then = λ last failed more h.
      subst (λ m. Handed attempts last failed m old bytes) (omega arith)
      (c.then last failed (n + more) (some_taken now next left n more a h));
  parts = let cut = length-drop n left in let whole = c.parts in omega (arith, cut, whole, l);
}

pub ends : {D : Type 0} (attempts : Attempting D) (old : D) (bytes : List ℕ) (now : D) (left : List ℕ) (done : ℕ) →
    Continues attempts old bytes now left done → left ≡ [] → Handed attempts now false done old bytes
ends attempts old bytes now left done c e =
    subst (λ m. Handed attempts now false m old bytes) (omega arith)
    (c.then now false 0 (subst (Handed attempts now false 0 now) (sym e) (all_taken refl)))

pub stops : {D : Type 0} (attempts : Attempting D) (old : D) (bytes : List ℕ) (now next : D) (left : List ℕ) (done : ℕ) →
    Continues attempts old bytes now left done → attempts now left None next → Handed attempts next true done old bytes
stops attempts old bytes now next left done c a =
    subst (λ m. Handed attempts next true m old bytes) (omega arith)
    (c.then next true 0 (one_failed now left refl a))

-- how many bytes the device took, and that these are the first ones
pub record Counts {D : Type 0} (holds : D → Option (List ℕ)) (old : D) (bytes : List ℕ) (last : D) (failed : Bool) (n : ℕ) : Type 0 where
  pub most : n ≤ length bytes
  pub whole : failed ≡ false → n ≡ length bytes
  pub known : Appends (holds old) (holds last) (take n bytes)

kept : (a b : Option (List ℕ)) (bytes : List ℕ) → Attempted a b bytes None → Appends a b (take 0 bytes)
kept None b bytes k = tt
kept (Some a) None bytes k = absurd k
kept (Some a) (Some b) bytes k = k ∙ sym (append-nil a)

pub counts : {D : Type 0} (attempts : Attempting D) (holds : D → Option (List ℕ)) →
    ((a b : D) (bytes : List ℕ) (taken : Option ℕ) → attempts a bytes taken b → Attempted (holds a) (holds b) bytes taken) →
    (last : D) (failed : Bool) (n : ℕ) (old : D) (bytes : List ℕ) → Handed attempts last failed n old bytes →
    Counts holds old bytes last failed n
counts attempts holds say last failed _ _ _ (all_taken e) =
    record { most = omega arith; whole = λ _. refl; known = Appends-nil (holds last) }
counts attempts holds say last failed _ _ _ (one_failed old bytes e a) = record {
  most = omega arith;
  whole = λ f. absurd (cc (e, f));
  known = kept (holds old) (holds last) bytes (say old last bytes None a);
}
counts attempts holds say last failed _ _ _ (some_taken old next bytes n more a h) =
    let more_counts = counts attempts holds say last failed more next (drop n bytes) h in
    let one = say old next bytes (Some n) a in
    let cut = length-drop n bytes in
    let fits = one.1 in
    let most = more_counts.most in
    record {
      most = omega (arith, cut, fits, most);
      whole = λ f. (let all = more_counts.whole f in omega (arith, cut, fits, all));
      known =
          subst (Appends (holds old) (holds last)) (sym (take-add n more bytes))
          (known_more (holds old) (holds next) (holds last) (take n bytes) (take more (drop n bytes)) one.2 more_counts.known);
    }

-- what was handed over is what the device took, once it is counted
pub took : {D : Type 0} (holds : D → Option (List ℕ)) (old new : Counted D) (bytes : List ℕ) (failed : Bool) (n : ℕ) →
    Counts holds old.device bytes new.device failed n → new.written ≡ old.written + n → old.failures ≤ new.failures →
    Took holds old (take n bytes) new
took holds old new bytes failed n c w f =
    let len = length-take-le n bytes c.most in
    record { counted = omega (arith, w, len); grew = f; known = c.known }

pub took_all : {D : Type 0} (holds : D → Option (List ℕ)) (old new : Counted D) (bytes : List ℕ) (n : ℕ) →
    Counts holds old.device bytes new.device false n → new.written ≡ old.written + n → old.failures ≤ new.failures →
    Took holds old bytes new
took_all holds old new bytes n c w f =
    let all = c.whole refl in
    subst (λ taken. Took holds old taken new) (take_all n bytes (omega (arith, all))) (took holds old new bytes false n c w f)
