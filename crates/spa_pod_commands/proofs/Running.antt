-- Bytes that are written piece by piece, and how a run ends.
use Rattle.std.specs.Io.KnownBytes.{Appends, Keeps}
use Rattle.std.proofs.Common.{◌≡◌, ℕ, ◌+◌, drop, List, [], Option, refl, sym, append-nil, arith, take, length, ◌∙◌, ◌++◌, ap, subst, take-add, drop-drop}
use Rattle.std.specs.Prelude.{Result, Ok, Err, OnOk, OnErr}
use Rattle.std.proofs.lemmas.List.{nil_from_length, take_all, take-append-drop}
use Rattle.std.proofs.KnownBytes.{Appends-kept, Appends-nil}
use Rattle.spa_device.specs.CountingLaws.{known_more}
use Rattle.spa_pod_commands.specs.Answers.{line_of, status_of}
use Rattle.spa_pod_commands.specs.Runs.{EndsBy}
use Rattle.spa_pod_commands.specs.declared.answer.Answer.{Answer}
use Rattle.spa_pod_commands.specs.declared.answer.Failure.{Failure}

-- so many first bytes were written, and what is left of them
pub record HasBegun (old new : Option (List ℕ)) (bytes left : List ℕ) : Type 0 where
  pub count : ℕ
  pub rest : left ≡ drop count bytes
  pub written : Appends old new (take count bytes)

pub begins_nothing : (a : Option (List ℕ)) (bytes : List ℕ) → (n : ℕ) × Appends a a (take n bytes)
begins_nothing a bytes = (0, Appends-nil a)

pub begun_first : (a : Option (List ℕ)) (bytes : List ℕ) → HasBegun a a bytes bytes
begun_first a bytes = record { count = 0; rest = refl; written = Appends-nil a }

pub begun_more : (a b c : Option (List ℕ)) (bytes left : List ℕ) (n : ℕ) → HasBegun a b bytes left → Appends b c (take n left) →
    HasBegun a c bytes (drop n left)
begun_more a b c bytes left n h w = record {
  count = h.count + n;
  rest = ap (drop n) h.rest ∙ drop-drop n h.count bytes;
  written =
      subst (Appends a c) (sym (take-add h.count n bytes))
      (known_more a b c (take h.count bytes) (take n (drop h.count bytes)) h.written (subst (λ l. Appends b c (take n l)) h.rest w));
}

pub begun_kept : (a b c : Option (List ℕ)) (bytes left : List ℕ) → HasBegun a b bytes left → Keeps b c → HasBegun a c bytes left
begun_kept a b c bytes left h k = record {
  count = h.count;
  rest = h.rest;
  written = Appends-kept a b c (take h.count bytes) h.written k;
}

pub begun_all : (a b : Option (List ℕ)) (bytes left : List ℕ) → length left ≡ 0 → HasBegun a b bytes left → Appends a b bytes
begun_all a b bytes left e h =
    let first = take h.count bytes in
    let nothing : drop h.count bytes ≡ [] = sym h.rest ∙ nil_from_length left e in
    subst (Appends a b) (sym (append-nil first) ∙ ap (λ l. first ++ l) (sym nothing) ∙ take-append-drop h.count bytes) h.written

pub begun_part : (a b : Option (List ℕ)) (bytes left : List ℕ) → HasBegun a b bytes left → (n : ℕ) × Appends a b (take n bytes)
begun_part a b bytes left h = (h.count, h.written)

pub begun_failed : (a b c : Option (List ℕ)) (bytes left : List ℕ) → HasBegun a b bytes left → Keeps b c → (n : ℕ) × Appends a c (take n bytes)
begun_failed a b c bytes left h k = begun_part a c bytes left (begun_kept a b c bytes left h k)

pub begun_stopped : (a b c : Option (List ℕ)) (bytes left : List ℕ) → HasBegun a b bytes left → Appends b c (take 0 left) →
    (n : ℕ) × Appends a c (take n bytes)
begun_stopped a b c bytes left h w = begun_part a c bytes (drop 0 left) (begun_more a b c bytes left 0 h w)

-- a run whose line was written, or begun
pub ends : {T : Type 0} (IsSo : Answer → Type 0) (old new : Option (List ℕ)) (answer : Answer) (written : Result T Failure) → IsSo answer →
    OnOk written (Appends old new (line_of answer)) → OnErr written ((n : ℕ) × Appends old new (take n (line_of answer))) →
    EndsBy IsSo (status_of answer) old new
ends IsSo old new answer (Ok x) so all begun =
    let its = line_of answer in
    record {
      answer = answer;
      its = so;
      its_status = refl;
      count = length its;
      line = subst (Appends old new) (sym (take_all (length its) its (omega arith))) all;
    }
ends IsSo old new answer (Err e) so all begun = record {
  answer = answer;
  its = so;
  its_status = refl;
  count = begun.0;
  line = begun.1;
}
