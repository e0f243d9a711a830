-- Bytes that are appended to a vector and then written over.
use Rattle.std.proofs.Common.{◌≡◌, ℕ, ◌+◌, ◌-◌, ◌≤◌, List, [], ◌++◌, length, take, drop, ap, sym, ◌∙◌, append_assoc}
use Rattle.std.proofs.lemmas.List.{append-nil, drop_at, nil_from_length, take-append-drop, take_all, take_at}
use Rattle.spa_canonical.proofs.Lengths.{lengths}

-- bytes that were appended, of which those behind a place were written over
pub record IsWrittenBehind (old added written all : List ℕ) (from k : ℕ) : Type 0 where
  pub slice : take k (drop from all) ≡ added
  pub same : take from all ++ (written ++ drop k (drop from all)) ≡ old ++ written
  pub long : length (take from all ++ (written ++ drop k (drop from all))) ≡ length all

pub written_behind : (old pods written all : List ℕ) (at from k : ℕ) → at ≤ length pods → from ≡ length old + at → all ≡ old ++ pods → k ≡ length all - from →
    length written ≡ length (take k (drop from all)) → IsWrittenBehind (old ++ take at pods) (drop at pods) written all from k
written_behind old pods written all at from k r n e m l =
    let first = old ++ take at pods in
    let added = drop at pods in
    let items : all ≡ first ++ added = e ∙ ap (λ x. old ++ x) (sym (take-append-drop at pods)) ∙ sym (append_assoc old (take at pods) added) in
    let size = ap length items in
    let behind : drop from all ≡ added = ap (drop from) items ∙ drop_at first added from (omega lengths) in
    let slice : take k (drop from all) ≡ added = ap (take k) behind ∙ take_all k added (omega lengths) in
    let none : drop k (drop from all) ≡ [] = ap (drop k) behind ∙ nil_from_length (drop k added) (omega lengths) in
    let same : take from all ++ (written ++ drop k (drop from all)) ≡ first ++ written =
    ap (λ x. x ++ (written ++ drop k (drop from all))) (ap (take from) items ∙ take_at first added from (omega lengths))
    ∙ ap (λ x. first ++ (written ++ x)) none ∙ ap (λ x. first ++ x) (append-nil written) in
    let long = l ∙ ap length slice in
    record { slice = slice; same = same; long = ap length same ∙ omega lengths }
