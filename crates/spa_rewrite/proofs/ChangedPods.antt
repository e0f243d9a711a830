-- Pods that are replaced by their encodings behind canonical ones.
use Rattle.std.proofs.Common.{◌≡◌, ◌≤◌, ℕ, ◌+◌, ◌-◌, List, [], ◌++◌, length, take, drop, refl, sym, ap, ◌∙◌, subst}
use Rattle.std.proofs.lemmas.List.{drop-append-le, drop_at, take-append-le, take_at}
use borrow.Rule.Slice.PartMut.{put_mid}
use Rattle.spa_canonical.specs.Canonical.{AreCanonical}
use Rattle.spa_canonical.specs.Rewriting.{AreRewritten}
use Rattle.spa_canonical.proofs.Stretches.{both_rewritten, canonical_rewritten}
use Rattle.spa_canonical.proofs.Lengths.{lengths}
use Rattle.spa_canonical.proofs.Written.{take_past}

-- the first pods are canonical, and those behind them rewritten
pub behind_first : (input first others old sub out : List ℕ) (k m end : ℕ) → input ≡ first ++ others → AreCanonical first → take (length first) old ≡ first →
    length first ≤ length old → AreRewritten others [] out → out ≡ take m sub → m ≤ length sub → end ≡ length first + m →
    AreRewritten input [] (take end (put_mid (length first) k old sub))
behind_first input first others old sub out k m end i c f l r o w e =
    let at = length first in
    let T = drop k (drop at old) in
    let is : take end (put_mid at k old sub) ≡ first ++ out =
    ap (λ n. take n (put_mid at k old sub)) e ∙ take_past (take at old) (sub ++ T) at m (omega lengths)
    ∙ ap (λ x. take at old ++ x) (take-append-le m sub T w) ∙ ap (λ x. x ++ take m sub) f ∙ ap (λ x. first ++ x) (sym o) in
    subst (AreRewritten input []) (sym is) (both_rewritten input first others first out i (canonical_rewritten first c) r)

-- the input in an output that it was copied to

pub others_copied : (input first others old copy : List ℕ) → input ≡ first ++ others → copy ≡ input ++ drop (length input) old →
    take (length input - length first) (drop (length first) copy) ≡ others
others_copied input first others old copy i c =
    let D = drop (length input) old in
    let all = ap length i in
    let behind : drop (length first) copy ≡ others ++ D =
    ap (drop (length first)) c ∙ drop-append-le (length first) input D (omega lengths)
    ∙ ap (λ x. x ++ D) (ap (drop (length first)) i ∙ drop_at first others (length first) refl) in
    ap (take (length input - length first)) behind ∙ take_at others D (length input - length first) (omega lengths)

pub first_copied : (input first others old copy : List ℕ) → input ≡ first ++ others → copy ≡ input ++ drop (length input) old →
    take (length first) copy ≡ first
first_copied input first others old copy i c =
    let D = drop (length input) old in
    let all = ap length i in
    ap (take (length first)) c ∙ take-append-le (length first) input D (omega lengths) ∙ ap (take (length first)) i ∙ take_at first others (length first) refl

pub copy_room : (input first others old copy : List ℕ) → input ≡ first ++ others → copy ≡ input ++ drop (length input) old → length first ≤ length copy
copy_room input first others old copy i c =
    let all = ap length i in
    let l = ap length c in
    omega lengths
