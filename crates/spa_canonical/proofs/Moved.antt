-- Pods that are replaced by their encodings, and canonical ones behind them, which are moved.
use Rattle.std.proofs.Common.{false, ◌≡◌, ◌≤◌, ℕ, ◌+◌, ◌-◌, List, [], ◌++◌, length, take, drop, sym, ap, ◌∙◌, subst, arith, length-drop}
use Rattle.std.proofs.lemmas.List.{drop_at, length-take-le, take-append-drop, take-append-le, take_all, take_at}
use Rattle.spa_canonical.specs.Emit.{ArePlaced, Encodes}
use Rattle.spa_canonical.specs.Look.{AreChanged}
use Rattle.spa_canonical.specs.Rewriting.{AreRewritten}
use Rattle.spa_canonical.proofs.Stretches.{both_rewritten, canonical_rewritten}
use Rattle.spa_canonical.proofs.Written.{take_past}
use Rattle.spa_canonical.proofs.Lengths.{lengths}

-- the canonical pods behind those that are replaced are moved down to the encodings of these
pub others_replaced : (pods sub new : List ℕ) (changed len : ℕ) → AreChanged pods changed → Encodes (ArePlaced false) (take changed pods) sub len →
    take (len + (length pods - changed)) new ≡ take len sub ++ drop changed pods → AreRewritten pods [] (take (len + (length pods - changed)) new)
others_replaced pods sub new changed len h e n =
    let first = take changed pods in
    let last = drop changed pods in
    let vs = h.first.0 in
    let written = e.placed vs h.first.1 in
    subst (AreRewritten pods []) (sym n)
    (both_rewritten pods first last (take len sub) last (sym (take-append-drop changed pods)) (vs, h.first.1, written) (canonical_rewritten last h.canonical))

pub last_moved : (pods sub now new : List ℕ) (k len m : ℕ) → k ≤ length pods → length sub ≡ length (take k pods) → len ≤ length (take k pods) →
    m ≡ length pods - k → now ≡ sub ++ drop k pods → new ≡ take len now ++ (take m (drop k now) ++ drop (len + m) now) →
    take (len + (length pods - k)) new ≡ take len sub ++ drop k pods
last_moved pods sub now new k len m w y b me e n =
    let last : drop k now ≡ drop k pods = ap (drop k) e ∙ drop_at sub (drop k pods) k (y ∙ (omega lengths)) in
    let front : take len now ≡ take len sub = ap (take len) e ∙ take-append-le len sub (drop k pods) (omega arith) in
    let many : length (take len now) ≡ len = ap length front ∙ length-take-le len sub (omega arith) in
    let rest = length-drop k pods in
    let all : take m (drop k now) ≡ drop k pods = ap (take m) last ∙ take_all m (drop k pods) (omega arith) in
    let size : length (take m (drop k now)) ≡ length pods - k = ap length all ∙ rest in
    ap (take (len + (length pods - k))) n
    ∙ take_past (take len now) (take m (drop k now) ++ drop (len + m) now) len (length pods - k) many
    ∙ ap (λ x. take len now ++ x) (take_at (take m (drop k now)) (drop (len + m) now) (length pods - k) size)
    ∙ ap (λ x. x ++ take m (drop k now)) front ∙ ap (λ x. take len sub ++ x) all
