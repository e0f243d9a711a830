-- The encoding of a pod of fixed size.
use Rattle.std.proofs.Common.{◌≡◌, ℕ, suc, zero, ◌-◌, ◌≤◌, List, ◌++◌, length, take, drop}
use Rattle.std.proofs.Common.{sym, ap, ◌∙◌, arith, append_assoc, length-append}
use Rattle.std.proofs.Common.{take-append-drop}
use Rattle.std.proofs.lemmas.List.{append-nil, take_all, take_at, length-replicate, nil_from_length}
use Rattle.std.specs.Prelude.{replicate}
use Rattle.spa_format.specs.Words.{word_bytes, padding, padded_size, extent}
use Rattle.spa_format.specs.Kind.{Kind, body_size, Fixed, kind_of, fixed_body}
use Rattle.spa_format.specs.Encoding.{encoded_pod}
use Rattle.spa_format.proofs.FixedKinds.{length-fixed_body}
use Rattle.spa_format.proofs.Encodings.{two_words_length}

-- a body of the kind has the size of the type
pub body_length : (k : Kind) (x : Fixed) (size : ℕ) → kind_of x ≡ k → size ≡ body_size k →
    length (fixed_body x) ≡ size
body_length k x size t z = length-fixed_body x ∙ ap body_size t ∙ sym z

-- header, body and zeros, as far as the pod goes
pub encoding_of_fixed : (size type : ℕ) (b header padded : List ℕ) → length b ≡ size → size ≤ 8 →
    take size padded ≡ b → drop size padded ≡ replicate (8 - size) 0 →
    header ≡ word_bytes size ++ word_bytes type →
    take (extent size) (header ++ padded) ≡ encoded_pod type b
encoding_of_fixed zero type b header padded l w t d e =
    let n = nil_from_length b l in
    ap (take 8) (ap (λ x. x ++ padded) e) ∙ take_at (word_bytes 0 ++ word_bytes type) padded 8
    (two_words_length 0 type)
    ∙ ap (λ x. word_bytes 0 ++ x) (sym (append-nil (word_bytes type)))
    ∙ ap (encoded_pod type) (sym n)
encoding_of_fixed (suc m) type b header padded l w t d e =
    let size : ℕ = suc m in
    let p : padded_size size ≡ 8 = omega arith in
    let zeros : drop size padded ≡ padding size = d ∙ ap (λ n. replicate (n - size) 0) (sym p) in
    let whole : padded ≡ b ++ padding size =
    sym (take-append-drop size padded) ∙ ap (λ x. x ++ drop size padded) t ∙ ap (λ x. b ++ x)
    zeros in
    let lz : length (padding size) ≡ 8 - size =
    length-replicate {A = ℕ} (padded_size size - size) 0 ∙ ap (λ n. n - size) p in
    let lp : length padded ≡ 8 = ap length whole ∙ length-append b (padding size) ∙ omega arith in
    let lh : length header ≡ 8 = ap length e ∙ two_words_length size type in
    let la = length-append header padded in
    take_all (extent size) (header ++ padded) (omega arith)
    ∙ ap (λ x. x ++ padded) e ∙ ap (λ x. (word_bytes size ++ word_bytes type) ++ x) whole
    ∙ append_assoc (word_bytes size) (word_bytes type) (b ++ padding size)
    ∙ ap (λ n. word_bytes n ++ (word_bytes type ++ (b ++ padding n))) (sym l)
