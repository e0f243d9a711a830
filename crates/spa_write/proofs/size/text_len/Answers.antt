use Rattle.std.proofs.Common.{◌≡◌, ◌+◌, ◌++◌, ◌∷◌, [], ◌∙◌, ap, sym, arith, length, length-append, rules}
use Rattle.spa_format.specs.Tree.{string}
use Rattle.spa_format.specs.Writable.{HasNul}
use Rattle.spa_write.proofs.Measuring.{pod_measured}
use Rattle.spa_write.proofs.size.text_len.Goals as goal

pub returns-clause-measured : goal.returns-clause-measured
returns-clause-measured c =
    let s = c.args.text.now in
    let b = c.as_bytes-bytes.result.now in
    let size : length b + 1 ≡ length (s ++ 0 ∷ []) =
    ap (λ l. length l + 1) c.as_bytes-bytes.ensures.value ∙ sym (length-append s (0 ∷ [])) in
    let nul : ¬ (HasNul (string s)) = search rules in
    pod_measured _ (length b + 1) (string s) size nul
    (λ short large. omega (arith, short, large, size)) c.encoded_pod_len.ensures.extent c.encoded_pod_len.ensures.short
