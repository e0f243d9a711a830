use Rattle.std.proofs.Common.{◌∙◌, ◌++◌, sym, ap, arith}
use Rattle.spa_format.specs.Typed.{IsBytes}
use Rattle.spa_format.specs.Words.{wide_bytes}
use Rattle.spa_negotiate.proofs.Putting.{put_word, put_wide}
use Rattle.spa_negotiate.proofs.settling.put_value.Goals as goal

pub returns-in-4 : goal.returns-in-4
returns-in-4 c = λ e k t s.
    let bytes : IsBytes c.args.value.now = λ i. omega (arith, c.type_inv.value i) in
    let is = c.in-4.is in
    let long = c.if-value-size.false in
    let word = c.u32_at.ensures in
    let written = c.written_word.ensures in
    put_word _ _ _ _ _ _ _ _ bytes (omega arith) (λ n. written.itself n ∙ word) (λ n. written.small (omega arith) ∙ word) (λ n m. written.truth n (omega arith))
    c.word_body.ensures.front c.word_body.ensures.back
    (c.joined.ensures ∙ ap (λ x. x ++ c.word_body.result) c.two_words.ensures) (c.put.ensures e) k t (sym is ∙ s)

pub returns-in-8 : goal.returns-in-8
returns-in-8 c = λ e k t s.
    let bytes : IsBytes c.args.value.now = λ i. omega (arith, c.type_inv.value i) in
    let is = c.in-8.is in
    let long = c.if-value-size.false in
    put_wide _ _ _ _ _ _ _ bytes (omega arith) (c.wide_body.ensures ∙ ap wide_bytes c.u64_at.ensures)
    (c.joined-in-8.ensures ∙ ap (λ x. x ++ c.wide_body.result) c.two_words-in-8.ensures) (c.put-in-8.ensures e) k t (sym is ∙ s)
