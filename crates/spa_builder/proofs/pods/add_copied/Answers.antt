use Rattle.std.proofs.Common.{sym, ◌∙◌, subst, arith}
use Rattle.std.proofs.lemmas.Bool.{false≢true}
use Rattle.spa_format.specs.Typed.{IsBytes}
use Rattle.spa_format.proofs.Unique.{one_value}
use Rattle.spa_builder.specs.Fields.{BuilderFields, fields_of}
use Rattle.spa_builder.specs.Step.{add, step}
use Rattle.spa_builder.specs.Answers.{Makes}
use Rattle.spa_builder.proofs.AtHand.{copied_step, found_bytes, found_size, own_pod}
use Rattle.spa_builder.proofs.Steps.{kept_made}
use Rattle.spa_builder.proofs.pods.add_copied.Goals as goal

pub returns-clause-makes : goal.returns-clause-makes
returns-clause-makes c s v at p =
    let old : BuilderFields = fields_of c.args.bytes.now c.args.frames.now in
    let new : BuilderFields = fields_of c.add_encoding.new.bytes c.add_encoding.new.frames in
    let r = c.add_encoding.result in
    let b = c.args.pod.now in
    let l = c.requires.whole in
    let bytes : IsBytes b = λ i. omega (arith, c.type_inv.pod i) in
    let rest = c.requires.own.0 in
    let k = c.requires.own.1 in
    let made = copied_step s b rest old new r bytes l k
    (c.add_encoding.ensures s k.value at
    (found_size b rest bytes l k ∙ sym c.u32_at.ensures) (found_bytes b rest l k)
    (λ f. absurd (false≢true (sym f ∙ c.requires.place s at)))) in
    subst (λ x. Makes (step s (add x)) old new r)
    (one_value b k.value v (own_pod b k.value l k.begins.begins) p) made

pub returns-clause-holds : goal.returns-clause-holds
returns-clause-holds c =
    let old : BuilderFields = fields_of c.args.bytes.now c.args.frames.now in
    let new : BuilderFields = fields_of c.add_encoding.new.bytes c.add_encoding.new.frames in
    let r = c.add_encoding.result in
    let b = c.args.pod.now in
    let l = c.requires.whole in
    let bytes : IsBytes b = λ i. omega (arith, c.type_inv.pod i) in
    let rest = c.requires.own.0 in
    let k = c.requires.own.1 in
    let s = c.requires.holds.0 in
    let at = c.requires.holds.1 in
    let made = copied_step s b rest old new r bytes l k
    (c.add_encoding.ensures s k.value at
    (found_size b rest bytes l k ∙ sym c.u32_at.ensures) (found_bytes b rest l k)
    (λ f. absurd (false≢true (sym f ∙ c.requires.place s at)))) in
    kept_made (step s (add k.value)) old new r c.requires.holds made
