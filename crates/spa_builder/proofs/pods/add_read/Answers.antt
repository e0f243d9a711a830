use Rattle.std.proofs.Common.{◌≡◌, ap, ◌∙◌, subst}
use Rattle.spa_value.specs.View.{view}
use Rattle.spa_builder.specs.Fields.{BuilderFields, fields_of}
use Rattle.spa_builder.specs.Answers.{MakesValue}
use Rattle.spa_builder.proofs.AtHand.{added_value, not_read, own_pod}
use Rattle.spa_builder.proofs.Valued.{kept_value}
use Rattle.spa_builder.proofs.pods.add_read.Goals as goal

pub returns-in-Ok-clause-makes : goal.returns-in-Ok-clause-makes
returns-in-Ok-clause-makes c s at =
    let old : BuilderFields = fields_of c.args.bytes.now c.args.frames.now in
    let new : BuilderFields = fields_of c.add_any.new.bytes c.add_any.new.frames in
    let b = c.args.pod.now in
    let v = view c.in-Ok.value in
    let same : view c.deref.result.now ≡ v = ap view (c.deref.ensures ∙ c.from.ensures) in
    added_value s b v old new c.add_any.result
    (own_pod b v c.requires.whole c.in-Ok.ensures.read.begins.begins)
    (subst (λ u. MakesValue s u old new c.add_any.result) same (c.add_any.ensures s at))

pub returns-in-Ok-clause-holds : goal.returns-in-Ok-clause-holds
returns-in-Ok-clause-holds c =
    let old : BuilderFields = fields_of c.args.bytes.now c.args.frames.now in
    let new : BuilderFields = fields_of c.add_any.new.bytes c.add_any.new.frames in
    kept_value (view c.deref.result.now) old new c.add_any.result c.requires.holds c.add_any.ensures

pub returns-in-Err-clause-makes : goal.returns-in-Err-clause-makes
returns-in-Err-clause-makes c s at =
    let r = c.in-Err.field-0 in
    not_read s c.args.pod.now r.place.now c.read_value.new.opened
    (fields_of c.args.bytes.now c.args.frames.now) r.why c.errno_of.result c.requires.whole
    c.in-Err.ensures.refused (λ v t. c.requires.place s v at t) c.errno_of.ensures.memory
    c.errno_of.ensures.value
