use Rattle.std.proofs.Common.{sym, ap, ◌∙◌, subst, take, arith}
use Rattle.spa_format.specs.Encoding.{encoding_of}
use Rattle.spa_value.specs.View.{view}
use Rattle.spa_builder.specs.Answers.{RefusesValue}
use Rattle.spa_builder.proofs.Valued.{begun_back, refused_value}
use Rattle.spa_builder.proofs.values.put_value.Goals as goal

pub truncate-requires : goal.truncate-requires
truncate-requires c =
    let b = begun_back c.args.bytes.now (encoding_of (view c.args.value.now)) c.write_sized.new.sink
    c.in-Err.ensures.begun in
    let l = b.1 in
    let n = c.len-had.ensures in
    omega arith

pub returns-in-Err-clause-unchanged : goal.returns-in-Err-clause-unchanged
returns-in-Err-clause-unchanged c =
    let b = begun_back c.args.bytes.now (encoding_of (view c.args.value.now)) c.write_sized.new.sink
    c.in-Err.ensures.begun in
    c.truncate.ensures ∙ ap (λ n. take n c.write_sized.new.sink) c.len-had.ensures ∙ b.0

pub returns-in-Err-clause-refused : goal.returns-in-Err-clause-refused
returns-in-Err-clause-refused c =
    subst (RefusesValue (view c.args.value.now)) (sym c.errno_of.ensures)
    (refused_value (view c.args.value.now) c.args.bytes.now c.write_sized.new.sink
    c.in-Err.refusal c.in-Err.ensures.refused)
