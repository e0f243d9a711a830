use Rattle.std.proofs.lemmas.Result.{IfErr-weaker, on_err_weaker, on_ok_weaker}
use Rattle.spa_typed_write.proofs.Completing.{behind_keeps, behind_refused, extended_by, property_written, value_keeps, value_refused, words_keep, words_refused}
use Rattle.spa_typed_write.proofs.listed.write_property.Goals as goal

pub returns-in-Err-clause-refused : goal.returns-in-Err-clause-refused
returns-in-Err-clause-refused g c =
    words_refused g.met.O.PodSink.refuses_longer c.args.out.now c.put_two.new.sink c.args.key c.args.flags
    (g.A.PodSerialize.value c.args.value.now) (g.R.SerializeProperties.properties c.args.others.now) c.in-Err.e
    c.in-Err.ensures.cause

pub returns-in-Err-write_exactly-clause-refused : goal.returns-in-Err-write_exactly-clause-refused
returns-in-Err-write_exactly-clause-refused g c =
    let words = extended_by g.met.O.PodOutput.content_appends g.met.O.PodSink.refuses_after c.args.out.now c.put_two.new.sink _ c.in_default.ensures.ok in
    value_refused g.met.O.PodSink.refuses_longer c.args.out.now c.put_two.new.sink c.args.key c.args.flags
    (g.A.PodSerialize.value c.args.value.now) (g.R.SerializeProperties.properties c.args.others.now) c.in-Err-write_exactly.e words
    c.in-Err-write_exactly.ensures.refused

pub returns-clause-written : goal.returns-clause-written
returns-clause-written g c =
    let words = extended_by g.met.O.PodOutput.content_appends g.met.O.PodSink.refuses_after c.args.out.now c.put_two.new.sink _ c.in_default.ensures.ok in
    on_ok_weaker c.write_properties.result
    (property_written c.args.out.now c.put_two.new.sink c.write_exactly.new.out c.write_properties.new.out c.args.key c.args.flags
    (g.A.PodSerialize.value c.args.value.now) (g.R.SerializeProperties.properties c.args.others.now) c.ranges.key.fits c.ranges.flags.fits
    words c.in_default-write_exactly.ensures.written)
    c.write_properties.ensures.written

pub returns-clause-refused : goal.returns-clause-refused
returns-clause-refused g c =
    let words = extended_by g.met.O.PodOutput.content_appends g.met.O.PodSink.refuses_after c.args.out.now c.put_two.new.sink _ c.in_default.ensures.ok in
    IfErr-weaker c.write_properties.result _ _
    (λ e r. behind_refused g.met.O.PodSink.refuses_longer c.args.out.now c.put_two.new.sink c.write_exactly.new.out c.args.key c.args.flags
    (g.A.PodSerialize.value c.args.value.now) (g.R.SerializeProperties.properties c.args.others.now) e words
    c.in_default-write_exactly.ensures.written r)
    c.write_properties.ensures.refused

pub returns-in-Err-clause-keeps : goal.returns-in-Err-clause-keeps
returns-in-Err-clause-keeps g c =
    words_keep g.met.O.PodOutput.content_appends c.args.out.now c.put_two.new.sink c.args.key c.args.flags
    (g.A.PodSerialize.value c.args.value.now) (g.R.SerializeProperties.properties c.args.others.now) c.in-Err.ensures.begun

pub returns-in-Err-write_exactly-clause-keeps : goal.returns-in-Err-write_exactly-clause-keeps
returns-in-Err-write_exactly-clause-keeps g c =
    let words = extended_by g.met.O.PodOutput.content_appends g.met.O.PodSink.refuses_after c.args.out.now c.put_two.new.sink _ c.in_default.ensures.ok in
    value_keeps c.args.out.now c.put_two.new.sink c.write_exactly.new.out c.args.key c.args.flags
    (g.A.PodSerialize.value c.args.value.now) (g.R.SerializeProperties.properties c.args.others.now) words
    c.in-Err-write_exactly.ensures.keeps

pub returns-clause-keeps : goal.returns-clause-keeps
returns-clause-keeps g c =
    let words = extended_by g.met.O.PodOutput.content_appends g.met.O.PodSink.refuses_after c.args.out.now c.put_two.new.sink _ c.in_default.ensures.ok in
    on_err_weaker c.write_properties.result
    (behind_keeps c.args.out.now c.put_two.new.sink c.write_exactly.new.out c.write_properties.new.out c.args.key c.args.flags
    (g.A.PodSerialize.value c.args.value.now) (g.R.SerializeProperties.properties c.args.others.now) words
    c.in_default-write_exactly.ensures.written)
    c.write_properties.ensures.keeps
