use Rattle.std.proofs.Common.{◌++◌, length, ap, arith, length-append}
use Rattle.std.proofs.lemmas.Result.{IfErr-weaker, on_err_weaker, on_ok_weaker}
use Rattle.spa_format.specs.Encoding.{property_encodings}
use Rattle.spa_format.specs.Tree.{object_type}
use Rattle.spa_format.specs.Words.{word_bytes}
use Rattle.spa_format.proofs.Encodings.{two_words_length}
use Rattle.spa_typed_write.proofs.Completing.{extended_by, object_header_keeps, object_header_refused, object_past, object_words_keep, object_words_refused, object_written, properties_keep, properties_refused, unclosed_object_keeps}
use Rattle.spa_typed_write.proofs.listed.write_object.Goals as goal

pub returns-in-Err-clause-refused : goal.returns-in-Err-clause-refused
returns-in-Err-clause-refused g c =
    object_header_refused g.met.O.PodSink.refuses_longer c.args.out.now c.begin.new.out c.args.type_ c.args.id
    (g.P.SerializeProperties.properties c.args.properties.now) c.in-Err.e c.in-Err.ensures.cause

pub returns-in-Err-put_two-clause-refused : goal.returns-in-Err-put_two-clause-refused
returns-in-Err-put_two-clause-refused g c =
    let header = extended_by g.met.O.PodOutput.content_appends g.met.O.PodSink.refuses_after c.args.out.now c.begin.new.out _ c.in-Ok.ensures.header in
    object_words_refused g.met.O.PodSink.refuses_longer c.args.out.now c.begin.new.out c.put_two.new.sink c.args.type_ c.args.id
    (g.P.SerializeProperties.properties c.args.properties.now) c.in-Err-put_two.e header c.in-Err-put_two.ensures.cause

pub returns-in-Err-write_properties-clause-refused :
    goal.returns-in-Err-write_properties-clause-refused
returns-in-Err-write_properties-clause-refused g c =
    let header = extended_by g.met.O.PodOutput.content_appends g.met.O.PodSink.refuses_after c.args.out.now c.begin.new.out _ c.in-Ok.ensures.header in
    let words = extended_by g.met.O.PodOutput.content_appends g.met.O.PodSink.refuses_after c.begin.new.out c.put_two.new.sink _ c.in_default.ensures.ok in
    properties_refused g.met.O.PodSink.refuses_longer c.args.out.now c.begin.new.out c.put_two.new.sink c.args.type_ c.args.id
    (g.P.SerializeProperties.properties c.args.properties.now) c.in-Err-write_properties.e header words
    c.in-Err-write_properties.ensures.refused

pub returns-in-Err-clause-keeps : goal.returns-in-Err-clause-keeps
returns-in-Err-clause-keeps g c =
    object_header_keeps g.met.O.PodOutput.content_appends c.args.out.now c.begin.new.out c.args.type_ c.args.id
    (g.P.SerializeProperties.properties c.args.properties.now) c.in-Err.ensures.begun

pub returns-in-Err-put_two-clause-keeps : goal.returns-in-Err-put_two-clause-keeps
returns-in-Err-put_two-clause-keeps g c =
    let header = extended_by g.met.O.PodOutput.content_appends g.met.O.PodSink.refuses_after c.args.out.now c.begin.new.out _ c.in-Ok.ensures.header in
    object_words_keep g.met.O.PodOutput.content_appends c.args.out.now c.begin.new.out c.put_two.new.sink c.args.type_ c.args.id
    (g.P.SerializeProperties.properties c.args.properties.now) header c.in-Err-put_two.ensures.begun

pub returns-in-Err-write_properties-clause-keeps :
    goal.returns-in-Err-write_properties-clause-keeps
returns-in-Err-write_properties-clause-keeps g c =
    let header = extended_by g.met.O.PodOutput.content_appends g.met.O.PodSink.refuses_after c.args.out.now c.begin.new.out _ c.in-Ok.ensures.header in
    let words = extended_by g.met.O.PodOutput.content_appends g.met.O.PodSink.refuses_after c.begin.new.out c.put_two.new.sink _ c.in_default.ensures.ok in
    properties_keep c.args.out.now c.begin.new.out c.put_two.new.sink c.write_properties.new.out c.args.type_ c.args.id
    (g.P.SerializeProperties.properties c.args.properties.now) header words c.in-Err-write_properties.ensures.keeps

pub returns-clause-keeps : goal.returns-clause-keeps
returns-clause-keeps g c =
    let header = extended_by g.met.O.PodOutput.content_appends g.met.O.PodSink.refuses_after c.args.out.now c.begin.new.out _ c.in-Ok.ensures.header in
    let words = extended_by g.met.O.PodOutput.content_appends g.met.O.PodSink.refuses_after c.begin.new.out c.put_two.new.sink _ c.in_default.ensures.ok in
    on_err_weaker c.close.result
    (unclosed_object_keeps c.args.out.now c.begin.new.out c.put_two.new.sink c.write_properties.new.out c.close.new.out c.args.type_ c.args.id
    (g.P.SerializeProperties.properties c.args.properties.now) header words c.in_default-write_properties.ensures.written)
    c.close.ensures.unchanged

pub close-requires : goal.close-requires
close-requires g c =
    let old = g.O.PodOutput.content c.args.out.now in
    let head = word_bytes 0 ++ word_bytes object_type in
    let two = word_bytes c.args.type_ ++ word_bytes c.args.id in
    let body = property_encodings (g.P.SerializeProperties.properties c.args.properties.now) in
    let header = g.met.O.PodOutput.content_appends c.args.out.now c.begin.new.out head c.in-Ok.ensures.header in
    let words = g.met.O.PodOutput.content_appends c.begin.new.out c.put_two.new.sink two c.in_default.ensures.ok in
    let properties = c.in_default-write_properties.ensures.written.extended.bytes in
    omega (
      arith,
      c.in-Ok.ensures.start,
      ap length header,
      ap length words,
      ap length properties,
      length-append old head,
      length-append (g.O.PodOutput.content c.begin.new.out) two,
      length-append (g.O.PodOutput.content c.put_two.new.sink) body,
      two_words_length 0 object_type,
    )

pub returns-clause-written : goal.returns-clause-written
returns-clause-written g c =
    let header = extended_by g.met.O.PodOutput.content_appends g.met.O.PodSink.refuses_after c.args.out.now c.begin.new.out _ c.in-Ok.ensures.header in
    let words = extended_by g.met.O.PodOutput.content_appends g.met.O.PodSink.refuses_after c.begin.new.out c.put_two.new.sink _ c.in_default.ensures.ok in
    on_ok_weaker c.close.result
    (object_written c.args.out.now c.begin.new.out c.put_two.new.sink c.write_properties.new.out c.close.new.out c.in-Ok.start
    c.args.type_ c.args.id (g.P.SerializeProperties.properties c.args.properties.now) c.in-Ok.ensures.start c.ranges.type_.fits
    c.ranges.id.fits header words c.in_default-write_properties.ensures.written)
    c.close.ensures.closed

pub returns-clause-refused : goal.returns-clause-refused
returns-clause-refused g c =
    let header = extended_by g.met.O.PodOutput.content_appends g.met.O.PodSink.refuses_after c.args.out.now c.begin.new.out _ c.in-Ok.ensures.header in
    let words = extended_by g.met.O.PodOutput.content_appends g.met.O.PodSink.refuses_after c.begin.new.out c.put_two.new.sink _ c.in_default.ensures.ok in
    IfErr-weaker c.close.result _ _
    (λ e r. object_past c.args.out.now c.begin.new.out c.put_two.new.sink c.write_properties.new.out c.in-Ok.start c.args.type_ c.args.id
    (g.P.SerializeProperties.properties c.args.properties.now) e c.in-Ok.ensures.start header words
    c.in_default-write_properties.ensures.written r)
    c.close.ensures.large
