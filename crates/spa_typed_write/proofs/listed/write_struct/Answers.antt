use Rattle.std.proofs.Common.{◌++◌, length, ap, arith, length-append}
use Rattle.std.proofs.lemmas.Result.{IfErr-weaker, on_err_weaker, on_ok_weaker}
use Rattle.spa_format.specs.Encoding.{member_encodings}
use Rattle.spa_format.specs.Tree.{struct_type}
use Rattle.spa_format.specs.Words.{word_bytes}
use Rattle.spa_format.proofs.Encodings.{two_words_length}
use Rattle.spa_typed_write.proofs.Completing.{extended_by, header_keeps, header_refused, members_keep, members_refused, struct_past, struct_written, unclosed_keeps}
use Rattle.spa_typed_write.proofs.listed.write_struct.Goals as goal

pub returns-in-Err-clause-refused : goal.returns-in-Err-clause-refused
returns-in-Err-clause-refused g c =
    header_refused g.met.O.PodSink.refuses_longer c.args.out.now c.begin.new.out (g.M.SerializeMembers.members c.args.members.now) c.in-Err.e
    c.in-Err.ensures.cause

pub returns-in-Err-write_members-clause-refused : goal.returns-in-Err-write_members-clause-refused
returns-in-Err-write_members-clause-refused g c =
    let header = extended_by g.met.O.PodOutput.content_appends g.met.O.PodSink.refuses_after c.args.out.now c.begin.new.out _ c.in-Ok.ensures.header in
    members_refused g.met.O.PodSink.refuses_longer c.args.out.now c.begin.new.out (g.M.SerializeMembers.members c.args.members.now)
    c.in-Err-write_members.e header c.in-Err-write_members.ensures.refused

pub returns-in-Err-clause-keeps : goal.returns-in-Err-clause-keeps
returns-in-Err-clause-keeps g c =
    header_keeps g.met.O.PodOutput.content_appends c.args.out.now c.begin.new.out (g.M.SerializeMembers.members c.args.members.now)
    c.in-Err.ensures.begun

pub returns-in-Err-write_members-clause-keeps : goal.returns-in-Err-write_members-clause-keeps
returns-in-Err-write_members-clause-keeps g c =
    let header = extended_by g.met.O.PodOutput.content_appends g.met.O.PodSink.refuses_after c.args.out.now c.begin.new.out _ c.in-Ok.ensures.header in
    members_keep c.args.out.now c.begin.new.out c.write_members.new.out (g.M.SerializeMembers.members c.args.members.now) header
    c.in-Err-write_members.ensures.keeps

pub returns-clause-keeps : goal.returns-clause-keeps
returns-clause-keeps g c =
    let header = extended_by g.met.O.PodOutput.content_appends g.met.O.PodSink.refuses_after c.args.out.now c.begin.new.out _ c.in-Ok.ensures.header in
    on_err_weaker c.close.result
    (unclosed_keeps c.args.out.now c.begin.new.out c.write_members.new.out c.close.new.out (g.M.SerializeMembers.members c.args.members.now)
    header c.in_default.ensures.written)
    c.close.ensures.unchanged

pub close-requires : goal.close-requires
close-requires g c =
    let old = g.O.PodOutput.content c.args.out.now in
    let head = word_bytes 0 ++ word_bytes struct_type in
    let body = member_encodings (g.M.SerializeMembers.members c.args.members.now) in
    let header = g.met.O.PodOutput.content_appends c.args.out.now c.begin.new.out head c.in-Ok.ensures.header in
    let members = c.in_default.ensures.written.extended.bytes in
    omega (
      arith,
      c.in-Ok.ensures.start,
      ap length header,
      ap length members,
      length-append old head,
      length-append (g.O.PodOutput.content c.begin.new.out) body,
      two_words_length 0 struct_type,
    )

pub returns-clause-written : goal.returns-clause-written
returns-clause-written g c =
    let header = extended_by g.met.O.PodOutput.content_appends g.met.O.PodSink.refuses_after c.args.out.now c.begin.new.out _ c.in-Ok.ensures.header in
    on_ok_weaker c.close.result
    (struct_written c.args.out.now c.begin.new.out c.write_members.new.out c.close.new.out c.in-Ok.start
    (g.M.SerializeMembers.members c.args.members.now) c.in-Ok.ensures.start header c.in_default.ensures.written)
    c.close.ensures.closed

pub returns-clause-refused : goal.returns-clause-refused
returns-clause-refused g c =
    let header = extended_by g.met.O.PodOutput.content_appends g.met.O.PodSink.refuses_after c.args.out.now c.begin.new.out _ c.in-Ok.ensures.header in
    IfErr-weaker c.close.result _ _
    (λ e r. struct_past c.args.out.now c.begin.new.out c.write_members.new.out c.in-Ok.start
    (g.M.SerializeMembers.members c.args.members.now) e c.in-Ok.ensures.start header c.in_default.ensures.written r)
    c.close.ensures.large
