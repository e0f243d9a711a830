use Rattle.std.proofs.lemmas.Result.{on_err_weaker}
use Rattle.spa_typed_write.proofs.Completing.{first_keeps, others_keep}
use Rattle.spa_typed_write.proofs.listed.Tuple2RefSerializeMembers.write_members.Goals as goal

pub returns-in-Ok-clause-keeps : goal.returns-in-Ok-clause-keeps
returns-in-Ok-clause-keeps g c =
    on_err_weaker c.write_members.result
    (others_keep c.args.out.now c.write_exactly.new.out c.write_members.new.out (g.A.PodSerialize.value c.args.self.now.0.now)
    (g.R.SerializeMembers.members c.args.self.now.1) c.in-Ok.ensures.written)
    c.write_members.ensures.keeps

pub returns-in-Err-clause-keeps : goal.returns-in-Err-clause-keeps
returns-in-Err-clause-keeps g c = first_keeps c.args.out.now c.write_exactly.new.out (g.A.PodSerialize.value c.args.self.now.0.now)
    (g.R.SerializeMembers.members c.args.self.now.1) c.in-Err.ensures.keeps
