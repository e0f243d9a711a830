use Rattle.pod_commands.proofs.run.Io.do_work.Goals as goal

pub returns-in-Make : goal.returns-in-Make
returns-in-Make g c = rw c.in-Make.is c.make.ensures
