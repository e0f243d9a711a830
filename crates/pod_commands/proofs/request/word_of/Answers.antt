use Rattle.pod_commands.proofs.request.word_of.Goals as goal

pub returns-in-show-clause-manner : goal.returns-in-show-clause-manner
returns-in-show-clause-manner c = c.shown.ensures.manner _
