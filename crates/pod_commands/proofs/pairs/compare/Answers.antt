use Rattle.std.proofs.Common.{inl}
use Rattle.pod_commands.proofs.pairs.compare.Goals as goal

pub returns-in-Err-clause-refused : goal.returns-in-Err-clause-refused
returns-in-Err-clause-refused g c = inl c.in-Err.ensures.refused
