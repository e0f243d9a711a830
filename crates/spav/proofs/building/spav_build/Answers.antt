use Rattle.std.proofs.Common.{inl, rules}
use Rattle.spav.proofs.Runs.{stopped_invalid, stopped_large, stopped_wanting}
use Rattle.spav.proofs.building.spav_build.Goals as goal

pub returns-in-Err-clause-refused : goal.returns-in-Err-clause-refused
returns-in-Err-clause-refused c = λ h. inl (stopped_invalid _ _ _ _ c.in-Err.ensures.stops (c.answer_of.ensures.invalid (search rules)))

pub returns-in-Err-clause-past : goal.returns-in-Err-clause-past
returns-in-Err-clause-past c = λ h. stopped_large _ _ _ _ c.in-Err.ensures.stops (c.answer_of.ensures.past (search rules))

pub returns-in-Err-clause-memory : goal.returns-in-Err-clause-memory
returns-in-Err-clause-memory c = λ h. (_, stopped_wanting _ _ _ _ c.in-Err.ensures.stops (c.answer_of.ensures.memory (search rules)))
