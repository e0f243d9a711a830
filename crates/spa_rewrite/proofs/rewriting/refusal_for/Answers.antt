use Rattle.std.proofs.Common.{inr, subst, sym}
use Rattle.spa_bodies.specs.Reading.{OnMemory}
use Rattle.spa_canonical.specs.Depth.{NestsDeeper, levels_looked_into}
use Rattle.spa_canonical.specs.Look.{IsRejected}
use Rattle.spa_rewrite.specs.Refusals.{IsRefusal}
use Rattle.spa_rewrite.proofs.Lacking.{fault_memory, is_fault, lacks}
use Rattle.spa_rewrite.proofs.rewriting.refusal_for.Goals as goal

pub returns-in-Fault-clause-refused : goal.returns-in-Fault-clause-refused
returns-in-Fault-clause-refused c = λ pod r.
    subst (IsRefusal pod) (sym c.error_at.ensures) (is_fault pod _ _ (subst (IsRejected pod) c.in-Fault.is r).stands)

pub returns-in-Fault-clause-memory : goal.returns-in-Fault-clause-memory
returns-in-Fault-clause-memory c = λ pod r.
    subst (OnMemory (NestsDeeper levels_looked_into pod)) (sym c.error_at.ensures)
    (fault_memory pod _ _ _ (subst (IsRejected pod) c.in-Fault.is r).stands)

pub returns-in-TooDeep-clause-refused : goal.returns-in-TooDeep-clause-refused
returns-in-TooDeep-clause-refused c = λ pod r. lacks pod (inr (subst (IsRejected pod) c.in-TooDeep.is r))

pub returns-in-TooDeep-clause-memory : goal.returns-in-TooDeep-clause-memory
returns-in-TooDeep-clause-memory c = λ pod r. subst (IsRejected pod) c.in-TooDeep.is r
