-- Work on the blocks of an input. Only private clauses cite this.
use Rattle.std.specs.Prelude.{◌≡◌, ℕ, List}
use Rattle.pod_commands.specs.Working.{WorksOn}
use Rattle.pod_commands.specs.declared.passing.Worker.{Worker}

-- this was made of a block, which so many pods and bytes of the input stand before, and what is said of its refused pods was added
pub record WorksOnBlock (old new : Worker) (count place : ℕ) (block out : List ℕ) : Type 0 where
  pub job : new.job ≡ old.job
  pub works : WorksOn old.job.manner.reading old.job.manner.refused old.job.making old.job.name.now count place block out old.said.items new.said.items
