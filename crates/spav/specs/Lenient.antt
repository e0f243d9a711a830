-- Faults of inputs that convey values one after another: docs/FORMAT.md, "The lenient reading".
use Rattle.std.specs.Prelude.{◌≡◌, ℕ, List, drop}
use Rattle.spa_format.specs.Lenient.{ConveyMembers}
use Rattle.spa_format.specs.Faults.{Fault}
use Rattle.spa_read.specs.Reading.{ConveysNothing, StandsLeniently}
use Rattle.spav.specs.Faults.{fault_number}
use Rattle.spav.specs.Lists.{ListIsRefused}

-- Zero or more values are conveyed before the byte `top`, and none at it, where a fault of this kind stands in the lenient reading.
pub record FaultStandsLeniently (input : List ℕ) (kind top : ℕ) : Type 0 where
  pub none : ListIsRefused ConveyMembers ConveysNothing input top
  pub fault : Fault
  pub its_kind : kind ≡ fault_number fault
  pub place : List ℕ
  pub found : StandsLeniently fault place (drop top input)
