-- Values that are put into a place as soon as they are read.
use Rattle.std.specs.Prelude.{◌≡◌, ℕ, List}
use Rattle.spa_format.specs.Tree.{Tree, type_of}
use Rattle.spa_format.specs.Pod.{IsBody}

-- a body of this type is read as a value, which a place took: the place before and after
pub record IsTaken {T : Type 0} (takes : T → Tree → T → Type 0) (type : ℕ) (body : List ℕ) (from to : T) : Type 0 where
  pub value : Tree
  pub its_type : type_of value ≡ type
  pub read : IsBody value body
  pub taken : takes from value to
