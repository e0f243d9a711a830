-- A pair: which array says it, and why none is read.
use Rattle.std.specs.Prelude.{◌≡◌, ℕ, ℤ, List, [], ◌∷◌, map, ⊤}
use Rattle.std.specs.Borrow.{Bor}
use Rattle.libspa.specs.DeserializeError.{DeserializeError}
use Rattle.libspa.specs.DeserializeErrors as error
use Rattle.libspa.specs.Kind.{int, int_kind}
use Rattle.libspa.specs.Tree.{Tree, array}
use Rattle.libspa.specs.Visit.{Visit}
use Rattle.libspa.specs.VisitCases as visit
use Rattle.libspa.specs.Visiting.{DeclinesExactlyOf}
use Rattle.example_types.specs.declared.level.Pair.{Pair}

-- the two elements of a pair, and the array of them
abbrev pub pair_steps : Pair → List ℤ
pair_steps p = p.left.steps ∷ p.right.steps ∷ []

abbrev pub pair_tree : Pair → Tree
pair_tree p = array int_kind (map (λ x. int x) (pair_steps p))

-- the array is that of the pair
abbrev pub IsPair : Tree → Pair → Type 0
IsPair v p = v ≡ pair_tree p

-- the elements that a visitor is handed are those of the pair
abbrev pub TakesPair : Visit ℤ → Pair → Type 0
TakesPair (visit.Array xs) p = xs.items ≡ pair_steps p
TakesPair _ p = ⊥

-- it declines the elements of an array only where they are no pair's, and anything that is no array
abbrev pub DeclinesPair : Visit ℤ → DeserializeError (Bor (List ℕ)) → Type 0
DeclinesPair (visit.Array xs) e = DeclinesExactlyOf IsPair ⊤ (array int_kind (map (λ x. int x) xs.items)) e × (e ≡ error.UnsupportedType)
DeclinesPair _ e = e ≡ error.UnsupportedType
