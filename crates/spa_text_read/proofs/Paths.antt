-- What is said of a path.
use Rattle.std.proofs.Common.{◌≡◌, ℕ, List, [], ◌∷◌, ◌++◌, refl, arith, length}
use Rattle.std.specs.Prelude.{codes}
use Rattle.spa_text_read.specs.ErrorTexts.{path_text}

pub no_path : (path : List ℕ) → length path ≡ 0 → path_text path ≡ []
no_path [] e = refl
no_path (x ∷ xs) e = absurd (omega (arith, e))

pub some_path : (path : List ℕ) → ¬ (length path ≡ 0) → path_text path ≡ codes " at " ++ path
some_path [] h = absurd (h refl)
some_path (x ∷ xs) h = refl
