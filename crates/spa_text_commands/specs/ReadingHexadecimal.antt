-- What stands next in a row of digits, and how far a row is read. Only private clauses cite it.
use Rattle.std.specs.Prelude.{◌≡◌, ◌≤◌, ℕ, Bool, List, [], ◌∷◌, ◌++◌, drop, length}
use Rattle.spa_text_commands.specs.Hexadecimal.{said}
use Rattle.spa_text_commands.specs.declared.answer.Failure.{Failure}
use Rattle.spa_text_commands.specs.declared.answer.Failure.TheVariants.{Line}
use Rattle.spa_text_commands.specs.declared.hexadecimal.Next.{Next}
use Rattle.spa_text_commands.specs.declared.hexadecimal.Next.TheVariants.{End, Between, Byte, Other}

-- what the bytes from here on say, by what stands next
abbrev pub IsNext : (spaces_end : Bool) → ℕ → List ℕ → Next → Type 0
IsNext spaces_end x xs End = said spaces_end (x ∷ xs) ≡ ([], [])
IsNext spaces_end x xs Between = said spaces_end (x ∷ xs) ≡ said spaces_end xs
IsNext spaces_end x xs (Byte n) =
    (1 ≤ length xs) × (said spaces_end (x ∷ xs) ≡ (n ∷ (said spaces_end (drop 1 xs)).0, (said spaces_end (drop 1 xs)).1))
IsNext spaces_end x xs Other = said spaces_end (x ∷ xs) ≡ ([], x ∷ xs)

-- these bytes were added, and so many are left
abbrev pub SaysMore : (said : List ℕ × List ℕ) → (old new : List ℕ) → (unread : ℕ) → Type 0
SaysMore said old new unread = (new ≡ old ++ said.0) × (unread ≡ length said.1)

-- the refusal names this line and this column
abbrev pub IsLineAt : (line column : ℕ) → Failure → Type 0
IsLineAt line column (Line l c kind words path misfit) = (l ≡ line) × (c ≡ column)
IsLineAt line column _ = ⊥
