-- Texts of which no pod is.
use Rattle.std.proofs.Common.{◌≡◌, ◌≢◌, ℕ, List, inl, inr, subst, sym}
use Rattle.spa_format.specs.Tree.{Tree}
use Rattle.spa_format.specs.Writable.{HasNul}
use Rattle.spa_text_read.specs.Grammar.{IsTextOf}
use Rattle.spa_text_read.specs.declared.cause.Cause.{Cause}
use Rattle.spa_text_read.specs.declared.cause.Cause.TheVariants as cause
use Rattle.spav.specs.Text.{HasNoPod}

-- the text that the bytes are isn't read, and memory isn't the cause
pub no_value : (bytes text : List ℕ) (c : Cause) → text ≡ bytes → (c ≢ cause.OutOfMemory → (v : Tree) → ¬ (IsTextOf v text)) → c ≢ cause.OutOfMemory →
    HasNoPod bytes
no_value bytes text c e h w = inr (inl (λ v t. h w v (subst (IsTextOf v) (sym e) t)))

-- it is read as a value that holds NUL
pub some_nul : (bytes text : List ℕ) (v w : Tree) → text ≡ bytes → w ≡ v → IsTextOf v text → HasNul w → HasNoPod bytes
some_nul bytes text v w e s t h = inr (inr (v, subst (IsTextOf v) e t, subst HasNul s h))
