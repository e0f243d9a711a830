-- What is read and written of objects that meet.
use Rattle.std.specs.Prelude.{⊤, ◌≡◌}
use Rattle.libspa.specs.Normal.{normal_of}
use Rattle.libspa.specs.Tree.{Tree}
use Rattle.libspa.specs.Writable.{HasNul, IsTooLarge}
use Rattle.spa_negotiate.specs.declared.error.NegotiateError.{NegotiateError}
use Rattle.spa_negotiate.specs.declared.error.NegotiateError.TheVariants.{TooLarge, OutOfMemory}

-- the value isn't refused for a text, and reads back as itself
pub record ReadsBack (v : Tree) : Type 0 where
  pub no_nul : ¬ (HasNul v)
  pub normal : normal_of v ≡ v

-- what the object in which two meet isn't written for
abbrev pub IsWriteRefused : Tree → NegotiateError → Type 0
IsWriteRefused met TooLarge = IsTooLarge met
IsWriteRefused met OutOfMemory = ⊤
IsWriteRefused met _ = ⊥
