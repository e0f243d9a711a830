-- Values that nest so deep that memory is asked for before they are written: docs/FORMAT.md, "The encoding of a value".
use Rattle.std.specs.Prelude.{◌≡◌, ◌⊎◌, ℕ, ◌<◌, length}
use Rattle.spa_sink.specs.declared.gen_error.GenError.{GenError}
use Rattle.spa_sink.specs.declared.gen_error.GenError.TheVariants.{OutOfMemory}
use Rattle.spa_sink.specs.Writing.{RefusesPiece}
use Rattle.spa_format.specs.Tree.{Tree}
use Rattle.spa_format.specs.Encoding.{encoding_of}
use Rattle.spa_format.specs.Writable.{HasNul, IsTooLarge}
use Rattle.spa_bodies.specs.Written.{Refusing}

-- how many structs and objects stand in one another, at most, in a value that is written without memory
abbrev pub levels_without_memory : ℕ
levels_without_memory = 512

-- memory ran out for a value of this nesting depth, which is more than those levels
abbrev pub LacksMemory : ℕ → GenError → Type 0
LacksMemory depth e = (e ≡ OutOfMemory) × (levels_without_memory < depth)

-- Why a sink didn't take the encoding of this value: for NUL, for a size, or for memory, as `lacks` says, it is as it was; or it refused the bytes.
abbrev pub RefusesEncoding : {S : Type 0} → Refusing S → (GenError → Type 0) → S → Tree → S → GenError → Type 0
RefusesEncoding refuses lacks old v new =
    RefusesPiece (HasNul v) (IsTooLarge v) (λ e. lacks e × (new ≡ old) ⊎ refuses old (length (encoding_of v)) new e) old new
