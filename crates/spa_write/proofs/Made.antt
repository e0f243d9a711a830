-- Encodings that are put together before they are appended, and outputs that are full beforehand.
use Rattle.std.proofs.Common.{◌≡◌, ℕ, ◌<◌, ◌⊎◌, inl, inr, ⊎_elim, Result, Ok, Err, OnErr}
use Rattle.spa_sink.specs.declared.gen_error.GenError.{GenError}
use Rattle.spa_sink.specs.declared.gen_error.GenError.TheVariants.{Full, TooLarge, NulInText, WrongCount, Failed, Io, OutOfMemory}
use Rattle.spa_sink.specs.Writing.{RefusesWrite}
use Rattle.spa_write.specs.DeepValues.{LacksMemory, levels_without_memory}

pub on_err : {T E P : Type 0} (r : Result T E) → P → OnErr r P
on_err (Ok x) p = tt
on_err (Err e) p = p

-- for other facts about the sink
by_map : {nul large : Type 0} {lacks lacks' : GenError → Type 0} → ((d : GenError) → lacks d → lacks' d) →
    (e : GenError) → RefusesWrite nul large lacks e → RefusesWrite nul large lacks' e
by_map f Full r = record { cause = f Full r.cause }
by_map f TooLarge r = record { cause = r.cause }
by_map f NulInText r = record { cause = r.cause }
by_map f WrongCount r = record { cause = f WrongCount r.cause }
by_map f Failed r = record { cause = f Failed r.cause }
by_map f Io r = record { cause = f Io r.cause }
by_map f OutOfMemory r = record { cause = f OutOfMemory r.cause }

-- Memory lacks for a value that nests deeper than is written without.
pub deep_refused : {nul large : Type 0} {S : Type 0} {other : GenError → Type 0} (a b : S) (depth : ℕ) → levels_without_memory < depth →
    (e : GenError) → RefusesWrite nul large (λ d. (d ≡ OutOfMemory) × (b ≡ a) ⊎ other d) e →
    RefusesWrite nul large (λ d. LacksMemory depth d × (b ≡ a) ⊎ other d) e
deep_refused {S = S} {other = other} a b depth deep e r =
    let deeper : (d : GenError) → ((d ≡ OutOfMemory) × (b ≡ a) ⊎ other d) → LacksMemory depth d × (b ≡ a) ⊎ other d =
    λ d x. ⊎_elim (λ y. inl ((y.0, deep), y.1)) (λ z. inr z) x in
    by_map deeper e r
