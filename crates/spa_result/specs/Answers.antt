-- What the calls on a result answer: docs/FORMAT.md, "Result codes".
use Rattle.std.specs.Prelude.{◌≡◌, ℕ, ℤ, Result, Ok, IsErrAnd}
use Rattle.spa_result.specs.ResultCode.{Meaning, failed, done, later}
use Rattle.spa_result.specs.declared.async_seq.AsyncSeq.{AsyncSeq}
use Rattle.spa_result.specs.declared.code.SpaSuccess.{SpaSuccess}
use Rattle.spa_result.specs.declared.code.SpaSuccess.TheVariants.{Sync, Async}
use Rattle.spa_result.specs.declared.error.Error.{Error}

-- the error of that number
abbrev pub IsFailure : {T : Type 0} → ℕ → Result T Error → Type 0
IsFailure number answer = IsErrAnd answer (λ e. e.0.0 ≡ number)

-- the error, the code that is done or the sequence number of one that is done later
abbrev pub IsAnswer : Meaning → Result SpaSuccess Error → Type 0
IsAnswer (failed number) answer = IsFailure number answer
IsAnswer (done code) answer = answer ≡ Ok (Sync code)
IsAnswer (later code) answer = answer ≡ Ok (Async (record { 0 = code }))

-- the error or the code, where nothing is done later
abbrev pub IsSyncAnswer : Meaning → Result ℤ Error → Type 0
IsSyncAnswer (failed number) answer = IsFailure number answer
IsSyncAnswer (done code) answer = answer ≡ Ok code
IsSyncAnswer (later code) answer = ⊥

-- the error or the sequence number, where nothing is done yet
abbrev pub IsAsyncAnswer : Meaning → Result AsyncSeq Error → Type 0
IsAsyncAnswer (failed number) answer = IsFailure number answer
IsAsyncAnswer (done code) answer = ⊥
IsAsyncAnswer (later code) answer = answer ≡ Ok (record { 0 = code })
