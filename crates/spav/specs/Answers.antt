-- The numbers that the calls answer: docs/CAPI.md, "Answers".
use Rattle.std.specs.Prelude.{◌≡◌, ◌⊎◌, ℕ, ℤ, pos, neg_ℤ}

-- 0: done
abbrev pub IsDone : ℤ → Type 0
IsDone answer = answer ≡ pos 0

-- the error of this number, negated
abbrev pub IsFailure : ℕ → ℤ → Type 0
IsFailure number answer = answer ≡ neg_ℤ (pos number)

-- -ENOMEM
abbrev pub IsNoMemory : ℤ → Type 0
IsNoMemory answer = IsFailure 12 answer

-- -EINVAL
abbrev pub IsInvalid : ℤ → Type 0
IsInvalid answer = IsFailure 22 answer

-- -ENOSPC
abbrev pub IsNoRoom : ℤ → Type 0
IsNoRoom answer = IsFailure 28 answer

-- the answers of a rewriting
abbrev pub IsRewritten : ℤ → Type 0
IsRewritten answer = IsDone answer ⊎ IsNoMemory answer ⊎ IsInvalid answer ⊎ IsNoRoom answer

-- the answers of a check
abbrev pub IsChecked : ℤ → Type 0
IsChecked answer = IsDone answer ⊎ IsNoMemory answer ⊎ IsInvalid answer

-- -ELOOP
abbrev pub IsTooDeep : ℤ → Type 0
IsTooDeep answer = IsFailure 40 answer

-- the answers of a call that looks into so many levels
abbrev pub IsNested : ℤ → Type 0
IsNested answer = IsDone answer ⊎ IsTooDeep answer

-- the answers of a question that may take memory
abbrev pub IsAsked : ℤ → Type 0
IsAsked answer = IsDone answer ⊎ IsNoMemory answer

-- the answers of a change in place
abbrev pub IsChanged : ℤ → Type 0
IsChanged answer = IsDone answer ⊎ IsInvalid answer

-- the answers of a copy into the output
abbrev pub IsPut : ℤ → Type 0
IsPut answer = IsDone answer ⊎ IsNoRoom answer

-- -ENOENT
abbrev pub IsMissing : ℤ → Type 0
IsMissing answer = IsFailure 2 answer

-- -EPROTO
abbrev pub IsOther : ℤ → Type 0
IsOther answer = IsFailure 71 answer

-- the refusals of a search for a property
abbrev pub IsUnfound : ℤ → Type 0
IsUnfound answer = IsInvalid answer ⊎ IsMissing answer

-- the answers of a search for the offset of a property or a member
abbrev pub IsFound : ℤ → Type 0
IsFound answer = IsDone answer ⊎ IsUnfound answer

-- the answers of a read of a property
abbrev pub IsRead : ℤ → Type 0
IsRead answer = IsDone answer ⊎ IsOther answer ⊎ IsUnfound answer

-- -ENOTSUP
abbrev pub IsUnsupported : ℤ → Type 0
IsUnsupported answer = IsFailure 95 answer

-- -ENODATA
abbrev pub IsDisjoint : ℤ → Type 0
IsDisjoint answer = IsFailure 61 answer

-- -EOVERFLOW
abbrev pub IsPast : ℤ → Type 0
IsPast answer = IsFailure 75 answer

-- the answers of a text that becomes a pod
abbrev pub IsJsonRead : ℤ → Type 0
IsJsonRead answer = IsRewritten answer ⊎ IsPast answer

-- the answers where two inputs don't meet
abbrev pub IsApart : ℤ → Type 0
IsApart answer = IsInvalid answer ⊎ IsOther answer ⊎ IsUnsupported answer ⊎ IsDisjoint answer

-- the answers where two inputs aren't filtered
abbrev pub IsUnfiltered : ℤ → Type 0
IsUnfiltered answer = IsMissing answer ⊎ IsApart answer

-- the answers of a list of calls that isn't made to its end
abbrev pub IsStopped : ℤ → Type 0
IsStopped answer = IsInvalid answer ⊎ IsPast answer ⊎ IsNoMemory answer

-- the answers of a list of calls
abbrev pub IsBuilt : ℤ → Type 0
IsBuilt answer = IsDone answer ⊎ IsNoRoom answer ⊎ IsStopped answer
