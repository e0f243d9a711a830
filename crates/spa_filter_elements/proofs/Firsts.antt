-- The first multiple of a step from a number on.
use Rattle.std.proofs.Common.{◌≡◌, ◌≢◌, inl, inr, ℕ, ◌+◌, ◌-◌, ◌*◌, ◌/◌, ◌%◌, ◌<◌, ◌≤◌, ◌^◌, ap, ◌∙◌, arith, Option, Some, None, MatchOption}
use Rattle.std.proofs.Math.Nat.{mul-add, mul-one, mul-mod_right, mul-le-mul_left, div-add-mod}
use Rattle.std.proofs.lemmas.Nat.{mod_below}
use Rattle.std.proofs.lemmas.Bool.{cases_lt}
use Rattle.spa_filter_elements.specs.Multiples.{IsFirstMultiple}

module _ (low s : ℕ) (pos : 0 < s) where
  abbrev u : ℕ
  u = low / s

  abbrev found : ℕ
  found = low + (s - low % s)

  pub found_is : low + (s - low % s) ≡ s * (u + 1)
  found_is =
      let below = mod_below low s pos in
      omega (arith, div-add-mod low s, mul-add s u 1, mul-one s, below)

  pub found_aligned : (low + (s - low % s)) % s ≡ 0
  found_aligned = ap (λ z. z % s) found_is ∙ mul-mod_right s (u + 1)

  -- no multiple is between
  module _ (none : low % s ≢ 0) (m : ℕ) (l : low ≤ m) (e : m % s ≡ 0) where
    abbrev v : ℕ
    v = m / s

    m_is : m ≡ s * v
    m_is = omega (arith, div-add-mod m s, e)

    rest_above : 0 < low % s
    rest_above = elim (cases_lt 0 (low % s)) [ inl h ↦ h | inr h ↦ absurd (none (omega arith)) ]

    pub least_behind : low + (s - low % s) ≤ m
    least_behind =
        elim (cases_lt u v) [
          | inl h ↦
              let more : s * (u + 1) ≤ s * v = mul-le-mul_left s (omega arith) in
              omega (arith, found_is, m_is, more)
          | inr h ↦
              let less : s * v ≤ s * u = mul-le-mul_left s h in
              absurd (omega (arith, m_is, less, div-add-mod low s, rest_above, l))
        ]

abbrev IsUpTo : (found high : ℕ) → Option ℕ → Type 0
IsUpTo found high o = MatchOption o (high < found) (λ n. (n ≡ found) × (n ≤ high))

module _ (low high s : ℕ) (pos : 0 < s) where
  -- a multiple is the first one from itself on,
  pub first_itself : low % s ≡ 0 → (o : Option ℕ) → IsUpTo low high o → IsFirstMultiple low high s o
  first_itself e None h = λ m l k _. omega arith
  first_itself e (Some n) h =
      (omega arith, h.1, (pos, ap (λ z. z % s) h.0 ∙ e), λ m l _. omega arith)

  -- and else it is the next one
  module _ (none : low % s ≢ 0) where
    pub first_behind : (f : ℕ) → f ≡ low + (s - low % s) → (o : Option ℕ) → IsUpTo f high o →
        IsFirstMultiple low high s o
    first_behind f is None h = λ m l k e. let least = least_behind low s pos none m l e.1 in omega arith
    first_behind f is (Some n) h =
        let same : n ≡ low + (s - low % s) = h.0 ∙ is in (
          omega arith,
          h.1,
          (pos, ap (λ z. z % s) same ∙ found_aligned low s pos),
          λ m l e. let least = least_behind low s pos none m l e.1 in omega arith,
        )

    pub none_behind : high < 2 ^ 64 → ¬ (low + (s - low % s) < 2 ^ 64) → IsFirstMultiple low high s None
    none_behind fits beyond = λ m l k e.
        let least = least_behind low s pos none m l e.1 in
        beyond (omega arith)
