-- The first multiple of a step from a number below 0 on.
use Rattle.std.proofs.Common.{◌≡◌, ℕ, ◌+◌, ◌-◌, ◌*◌, ◌/◌, ◌%◌, ◌<◌, ◌≤◌, ap, ◌∙◌, inl, inr, arith, Option, Some, None, MatchOption, ◌<ℤ◌, ◌≤ℤ◌, pos, unsigned_abs, ℤ}
use Rattle.std.proofs.Math.Nat.{mul-add, mul-one, mul-mod_right, mul-le-mul_left, div-add-mod}
use Rattle.std.proofs.lemmas.Nat.{mod_below}
use Rattle.std.proofs.lemmas.Int.{ints}
use Rattle.std.proofs.lemmas.Bool.{cases_lt}
use lib.IntN.{negsuc}
use Rattle.spa_filter_elements.specs.Multiples.{IsFirstSigned}

module _ (l s : ℕ) (pos : 0 < s) where
  abbrev u : ℕ
  u = l / s

  cut_is : l - l % s ≡ s * u
  cut_is = omega (arith, div-add-mod l s)

  cut_aligned : (l - l % s) % s ≡ 0
  cut_aligned = ap (λ z. z % s) cut_is ∙ mul-mod_right s u

  -- no multiple up to l is greater
  greatest : (k : ℕ) → k ≤ l → k % s ≡ 0 → k ≤ l - l % s
  greatest k below e =
      let k_is : k ≡ s * (k / s) = omega (arith, div-add-mod k s, e) in
      elim (cases_lt u (k / s)) [
        | inl h ↦
            let more : s * (u + 1) ≤ s * (k / s) = mul-le-mul_left s (omega arith) in
            let rest = mod_below l s pos in
            absurd (omega (arith, more, k_is, mul-add s u 1, mul-one s, rest, div-add-mod l s, below))
        | inr h ↦
            let less : s * (k / s) ≤ s * u = mul-le-mul_left s h in
            omega (arith, less, k_is, cut_is)
      ]

abbrev pub IsSignedUpTo : (found high : ℤ) → Option ℤ → Type 0
IsSignedUpTo found high o = MatchOption o (high <ℤ found) (λ n. (n ≡ found) × (n ≤ℤ high))

module _ (low : ℤ) (s : ℕ) (positive : 0 < s) (below : low <ℤ pos 0) (f : ℤ) (negative : f ≤ℤ pos 0)
    (is : unsigned_abs f ≡ unsigned_abs low - unsigned_abs low % s) where
  not_above : low ≤ℤ f
  not_above = omega (arith, ints)

  aligned : unsigned_abs f % s ≡ 0
  aligned = ap (λ z. z % s) is ∙ cut_aligned (unsigned_abs low) s positive

  least : (m : ℤ) → low ≤ℤ m → unsigned_abs m % s ≡ 0 → f ≤ℤ m
  least (pos n) h e = omega (arith, ints)
  least (negsuc n) h e =
      let within : unsigned_abs (negsuc n) ≤ unsigned_abs low = omega (arith, ints) in
      let up_to = greatest (unsigned_abs low) s positive (unsigned_abs (negsuc n)) within e in
      omega (arith, ints, up_to, is)

  pub first_below : (high : ℤ) (o : Option ℤ) → IsSignedUpTo f high o → IsFirstSigned low high s o
  first_below high None h = λ m l k e. let at_least = least m l e.1 in omega (arith, ints)
  first_below high (Some n) h = (
    (let q = h.0 in let p = not_above in omega (arith, ints)),
    h.1,
    (positive, ap (λ z. unsigned_abs z % s) h.0 ∙ aligned),
    λ m l e. let at_least = least m l e.1 in let q = h.0 in omega (arith, ints),
  )
