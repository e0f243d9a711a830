-- The pods for which pw-dump has no form.
use Rattle.std.proofs.Common.{◌≡◌, ◌≤◌, ◌<◌, ◌+◌, ◌-◌, ◌∙◌, ℕ, List, ap, arith, drop, length, length-append, subst, sym, take}
use Rattle.std.proofs.lemmas.List.{take_at}
use Rattle.spa_format.specs.Front.{HasFront, front_of, rest_of}
use Rattle.spa_format.specs.Walk.{walk}
use Rattle.spa_format.proofs.Fronts.{front_and_rest}
use Rattle.spa_recordings.proofs.Holding.{WholeSoFar, few_whole}
use Rattle.spa_refusals.specs.declared.refusal.Refusal.{Refusal}
use Rattle.pod_commands.specs.Making.{IsNoForm}
use Rattle.pod_commands.specs.Working.{StandsBehind}
use Rattle.pod_commands.specs.declared.refusing.FormlessPod.{FormlessPod}

-- what is said of it is of its place
pub said_there : (input pod : List ℕ) (found : FormlessPod) (why : Refusal) → StandsBehind input found → pod ≡ drop found.at input → why.place ≡ found.at →
    why.number ≡ found.before + 1 → IsNoForm pod why →
    (why.place ≤ length input) × (why.number ≡ length (walk (take why.place input)) + 1) × IsNoForm (drop why.place input) why
said_there input pod found why f e p n h =
    let at = f.at in
    let b = f.before in
    let l = ap length f.parts ∙ length-append f.first f.left in
    let same : take why.place input ≡ f.first = ap (take why.place) f.parts ∙ take_at f.first f.left why.place (omega (arith, p, at)) in
    let counted = ap (λ z. length (walk z)) same in (
      omega (arith, p, at, l),
      omega (arith, n, b, counted),
      subst (λ z. IsNoForm z why) (e ∙ ap (λ z. drop z input) (sym p)) h,
    )

-- fewer pods stand before it than the input has bytes
pub few_behind : (input : List ℕ) (found : FormlessPod) → StandsBehind input found → found.before < length input
few_behind input found f =
    let b = f.before in
    let k = few_whole f.first in
    let h = f.there.header in
    let l = ap length f.parts ∙ length-append f.first f.left in
    omega (arith, b, k, h, l)

-- it stands behind the pods that were passed
pub stands_behind : (input left rest : List ℕ) (before len : ℕ) (found : FormlessPod) → WholeSoFar input left before → HasFront left → rest ≡ rest_of left →
    found.before ≡ before → found.at ≡ length input - length left → found.len ≡ length left - length rest → StandsBehind input found
stands_behind input left rest before len found so there r b a n =
    let l = ap length so.parts ∙ length-append so.before left in
    let front = front_len left there in
    let e = ap length r in
    record {
      first = so.before;
      left = left;
      parts = so.parts;
      whole = so.whole;
      there = there;
      before = b ∙ so.counted;
      at = omega (arith, a, l);
      len = omega (arith, n, e, front);
    }
  where
    front_len : (left : List ℕ) → HasFront left → length (front_of left) + length (rest_of left) ≡ length left
    front_len left f = sym (ap length (front_and_rest left) ∙ length-append (front_of left) (rest_of left))
