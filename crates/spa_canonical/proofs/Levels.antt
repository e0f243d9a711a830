-- How deep the pods nest that a look doesn't look into.
use Rattle.std.proofs.Common.{ℕ, suc, zero, ◌<◌, ◌≤◌, inl, inr, List, length, drop, take, subst, arith}
use Rattle.std.specs.Prelude.{Bool}
use Rattle.std.proofs.lemmas.Bool.{cases_lt}
use Rattle.std.proofs.lemmas.List.{length-take-le}
use Rattle.spa_format.specs.Front.{HasFront, rest_of}
use Rattle.spa_format.specs.Walk.{extent_behind, walk_behind}
use Rattle.spa_format.specs.Words.{body_of, word_at}
use Rattle.spa_format.proofs.Fronts.{length-body_of}
use Rattle.spa_format.proofs.WalkLemmas.{walk_behind-end, walk_behind-there}
use Rattle.spa_events.specs.Inside.{IsBehindKey, IsInside, key_size}
use Rattle.spa_bytes.specs.Opening.{Opens}
use Rattle.spa_events.proofs.Firsts.{behind_is}
use Rattle.spa_canonical.specs.Depth.{IsDeepBody, NestsDeeper, NestsDeeperInside, SomeOf, levels_looked_into}
use Rattle.spa_canonical.proofs.Deeper.{container, deep_input, deeper_than_fewer, first_or_behind, inside_deeper_than_fewer}
use Rattle.spa_canonical.specs.Look.{OpensInside}
use Rattle.spa_canonical.proofs.Offsets.{body_long}
use Rattle.spa_canonical.proofs.Lengths.{lengths}

-- one behind the first of them nests so
pub deep_behind : (n : ℕ) (keyed : Bool) (left here : List ℕ) → IsBehindKey keyed left here → HasFront here →
    NestsDeeperInside n keyed (rest_of here) → NestsDeeperInside n keyed left
deep_behind n keyed left here k h d =
    let is = behind_is keyed left here k in
    (first_or_behind n (key_size keyed) left is.0 (subst HasFront is.1 h)).1 (inr (subst (λ b. NestsDeeperInside n keyed (rest_of b)) is.1 d))

-- the first of them nests so
deep_first : (n : ℕ) (keyed : Bool) (left here body rest : List ℕ) (type : ℕ) → IsBehindKey keyed left here → Opens here type body rest →
    IsDeepBody n type body → NestsDeeperInside n keyed left
deep_first n keyed left here body rest type k o d =
    let is = behind_is keyed left here k in
    (first_or_behind n (key_size keyed) left is.0 (subst HasFront is.1 o.there)).1
    (inl (subst (NestsDeeper n) is.1 (deep_input n here body rest type o d)))

-- it is a struct or an object,
pub deep_here : (keyed inner : Bool) (left inside rest : List ℕ) → OpensInside keyed left inner inside rest → NestsDeeperInside 0 keyed left
deep_here keyed inner left inside rest o =
    deep_first 0 keyed left o.here o.body rest o.type o.its_key o.opens (container o.type o.body inside inner o.its_inside)

-- and one of those inside nests so
pub deep_inside : (n : ℕ) (keyed inner : Bool) (left inside rest : List ℕ) → OpensInside keyed left inner inside rest → NestsDeeperInside n inner inside →
    NestsDeeperInside (suc n) keyed left
deep_inside n keyed inner left inside rest o d =
    deep_first (suc n) keyed left o.here o.body rest o.type o.its_key o.opens (inner, inside, o.its_inside, d)

pub as_deep_inside : (n : ℕ) (keyed inner : Bool) (left inside rest : List ℕ) → OpensInside keyed left inner inside rest → NestsDeeperInside n inner inside →
    NestsDeeperInside n keyed left
as_deep_inside n keyed inner left inside rest o d =
    inside_deeper_than_fewer n (suc n) keyed left (omega arith) (deep_inside n keyed inner left inside rest o d)

pub too_deep : (input body rest inside : List ℕ) (type : ℕ) (inner : Bool) → Opens input type body rest → IsInside type body inner inside →
    NestsDeeperInside levels_looked_into inner inside → NestsDeeper levels_looked_into input
too_deep input body rest inside type inner o i d = fewer levels_looked_into d
  where
    fewer : (n : ℕ) → NestsDeeperInside n inner inside → NestsDeeper n input
    fewer n d = deeper_than_fewer n (suc n) input (omega arith) (deep_input (suc n) input body rest type o (inner, inside, i, d))

-- some of them is no longer than all
record SomeWithin (P : List ℕ → Type 0) (all : List ℕ) : Type 0 where
  pod : List ℕ
  within : length pod ≤ length all
  its : P pod

some_within : (fuel k : ℕ) (left : List ℕ) (P : List ℕ → Type 0) → length left ≤ fuel → SomeOf P (walk_behind k left) → SomeWithin P left
some_within zero k left P f s = absurd (subst (SomeOf P) (walk_behind-end k left (omega lengths)) s)
some_within (suc less) k left P f s = elim (cases_lt (length left) (extent_behind k left)) [
  | inl l ↦ absurd (subst (SomeOf P) (walk_behind-end k left l) s)
  | inr l ↦ elim (subst (SomeOf P) (walk_behind-there k left l) s) [
    | inl p ↦ record { pod = take (extent_behind k left) left; within = (let t = length-take-le (extent_behind k left) left l in omega lengths); its = p }
    | inr r ↦
        let w = some_within less k (drop (extent_behind k left) left) P (omega lengths) r in
        record { pod = w.pod; within = omega lengths; its = w.its }
  ]
]

-- each level takes a header
nests_long : (n : ℕ) (b : List ℕ) → NestsDeeper n b → n < length b
unfolding NestsDeeper
nests_long zero b d = let h = d.0.header in omega lengths
nests_long (suc n) b d =
    let keyed = d.1 in
    let inside = d.2 in
    let w = some_within (length inside) (key_size keyed) inside (λ p. NestsDeeper n (drop (key_size keyed) p)) (omega lengths) d.4 in
    let l = nests_long n (drop (key_size keyed) w.pod) w.its in
    let l2 = body_long (word_at b 4) (body_of b) inside keyed d.3 in
    let l3 = length-body_of b d.0 in
    omega lengths

pub nested_long : (n : ℕ) (keyed : Bool) (left : List ℕ) → NestsDeeperInside n keyed left → n < length left
nested_long n keyed left d =
    let w = some_within (length left) (key_size keyed) left (λ p. NestsDeeper n (drop (key_size keyed) p)) (omega lengths) d in
    let l = nests_long n (drop (key_size keyed) w.pod) w.its in
    omega lengths
