-- The objects at the fronts of two inputs, filtered, and why they aren't.
use Rattle.std.proofs.Common.{◌≡◌, ◌⊎◌, List, ℕ, inl, inr, refl, ap, ◌∙◌, subst, None}
use Rattle.std.specs.List.{All}
use Rattle.std.proofs.lemmas.List.Elements.{All-nil}
use Rattle.spa_format.specs.Pod.{IsPod}
use Rattle.spa_format.specs.Tree.{Tree, object, Properties, no_properties, property, join_properties}
use Rattle.spa_format.proofs.Sequences.{join_properties-assoc}
use Rattle.spa_keyed_objects.specs.Keys.{AtKey, offered_at}
use Rattle.spa_keyed_objects.proofs.Holding.{HoldsAtKeys-none}
use Rattle.spa_keyed_objects.proofs.Lookups.{offered_at-joined}
use Rattle.spa_filter.specs.Filtering.{Agree, CanFilter, Filters, IsFilter}
use Rattle.spa_filter.specs.Refusals.{AreRefused, IsKeyRefusal, IsRefusal, OnDisagreement}
use Rattle.spa_keyed_objects.specs.declared.side.Side.TheVariants.{First, Second}
use Rattle.spa_filter.specs.declared.error.FilterError.{FilterError}
use Rattle.spa_filter.specs.declared.error.FilterError.TheVariants.{TypeMismatch, Missing, Unsupported, Disjoint, Unread, NotObject, TooLarge, OutOfMemory}
use Rattle.spa_filter.proofs.Agreeing.{AreRefused-properties, IsRefusal-next, cannot_filter}
use Rattle.spa_filter.proofs.CommonPods.{plain_differ, plain_typed}
use Rattle.spa_object_view.specs.Fronts.{BeginBoth, IsObject}
use Rattle.spa_object_view.specs.Meeting.{AreOfOneType, IsRefusedNext, Meets, MeetsTooLarge}
use Rattle.spa_object_view.specs.Written.{AreApartAtFirst}
use Rattle.spa_object_view.proofs.Both.{never_both, other_first, other_second}
use Rattle.spa_object_view.proofs.Rules.{all_agree, both, holds_by, never_one_type}
use Rattle.spa_filter_pods.specs.Fronts.{AreFrontsRefused, FilterTooLarge, FiltersAt, OnNoFilter}

-- two objects that meet by the rule can be filtered, and to that in which they meet
pub filtered : (v w met : Tree) → Meets FiltersAt v w met → CanFilter v w × IsFilter v w met
filtered (object t i ps) (object u j qs) (object s l met) h = (
  (h.0, subst (All (AtKey Agree ps qs)) h.3.keys (all_agree {Holds = FiltersAt} {Agree = Agree} (λ o p f x r. r.0) ps qs met h.3.values)),
  (h.0, h.1, h.2, holds_by {Holds = FiltersAt} {Other = Filters} (λ o p f x r. r.1) ps qs (join_properties ps qs) met h.3),
)
filtered (object t i ps) (object u j qs) met h = absurd h
filtered (object t i ps) w met h = absurd h
filtered v w met h = absurd h

-- the first key of all, under which both sides have values that are apart, is refused,
apart_refused : (ps qs : Properties) (key : ℕ) → AreApartAtFirst ps qs key → IsRefusal ps qs (Disjoint key)
apart_refused ps qs key a =
    let f = a.our.flags in
    let v = a.our.value in
    let first = offered_at-joined key f v no_properties a.behind ps a.first refl in
    let disjoint = plain_differ v a.their.value (plain_typed v a.apart.first) (plain_typed a.their.value a.apart.second) a.apart.differ in
    IsRefusal-next ps qs no_properties no_properties key (HoldsAtKeys-none Filters ps qs) f v (join_properties a.behind qs) (ap (λ z. join_properties z qs) a.first)
    (All-nil (AtKey Agree ps qs)) refl (Disjoint key) (refl, rw (first, a.found) disjoint)

-- and a key at which the rule refuses
next_refused : (ps qs : Properties) (e : FilterError) → IsRefusedNext FiltersAt IsKeyRefusal ps qs e → IsRefusal ps qs e
next_refused ps qs e r = by_place r.place
  where
    at_place : (ts : Properties) → join_properties ps qs ≡ join_properties r.done (property r.key r.flags r.value ts) → IsRefusal ps qs e
    at_place ts along =
        IsRefusal-next ps qs r.done r.met r.key (holds_by {Holds = FiltersAt} {Other = Filters} (λ o p f x h. h.1) ps qs r.done r.met r.holds) r.flags r.value ts along
        (all_agree {Holds = FiltersAt} {Agree = Agree} (λ o p f x h. h.0) ps qs r.met r.holds.values) r.fresh e r.refused

    by_place : ((ps ≡ join_properties r.done (property r.key r.flags r.value r.behind))
        ⊎ ((offered_at r.key ps ≡ None) × (join_properties ps qs ≡ join_properties r.done (property r.key r.flags r.value r.behind)))) → IsRefusal ps qs e
    by_place (inl all) =
        at_place (join_properties r.behind qs)
        (ap (λ z. join_properties z qs) all ∙ join_properties-assoc r.done (property r.key r.flags r.value r.behind) qs)
    by_place (inr p) = at_place r.behind p.1

one_type : {Fact : Properties → Properties → Type 0} (e : FilterError) → ((ps qs : Properties) → Fact ps qs → IsRefusal ps qs e) → (v w : Tree) → AreOfOneType Fact v w → AreRefused v w e
one_type e f (object t i ps) (object u j qs) h = AreRefused-properties t i u j ps qs e h.0 (f ps qs h.1)
one_type e f (object t i ps) w h = absurd h
one_type e f v w h = absurd h

-- why two inputs don't meet is a refusal of theirs
module _ (a b : List ℕ) where
  pub apart : (key : ℕ) → BeginBoth a b (AreOfOneType (λ ps qs. AreApartAtFirst ps qs key)) → BeginBoth a b (λ v w. AreRefused v w (Disjoint key))
  apart key h = both (one_type (Disjoint key) (λ ps qs. apart_refused ps qs key)) h

  at_key : (e : FilterError) → BeginBoth a b (AreOfOneType (λ ps qs. IsRefusedNext FiltersAt IsKeyRefusal ps qs e)) → BeginBoth a b (λ v w. AreRefused v w e)
  at_key e h = both (one_type e (λ ps qs. next_refused ps qs e)) h

  pub refused : (e : FilterError) → BeginBoth a b (AreOfOneType (λ ps qs. IsRefusedNext FiltersAt IsKeyRefusal ps qs e)) → AreFrontsRefused a b e
  refused (Missing k) h = at_key (Missing k) h
  refused (Unsupported k) h = at_key (Unsupported k) h
  refused (Disjoint k) h = at_key (Disjoint k) h
  refused OutOfMemory h = inr (inr (at_key OutOfMemory h))
  refused _ h = absurd (never_one_type (λ ps qs r. r.refused) h.ours h.theirs h.holds)

  pub too_large : BeginBoth a b (MeetsTooLarge FiltersAt) → BeginBoth a b FilterTooLarge
  too_large h = both (λ v w m. record { met = m.met; filter = (filtered v w m.met m.meet).1; large = m.large }) h

first_object : (v w : Tree) → CanFilter v w → IsObject v
first_object (object t i ps) w h = tt
first_object v w h = absurd h

second_object : (v w : Tree) → CanFilter v w → IsObject w
second_object (object t i ps) (object u j qs) h = tt
second_object (object t i ps) w h = absurd h
second_object v w h = absurd h

-- the law that a pod is of one value
module _ (one : (b : List ℕ) (v w : Tree) → IsPod b v → IsPod b w → v ≡ w) (a b : List ℕ) where
  no_pair : (e : FilterError) → BeginBoth a b (λ v w. AreRefused v w e) → OnNoFilter (¬ (BeginBoth a b CanFilter)) e
  no_pair e h = of_error e (cannot_filter h.ours h.theirs e h.holds)
    where
      of_error : (x : FilterError) → OnDisagreement (¬ (CanFilter h.ours h.theirs)) x → OnNoFilter (¬ (BeginBoth a b CanFilter)) x
      of_error OutOfMemory n = tt
      of_error TooLarge n = tt
      of_error _ n = never_both one a b CanFilter h.ours h.theirs h.first h.second n

  -- what is refused can't be filtered, where memory and size aren't the cause
  pub no_filter : (e : FilterError) → AreFrontsRefused a b e → OnNoFilter (¬ (BeginBoth a b CanFilter)) e
  no_filter (Unread First) h = λ k. h k.ours k.first
  no_filter (Unread Second) h = λ k. h.1 k.theirs k.second
  no_filter (NotObject First) h = other_first one a b CanFilter first_object h
  no_filter (NotObject Second) h = other_second one a b CanFilter second_object h.1
  no_filter TooLarge h = tt
  no_filter OutOfMemory h = tt
  no_filter TypeMismatch h = no_pair TypeMismatch h
  no_filter (Missing k) h = no_pair (Missing k) h
  no_filter (Unsupported k) h = no_pair (Unsupported k) h
  no_filter (Disjoint k) h = no_pair (Disjoint k) h
