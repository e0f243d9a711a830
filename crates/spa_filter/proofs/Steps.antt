-- Steps of filtering: one more property of a side is looked at.
use Rattle.std.proofs.Common.{◌≡◌, ℕ, ◌+◌, ◌<◌, Bool, true, false, List, length, take, drop, get_or, sym, ap, ◌∙◌, subst, None}
use Rattle.std.specs.BTreeSet.{BTreeSet}
use Rattle.std.specs.List.{All}
use Rattle.spa_format.specs.Tree.{Properties, no_properties, property, join_properties}
use Rattle.spa_format.proofs.Sequences.{join_properties-assoc}
use Rattle.spa_value.specs.declared.object.Property.{Property}
use Rattle.spa_value.specs.View.{view}
use Rattle.spa_value.specs.Views.{property_views, property_view}
use Rattle.spa_value.specs.ObjectLaws.{PropertyListsGoOn, PropertyListsAreCut}
use Rattle.spa_keyed_objects.specs.Keys.{AtKey, HoldsAtKeys, key_list}
use Rattle.spa_keyed_objects.specs.PropertyLists.{HasKeys, IsAdded, IsPushed, offered_in}
use Rattle.spa_keyed_objects.proofs.Holding.{HoldsAtKeys-seen, HoldsAtKeys-new}
use Rattle.spa_keyed_objects.proofs.Lookups.{offered_at-either}
use Rattle.spa_keyed_objects.proofs.KeySets.{there, absent, more_keys}
use Rattle.spa_filter.specs.declared.error.FilterError.{FilterError}
use Rattle.spa_filter.specs.declared.filtering.Filtered.{Filtered}
use Rattle.spa_filter.specs.Filtering.{Filters, Agree}
use Rattle.spa_filter.specs.PropertyLists.{IsFiltered, IsPart}
use Rattle.spa_filter.specs.Refusals.{IsKeyRefusal, IsRefusal}
use Rattle.spa_filter.proofs.Agreeing.{IsRefusal-next, Agree-push}

-- what stands before a side, and the side's properties up to the i-th
abbrev pub these : (before side : List Property) → ℕ → Properties
these before side i = join_properties (property_views before) (property_views (take i side))

-- p is the i-th property of a side, and f was filtered so far
module _ (go_on : PropertyListsGoOn) (are_cut : PropertyListsAreCut) (ours theirs before side : List Property)
    (part : IsPart ours theirs before side) (i : ℕ) (p : Property) (l : i < length side) (e : p ≡ get_or side i p)
    (f : Filtered) (h : IsFiltered ours theirs (these before side i) f) where
  abbrev after : Properties
  after = property_views (drop (i + 1) side)

  abbrev met : Properties
  met = property_views f.met.properties.items

  one_more : join_properties (these before side i) (property_view p) ≡ these before side (i + 1)
  one_more =
      join_properties-assoc (property_views before) (property_views (take i side)) (property_view p)
      ∙ ap (join_properties (property_views before)) (sym (go_on side i p l e))

  -- both sides' properties go on with it
  at : join_properties (property_views ours) (property_views theirs)
      ≡ join_properties (these before side i) (property p.key p.flags.0 (view p.value) (join_properties after part.rest))
  at =
      let behind = property p.key p.flags.0 (view p.value) after in
      part.whole
      ∙ ap (λ s. join_properties (join_properties (property_views before) s) part.rest) (are_cut side i p l e)
      ∙ ap (λ s. join_properties s part.rest)
      (sym (join_properties-assoc (property_views before) (property_views (take i side)) behind))
      ∙ join_properties-assoc (these before side i) behind part.rest

  -- its key was added to the keys, in which it was new or not
  module _ (is_new : Bool) (keys : BTreeSet ℕ) (added : IsAdded f.keys p.key is_new keys) where
    keys_now : HasKeys keys (these before side (i + 1))
    keys_now = subst (HasKeys keys) one_more (more_keys p f.keys keys is_new added (these before side i) h.keys)

    -- its key was there
    pub seen : is_new ≡ false → IsFiltered ours theirs (these before side (i + 1)) (record { met = f.met; keys = keys })
    seen was =
        record {
          filters =
              subst (λ ss. HoldsAtKeys Filters (property_views ours) (property_views theirs) ss met) one_more
              (HoldsAtKeys-seen Filters (property_views ours) (property_views theirs) (these before side i) met h.filters
              p.key p.flags.0 (view p.value) (there p f.keys keys is_new added (these before side i) h.keys was));
          agree = h.agree;
          keys = keys_now;
        }

    -- its key was not there, and q was appended, to which the two sides filter under it
    pub new : is_new ≡ true → (q : Property) (now : Filtered) → q.key ≡ p.key →
        IsPushed f.met.properties.items q now.met.properties.items → now.keys ≡ keys →
        Filters (offered_in p.key ours) (offered_in p.key theirs) q.flags.0 (view q.value) →
        Agree (offered_in p.key ours) (offered_in p.key theirs) → IsFiltered ours theirs (these before side (i + 1)) now
    new was q now same pushed kept filters agree =
        let pushed_here = pushed ∙ ap (λ k. join_properties met (property k q.flags.0 (view q.value) no_properties)) same in
        let added =
        HoldsAtKeys-new Filters (property_views ours) (property_views theirs) (these before side i) met h.filters
        p.key p.flags.0 (view p.value) (absent p f.keys keys is_new added (these before side i) h.keys was) q.flags.0 (view q.value) filters in
        let all =
        Agree-push (property_views ours) (property_views theirs) met p.key q.flags.0 (view q.value) h.agree agree in
        record {
          filters =
              subst (λ rs. HoldsAtKeys Filters (property_views ours) (property_views theirs) (these before side (i + 1)) rs) (sym pushed_here)
              (subst (λ ss. HoldsAtKeys Filters (property_views ours) (property_views theirs) ss (join_properties met (property p.key q.flags.0 (view q.value) no_properties))) one_more added);
          agree = subst (λ rs. All (AtKey Agree (property_views ours) (property_views theirs)) (key_list rs)) (sym pushed_here) all;
          keys = subst (λ ks. HasKeys ks (these before side (i + 1))) (sym kept) keys_now;
        }

    -- its key was not there, and is found on one of the sides
    pub key_found : is_new ≡ true → offered_in p.key ours ≡ None → ¬ (offered_in p.key theirs ≡ None)
    key_found was =
        offered_at-either (property_views ours) (property_views theirs) (these before side i)
        (join_properties after part.rest) p.key p.flags.0 (view p.value) at (absent p f.keys keys is_new added (these before side i) h.keys was)

    -- its key was not there, and is refused
    pub refused : is_new ≡ true → (why : FilterError) →
        IsKeyRefusal p.key (offered_in p.key ours) (offered_in p.key theirs) why →
        IsRefusal (property_views ours) (property_views theirs) why
    refused was why r =
        IsRefusal-next (property_views ours) (property_views theirs) (these before side i) met p.key h.filters
        p.flags.0 (view p.value) (join_properties after part.rest) at h.agree (absent p f.keys keys is_new added (these before side i) h.keys was) why r
