-- Steps of a negotiation: one more property is looked at.
use Rattle.std.proofs.Common.{◌≡◌, ℕ, ◌+◌, ◌<◌, Bool, true, false, List, length, take, drop, get_or, refl, sym, ap, ◌∙◌, subst, Some}
use Rattle.std.specs.BTreeSet.{BTreeSet}
use Rattle.spa_format.specs.Tree.{Tree, Properties, no_properties, property, join_properties}
use Rattle.spa_format.proofs.Sequences.{join_properties-assoc}
use Rattle.spa_value.specs.declared.object.Property.{Property}
use Rattle.spa_value.specs.View.{view}
use Rattle.spa_value.specs.Views.{property_views, property_view}
use Rattle.spa_value.specs.ObjectLaws.{PropertyListsGoOn, PropertyListsAreCut}
use Rattle.spa_negotiate.specs.declared.error.NegotiateError.{NegotiateError}
use Rattle.spa_negotiate.specs.declared.negotiation.Settled.{Settled}
use Rattle.spa_keyed_objects.specs.Keys.{HoldsAtKeys}
use Rattle.spa_keyed_objects.specs.PropertyLists.{HasKeys, IsAdded, offered_in, offered_by}
use Rattle.spa_keyed_objects.proofs.Holding.{HoldsAtKeys-seen, HoldsAtKeys-first, HoldsAtKeys-other}
use Rattle.spa_keyed_objects.proofs.KeySets.{there, absent, more_keys}
use Rattle.spa_negotiate.specs.Admits.{IsPlain, plain_of}
use Rattle.spa_negotiate.specs.Meeting.{IsMetAt}
use Rattle.spa_negotiate.specs.PropertyLists.{AreSettled, IsSettled}
use Rattle.spa_negotiate.specs.Refusals.{IsKeyRefusal, IsRefusal}
use Rattle.spa_negotiate.proofs.Settlements.{IsRefusal-first}
use Rattle.spa_filter.proofs.FixedObjects.{IsPlain-plain_of}

-- the first side's properties up to the i-th
abbrev pub firsts : (ours : List Property) → ℕ → Properties
firsts ours i = property_views (take i ours)

-- all of the first side's properties, and the second side's up to the i-th
abbrev pub others : (ours theirs : List Property) → ℕ → Properties
others ours theirs i = join_properties (property_views ours) (property_views (take i theirs))

-- a property with this key and value, and empty flags, was appended
abbrev IsPushed : (old : List Property) → ℕ → Tree → (new : List Property) → Type 0
IsPushed old key x new =
    property_views new ≡ join_properties (property_views old) (property key 0 x no_properties)

-- The i-th property of a side, p, is looked at, where s was settled so far. Its key was added to the keys, in which it was new or not.
module _ (go_on : PropertyListsGoOn) (are_cut : PropertyListsAreCut) (ours theirs : List Property)
    (i : ℕ) (p : Property) (s : Settled) (is_new : Bool) (keys : BTreeSet ℕ) (added : IsAdded s.keys p.key is_new keys) where
  -- p is the first side's: the keys before it are settled
  module _ (l : i < length ours) (e : p ≡ get_or ours i p)
      (h : IsSettled ours theirs (firsts ours i) s) where
    one_more_first : join_properties (firsts ours i) (property_view p) ≡ firsts ours (i + 1)
    one_more_first = sym (go_on ours i p l e)

    pub first_keys : HasKeys keys (firsts ours (i + 1))
    first_keys = subst (HasKeys keys) one_more_first (more_keys p s.keys keys is_new added (firsts ours i) h.keys)

    -- its key was there
    pub first_seen : is_new ≡ false → AreSettled ours theirs (firsts ours (i + 1)) s.met.properties.items
    first_seen was =
        let os = property_views ours in
        let ts = property_views theirs in
        let met = property_views s.met.properties.items in
        let before = firsts ours i in
        let key = there p s.keys keys is_new added before h.keys was in
        subst (λ ss. AreSettled ours theirs ss s.met.properties.items) one_more_first
        (HoldsAtKeys-seen IsMetAt os ts before met h.settles p.key p.flags.0 (view p.value) key)

    -- its key was not there, and x settles it
    pub first_new : is_new ≡ true → (now : List Property) (x : Tree) →
        IsPushed s.met.properties.items p.key x now →
        IsMetAt (Some (offered_by p)) (offered_in p.key theirs) 0 x →
        AreSettled ours theirs (firsts ours (i + 1)) now
    first_new was now x m settles =
        let os = property_views ours in
        let ts = property_views theirs in
        let met = property_views s.met.properties.items in
        let before = firsts ours i in
        let behind = property_views (drop (i + 1) ours) in
        let at = are_cut ours i p l e in
        let key = absent p s.keys keys is_new added before h.keys was in
        let new =
        HoldsAtKeys-first IsMetAt os ts before met h.settles p.key p.flags.0 (view p.value) key 0 x behind at settles in
        subst (λ ss. AreSettled ours theirs ss now) one_more_first
        (subst (λ rs. HoldsAtKeys IsMetAt os ts (join_properties before (property_view p)) rs) (sym m) new)

    -- its key was not there, and is refused
    pub first_refused : is_new ≡ true → (why : NegotiateError) →
        IsKeyRefusal p.key (Some (offered_by p)) (offered_in p.key theirs) why →
        IsRefusal (property_views ours) (property_views theirs) why
    first_refused was why r =
        let os = property_views ours in
        let ts = property_views theirs in
        let met = property_views s.met.properties.items in
        let before = firsts ours i in
        let behind = property_views (drop (i + 1) ours) in
        let at = are_cut ours i p l e in
        let key = absent p s.keys keys is_new added before h.keys was in
        IsRefusal-first os ts before met behind p.key p.flags.0 (view p.value) at h.settles key why r

  -- p is the second side's: the first side's keys are settled, and the second side's before it
  module _ (l : i < length theirs) (e : p ≡ get_or theirs i p)
      (h : IsSettled ours theirs (others ours theirs i) s) where
    one_more_other : join_properties (others ours theirs i) (property_view p)
        ≡ others ours theirs (i + 1)
    one_more_other =
        join_properties-assoc (property_views ours) (firsts theirs i) (property_view p)
        ∙ ap (join_properties (property_views ours)) (sym (go_on theirs i p l e))

    pub other_keys : HasKeys keys (others ours theirs (i + 1))
    other_keys = subst (HasKeys keys) one_more_other (more_keys p s.keys keys is_new added (others ours theirs i) h.keys)

    -- its key was there
    pub other_seen : is_new ≡ false →
        AreSettled ours theirs (others ours theirs (i + 1)) s.met.properties.items
    other_seen was =
        let os = property_views ours in
        let ts = property_views theirs in
        let met = property_views s.met.properties.items in
        let before = others ours theirs i in
        let key = there p s.keys keys is_new added before h.keys was in
        subst (λ ss. AreSettled ours theirs ss s.met.properties.items) one_more_other
        (HoldsAtKeys-seen IsMetAt os ts before met h.settles p.key p.flags.0 (view p.value) key)

    -- its key was not there, and its default settles it
    pub other_new : is_new ≡ true → (now : List Property) (x : Tree) →
        IsPushed s.met.properties.items p.key x now → x ≡ plain_of (view p.value) →
        AreSettled ours theirs (others ours theirs (i + 1)) now
    other_new was now x m settles =
        let os = property_views ours in
        let ts = property_views theirs in
        let met = property_views s.met.properties.items in
        let before = others ours theirs i in
        let behind = property_views (drop (i + 1) theirs) in
        let at = are_cut theirs i p l e in
        let key = absent p s.keys keys is_new added before h.keys was in
        let plain = subst IsPlain (sym settles) (IsPlain-plain_of (view p.value)) in
        let new =
        HoldsAtKeys-other IsMetAt os ts (firsts theirs i) met h.settles p.key p.flags.0 (view p.value) key 0 x behind at
        (refl, plain, tt, settles) in
        subst (λ ss. AreSettled ours theirs ss now) one_more_other
        (subst (λ rs. HoldsAtKeys IsMetAt os ts (join_properties before (property_view p)) rs) (sym m) new)
