-- Keys are filtered, one property after another.
use Rattle.std.proofs.Common.{◌≡◌, ℕ, [], ◌∷◌, false, sym, subst, Option, Some, None}
use Rattle.std.specs.List.{All}
use Rattle.std.proofs.lemmas.List.Elements.{All-cons, All-nil, All-append}
use Rattle.spa_format.specs.Tree.{Tree, object, Properties, no_properties, property, join_properties}
use Rattle.spa_keyed_objects.specs.Keys.{AtKey, HoldsAtKeys, Offered, contains, key_list, keys_of, offered_at}
use Rattle.spa_filter.specs.Filtering.{Filters, Agree, CanFilter}
use Rattle.spa_filter.specs.Refusals.{IsMissing, AreUnsupported, AreDisjoint, IsRefusedAt, IsKeyRefusal, IsRefusal, AreRefused, OnDisagreement}
use Rattle.spa_filter.specs.declared.error.FilterError.{FilterError}
use Rattle.spa_filter.specs.declared.error.FilterError.TheVariants.{TypeMismatch, Missing, Unsupported, Disjoint, OutOfMemory}
use Rattle.spa_keyed_objects.proofs.Holding.{IsFirstRefused-next, none_agree}
use Rattle.spa_keyed_objects.proofs.KeyLists.{key_list-join}

-- a key that isn't there yet is refused, where both sides' properties go on behind ss with it
module _ (ps qs ss rs : Properties) (k : ℕ) (h : HoldsAtKeys Filters ps qs ss rs) (f : ℕ) (v : Tree) (ts : Properties)
    (at : join_properties ps qs ≡ join_properties ss (property k f v ts)) (agreed : All (AtKey Agree ps qs) (key_list rs))
    (n : contains k (key_list ss) ≡ false) where
  refused_at : (Stands : Option Offered → Option Offered → Type 0) → AtKey Stands ps qs k → IsRefusedAt Stands ps qs k
  refused_at Stands s =
      IsFirstRefused-next Agree Stands ps qs (join_properties ps qs) ss rs ts k f v at h.keys agreed n s

  pub IsRefusal-next : (e : FilterError) → IsKeyRefusal k (offered_at k ps) (offered_at k qs) e → IsRefusal ps qs e
  IsRefusal-next (Missing j) r = subst (λ m. IsRefusedAt IsMissing ps qs m) (sym r.0) (refused_at IsMissing r.1)
  IsRefusal-next (Unsupported j) r = subst (λ m. IsRefusedAt AreUnsupported ps qs m) (sym r.0) (refused_at AreUnsupported r.1)
  IsRefusal-next (Disjoint j) r = subst (λ m. IsRefusedAt AreDisjoint ps qs m) (sym r.0) (refused_at AreDisjoint r.1)
  IsRefusal-next OutOfMemory r = tt
  IsRefusal-next _ r = absurd r

-- the two sides agree under one key more
pub Agree-push : (ps qs rs : Properties) (k f : ℕ) (x : Tree) → All (AtKey Agree ps qs) (key_list rs) →
    AtKey Agree ps qs k → All (AtKey Agree ps qs) (key_list (join_properties rs (property k f x no_properties)))
Agree-push ps qs rs k f x all one =
    subst (All (AtKey Agree ps qs)) (sym (key_list-join rs (property k f x no_properties)))
    (All-append (AtKey Agree ps qs) (key_list rs) (k ∷ []) all (All-cons (AtKey Agree ps qs) k [] one (All-nil (AtKey Agree ps qs))))

-- where they agree, nothing stands there
Agree-missing : (o p : Option Offered) → Agree o p → ¬ (IsMissing o p)
Agree-missing (Some a) (Some b) h s = absurd s
Agree-missing (Some a) None h s = h s
Agree-missing None (Some b) h s = h s
Agree-missing None None h s = absurd s

Agree-unsupported : (o p : Option Offered) → Agree o p → ¬ (AreUnsupported o p)
Agree-unsupported (Some a) (Some b) h s = s h.0
Agree-unsupported (Some a) None h s = absurd s
Agree-unsupported None p h s = absurd s

Agree-disjoint : (o p : Option Offered) → Agree o p → ¬ (AreDisjoint o p)
Agree-disjoint (Some a) (Some b) h s = s.1 h.1
Agree-disjoint (Some a) None h s = absurd s
Agree-disjoint None p h s = absurd s

-- two objects that are refused for another cause than memory can't be filtered
pub cannot_filter : (v w : Tree) (e : FilterError) → AreRefused v w e → OnDisagreement (¬ (CanFilter v w)) e
cannot_filter (object t i ps) (object u j qs) TypeMismatch h = λ can. h can.0
cannot_filter (object t i ps) (object u j qs) (Missing k) h =
    λ can. none_agree Agree IsMissing ps qs Agree-missing (keys_of (join_properties ps qs)) k h.1 can.1
cannot_filter (object t i ps) (object u j qs) (Unsupported k) h =
    λ can. none_agree Agree AreUnsupported ps qs Agree-unsupported (keys_of (join_properties ps qs)) k h.1 can.1
cannot_filter (object t i ps) (object u j qs) (Disjoint k) h =
    λ can. none_agree Agree AreDisjoint ps qs Agree-disjoint (keys_of (join_properties ps qs)) k h.1 can.1
cannot_filter (object t i ps) (object u j qs) OutOfMemory h = tt
cannot_filter (object t i ps) (object u j qs) e h = absurd h.1
cannot_filter (object t i ps) _ e h = absurd h
cannot_filter _ w e h = absurd h

-- what properties of two objects of one type are refused for, the objects are
pub AreRefused-properties : (t i u j : ℕ) (ps qs : Properties) (e : FilterError) → u ≡ t → IsRefusal ps qs e →
    AreRefused (object t i ps) (object u j qs) e
AreRefused-properties t i u j ps qs (Missing k) same h = (same, h)
AreRefused-properties t i u j ps qs (Unsupported k) same h = (same, h)
AreRefused-properties t i u j ps qs (Disjoint k) same h = (same, h)
AreRefused-properties t i u j ps qs OutOfMemory same h = (same, h)
AreRefused-properties t i u j ps qs _ same h = absurd h
