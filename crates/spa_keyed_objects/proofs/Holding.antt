-- A relation that holds at each key, as properties grow; and the first key under which the two sides are refused.
use Rattle.std.proofs.Common.{◌≡◌, ℕ, List, [], ◌∷◌, ◌++◌, true, false, refl, sym, ap, ◌∙◌, subst, arith, Option, Some, None}
use Rattle.std.specs.List.{All, Contains}
use Rattle.std.proofs.lemmas.List.Elements.{All-contains, Contains-append_right}
use Rattle.spa_format.specs.Tree.{Tree, Properties, no_properties, property, join_properties}
use Rattle.spa_keyed_objects.specs.Keys.{AtKey, HoldsAtKeys, HoldsOfEach, IsFirstRefused, Offered, contains, distinct_of, key_list, keys_of, offered, offered_at}
use Rattle.spa_keyed_objects.proofs.KeyLists.{distinct_of-new, distinct_of-seen, distinct_of-split, key_list-join}
use Rattle.spa_keyed_objects.proofs.Lookups.{offered_at-absent, offered_at-before, offered_at-behind, offered_at-joined}

module _ (R : Option Offered → Option Offered → ℕ → Tree → Type 0) (ps qs : Properties) where
  HoldsOfEach-push : (rs : Properties) (k f : ℕ) (x : Tree) → HoldsOfEach R ps qs rs →
      R (offered_at k ps) (offered_at k qs) f x →
      HoldsOfEach R ps qs (join_properties rs (property k f x no_properties))
  HoldsOfEach-push no_properties k f x h s = (s, tt)
  HoldsOfEach-push (property j g y rs) k f x h s = (h.0, HoldsOfEach-push rs k f x h.1 s)

  -- no property yet
  pub HoldsAtKeys-none : HoldsAtKeys R ps qs no_properties no_properties
  HoldsAtKeys-none = record { keys = refl; values = tt }

  -- the relation holds at each key of ss
  module _ (ss rs : Properties) (h : HoldsAtKeys R ps qs ss rs) (k f : ℕ) (v : Tree) where
    more_keys : keys_of (join_properties ss (property k f v no_properties)) ≡ distinct_of (key_list ss ++ k ∷ [])
    more_keys = ap distinct_of (key_list-join ss (property k f v no_properties))

    -- one more property in ss, of a key that is there
    pub HoldsAtKeys-seen : contains k (key_list ss) ≡ true →
        HoldsAtKeys R ps qs (join_properties ss (property k f v no_properties)) rs
    HoldsAtKeys-seen there =
        record { keys = h.keys ∙ sym (more_keys ∙ distinct_of-seen k (key_list ss) there); values = h.values }

    -- one more property in both, of a key that isn't there
    module _ (n : contains k (key_list ss) ≡ false) (g : ℕ) (x : Tree) where
      pub HoldsAtKeys-new : R (offered_at k ps) (offered_at k qs) g x →
          HoldsAtKeys R ps qs (join_properties ss (property k f v no_properties))
          (join_properties rs (property k g x no_properties))
      HoldsAtKeys-new s =
          record {
            keys =
                key_list-join rs (property k g x no_properties) ∙ ap (λ ks. ks ++ k ∷ []) h.keys
                ∙ sym (more_keys ∙ distinct_of-new k (key_list ss) n);
            values = HoldsOfEach-push rs k g x h.values s;
          }

      -- where it comes next of the first side's properties
      pub HoldsAtKeys-first : (ts : Properties) → ps ≡ join_properties ss (property k f v ts) →
          R (Some (offered f v)) (offered_at k qs) g x →
          HoldsAtKeys R ps qs (join_properties ss (property k f v no_properties))
          (join_properties rs (property k g x no_properties))
      HoldsAtKeys-first ts at s =
          let ours = offered_at-joined k f v ss ts ps at (offered_at-absent k ss n) in
          HoldsAtKeys-new (subst (λ o. R o (offered_at k qs) g x) (sym ours) s)

-- what is found under a key that only the second side has, of which `us` come before it
pub first_lacks : (ps us : Properties) (k : ℕ) → contains k (key_list (join_properties ps us)) ≡ false → offered_at k ps ≡ None
first_lacks ps us k n = offered_at-before k ps us (offered_at-absent k (join_properties ps us) n)

pub second_offers : (ps qs us ts : Properties) (k f : ℕ) (v : Tree) → qs ≡ join_properties us (property k f v ts) →
    contains k (key_list (join_properties ps us)) ≡ false → offered_at k qs ≡ Some (offered f v)
second_offers ps qs us ts k f v at n =
    let gone = offered_at-absent k (join_properties ps us) n in
    offered_at-joined k f v us ts qs at (sym (offered_at-behind k ps us (first_lacks ps us k n)) ∙ gone)

-- one more property in both, where it comes next of the second side's properties, and the first side lacks its key
pub HoldsAtKeys-other : (R : Option Offered → Option Offered → ℕ → Tree → Type 0) (ps qs us rs : Properties) →
    HoldsAtKeys R ps qs (join_properties ps us) rs → (k f : ℕ) (v : Tree) →
    contains k (key_list (join_properties ps us)) ≡ false → (g : ℕ) (x : Tree) (ts : Properties) →
    qs ≡ join_properties us (property k f v ts) → R None (Some (offered f v)) g x →
    HoldsAtKeys R ps qs (join_properties (join_properties ps us) (property k f v no_properties))
    (join_properties rs (property k g x no_properties))
HoldsAtKeys-other R ps qs us rs h k f v n g x ts at s =
    let ours : Option Offered → Type 0 = λ o. R o (offered_at k qs) g x in
    let theirs : Option Offered → Type 0 = λ o. R None o g x in
    HoldsAtKeys-new R ps qs (join_properties ps us) rs h k f v n g x
    (subst ours (sym (first_lacks ps us k n)) (subst theirs (sym (second_offers ps qs us ts k f v at n)) s))

module _ (Agree Stands : Option Offered → Option Offered → Type 0) (ps qs : Properties) where
  -- a key that isn't among those before is refused, where the properties go on with it
  pub IsFirstRefused-next : (whole ss rs ts : Properties) (k f : ℕ) (v : Tree) →
      whole ≡ join_properties ss (property k f v ts) → key_list rs ≡ keys_of ss →
      All (AtKey Agree ps qs) (key_list rs) → contains k (key_list ss) ≡ false → AtKey Stands ps qs k →
      IsFirstRefused Agree Stands ps qs (keys_of whole) k
  IsFirstRefused-next whole ss rs ts k f v at keys agreed n s =
      let split = distinct_of-split k (key_list ts) (key_list ss) n in
      record {
        before = key_list rs;
        after = split.0;
        order =
            ap keys_of at ∙ ap distinct_of (key_list-join ss (property k f v ts)) ∙ split.1
            ∙ ap (λ ks. ks ++ k ∷ split.0) (sym keys);
        agreed = agreed;
        stands = s;
      }

  -- two sides that are refused at a key don't agree under each
  pub none_agree : ((o p : Option Offered) → Agree o p → ¬ (Stands o p)) → (keys : List ℕ) (k : ℕ) →
      IsFirstRefused Agree Stands ps qs keys k → ¬ (All (AtKey Agree ps qs) keys)
  none_agree against keys k r all =
      let first : Contains (k ∷ r.after) k = (0, omega arith, refl) in
      let there = Contains-append_right r.before (k ∷ r.after) k first in
      let among = subst (λ ks. Contains ks k) (sym r.order) there in
      let agree = All-contains (AtKey Agree ps qs) keys k all among in
      against (offered_at k ps) (offered_at k qs) agree r.stands
