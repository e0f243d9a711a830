-- A map from keys to places, with one more key.
use Rattle.std.proofs.Common.{◌≡◌, ℕ, ◌+◌, ◌<◌, ◌==◌, Bool, true, false, cond, if◌then◌else◌, List, ◌∷◌, length, drop, get_or, refl, sym, ap, ◌∙◌, subst, Option, Some}
use Rattle.std.specs.BTreeMap.{BTreeMap, get, is_at, Updates}
use Rattle.std.specs.Cmp.{unsigned_Decides, nat_cmp_is}
use Rattle.std.specs.Ordering.{is_eq, nat_cmp}
use Rattle.std.specs.declared.cmp.Ordering.TheVariants.{Less, Equal, Greater}
use Rattle.std.specs.Prelude.{nat_lt}
use Rattle.std.proofs.lemmas.List.{drop_more, get_or_default}
use Rattle.spa_keyed_objects.specs.Keys.{Offered}
use Rattle.spa_value.specs.declared.object.Property.{Property}
use Rattle.spa_keyed_objects.specs.PropertyLists.{offered_in, offered_by, IsFoundAt}

-- two keys compare as equal where they are
is_eq-same : (j : ℕ) → is_eq (nat_cmp j j) ≡ true
is_eq-same j = sym (ap is_eq (nat_cmp_is j j Equal refl))

is_eq-other_by : (b c : Bool) → c ≡ false → is_eq (cond b Less (cond c Equal Greater)) ≡ false
is_eq-other_by true c h = refl
is_eq-other_by false c h = ap (λ b. is_eq (cond b Equal Greater)) h

-- the order's test of two keys is that of numbers
is_at-key_by : (j k : ℕ) (b : Bool) → (j == k) ≡ b → is_at (nat_cmp j) k ≡ b
is_at-key_by j k true e =
    let same = (unsigned_Decides j k).0 e in
    subst (λ n. is_eq (nat_cmp j n) ≡ true) same (is_eq-same j)
is_at-key_by j k false e = is_eq-other_by (nat_lt j k) (j == k) e

is_at-key : (j k : ℕ) → is_at (nat_cmp j) k ≡ (j == k)
is_at-key j k = is_at-key_by j k (j == k) refl

-- The property p stands at a place, and this is known of the places behind it.
module _ (ps : List Property) (at : ℕ) (p : Property) (l : at < length ps) (e : p ≡ get_or ps at p)
  where
    -- what is found from the place on
    found_from : (k : ℕ) →
        offered_in k (drop at ps) ≡ (if p.key == k then Some (offered_by p) else offered_in k (drop (at + 1) ps))
    found_from k =
        ap (offered_in k) (drop_more ps at p l ∙ ap (λ x. x ∷ drop (at + 1) ps) (sym e))

    same_value : (found : Option Offered) → found ≡ Some (offered_by p) → (q : Property) →
        q ≡ get_or ps at q → found ≡ Some (offered_by q)
    same_value found h q r =
        let same : p ≡ q = e ∙ get_or_default ps at p q l ∙ sym r in
        h ∙ ap (λ x. Some (offered_by x)) same

    placed_by : (k : ℕ) (b : Bool) (old : Option ℕ) → IsFoundAt ps (offered_in k (drop (at + 1) ps)) old →
        IsFoundAt ps (if b then Some (offered_by p) else offered_in k (drop (at + 1) ps)) (cond b (Some at) old)
    placed_by k true old h = (l, same_value (Some (offered_by p)) refl)
    placed_by k false old h = h

    -- one more place
    pub placed : (left : ℕ) → left ≡ at + 1 → (old new : BTreeMap ℕ ℕ) →
        ((k : ℕ) → IsFoundAt ps (offered_in k (drop left ps)) (get nat_cmp old k)) →
        Updates nat_cmp old new p.key (Some at) →
        (k : ℕ) → IsFoundAt ps (offered_in k (drop at ps)) (get nat_cmp new k)
    placed left next old new h u k =
        let behind = subst (λ n. IsFoundAt ps (offered_in k (drop n ps)) (get nat_cmp old k)) next (h k) in
        let now : get nat_cmp new k ≡ cond (p.key == k) (Some at) (get nat_cmp old k) =
        u.0 k ∙ ap (λ b. cond b (Some at) (get nat_cmp old k)) (is_at-key p.key k) in
        subst (λ found. IsFoundAt ps found (get nat_cmp new k)) (sym (found_from k))
        (subst (IsFoundAt ps (if p.key == k then Some (offered_by p) else offered_in k (drop (at + 1) ps)))
        (sym now) (placed_by k (p.key == k) (get nat_cmp old k) behind))
