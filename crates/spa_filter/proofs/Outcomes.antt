-- From what two offers admit to what the two values admit that make them.
use Rattle.std.proofs.Common.{◌↔◌, ◌≡◌, ◌≢◌, ℕ, refl, sym, ap, ◌∙◌, subst, Option, Some, None, Result, Ok, Err, IfOk}
use Rattle.std.proofs.lemmas.Option.{none-some}
use Rattle.spa_format.specs.Kind.{Kind, Fixed, kind_of}
use Rattle.spa_format.specs.Tree.{Tree, fixed}
use Rattle.spa_fixed_sized.specs.Choices.{choice_enum_tree}
use Rattle.spa_utils.specs.declared.choice.ChoiceEnum.{ChoiceEnum}
use Rattle.spa_value.specs.declared.value.Value.{Value}
use Rattle.spa_value.specs.View.{view}
use Rattle.spa_filter_offers.specs.Admits.{Admits, HasCommon, IsCommon, IsMeeting, IsSupported, is_bounded, is_flags, plain_of}
use Rattle.spa_filter_offers.specs.Offers.{AreOffersSayable, IsOffer, IsOfferOf, MeetsIn, OffersMeet, has_bounds, is_masked}
use Rattle.spa_filter_offers.specs.declared.offer.Offer.{Offer}
use Rattle.spa_filter_offers.specs.declared.offer.Offer.TheVariants.{Only}
use Rattle.spa_filter_offers.proofs.Meetings.{IsOffer-content}
use Rattle.spa_filter_offers.proofs.Offering.{AreOffersSayable-values, IsSupported-admits}
use Rattle.spa_filter.specs.Values.{ValuesMeet}

module _ (v w : Tree) (P Q : Fixed → Type 0) (d e : Fixed) (i : IsOffer v P d) (j : IsOffer w Q e) where
  common_content : (x : Fixed) → IsCommon v w (fixed x) → P x × Q x
  common_content x h = ((i.each x).0 h.0, (j.each x).0 h.1)

  both_content : (x : Fixed) → P x × Q x → IsCommon v w (fixed x)
  both_content x h = ((i.each x).1 h.0, (j.each x).1 h.1)

  none_at : ((x : Fixed) → ¬ (P x × Q x)) → (x : Tree) → ¬ (IsCommon v w x)
  none_at n (fixed x) c = n x (common_content x c)
  none_at n x c = absurd (i.only x c.0)

  -- y admits what both offers admit
  module _ (y : Tree) (m : MeetsIn P Q d e y) where
    each : (x : Tree) → Admits y x ↔ IsCommon v w x
    each (fixed x) =
        (λ h. both_content x ((m.offers.each x).0 h), λ h. (m.offers.each x).1 (common_content x h))
    each x = (λ h. absurd (m.offers.only x h), λ h. absurd (i.only x h.0))

    common_first : IsCommon v w (plain_of v) → P d × Q d
    common_first h = common_content d (subst (IsCommon v w) i.default_is h)

    common_second : IsCommon v w (plain_of w) → P e × Q e
    common_second h = common_content e (subst (IsCommon v w) j.default_is h)

    pub IsMeeting-offers : IsMeeting v w y
    IsMeeting-offers =
        let is = m.offers.default_is in
        record {
          each = each;
          admitted = subst (IsCommon v w) (sym is) (both_content m.default m.is_default.admitted);
          first = λ h. is ∙ ap (λ x. fixed x) (m.is_default.first (common_first h)) ∙ sym i.default_is;
          second = λ n h.
              let none = λ (b : P d × Q d). n (subst (IsCommon v w) (sym i.default_is) (both_content d b)) in
              is ∙ ap (λ x. fixed x) (m.is_default.second none (common_second h)) ∙ sym j.default_is;
          no_flags = m.no_flags;
        }

  -- nothing is common where no element is
  pub none_common : ((x : Fixed) → ¬ (P x × Q x)) → ¬ (HasCommon v w)
  none_common n h = none_at n h.0 h.1

-- the offer is one of a value, which is supported where it admits an element
pub record HasOffer {T : Type 0} (f : T → Fixed) (value : Tree) (offer : Offer T) : Type 0 where
  pub offers : IsOfferOf f value offer
  pub masked : is_masked offer ≡ is_flags value
  pub bounded : has_bounds offer ≡ is_bounded value
  pub supported : (x : Fixed) → Admits value (fixed x) → IsSupported value

-- that of a choice,
pub HasOffer-choice : {T : Type 0} (k : Kind) (f : T → Fixed) → ((x : T) → kind_of (f x) ≡ k) → (n : ℕ) (e : ChoiceEnum T) (o : Offer T) →
    IsOfferOf f (choice_enum_tree k f n e) o → is_masked o ≡ is_flags (choice_enum_tree k f n e) →
    has_bounds o ≡ is_bounded (choice_enum_tree k f n e) → HasOffer f (choice_enum_tree k f n e) o
HasOffer-choice k f its n e o offers masked bounded =
    record { offers = offers; masked = masked; bounded = bounded; supported = IsSupported-admits k f its n e }

-- and that of an element
pub HasOffer-content : {T : Type 0} (f : T → Fixed) (x : T) (t : Tree) → t ≡ fixed (f x) → HasOffer f t (Only x)
HasOffer-content f x t e =
    subst (λ u. HasOffer f u (Only x)) (sym e)
    (record { offers = IsOffer-content (f x); masked = refl; bounded = refl; supported = λ y h. tt })

-- what two values meet in, by what their offers meet in
module _ {T : Type 0} (f : T → Fixed) (a b : Offer T) (v w : Tree) (p : HasOffer f v a) (q : HasOffer f w b) where
  met : (o : Option Value) → (AreOffersSayable a b → OffersMeet f a b o) → (o ≢ None → AreOffersSayable a b) → ValuesMeet v w o
  met None m s =
      let sayable = AreOffersSayable-values a b v w p.masked p.bounded q.masked q.bounded in
      λ both. none_common v w _ _ _ _ p.offers q.offers (m (sayable.1 both.2))
  met (Some y) m s =
      let sayable = s (λ e. none-some y (sym e)) in
      let meets = m sayable in
      let x = meets.default in
      let admitted = meets.is_default.admitted in (
        (
          p.supported x ((p.offers.each x).1 admitted.0),
          q.supported x ((q.offers.each x).1 admitted.1),
          (AreOffersSayable-values a b v w p.masked p.bounded q.masked q.bounded).0 sayable,
        ),
        IsMeeting-offers v w _ _ _ _ p.offers q.offers (view y) meets,
      )

  -- by a search for it that may be refused
  pub ValuesMeet-offers : {E : Type 0} (r : Result (Option Value) E) → (AreOffersSayable a b → IfOk r (OffersMeet f a b)) →
      IfOk r (λ o. o ≢ None → AreOffersSayable a b) → IfOk r (ValuesMeet v w)
  ValuesMeet-offers (Ok o) m s = met o m s
  ValuesMeet-offers (Err why) m s = tt
