-- Ranges, by their borrowed bodies.
use Rattle.std.proofs.Common.{◌≡◌, ◌↔◌, ℕ, List, [], ◌∷◌, refl, sym, subst}
use Rattle.spa_format.specs.Kind.{Kind, Fixed}
use Rattle.spa_format.specs.Tree.{Tree, choice, range_choice, choice_type}
use Rattle.spa_format.specs.Writable.{IsTooLarge}
use Rattle.spa_format.proofs.Unique.{same_body}
use Rattle.spa_filter_elements.specs.Bounds.{IsJoin, IsMeet}
use Rattle.spa_filter_elements.specs.Order.{IsAtMost, IsOrderedKind, IsWithin}
use Rattle.spa_filter_offers.specs.Admits.{AreSupported, HasCommon, IsMeeting}
use Rattle.spa_filter_offers.specs.Offers.{IsDefault, IsOffer}
use Rattle.spa_filter_offers.proofs.Meetings.{MeetsIn-between, none-between}
use Rattle.spa_filter_offers.proofs.Offering.{only_by}
use Rattle.spa_filter.specs.CommonPods.{HasBody, IsAppended, IsCommonAppended, IsCommonRefused, IsCommonTooLarge, IsRangeBody, IsUnwritten}
use Rattle.spa_filter.specs.declared.refused.Refused.{Refused}
use Rattle.spa_filter.specs.declared.refused.Refused.TheVariants.{Apart, TooLarge, OutOfMemory}
use Rattle.spa_filter.proofs.CommonPods.{appended_over, none_over}
use Rattle.spa_filter.proofs.Outcomes.{IsMeeting-offers, none_common}

-- a Range with these bounds
abbrev pub range : ℕ → Kind → (d low high : Fixed) → Tree
range flags k d low high = choice range_choice flags k d (low ∷ high ∷ [])

-- what a Range offers
range_offer : (flags : ℕ) (k : Kind) (d low high : Fixed) → IsOffer (range flags k d low high) (IsWithin low high) d
range_offer flags k d low high =
    record { each = λ x. (λ h. h, λ h. h); only = λ t h. only_by range_choice flags k d (low ∷ high ∷ []) t h; default_is = refl }

-- two Ranges, and what is sought of both
module _ (k : Kind) (v w : Tree) (d l h e m n : Fixed) (a b : List ℕ) (p : IsRangeBody k d l h a) (q : IsRangeBody k e m n b)
    (i : HasBody v choice_type a) (j : HasBody w choice_type b) where
  ours : range p.flags k d l h ≡ v
  ours = same_body (range p.flags k d l h) v a (sym i.its_type) p.its_body i.content

  theirs : range q.flags k e m n ≡ w
  theirs = same_body (range q.flags k e m n) w b (sym j.its_type) q.its_body j.content

  -- the elements that both admit are from `low` to `high`
  module _ (low high : Fixed) (join : IsJoin l m low) (meet : IsMeet h n high) where
    each : (x : Fixed) → IsWithin low high x ↔ (IsWithin l h x × IsWithin m n x)
    each x = (
      λ c. let above = (join.each x).0 c.0 in let below = (meet.each x).0 c.1 in ((above.0, below.0), (above.1, below.1)),
      λ c. ((join.each x).1 (c.0.0, c.1.0), (meet.each x).1 (c.0.1, c.1.1)),
    )

    -- there are none
    pub no_range : ¬ (IsAtMost low high) → ¬ (HasCommon v w)
    no_range none =
        none_over v w (range p.flags k d l h) (range q.flags k e m n) ours theirs
        (none_common (range p.flags k d l h) (range q.flags k e m n) (IsWithin l h) (IsWithin m n) d e (range_offer p.flags k d l h)
        (range_offer q.flags k e m n) (none-between (IsWithin l h) (IsWithin m n) low high each none))

    -- a Range of them
    module _ (x : Fixed) (o : IsDefault (IsWithin low high) (IsWithin low high) d e x) (ordered : IsOrderedKind k) where
      default : IsDefault (IsWithin l h) (IsWithin m n) d e x
      default =
          record {
            admitted = (each x).0 o.admitted.0;
            first = λ c. let both = (each d).1 c in o.first (both, both);
            second = λ none c. let both = (each e).1 c in o.second (λ t. none ((each d).0 t.0)) (both, both);
          }

      meeting : IsMeeting (range p.flags k d l h) (range q.flags k e m n) (range 0 k x low high)
      meeting =
          IsMeeting-offers (range p.flags k d l h) (range q.flags k e m n) (IsWithin l h) (IsWithin m n) d e (range_offer p.flags k d l h)
          (range_offer q.flags k e m n) (range 0 k x low high) (MeetsIn-between (IsWithin l h) (IsWithin m n) d e k low high each x default)

      supported : AreSupported (range p.flags k d l h) (range q.flags k e m n)
      supported = (ordered, ordered, (refl, refl))

      pub appended_range : (f : ℕ) (old new : List ℕ) → f ≡ 0 → IsAppended (range f k x low high) old new → IsCommonAppended v w old new
      appended_range f old new z put =
          appended_over v w (range p.flags k d l h) (range q.flags k e m n) (range 0 k x low high) a b old new i j refl refl p.its_body q.its_body
          supported meeting (subst (λ g. IsAppended (range g k x low high) old new) z put)

      pub refused_range : (f : ℕ) (why : Refused) → f ≡ 0 → IsUnwritten (range f k x low high) why → IsCommonRefused v w why
      refused_range f Apart z r = absurd r
      refused_range f TooLarge z r =
          let too : IsCommonTooLarge (range p.flags k d l h) (range q.flags k e m n) =
          record {
            value = range 0 k x low high;
            supported = supported;
            meeting = meeting;
            large = subst (λ g. IsTooLarge (range g k x low high)) z r;
          } in
          subst (λ t. IsCommonTooLarge t w) ours (subst (IsCommonTooLarge (range p.flags k d l h)) theirs too)
      refused_range f OutOfMemory z r = tt
