-- What two offers of flags meet in.
use Rattle.std.proofs.Common.{List, refl}
use Rattle.spa_format.specs.Kind.{Kind, Fixed}
use Rattle.spa_format.specs.Tree.{flags_choice, choice}
use Rattle.spa_filter_elements.specs.Flags.{AreAmong}
use Rattle.spa_filter_elements.specs.Bounds.{IsShared}
use Rattle.spa_filter_elements.proofs.Masks.{among-within, among-itself, among-left}
use Rattle.spa_filter_offers.specs.Offers.{IsSharedMask, MeetsIn}
use Rattle.spa_filter_offers.proofs.Offering.{only_by}

module _ (m n : Fixed) where
  -- a mask whose bits the other has is what the two share,
  pub IsSharedMask-first : AreAmong m n → IsSharedMask m n m
  IsSharedMask-first p =
      record {
        each = λ x. (λ h. (h, among-within x m n h p), λ h. h.0);
        first = λ h. refl;
        second = λ never q. absurd (never p);
      }

  -- in either order,
  pub IsSharedMask-second : ¬ (AreAmong m n) → AreAmong n m → IsSharedMask m n n
  IsSharedMask-second never p =
      record {
        each = λ x. (λ h. (among-within x n m h p, h), λ h. h.1);
        first = λ h. absurd (never h);
        second = λ other q. refl;
      }

  -- and else their bits are
  pub IsSharedMask-other : ¬ (AreAmong m n) → ¬ (AreAmong n m) → (r : Fixed) → IsShared m n r → IsSharedMask m n r
  IsSharedMask-other never none r s =
      record {
        each = s.each;
        first = λ h. absurd (never h);
        second = λ other q. absurd (none q);
      }

  -- r is what the two share
  module _ (r : Fixed) (s : IsSharedMask m n r) where
    pub none-masked : ¬ (AreAmong r r) → (x : Fixed) → ¬ (AreAmong x m × AreAmong x n)
    none-masked never x h = never (among-itself x r ((s.each x).1 h))

    pub MeetsIn-masked : AreAmong r r → (k : Kind) (vs : List Fixed) →
        MeetsIn (λ x. AreAmong x m) (λ x. AreAmong x n) m n (choice flags_choice 0 k r vs)
    MeetsIn-masked own k vs =
        record {
          default = r;
          is_default = record {
            admitted = (s.each r).0 own;
            first = λ h. s.first h.1;
            second = λ never h. s.second (λ p. never (among-left m n p, p)) h.0;
          };
          offers = record {
            each = s.each;
            only = λ t h. only_by flags_choice 0 k r vs t h;
            default_is = refl;
          };
          no_flags = refl;
        }
