-- What two offers meet in.
use Rattle.std.proofs.Common.{◌≡◌, inl, inr, ◌↔◌, List, [], ◌∷◌, refl, sym, ap, subst}
use Rattle.std.specs.List.{Contains}
use Rattle.spa_format.specs.Kind.{Kind, Fixed}
use Rattle.spa_format.specs.Tree.{Tree, fixed, choice, enum_choice, range_choice}
use Rattle.spa_filter_elements.specs.Order.{IsAtMost, IsWithin}
use Rattle.spa_filter_elements.proofs.Order.{IsAtMost-trans}
use Rattle.spa_filter_offers.specs.Offers.{IsContent, IsDefault, IsOffer, MeetsIn}
use Rattle.spa_filter_offers.proofs.Contents.{Contains-cons_cases, Contains-behind}
use Rattle.spa_filter_offers.proofs.Offering.{only_by}

same_fixed : (x y : Fixed) → fixed x ≡ fixed y → x ≡ y
same_fixed x y h = cc

content_alone : (x : Fixed) (t : Tree) → t ≡ fixed x → IsContent t
content_alone x t h = subst IsContent (sym h) tt

-- what a content offers
pub IsOffer-content : (y : Fixed) → IsOffer (fixed y) (λ c. c ≡ y) y
IsOffer-content y =
    record {
      each = λ c. (λ h. same_fixed c y h, λ h. ap (λ z. fixed z) h);
      only = λ t h. content_alone y t h;
      default_is = refl;
    }

module _ (P Q : Fixed → Type 0) where
  abbrev Both : Fixed → Type 0
  Both c = P c × Q c

  -- no element is from low to high
  module _ (low high : Fixed) (each : (c : Fixed) → IsWithin low high c ↔ (P c × Q c)) where
    pub none-between : ¬ (IsAtMost low high) → (c : Fixed) → ¬ (P c × Q c)
    none-between n c h =
        let within = (each c).1 h in
        n (IsAtMost-trans low c high within.0 within.1)

module _ (P Q : Fixed → Type 0) (d e : Fixed) where
  -- an Enum of what both admit
  module _ (k : Kind) (xs : List Fixed) (each : (c : Fixed) → Contains xs c ↔ (P c × Q c)) where
    pub MeetsIn-among : (x : Fixed) → IsDefault P Q d e x → MeetsIn P Q d e (choice enum_choice 0 k x xs)
    MeetsIn-among x default =
        let to : (c : Fixed) → Contains (x ∷ xs) c → P c × Q c =
        λ c h. elim (Contains-cons_cases x xs c h) [
          | inl same ↦ subst (Both P Q) (sym same) default.admitted
          | inr there ↦ (each c).0 there
        ] in
        record {
          default = x;
          is_default = default;
          offers = record {
            each = λ c. (to c, λ h. Contains-behind x xs c ((each c).1 h));
            only = λ t h. only_by enum_choice 0 k x xs t h;
            default_is = refl;
          };
          no_flags = refl;
        }

  -- a Range of what both admit
  module _ (k : Kind) (low high : Fixed) (each : (c : Fixed) → IsWithin low high c ↔ (P c × Q c)) where
    pub MeetsIn-between : (x : Fixed) → IsDefault P Q d e x →
        MeetsIn P Q d e (choice range_choice 0 k x (low ∷ high ∷ []))
    MeetsIn-between x default =
        record {
          default = x;
          is_default = default;
          offers = record {
            each = each;
            only = λ t h. only_by range_choice 0 k x (low ∷ high ∷ []) t h;
            default_is = refl;
          };
          no_flags = refl;
        }
