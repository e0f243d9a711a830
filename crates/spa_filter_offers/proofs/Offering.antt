-- What a choice offers.
use Rattle.std.proofs.Common.{Bool, false, ◌&&◌, ◌≡◌, ◌↔◌, ◌∷◌, ℕ, List, [], get_or, map, sym, ap, ◌∙◌, subst}
use Rattle.std.proofs.lemmas.List.Elements.{All-cons, All-map, All-contains}
use Rattle.spa_format.specs.Kind.{Kind, Fixed, kind_of}
use Rattle.spa_format.specs.Tree.{Shape, none_choice, range_choice, step_choice, enum_choice, flags_choice, Tree, fixed, choice}
use Rattle.spa_fixed_sized.specs.Choices.{choice_enum_tree}
use Rattle.spa_utils.specs.declared.choice.ChoiceEnum.{ChoiceEnum}
use Rattle.spa_utils.specs.declared.choice.ChoiceEnum.TheVariants as E
use Rattle.spa_filter_offers.specs.Admits.{Admits, AdmitsNone, IsCommon, IsSupported, HasCommon, AreSayable, is_flags, is_bounded}
use Rattle.spa_filter_offers.specs.Offers.{IsContent, AreOffersSayable, is_masked, has_bounds}
use Rattle.spa_filter_offers.specs.declared.offer.Offer.{Offer}
use Rattle.spa_filter_elements.specs.Flags.{IsFlagKind}
use Rattle.spa_filter_elements.specs.Order.{IsOrderedKind}
use Rattle.spa_filter_elements.specs.Steps.{IsStepKind}
use Rattle.spa_filter_elements.proofs.Order.{IsOrderedKind-ordered, kind_of-ordered}
use Rattle.spa_filter_elements.proofs.Masks.{IsFlagKind-among, kind_of-among}
use Rattle.spa_filter_elements.proofs.StepKinds.{IsStepKind-multiple}

pub only_by : (s : Shape) (n : ℕ) (k : Kind) (d : Fixed) (vs : List Fixed) (x : Tree) →
    Admits (choice s n k d vs) x → IsContent x
only_by s n k d vs (fixed x) h = tt
only_by s n k d vs x h = absurd h

-- a choice admits contents alone,
pub only_contents : {T : Type 0} (k : Kind) (f : T → Fixed) (n : ℕ) (e : ChoiceEnum T) (x : Tree) →
    Admits (choice_enum_tree k f n e) x → IsContent x
only_contents k f n (E.None y) x h = only_by none_choice n k (f y) [] x h
only_contents k f n (E.Range y a b) x h = only_by range_choice n k (f y) (f a ∷ f b ∷ []) x h
only_contents k f n (E.Step y a b s) x h = only_by step_choice n k (f y) (f a ∷ f b ∷ f s ∷ []) x h
only_contents k f n (E.Enum y ys) x h = only_by enum_choice n k (f y) (map f ys.items) x h
only_contents k f n (E.Flags y ys) x h = only_by flags_choice n k (f y) (map f ys.items) x h

-- all of one kind
pub kind_of-admitted : {T : Type 0} (k : Kind) (f : T → Fixed) (same : (x : T) → kind_of (f x) ≡ k)
    (n : ℕ) (e : ChoiceEnum T) (x : Fixed) → Admits (choice_enum_tree k f n e) (fixed x) → kind_of x ≡ k
kind_of-admitted k f same n (E.None y) x h = ap kind_of h ∙ same y
kind_of-admitted k f same n (E.Range y a b) x h = sym (kind_of-ordered (f a) x h.0) ∙ same a
kind_of-admitted k f same n (E.Step y a b s) x h = sym (kind_of-ordered (f a) x h.0.0) ∙ same a
kind_of-admitted k f same n (E.Enum y ys) x h =
    let Is : Fixed → Type 0 = λ z. kind_of z ≡ k in
    let others = All-map Is f ys.items (λ i z l. same (get_or ys.items i z)) in
    All-contains Is (f y ∷ map f ys.items) x (All-cons Is (f y) (map f ys.items) (same y) others) h
kind_of-admitted k f same n (E.Flags y ys) x h = kind_of-among x (f y) h ∙ same y

-- and what admits a content is supported
pub IsSupported-admits : {T : Type 0} (k : Kind) (f : T → Fixed) (same : (x : T) → kind_of (f x) ≡ k)
    (n : ℕ) (e : ChoiceEnum T) (x : Fixed) → Admits (choice_enum_tree k f n e) (fixed x) → IsSupported (choice_enum_tree k f n e)
IsSupported-admits k f same n (E.Range y a b) x h = subst IsOrderedKind (same a) (IsOrderedKind-ordered (f a) x h.0)
IsSupported-admits k f same n (E.Step y a b s) x h =
    subst IsStepKind (kind_of-admitted k f same n (E.Step y a b s) x h) (IsStepKind-multiple x (f s) h.1)
IsSupported-admits k f same n (E.Flags y ys) x h =
    subst IsFlagKind (kind_of-among x (f y) h ∙ same y) (IsFlagKind-among x (f y) h)
IsSupported-admits k f same n _ x h = tt

none_typed_at : {T : Type 0} (k : Kind) (f : T → Fixed) (same : (x : T) → kind_of (f x) ≡ k) (n : ℕ)
    (e : ChoiceEnum T) (w : Tree) → AdmitsNone k w → (x : Tree) →
    ¬ (IsCommon (choice_enum_tree k f n e) w x)
none_typed_at k f same n e w other (fixed x) h = other x h.1 (kind_of-admitted k f same n e x h.0)
none_typed_at k f same n e w other x h = absurd (only_contents k f n e x h.0)

-- so nothing is common with what admits no content of that kind
pub none_typed : {T : Type 0} (k : Kind) (f : T → Fixed) (same : (x : T) → kind_of (f x) ≡ k) (n : ℕ)
    (e : ChoiceEnum T) (w : Tree) → AdmitsNone k w →
    ¬ (HasCommon (choice_enum_tree k f n e) w)
none_typed k f same n e w other h = none_typed_at k f same n e w other h.0 h.1

both_false : (p q a b : Bool) → p ≡ a → q ≡ b → (a && b) ≡ false → (p && q) ≡ false
both_false p q a b e f h = ap (λ x. x && q) e ∙ ap (λ x. a && x) f ∙ h

-- a choice can say what two offers admit exactly where it can say what their values admit
pub AreOffersSayable-values : {T : Type 0} (a b : Offer T) (v w : Tree) → is_masked a ≡ is_flags v →
    has_bounds a ≡ is_bounded v → is_masked b ≡ is_flags w → has_bounds b ≡ is_bounded w → AreOffersSayable a b ↔ AreSayable v w
AreOffersSayable-values a b v w p q r s = (
  λ h. (both_false _ _ _ _ (sym p) (sym s) h.0, both_false _ _ _ _ (sym q) (sym r) h.1),
  λ h. (both_false _ _ _ _ p s h.0, both_false _ _ _ _ q r h.1),
)
