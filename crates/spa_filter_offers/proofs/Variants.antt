-- Which type a value or a choice is of.
use Rattle.std.proofs.Common.{◌≡◌, ◌≢◌, ℕ, refl, sym, ap, ◌∙◌, arith}
use Rattle.spa_format.specs.Kind.{Kind, bool_kind, id_kind, int_kind, long_kind, float_kind, double_kind, rectangle_kind, fraction_kind, fd_kind, type_number, Fixed, none, bool, id, int, long, float, double, rectangle, fraction, fd, kind_of}
use Rattle.spa_format.specs.Tree.{fixed, array_type, choice_type}
use Rattle.spa_format.proofs.Shapes.{not_fixed}
use Rattle.spa_value.specs.declared.choice_value.ChoiceValue.{ChoiceValue}
use Rattle.spa_value.specs.declared.choice_value.ChoiceValue.TheVariants as C
use Rattle.spa_value.specs.declared.object.Object.{Object'}
use Rattle.spa_value.specs.declared.value.Value.{Value}
use Rattle.spa_value.specs.declared.value.Value.TheVariants as V
use Rattle.spa_value.specs.View.{view, array_view, choice_view}
use Rattle.spa_value.proofs.TypeLaws.{type_of-array_view, type_of-choice_view}
use Rattle.spa_filter_offers.specs.Admits.{Admits}
use Rattle.spa_filter_offers.proofs.Offering.{kind_of-admitted}

-- the type number of what a choice is over
abbrev pub element_type : ChoiceValue → ℕ
element_type (C.Bool c) = 2
element_type (C.Id c) = 3
element_type (C.Int c) = 4
element_type (C.Long c) = 5
element_type (C.Float c) = 6
element_type (C.Double c) = 7
element_type (C.Rectangle c) = 10
element_type (C.Fraction c) = 11
element_type (C.Fd c) = 18

-- what it admits is of this type
pub admitted_type : (c : ChoiceValue) (x : Fixed) → Admits (choice_view c) (fixed x) →
    type_number (kind_of x) ≡ element_type c
admitted_type (C.Bool c) x h = ap type_number (kind_of-admitted _ _ (λ y. refl) c.0.0 c.1 x h)
admitted_type (C.Id c) x h = ap type_number (kind_of-admitted _ _ (λ y. refl) c.0.0 c.1 x h)
admitted_type (C.Int c) x h = ap type_number (kind_of-admitted _ _ (λ y. refl) c.0.0 c.1 x h)
admitted_type (C.Long c) x h = ap type_number (kind_of-admitted _ _ (λ y. refl) c.0.0 c.1 x h)
admitted_type (C.Float c) x h = ap type_number (kind_of-admitted _ _ (λ y. refl) c.0.0 c.1 x h)
admitted_type (C.Double c) x h = ap type_number (kind_of-admitted _ _ (λ y. refl) c.0.0 c.1 x h)
admitted_type (C.Rectangle c) x h = ap type_number (kind_of-admitted _ _ (λ y. refl) c.0.0 c.1 x h)
admitted_type (C.Fraction c) x h = ap type_number (kind_of-admitted _ _ (λ y. refl) c.0.0 c.1 x h)
admitted_type (C.Fd c) x h = ap type_number (kind_of-admitted _ _ (λ y. refl) c.0.0 c.1 x h)

-- the type number of a value of fixed size
abbrev pub content_type : Value → ℕ
content_type V.None = 1
content_type (V.Bool x) = 2
content_type (V.Id x) = 3
content_type (V.Int x) = 4
content_type (V.Long x) = 5
content_type (V.Float x) = 6
content_type (V.Double x) = 7
content_type (V.Rectangle x) = 10
content_type (V.Fraction x) = 11
content_type (V.Fd x) = 18
content_type _ = 0

same_content : (x y : Fixed) → fixed x ≡ fixed y → type_number (kind_of y) ≡ type_number (kind_of x)
same_content x y h = let e : x ≡ y = cc in sym (ap (λ z. type_number (kind_of z)) e)

-- a value of fixed size is of its type
content_type-view : (v : Value) (x : Fixed) → view v ≡ fixed x → type_number (kind_of x) ≡ content_type v
content_type-view V.None x h = same_content none x h
content_type-view (V.Bool y) x h = same_content (bool y) x h
content_type-view (V.Id y) x h = same_content (id y.0) x h
content_type-view (V.Int y) x h = same_content (int y) x h
content_type-view (V.Long y) x h = same_content (long y) x h
content_type-view (V.Float y) x h = same_content (float y.0) x h
content_type-view (V.Double y) x h = same_content (double y.0) x h
content_type-view (V.Rectangle y) x h = same_content (rectangle y.width y.height) x h
content_type-view (V.Fraction y) x h = same_content (fraction y.num y.denom) x h
content_type-view (V.Fd y) x h = same_content (fd y.0) x h
content_type-view (V.ValueArray a) x h = absurd (not_fixed (array_view a) array_type (type_of-array_view a) (omega arith) (λ e. omega arith) x h)
content_type-view (V.Choice c) x h = absurd (not_fixed (choice_view c) choice_type (type_of-choice_view c) (omega arith) (λ e. omega arith) x h)
content_type-view (V.Object (Object' t n s ps)) x h = cc
content_type-view _ x h = cc

-- a value of another type is no content of this kind
other_content : (k : Kind) (v : Value) → content_type v ≢ type_number k → (x : Fixed) →
    view v ≡ fixed x → kind_of x ≢ k
other_content k v n x h e = n (sym (content_type-view v x h) ∙ ap type_number e)

-- a value of another variant is no content of this kind
pub not_bool : (v : Value) → ((y : _) → v ≢ V.Bool y) → (x : Fixed) → view v ≡ fixed x → ¬ (kind_of x ≡ bool_kind)
not_bool (V.Bool y) n = absurd (n y refl)
not_bool v n = other_content bool_kind v (λ h. omega arith)

pub not_id : (v : Value) → ((y : _) → v ≢ V.Id y) → (x : Fixed) → view v ≡ fixed x → ¬ (kind_of x ≡ id_kind)
not_id (V.Id y) n = absurd (n y refl)
not_id v n = other_content id_kind v (λ h. omega arith)

pub not_int : (v : Value) → ((y : _) → v ≢ V.Int y) → (x : Fixed) → view v ≡ fixed x → ¬ (kind_of x ≡ int_kind)
not_int (V.Int y) n = absurd (n y refl)
not_int v n = other_content int_kind v (λ h. omega arith)

pub not_long : (v : Value) → ((y : _) → v ≢ V.Long y) → (x : Fixed) → view v ≡ fixed x → ¬ (kind_of x ≡ long_kind)
not_long (V.Long y) n = absurd (n y refl)
not_long v n = other_content long_kind v (λ h. omega arith)

pub not_float : (v : Value) → ((y : _) → v ≢ V.Float y) → (x : Fixed) → view v ≡ fixed x → ¬ (kind_of x ≡ float_kind)
not_float (V.Float y) n = absurd (n y refl)
not_float v n = other_content float_kind v (λ h. omega arith)

pub not_double : (v : Value) → ((y : _) → v ≢ V.Double y) → (x : Fixed) → view v ≡ fixed x → ¬ (kind_of x ≡ double_kind)
not_double (V.Double y) n = absurd (n y refl)
not_double v n = other_content double_kind v (λ h. omega arith)

pub not_rectangle : (v : Value) → ((y : _) → v ≢ V.Rectangle y) → (x : Fixed) → view v ≡ fixed x → ¬ (kind_of x ≡ rectangle_kind)
not_rectangle (V.Rectangle y) n = absurd (n y refl)
not_rectangle v n = other_content rectangle_kind v (λ h. omega arith)

pub not_fraction : (v : Value) → ((y : _) → v ≢ V.Fraction y) → (x : Fixed) → view v ≡ fixed x → ¬ (kind_of x ≡ fraction_kind)
not_fraction (V.Fraction y) n = absurd (n y refl)
not_fraction v n = other_content fraction_kind v (λ h. omega arith)

pub not_fd : (v : Value) → ((y : _) → v ≢ V.Fd y) → (x : Fixed) → view v ≡ fixed x → ¬ (kind_of x ≡ fd_kind)
not_fd (V.Fd y) n = absurd (n y refl)
not_fd v n = other_content fd_kind v (λ h. omega arith)
