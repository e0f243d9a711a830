-- What a value is that isn't an object, or isn't a Float.
use Rattle.std.proofs.Common.{◌≡◌, ◌≢◌, ◌∙◌, ℕ, refl, sym, subst, arith}
use Rattle.libspa.specs.Kind.{float, float_kind, type_number}
use Rattle.libspa.specs.Tree.{Tree, fixed, object, type_of, array_type, choice_type, object_type}
use Rattle.libspa.specs.ValueArray.{ValueArray}
use Rattle.libspa.specs.ChoiceValue.{ChoiceValue}
use Rattle.libspa.specs.Object.{Object}
use Rattle.libspa.specs.Value.{Value}
use Rattle.libspa.specs.Values as V
use Rattle.libspa.specs.View.{view, array_view, choice_view, object_view}
use Rattle.example_types.specs.Control.{IsObject}

of_another_type : (v : Tree) → type_of v ≢ object_type → ¬ (IsObject v)
of_another_type (object t i ps) n h = n refl
of_another_type _ n h = h

abbrev IsFloat : Tree → Type 0
IsFloat (fixed (float k)) = Unit {0}
IsFloat _ = ⊥

of_no_float : (v : Tree) → type_of v ≢ type_number float_kind → ¬ (IsFloat v)
of_no_float (fixed (float k)) n h = n refl
of_no_float _ n h = h

module _ (arrays : (a : ValueArray) → type_of (array_view a) ≡ array_type)
    (choices : (c : ChoiceValue) → type_of (choice_view c) ≡ choice_type)
    (objects : (o : Object) → type_of (object_view o) ≡ object_type) where
  pub not_object : (v : Value) → ((o : _) → v ≢ V.Object o) → ¬ (IsObject (view v))
  not_object (V.Object o) n = absurd (n o refl)
  not_object (V.ValueArray a) n =
      of_another_type (view (V.ValueArray a)) (λ e. omega (arith, sym (arrays a) ∙ e))
  not_object (V.Choice c) n =
      of_another_type (view (V.Choice c)) (λ e. omega (arith, sym (choices c) ∙ e))
  not_object _ n = λ h. h

  no_float : (v : Value) → ((x : _) → v ≢ V.Float x) → ¬ (IsFloat (view v))
  no_float (V.Float x) n = absurd (n x refl)
  no_float (V.ValueArray a) n = of_no_float (view (V.ValueArray a)) (λ e. omega (arith, sym (arrays a) ∙ e))
  no_float (V.Choice c) n = of_no_float (view (V.Choice c)) (λ e. omega (arith, sym (choices c) ∙ e))
  no_float (V.Object o) n = of_no_float (view (V.Object o)) (λ e. omega (arith, sym (objects o) ∙ e))
  no_float _ n = λ h. h

  pub not_float : (v : Value) → ((x : _) → v ≢ V.Float x) → (k : ℕ) → view v ≢ fixed (float k)
  not_float v n k e = no_float v n (subst IsFloat (sym e) tt)
