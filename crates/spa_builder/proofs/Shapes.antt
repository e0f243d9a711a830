-- A choice by its shape word.
use Rattle.std.proofs.Common.{◌≡◌, ◌≤◌, ◌⊎◌, inl, inr, ℕ, [], sym, ap, subst, arith}
use Rattle.std.specs.Prelude.{Option, Some, None, Result}
use Rattle.spa_format.specs.Tree.{Shape, none_choice, range_choice, step_choice, enum_choice, flags_choice, shape_number}
use Rattle.spa_builder.specs.State.{State, open_choice}
use Rattle.spa_builder.specs.Step.{Outcome, Inval, push_choice, shape_of, outcome_with_tree, step}
use Rattle.spa_builder.specs.Fields.{BuilderFields}
use Rattle.spa_builder.specs.Answers.{Makes}
use Rattle.spa_utils.specs.declared.errno.Errno.{Errno}

is_one : (n : ℕ) → n ≤ 4 → (n ≡ 0) ⊎ ((n ≡ 1) ⊎ ((n ≡ 2) ⊎ ((n ≡ 3) ⊎ (n ≡ 4))))
is_one n h = grind arith

with_shape : (n : ℕ) → (n ≡ 0) ⊎ ((n ≡ 1) ⊎ ((n ≡ 2) ⊎ ((n ≡ 3) ⊎ (n ≡ 4)))) →
    (h : Shape) × (shape_of n ≡ Some h) × (n ≡ shape_number h)
with_shape n (inl e) = (none_choice, ap shape_of e, e)
with_shape n (inr (inl e)) = (range_choice, ap shape_of e, e)
with_shape n (inr (inr (inl e))) = (step_choice, ap shape_of e, e)
with_shape n (inr (inr (inr (inl e)))) = (enum_choice, ap shape_of e, e)
with_shape n (inr (inr (inr (inr e)))) = (flags_choice, ap shape_of e, e)

-- each number up to 4 is a shape's
pub shape_with : (n : ℕ) → n ≤ 4 → (h : Shape) × (shape_of n ≡ Some h) × (n ≡ shape_number h)
shape_with n h = with_shape n (is_one n h)

-- what is begun with a shape is begun with its number
pub begun_with : {A : Type 0} (n f : ℕ) (h : Shape) (s : State) (old new : BuilderFields)
    (r : Result A Errno) → shape_of n ≡ Some h → Makes (outcome_with_tree s (open_choice h f []))
    old new r → Makes (step s (push_choice n f)) old new r
begun_with {A = A} n f h s old new r e m =
    subst (λ (o : Option Shape). Makes {A = A}
    (elim o as (λ _. Outcome) [ Some k ↦ outcome_with_tree s (open_choice k f []) | None ↦ Inval ]) old new r) (sym e) m
