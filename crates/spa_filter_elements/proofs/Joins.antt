-- The greater and the lesser of two contents.
use Rattle.std.proofs.Common.{◌≡◌, ◌⊎◌, inl, inr, sym, ◌∙◌, subst}
use Rattle.spa_format.specs.Kind.{Kind, Fixed, kind_of}
use Rattle.spa_filter_elements.specs.Order.{IsAtMost}
use Rattle.spa_filter_elements.specs.Bounds.{IsChain, IsJoin, IsMeet}
use Rattle.spa_filter_elements.proofs.Order.{IsAtMost-trans, IsAtMost-left, IsAtMost-right, IsAtMost-total}

-- two contents of one kind other than rectangles
module _ (k : Kind) (chain : IsChain k) (x y : Fixed) (p : kind_of x ≡ k) (q : kind_of y ≡ k) where
  total : IsAtMost x x → IsAtMost y y → IsAtMost x y ⊎ IsAtMost y x
  total = IsAtMost-total x y (subst IsChain (sym p) chain) (p ∙ sym q)

  -- the first is no greater than the second
  pub IsJoin-in_order : IsAtMost x y → IsJoin x y y
  IsJoin-in_order h =
      record { each = λ u. (λ (a : IsAtMost y u). (IsAtMost-trans x y u h a, a), λ b. b.1) }

  -- the first isn't at most the second, which is in order
  pub IsJoin-greater : ¬ (IsAtMost x y) → IsAtMost y y → IsJoin x y x
  IsJoin-greater n h =
      let other : (u : Fixed) → IsAtMost x u → IsAtMost y u =
      λ u a. elim (total (IsAtMost-left x u a) h) [
        | inl b ↦ absurd (n b)
        | inr b ↦ IsAtMost-trans y x u b a
      ] in
      record { each = λ u. (λ (a : IsAtMost x u). (a, other u a), λ b. b.0) }

  pub IsMeet-in_order : IsAtMost x y → IsMeet x y x
  IsMeet-in_order h =
      record { each = λ u. (λ (a : IsAtMost u x). (a, IsAtMost-trans u x y a h), λ b. b.0) }

  pub IsMeet-lesser : ¬ (IsAtMost x y) → IsAtMost x x → IsMeet x y y
  IsMeet-lesser n h =
      let other : (u : Fixed) → IsAtMost u y → IsAtMost u x =
      λ u a. elim (total h (IsAtMost-right u y a)) [
        | inl b ↦ absurd (n b)
        | inr b ↦ IsAtMost-trans u y x a b
      ] in
      record { each = λ u. (λ (a : IsAtMost u y). (other u a, a), λ b. b.1) }
