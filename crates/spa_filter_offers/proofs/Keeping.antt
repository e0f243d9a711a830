-- Those of some contents that are admitted, as they are gone through.
use Rattle.std.proofs.Common.{inl, inr, List, [], ◌∷◌, ◌++◌, sym, subst}
use Rattle.std.specs.List.{Contains}
use Rattle.std.proofs.lemmas.List.Elements.{Contains-append_left, Contains-push, Contains-push_cases}
use Rattle.spa_format.specs.Kind.{Fixed}
use Rattle.spa_filter_offers.proofs.Contents.{not_among}
use Rattle.spa_filter_offers.specs.Offers.{IsKept, IsOneMoreKept}

module _ (P : Fixed → Type 0) (x : Fixed) (old : List Fixed) where
  -- of no contents none are kept
  pub IsKept-none : IsKept P [] []
  IsKept-none = record { each = λ y. (λ h. absurd (not_among y h), λ h. h.0) }

  -- one more that was there
  pub IsOneMoreKept-seen : Contains old x → IsOneMoreKept P x old old
  IsOneMoreKept-seen there =
      record {
        each = λ y.
            (λ h. inl h, λ h. elim h [ inl c ↦ c | inr p ↦ subst (Contains old) (sym p.0) there ]);
      }

  -- one more that is appended
  pub IsOneMoreKept-pushed : P x → IsOneMoreKept P x old (old ++ x ∷ [])
  IsOneMoreKept-pushed h =
      record {
        each = λ y. (
          λ c. elim (Contains-push_cases old x y c) [ inl b ↦ inl b | inr e ↦ inr (sym e, subst P e h) ],
          λ c. elim c [
            | inl b ↦ Contains-append_left old (x ∷ []) y b
            | inr p ↦ subst (Contains (old ++ x ∷ [])) (sym p.0) (Contains-push old x)
          ],
        );
      }

  -- what is kept of some contents and of one more
  pub IsKept-more : (xs new : List Fixed) → IsKept P xs old → IsOneMoreKept P x old new →
      IsKept P (xs ++ x ∷ []) new
  IsKept-more xs new k m =
      record {
        each = λ y. (
          λ c. elim ((m.each y).0 c) [
            | inl b ↦ (Contains-append_left xs (x ∷ []) y ((k.each y).0 b).0, ((k.each y).0 b).1)
            | inr p ↦ (subst (Contains (xs ++ x ∷ [])) (sym p.0) (Contains-push xs x), p.1)
          ],
          λ h. elim (Contains-push_cases xs x y h.0) [
            | inl b ↦ (m.each y).1 (inl ((k.each y).1 (b, h.1)))
            | inr e ↦ (m.each y).1 (inr (sym e, h.1))
          ],
        );
      }
