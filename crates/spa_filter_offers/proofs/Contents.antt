-- Lists of contents, and what is among them.
use Rattle.std.proofs.Common.{◌≡◌, ◌⊎◌, inl, inr, ℕ, ◌+◌, ◌<◌, List, [], ◌∷◌, ◌++◌, length, map, take, get_or, refl, sym, ap, ◌∙◌, arith}
use Rattle.std.specs.List.{Contains}
use Rattle.std.proofs.lemmas.List.{map-append, take_more}
use Rattle.std.proofs.lemmas.List.Elements.{Contains-append_right, Contains-append_cases, Contains-push_cases}
use Rattle.spa_format.specs.Kind.{Fixed}

-- the contents of some first elements, and of one more
pub map-next : {T : Type 0} (f : T → Fixed) (xs : List T) (i : ℕ) (x : T) → i < length xs →
    x ≡ get_or xs i x → map f (take (i + 1) xs) ≡ map f (take i xs) ++ f x ∷ []
map-next f xs i x l e =
    let more = take_more xs i x l ∙ ap (λ y. take i xs ++ y ∷ []) (sym e) in
    ap (map f) more ∙ map-append f (take i xs) (x ∷ [])

-- nothing is among none
pub not_among : (x : Fixed) → ¬ (Contains [] x)
not_among x h = omega (arith, h.1)

-- the first of some
pub Contains-first : (x : Fixed) (xs : List Fixed) → Contains (x ∷ xs) x
Contains-first x xs = (0, omega arith, refl)

-- the others
pub Contains-behind : (x : Fixed) (xs : List Fixed) (c : Fixed) → Contains xs c → Contains (x ∷ xs) c
Contains-behind x xs c h = Contains-append_right (x ∷ []) xs c h

pub Contains-cons_cases : (x : Fixed) (xs : List Fixed) (c : Fixed) → Contains (x ∷ xs) c →
    (c ≡ x) ⊎ Contains xs c
Contains-cons_cases x xs c h =
    elim (Contains-append_cases (x ∷ []) xs c h) [
      | inl one ↦ elim (Contains-push_cases [] x c one) [ inl none ↦ absurd (not_among c none) | inr e ↦ inl (sym e) ]
      | inr there ↦ inr there
    ]
