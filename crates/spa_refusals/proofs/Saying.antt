-- What is said of a path and of a type.
use Rattle.std.proofs.Common.{◌≡◌, ◌∙◌, ℕ, List, [], ◌∷◌, ◌++◌, ap, drop, min, refl, arith, length, take}
use Rattle.std.proofs.lemmas.List.{take_min}
use Rattle.std.specs.Prelude.{Option, codes}
use Rattle.spa_format.specs.Words.{body_of, word_at}
use Rattle.spa_refusals.specs.Refusals.{inner_text, title_text}
use Rattle.spa_refusals.specs.declared.names.TypeName.{TypeName}

pub no_inner : (path : List ℕ) (type : Option TypeName) → length path ≡ 0 → inner_text path type ≡ []
no_inner [] type e = refl
no_inner (x ∷ path) type e = absurd (omega (arith, e))

pub some_inner : (path : List ℕ) (type : Option TypeName) → ¬ (length path ≡ 0) → inner_text path type ≡ codes ", at " ++ (path ++ title_text type)
some_inner [] type h = absurd (h refl)
some_inner (x ∷ path) type h = refl

-- a body, as far as it is there
pub body_there : (pod behind : List ℕ) (n : ℕ) → behind ≡ drop 8 pod → n ≡ min (word_at pod 0) (length behind) →
    take n behind ≡ body_of pod
body_there pod behind n is e =
    ap (λ z. take z behind) e ∙ take_min (word_at pod 0) behind ∙ ap (take (word_at pod 0)) is
