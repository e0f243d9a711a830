-- Steps of a comparison: what is left of structs and objects, one within another.
use Rattle.std.proofs.Common.{◌≡◌, ◌+◌, ◌*◌, ℕ, Bool, true, false, ◌&&◌, List, [], ◌∷◌, ◌++◌, length, sum_by, refl, sym, ap, ◌∙◌}
use Rattle.spa_value.specs.declared.comparison.Pair.{Pair}
use Rattle.spa_value.specs.Comparison.{all_eq, first_count, pair_eq}
use Rattle.spa_value.proofs.Blocks.{and-assoc}

exchange : (a b c : Bool) → (a && (b && c)) ≡ (b && (a && c))
exchange true true c = refl
exchange true false c = refl
exchange false true c = refl
exchange false false c = refl

all_eq_last : (ps : List Pair) (p : Pair) → all_eq (ps ++ p ∷ []) ≡ (pair_eq p && all_eq ps)
all_eq_last [] p = refl
all_eq_last (q ∷ ps) p =
    ap (λ b. pair_eq q && b) (all_eq_last ps p) ∙ exchange (pair_eq q) (pair_eq p) (all_eq ps)

-- whether the innermost and those around it are equal
abbrev pub left_eq : Pair → List Pair → Bool
left_eq p around = pair_eq p && all_eq around

-- steps that are left: each goes through some values, or ends the innermost
abbrev pub steps : Pair → List Pair → ℕ
steps p around = 2 * (first_count p + sum_by first_count around) + length around

-- the innermost is equal to its end, and the one around it goes on
pub goes_out : (p outer : Pair) (around rest : List Pair) → around ≡ rest ++ outer ∷ [] → true ≡ pair_eq p →
    left_eq outer rest ≡ left_eq p around
goes_out p outer around rest parts same =
    sym (all_eq_last rest outer) ∙ ap all_eq (sym parts) ∙ ap (λ b. b && all_eq around) same

-- two within the innermost are gone into, and something is left behind them
pub goes_in : (p inner left : Pair) (around final : List Pair) → final ≡ around ++ left ∷ [] →
    (pair_eq inner && pair_eq left) ≡ pair_eq p → left_eq inner final ≡ left_eq p around
goes_in p inner left around final parts same =
    ap (λ l. pair_eq inner && all_eq l) parts ∙ ap (λ b. pair_eq inner && b) (all_eq_last around left)
    ∙ and-assoc (pair_eq inner) (pair_eq left) (all_eq around) ∙ ap (λ b. b && all_eq around) same

-- nothing is left behind them
pub goes_to : (p inner left : Pair) → pair_eq left ≡ true →
    (pair_eq inner && pair_eq left) ≡ pair_eq p → pair_eq inner ≡ pair_eq p
goes_to p inner left done same = sym (and-true (pair_eq inner)) ∙ ap (λ b. pair_eq inner && b) (sym done) ∙ same
  where
    and-true : (b : Bool) → (b && true) ≡ b
    and-true true = refl
    and-true false = refl
