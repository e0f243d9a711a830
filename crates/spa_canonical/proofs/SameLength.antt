-- Bodies without members whose rewritings are as long as they are.
use Rattle.std.proofs.Common.{◌≡◌, ℕ, ◌+◌, ◌≤◌, inl, inr, List, [], drop, length, refl, sym, ap, ◌∙◌, subst, arith}
use Rattle.std.proofs.lemmas.Bool.{cases_lt}
use Rattle.std.proofs.lemmas.List.{nil_from_length}
use Rattle.spa_format.specs.Words.{header_size, padded_size, word_at}
use Rattle.spa_format.specs.Kind.{Kind, Fixed, IsFixedBody, body_size, content, type_number}
use Rattle.spa_format.specs.Tree.{array, array_type, fixed}
use Rattle.spa_format.specs.Pod.{AreElements, IsArray}
use Rattle.spa_format.proofs.Elements.{same_array_length}
use Rattle.spa_format.proofs.FixedKinds.{fixed_length, kind_of_content}
use Rattle.spa_canonical.specs.Canonical.{IsFixedLen}
use Rattle.spa_fixed_sized.specs.Reading.{AreWhole}
use Rattle.spa_canonical.specs.Rewriting.{IsShorterBody}
use Rattle.spa_canonical.proofs.Bodies.{listed}

pub as_long : (a b : ℕ) → a ≡ b → 0 + a ≡ b
as_long a b e = omega arith

pub fixed_same_length : (type len : ℕ) (body : List ℕ) → IsFixedLen type len → length body ≡ len → IsShorterBody type body 0
fixed_same_length type len body f l =
    let k = f.0 in
    let x = content k body in
    let is : IsFixedBody k body x = record { whole = l ∙ f.2; says = refl } in
    record {
      value = fixed x;
      its_type = ap type_number (kind_of_content k body) ∙ sym f.1;
      its_body = subst (λ j. IsFixedBody j body x) (sym (kind_of_content k body)) is;
      long = as_long _ _ (ap padded_size (fixed_length k body x is));
    }

pub array_same_length : (body : List ℕ) (k : Kind) → header_size ≤ length body → word_at body 0 ≡ body_size k → word_at body 4 ≡ type_number k →
    AreWhole (body_size k) (drop header_size body) → IsShorterBody array_type body 0
array_same_length body k h c t w =
    let elements = drop header_size body in
    let of_values = λ (xs : List Fixed) (a : AreElements k xs elements).
    let is : IsArray k xs body = record { header = h; child_size = c; child_type = t; elements = a } in
    let whole : IsShorterBody array_type body 0 = record {
      value = array k xs;
      its_type = refl;
      its_body = is;
      long = as_long _ _ (ap padded_size (same_array_length k xs body is));
    } in
    whole in
    elim (cases_lt 0 (body_size k)) [
      | inl p ↦ let l = listed k w.many elements p w.count in of_values l.values l.its_values
      | inr z ↦ of_values [] (nil_from_length elements (let count = w.count in let e : length elements ≡ 0 = grind arith in e))
    ]
