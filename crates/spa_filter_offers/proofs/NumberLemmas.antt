-- Values of fixed size have search keys of their own, and sets of keys are compared by what they have.
use Rattle.std.proofs.Common.{◌≡◌, ◌⊎◌, inl, inr, ◌↔◌, List, [], ◌∷◌, ◌++◌, Bool, true, false, cond, if◌then◌else◌, ◌==◌, true≢false, refl, sym, ap, ◌∙◌, subst}
use Rattle.std.specs.BTreeMap.{is_at}
use Rattle.std.specs.BTreeSet.{BTreeSet, contains, IsEmpty}
use Rattle.std.specs.List.{Contains, list_any}
use Rattle.std.specs.Cmp.{nat_cmp_total, int_cmp_total}
use Rattle.std.specs.Ordering.{is_eq, nat_cmp, int_cmp, ordering_then}
use Rattle.std.specs.declared.cmp.Ordering.{Ordering}
use Rattle.std.specs.declared.cmp.Ordering.TheVariants.{Less, Equal, Greater}
use Rattle.std.proofs.lemmas.Cmp.{ranked, int_ranked, tied_itself}
use Rattle.std.proofs.lemmas.List.Elements.{Contains-append_left, Contains-push, Contains-push_cases}
use Rattle.std.proofs.lemmas.Bool.{not-false}
use Rattle.spa_format.specs.Kind.{bool_kind, id_kind, int_kind, long_kind, float_kind, double_kind, rectangle_kind, fraction_kind, fd_kind, type_number, Fixed, none, bool, id, int, long, float, double, rectangle, fraction, fd}
use Rattle.spa_filter_offers.specs.declared.numbers.Numbers.{Numbers}
use Rattle.spa_filter_offers.specs.Numbering.{numbers_of, numbers_cmp, Has, HasAll, IsInserted}
use Rattle.spa_filter_offers.proofs.Contents.{not_among}

-- the content with these numbers
fixed_of : Numbers → Fixed
fixed_of n =
    if n.type_ == type_number bool_kind then bool (n.first == 1)
    else if n.type_ == type_number id_kind then id n.first
    else if n.type_ == type_number int_kind then int n.signed
    else if n.type_ == type_number long_kind then long n.signed
    else if n.type_ == type_number float_kind then float n.first
    else if n.type_ == type_number double_kind then double n.first
    else if n.type_ == type_number rectangle_kind then rectangle n.first n.second
    else if n.type_ == type_number fraction_kind then fraction n.first n.second
    else if n.type_ == type_number fd_kind then fd n.signed else none

fixed_of-numbers_of : (x : Fixed) → fixed_of (numbers_of x) ≡ x
unfolding fixed_of
fixed_of-numbers_of none = refl
fixed_of-numbers_of (bool true) = refl
fixed_of-numbers_of (bool false) = refl
fixed_of-numbers_of (id x) = refl
fixed_of-numbers_of (int x) = refl
fixed_of-numbers_of (long x) = refl
fixed_of-numbers_of (float x) = refl
fixed_of-numbers_of (double x) = refl
fixed_of-numbers_of (rectangle w h) = refl
fixed_of-numbers_of (fraction n d) = refl
fixed_of-numbers_of (fd x) = refl

-- two contents with the same numbers are the same
pub same_content : (x y : Fixed) → numbers_of x ≡ numbers_of y → x ≡ y
same_content x y e = sym (fixed_of-numbers_of x) ∙ ap fixed_of e ∙ fixed_of-numbers_of y

-- where one number after another compares as equal, so does each
first_tied : (o p : Ordering) → is_eq (ordering_then o p) ≡ true → o ≡ Equal
first_tied Equal p h = refl
first_tied Less p h = absurd (true≢false (sym h))
first_tied Greater p h = absurd (true≢false (sym h))

others_tied : (o p : Ordering) → is_eq (ordering_then o p) ≡ true → is_eq p ≡ true
others_tied Equal p h = h
others_tied Less p h = absurd (true≢false (sym h))
others_tied Greater p h = absurd (true≢false (sym h))

last_tied : (o : Ordering) → is_eq o ≡ true → o ≡ Equal
last_tied Equal h = refl
last_tied Less h = absurd (true≢false (sym h))
last_tied Greater h = absurd (true≢false (sym h))

-- numbers that compare as equal are the same,
same_numbers : (a b : Numbers) → is_at (numbers_cmp a) b ≡ true → a ≡ b
same_numbers a b h =
    let seconds = nat_cmp a.second b.second in
    let firsts = nat_cmp a.first b.first in
    let signs = int_cmp a.signed b.signed in
    let types = nat_cmp a.type_ b.type_ in
    let from_signs = others_tied types (ordering_then signs (ordering_then firsts seconds)) h in
    let from_firsts = others_tied signs (ordering_then firsts seconds) from_signs in
    let from_seconds = others_tied firsts seconds from_firsts in
    let type_ : a.type_ ≡ b.type_ = ranked _ _ Equal (sym (first_tied types _ h)) in
    let signed : a.signed ≡ b.signed = int_ranked _ _ Equal (sym (first_tied signs _ from_signs)) in
    let first : a.first ≡ b.first = ranked _ _ Equal (sym (first_tied firsts _ from_firsts)) in
    let second : a.second ≡ b.second = ranked _ _ Equal (sym (last_tied seconds from_seconds)) in
    λ i. record { type_ = type_ i; signed = signed i; first = first i; second = second i }

-- and numbers compare as equal to themselves
tied_numbers : (a : Numbers) → is_at (numbers_cmp a) a ≡ true
tied_numbers a =
    let type_ = tied_itself nat_cmp_total a.type_ in
    let signed = tied_itself int_cmp_total a.signed in
    let first = tied_itself nat_cmp_total a.first in
    let second = tied_itself nat_cmp_total a.second in
    rw (type_, signed, first, second) refl

-- the numbers of one more content were inserted, and were new or not
module _ (old new : BTreeSet Numbers) (x : Fixed) (n : Numbers) (is : n ≡ numbers_of x) (is_new : Bool)
    (inserted : IsInserted old n is_new new) where
  others : (q : Numbers) →
      contains numbers_cmp new q ≡ cond (is_at (numbers_cmp (numbers_of x)) q) true (contains numbers_cmp old q)
  others q =
      let Now : Numbers → Type 0 =
      λ m. contains numbers_cmp new q ≡ cond (is_at (numbers_cmp m) q) true (contains numbers_cmp old q) in
      subst Now is (inserted.others q)

  -- they were there
  pub Has-seen : is_new ≡ false → Has old x
  Has-seen was =
      ap (contains numbers_cmp old) (sym is) ∙ not-false _ (sym inserted.absent ∙ was)

  added_by : (y : Fixed) (b : Bool) → is_at (numbers_cmp (numbers_of x)) (numbers_of y) ≡ b →
      contains numbers_cmp new (numbers_of y) ≡ cond b true (contains numbers_cmp old (numbers_of y)) →
      Has new y ↔ ((y ≡ x) ⊎ Has old y)
  added_by y true t e = (λ h. inl (sym (same_content x y (same_numbers _ _ t))), λ h. e)
  added_by y false t e =
      let apart : ¬ (y ≡ x) =
      λ p. true≢false (sym (tied_numbers (numbers_of x))
      ∙ ap (λ z. is_at (numbers_cmp (numbers_of x)) (numbers_of z)) (sym p) ∙ t) in
      (λ h. inr (sym e ∙ h), λ h. elim h [ inl p ↦ absurd (apart p) | inr o ↦ e ∙ o ])

  added : (y : Fixed) → Has new y ↔ ((y ≡ x) ⊎ Has old y)
  added y = added_by y _ refl (others (numbers_of y))

  -- a set with one more content has it behind the others
  pub HasAll-added : (xs : List Fixed) → HasAll old xs → HasAll new (xs ++ x ∷ [])
  HasAll-added xs h =
      let to : (y : Fixed) → Has new y → Contains (xs ++ x ∷ []) y =
      λ y now. elim ((added y).0 now) [
        | inl e ↦ subst (Contains (xs ++ x ∷ [])) (sym e) (Contains-push xs x)
        | inr o ↦ Contains-append_left xs (x ∷ []) y ((h.each y).0 o)
      ] in
      let from : (y : Fixed) → Contains (xs ++ x ∷ []) y → Has new y =
      λ y among. elim (Contains-push_cases xs x y among) [
        | inl c ↦ (added y).1 (inr ((h.each y).1 c))
        | inr e ↦ (added y).1 (inl (sym e))
      ] in
      record { each = λ y. (to y, from y) }

  -- a content that was there changes nothing
  pub HasAll-again : (xs : List Fixed) → HasAll old xs → Has old x → HasAll new xs
  HasAll-again xs h there =
      let to : (y : Fixed) → Has new y → Contains xs y =
      λ y now. elim ((added y).0 now) [
        | inl e ↦ subst (Contains xs) (sym e) ((h.each x).0 there)
        | inr o ↦ (h.each y).0 o
      ] in
      record { each = λ y. (to y, λ among. (added y).1 (inr ((h.each y).1 among))) }

-- an empty set has no content
pub empty_has_none : (set : BTreeSet Numbers) → IsEmpty set → HasAll set []
empty_has_none set e =
    let none = λ (x : Fixed). ap (λ ks. list_any (is_at (numbers_cmp (numbers_of x))) ks) e in
    record { each = λ x. (λ h. absurd (true≢false (sym h ∙ none x)), λ h. absurd (not_among x h)) }
