-- Elements of arrays and choices.
use Rattle.std.proofs.Common.{◌≡◌, ℕ, ◌+◌, ◌-◌, ◌≤◌, ◌^◌, List, [], ◌∷◌, ◌++◌, length, take, drop, refl, sym, ap, ◌∙◌, arith, length-append, append_assoc, Bool, true, false}
use Rattle.std.specs.Prelude.{nat_lt, cond, Option, Some, None}
use Rattle.std.proofs.lemmas.List.{append-nil, nil_from_length, take_at, drop_at}
use Rattle.std.proofs.lemmas.Bool.Decides.{nat_tests}
use Rattle.std.proofs.lemmas.Bool.{eqb-true}
use Rattle.spa_format.specs.Words.{word_bytes}
use Rattle.spa_format.specs.Kind.{none_kind, type_number, body_size, Fixed, kind_of, fixed_body}
use Rattle.spa_format.specs.Tree.{shape_number, fixed, Trees, array_type, choice_type}
use Rattle.spa_format.specs.Encoding.{array_body, fixed_bodies, member_encodings}
use Rattle.spa_format.proofs.Elements.{bodies_push, array_length}
use Rattle.spa_format.proofs.FixedKinds.{length-fixed_body, same_kind}
use Rattle.spa_format.proofs.Encodings.{two_words_length, length-behind_two}
use Rattle.spa_builder.specs.State.{Partial, open_object, open_array, open_choice, State}
use Rattle.spa_builder.specs.Step.{all_fit, takes_trees, state_with_value, child_kind, array_takes}
use Rattle.spa_builder.specs.Fields.{BuilderFields, IsAt, IsNested, IsFair, so_far, all_so_far, body_so_far, type_of_partial, frames_of}
use Rattle.spa_builder.specs.Innermost.{has_room_for, has_elements, takes_elements, is_first, takes_element, with_element}
use Rattle.spa_builder.proofs.Sizes.{one_size_decides, room_later}

of_none : (x : Fixed) → kind_of x ≡ none_kind → fixed_body x ≡ []
of_none x e = nil_from_length (fixed_body x) (length-fixed_body x ∙ ap body_size e)

fair_array : (xs : List Fixed) (x : Fixed) → array_takes xs x ≡ true → IsFair (open_array xs) →
    IsFair (open_array (xs ++ x ∷ []))
fair_array [] x t f = λ e. append-nil (fixed_body x) ∙ of_none x e
fair_array (y ∷ ys) x t f = λ e.
    let k = eqb-true (type_number (kind_of y)) (type_number (kind_of x)) t in
    bodies_push (y ∷ ys) x ∙ ap (λ l. l ++ fixed_body x) (f e)
    ∙ of_none x (same_kind (kind_of x) none_kind (sym k ∙ ap type_number e))

fair_more : (p : Partial) (x : Fixed) → takes_element p x ≡ true → IsFair p →
    IsFair (with_element p x)
fair_more (open_array xs) x t f = fair_array xs x t f
fair_more (open_choice a b xs) x t f = tt
fair_more _ x t f = f

length-more_bodies : (xs : List Fixed) (x : Fixed) →
    length (array_body (child_kind (xs ++ x ∷ [])) (xs ++ x ∷ [])) ≡ length
    (array_body (child_kind xs) xs) + length (fixed_body x)
length-more_bodies xs x =
    let ys = xs ++ x ∷ [] in
    let e0 = array_length (child_kind ys) ys in
    let e1 = array_length (child_kind xs) xs in
    let e2 = ap length (bodies_push xs x) ∙ length-append (fixed_bodies xs) (fixed_body x) in
    omega arith

length-more : (p : Partial) (x : Fixed) → has_elements p ≡ true →
    length (body_so_far (with_element p x)) ≡ length (body_so_far p) + length (fixed_body x)
length-more (open_array xs) x t = length-more_bodies xs x
length-more (open_choice h f xs) x t =
    let ys = xs ++ x ∷ [] in
    let e0 = length-more_bodies xs x in
    let e1 = length-behind_two (shape_number h) f (array_body (child_kind ys) ys) in
    let e2 = length-behind_two (shape_number h) f (array_body (child_kind xs) xs) in
    omega arith
length-more _ x t = absurd (cc)

pub element_fit : (p : Partial) (ps : List Partial) (x : Fixed) (n : ℕ) →
    n ≡ length (fixed_body x) → has_elements p ≡ true → takes_element p x ≡ true →
    IsNested (p ∷ ps) → all_fit 0 (with_element p x ∷ ps) ≡ has_room_for n (p ∷ ps)
element_fit p ps x n l h t k =
    let q = with_element p x in
    let e0 = length-append (all_so_far ps) (so_far p) in
    let e1 = length-append (all_so_far ps) (so_far q) in
    let e2 = length-behind_two 0 (type_of_partial p) (body_so_far p) in
    let e3 = length-behind_two 0 (type_of_partial q) (body_so_far q) in
    let e4 = length-more p x h in
    one_size_decides (q ∷ ps) (fair_more p x t k.0, k.1, k.2)
    ∙ room_later (p ∷ ps) (q ∷ ps) n refl (omega arith)

pub element_placed : (closed : Trees) (p : Partial) (ps : List Partial) (x : Fixed) →
    has_elements p ≡ true → takes_element p x ≡ true →
    state_with_value closed (p ∷ ps) (fixed x) ≡ Some
    (record { closed = closed; opened = with_element p x ∷ ps })
element_placed closed (open_array xs) ps x h t =
    ap (λ b. elim (cond b (Some (open_array (xs ++ x ∷ []))) None) as (λ _. Option State)
    [ Some q ↦ Some (record { closed = closed; opened = q ∷ ps }) | None ↦ None ]) t
element_placed closed (open_choice k f xs) ps x h t =
    ap (λ b. elim (cond b (Some (open_choice k f (xs ++ x ∷ []))) None) as (λ _. Option State)
    [ Some q ↦ Some (record { closed = closed; opened = q ∷ ps }) | None ↦ None ]) t
element_placed closed _ ps x h t = absurd (cc)

pub element_not : (closed : Trees) (p : Partial) (ps : List Partial) (x : Fixed) →
    has_elements p ≡ true → takes_element p x ≡ false → state_with_value closed (p ∷ ps) (fixed x) ≡ None
element_not closed (open_array xs) ps x h t =
    ap (λ b. elim (cond b (Some (open_array (xs ++ x ∷ []))) None) as (λ _. Option State)
    [ Some q ↦ Some (record { closed = closed; opened = q ∷ ps }) | None ↦ None ]) t
element_not closed (open_choice k f xs) ps x h t =
    ap (λ b. elim (cond b (Some (open_choice k f (xs ++ x ∷ []))) None) as (λ _. Option State)
    [ Some q ↦ Some (record { closed = closed; opened = q ∷ ps }) | None ↦ None ]) t
element_not closed _ ps x h t = absurd (cc)

-- behind the first element the bytes only grow
pub later_bytes : (p : Partial) (x : Fixed) → has_elements p ≡ true → is_first p ≡ false →
    so_far (with_element p x) ≡ so_far p ++ fixed_body x
later_bytes (open_array (y ∷ ys)) x h t =
    ap (λ l. word_bytes 0 ++ (word_bytes array_type ++
    (word_bytes (body_size (kind_of y)) ++ (word_bytes (type_number (kind_of y)) ++ l))))
    (bodies_push (y ∷ ys) x) ∙ simp append_assoc
later_bytes (open_choice k f (y ∷ ys)) x h t =
    ap (λ l. word_bytes 0 ++ (word_bytes choice_type ++
    (word_bytes (shape_number k) ++
    (word_bytes f ++ (word_bytes (body_size (kind_of y)) ++
    (word_bytes (type_number (kind_of y)) ++ l)))))) (bodies_push (y ∷ ys) x) ∙ simp append_assoc
later_bytes _ x h t = absurd (cc)

-- where the first element comes, what is before the child header
abbrev pub before_child : Partial → List ℕ
before_child (open_choice k f xs) =
    word_bytes 0 ++ (word_bytes choice_type ++ (word_bytes (shape_number k) ++ word_bytes f))
before_child p = word_bytes 0 ++ word_bytes (type_of_partial p)

pub first_so_far : (p : Partial) → has_elements p ≡ true → is_first p ≡ true →
    so_far p ≡ before_child p ++ (word_bytes 0 ++ word_bytes 1)
first_so_far (open_array []) h t =
    ap (λ l. word_bytes 0 ++ (word_bytes array_type ++ (word_bytes 0 ++ l)))
    (append-nil (word_bytes 1)) ∙ simp append_assoc
first_so_far (open_choice k f []) h t =
    ap (λ l. word_bytes 0 ++ (word_bytes choice_type ++
    (word_bytes (shape_number k) ++ (word_bytes f ++ (word_bytes 0 ++ l)))))
    (append-nil (word_bytes 1)) ∙ simp append_assoc
first_so_far _ h t = absurd (cc)

pub first_after : (p : Partial) (x : Fixed) → has_elements p ≡ true → is_first p ≡ true →
    so_far (with_element p x) ≡ before_child p ++
    (word_bytes (body_size (kind_of x)) ++ (word_bytes (type_number (kind_of x)) ++ fixed_body x))
first_after (open_array []) x h t =
    ap (λ l. word_bytes 0 ++ (word_bytes array_type ++
    (word_bytes (body_size (kind_of x)) ++ (word_bytes (type_number (kind_of x)) ++ l))))
    (append-nil (fixed_body x)) ∙ simp append_assoc
first_after (open_choice k f []) x h t =
    ap (λ l. word_bytes 0 ++ (word_bytes choice_type ++
    (word_bytes (shape_number k) ++
    (word_bytes f ++ (word_bytes (body_size (kind_of x)) ++
    (word_bytes (type_number (kind_of x)) ++ l)))))) (append-nil (fixed_body x)) ∙ simp append_assoc
first_after _ x h t = absurd (cc)

pub is_element : (new : BuilderFields) (closed : Trees) (p : Partial) (ps : List Partial) (x : Fixed) →
    IsNested (p ∷ ps) → takes_element p x ≡ true →
    new.bytes ≡ (member_encodings closed ++ all_so_far ps) ++ so_far (with_element p x) →
    new.frames ≡ frames_of (length (member_encodings closed)) (with_element p x ∷ ps) →
    all_fit 0 (with_element p x ∷ ps) ≡ true →
    IsAt new (record { closed = closed; opened = with_element p x ∷ ps })
is_element new closed p ps x k t b f g = record {
  bytes = b ∙ append_assoc (member_encodings closed) (all_so_far ps) (so_far (with_element p x));
  frames = f;
  nested = (fair_more p x t k.0, k.1, k.2);
  fit = g;
}

-- a value of a fixed size taken nowhere else
pub no_place : (closed : Trees) (ps : List Partial) (x : Fixed) → takes_elements ps ≡ false →
    takes_trees ps ≡ false → state_with_value closed ps (fixed x) ≡ None
no_place closed (open_object a b c ∷ ps) x h t = refl
no_place closed _ x h t = absurd (cc)

-- two words over two others
pub replaced_two : (front back old new : List ℕ) (a b n k at : ℕ) → at ≡ length front →
    old ≡ front ++ (word_bytes a ++ (word_bytes b ++ back)) →
    new ≡ take at old ++ ((word_bytes n ++ word_bytes k) ++ drop (at + 8) old) →
    new ≡ front ++ (word_bytes n ++ (word_bytes k ++ back))
replaced_two front back old new a b n k at s e f =
    let two = word_bytes a ++ word_bytes b in
    let w : old ≡ front ++ (two ++ back) = e
    ∙ ap (λ l. front ++ l) (sym (append_assoc (word_bytes a) (word_bytes b) back)) in
    let t = ap (take at) w ∙ take_at front (two ++ back) at (sym s) in
    let l = length-append front two in
    let l0 = two_words_length a b in
    let d =
    ap (drop (at + 8)) (w ∙ sym (append_assoc front two back))
    ∙ drop_at (front ++ two) back (at + 8) (omega arith) in
    f
    ∙ ap (λ x. x ++ ((word_bytes n ++ word_bytes k) ++ drop (at + 8) old)) t
    ∙ ap (λ x. front ++ ((word_bytes n ++ word_bytes k) ++ x)) d
    ∙ ap (λ l. front ++ l) (append_assoc (word_bytes n) (word_bytes k) back)

pub element_bytes : (p : Partial) (x : Fixed) (front mid new : List ℕ) (at size kind : ℕ)
    (b : Bool) → kind ≡ type_number (kind_of x) → has_elements p ≡ true → b ≡ is_first p →
    mid ≡ (front ++ so_far p) ++ fixed_body x → at ≡ length (front ++ so_far p) - 8 →
    size ≡ body_size (kind_of x) →
    (b ≡ true → (f k : List ℕ) (a c : ℕ) → at ≡ length f →
    mid ≡ f ++ (word_bytes a ++ (word_bytes c ++ k)) →
    new ≡ f ++ (word_bytes size ++ (word_bytes kind ++ k))) → (b ≡ false → new ≡ mid) →
    new ≡ front ++ so_far (with_element p x)
element_bytes p x front mid new at size kind true y h i e l s f g =
    let w = first_so_far p h (sym i) in
    let t = before_child p in
    let m : mid ≡ (front ++ t) ++ (word_bytes 0 ++ (word_bytes 1 ++ fixed_body x)) = e
    ∙ ap (λ y. (front ++ y) ++ fixed_body x) w ∙ simp append_assoc in
    let e0 = ap (λ y. length (front ++ y)) w in
    let e1 = length-append front (t ++ (word_bytes 0 ++ word_bytes 1)) in
    let e2 = length-append t (word_bytes 0 ++ word_bytes 1) in
    let e3 = two_words_length 0 1 in
    let e4 = length-append front t in
    f refl (front ++ t) (fixed_body x) 0 1 (omega arith) m
    ∙ ap (λ n. (front ++ t) ++ (word_bytes n ++ (word_bytes kind ++ fixed_body x))) s
    ∙ ap (λ n. (front ++ t) ++
    (word_bytes (body_size (kind_of x)) ++ (word_bytes n ++ fixed_body x))) y
    ∙ append_assoc front t (word_bytes (body_size (kind_of x)) ++
    (word_bytes (type_number (kind_of x)) ++ fixed_body x))
    ∙ ap (λ y. front ++ y) (sym (first_after p x h (sym i)))
element_bytes p x front mid new at size kind false y h i e l s f g =
    g refl ∙ e ∙ append_assoc front (so_far p) (fixed_body x)
    ∙ ap (λ y. front ++ y) (sym (later_bytes p x h (sym i)))

pub small_body : (x : Fixed) (n : ℕ) → length (fixed_body x) ≡ n → n ≤ 8 →
    nat_lt (length (fixed_body x)) (2 ^ 32) ≡ true
small_body x n e h = grind (arith, nat_tests)
