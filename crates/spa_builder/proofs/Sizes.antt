-- One size word decides: the outermost is the greatest.
use Rattle.std.proofs.Common.{◌≡◌, ℕ, ◌+◌, ◌*◌, ◌/◌, ◌-◌, ◌<◌, ◌≤◌, ◌^◌, List, [], ◌∷◌, ◌++◌, length, refl, ap, ◌∙◌, arith, length-append, true, ◌&&◌}
use Rattle.std.specs.Prelude.{nat_lt, IsTrue}
use Rattle.std.proofs.lemmas.Bool.Decides.{nat_tests}
use borrow.Author.Tests.{ltb-true}
use Rattle.spa_format.specs.Words.{word_bytes, extent}
use Rattle.spa_format.specs.Kind.{Kind, none_kind, Fixed}
use Rattle.spa_format.specs.Tree.{shape_number}
use Rattle.spa_format.specs.Normal.{kept_elements}
use Rattle.spa_format.specs.Encoding.{array_body, fixed_bodies, property_encodings}
use Rattle.spa_format.proofs.Encodings.{length-behind_two, two_words_length}
use Rattle.spa_format.proofs.Elements.{array_length}
use Rattle.spa_builder.specs.State.{Partial, open_struct, open_object, open_property, open_array, open_choice}
use Rattle.spa_builder.specs.Step.{own_size, all_fit, takes_trees, child_kind}
use Rattle.spa_builder.specs.Fields.{body_so_far, so_far, all_so_far, type_of_partial, IsFair, IsNested}
use Rattle.spa_builder.specs.Innermost.{has_room_for}
use Rattle.spa_builder.proofs.Lengths.{members_whole, properties_whole}

-- what an array keeps of its elements has the bytes of all
pub kept_bodies : (k : Kind) (xs : List Fixed) → (k ≡ none_kind → fixed_bodies xs ≡ []) →
    fixed_bodies xs ≡ fixed_bodies (kept_elements k xs)
kept_bodies none_kind xs h = h refl
kept_bodies _ xs h = refl

pub length-body : (p : Partial) → IsFair p → length (body_so_far p) ≡ own_size p
length-body (open_struct vs) h = refl
length-body (open_object t i ps) h = refl
length-body (open_property t i ps k f) h =
    let e0 = length-behind_two t i (property_encodings ps ++ (word_bytes k ++ word_bytes f)) in
    let e1 = length-append (property_encodings ps) (word_bytes k ++ word_bytes f) in
    let e2 = two_words_length k f in
    let e3 = length-behind_two t i (property_encodings ps) in
    omega arith
length-body (open_array xs) h =
    array_length (child_kind xs) xs
    ∙ ap (λ l. 8 + length l) (kept_bodies (child_kind xs) xs h)
    ∙ (let e = array_length (child_kind xs) (kept_elements (child_kind xs) xs) in omega arith)
length-body (open_choice s f xs) h =
    let e0 = length-behind_two (shape_number s) f (array_body (child_kind xs) xs) in
    let e1 = array_length (child_kind xs) xs in
    omega arith

pub length-so_far : (p : Partial) → IsFair p → length (so_far p) ≡ 8 + own_size p
length-so_far p h = let e = length-behind_two 0 (type_of_partial p) (body_so_far p) in let f =
    length-body p h in omega arith

-- a tree that takes any tree is so many words of 64 bits long
pub own_whole : (p : Partial) (ps : List Partial) → IsTrue (takes_trees (p ∷ ps)) →
    (n : ℕ) × (own_size p ≡ 8 * n)
own_whole (open_struct vs) ps h = members_whole vs
own_whole (open_object t i qs) ps h = let m = properties_whole qs in let e = m.1 in let f =
    length-behind_two t i (property_encodings qs) in (1 + m.0, omega arith)
own_whole (open_property t i qs k f) ps h =
    let m = properties_whole qs in
    let e = m.1 in
    let g = length-behind_two t i (property_encodings qs) in
    (2 + m.0, omega arith)
own_whole (open_array xs) ps h = absurd (cc)
own_whole (open_choice k f xs) ps h = absurd (cc)

pub all_whole : (ps : List Partial) → IsTrue (takes_trees ps) → IsNested ps →
    (n : ℕ) × (length (all_so_far ps) ≡ 8 * n)
all_whole [] h k = (0, refl)
all_whole (p ∷ ps) h k =
    let m = all_whole ps k.1 k.2 in
    let w = own_whole p ps h in
    let e0 = m.1 in
    let e1 = w.1 in
    let e2 = length-append (all_so_far ps) (so_far p) in
    let e3 = length-so_far p k.0 in
    (1 + m.0 + w.0, omega arith)

-- the greater of two sizes decides
both_fit : (a b c m : ℕ) → a ≤ b → b ≡ c → (nat_lt a m && nat_lt b m) ≡ nat_lt c m
both_fit a b c m h e = grind (arith, nat_tests)

one_fits : (a c m : ℕ) → a ≡ c → (nat_lt a m && true) ≡ nat_lt c m
one_fits a c m e = grind (arith, nat_tests)

pub same_test : (a b m n : ℕ) → (a < m → b < n) → (b < n → a < m) → nat_lt a m ≡ nat_lt b n
same_test a b m n f g = grind (arith, nat_tests)

pub at_least_8 : (p : Partial) (ps : List Partial) → 8 ≤ length (all_so_far (p ∷ ps))
at_least_8 p ps =
    let e0 = length-append (all_so_far ps) (so_far p) in
    let e1 = length-behind_two 0 (type_of_partial p) (body_so_far p) in
    omega arith

-- Trees that take any tree: all fit where the outermost does, whose size is what is behind its header.
holders_fit : (p : Partial) (ps : List Partial) (inside n : ℕ) → inside ≡ 8 * n →
    IsTrue (takes_trees (p ∷ ps)) → IsNested (p ∷ ps) →
    all_fit inside (p ∷ ps) ≡ nat_lt (length (all_so_far (p ∷ ps)) - 8 + inside) (2 ^ 32)
holders_fit p [] inside n e h k =
    let sf = length-so_far p k.0 in
    let l : own_size p + inside ≡ length (so_far p) - 8 + inside = omega arith in
    one_fits (own_size p + inside) _ (2 ^ 32) l
holders_fit p (q ∷ qs) inside n e h k =
    let w = own_whole p (q ∷ qs) h in
    let we = w.1 in
    let own = own_size p in
    let up : extent (own + inside) ≡ 8 + own + inside = omega arith in
    let ih = holders_fit q qs (extent (own + inside)) (1 + n + w.0) (omega arith) k.1 k.2 in
    let len = length-append (all_so_far (q ∷ qs)) (so_far p) in
    let sf = length-so_far p k.0 in
    let m = at_least_8 q qs in
    ap (λ b. nat_lt (own + inside) (2 ^ 32) && b) ih
    ∙ both_fit (own + inside) (length (all_so_far (q ∷ qs)) - 8 + extent (own + inside))
    (length (all_so_far (p ∷ q ∷ qs)) - 8 + inside) (2 ^ 32) (omega arith) (omega arith)

-- The rule for all open trees is one test on the outermost.
pub one_size_decides : (ps : List Partial) → IsNested ps → all_fit 0 ps ≡ has_room_for 0 ps
one_size_decides [] k = refl
one_size_decides (p ∷ []) k =
    let sf = length-so_far p k.0 in
    one_fits (own_size p + 0) (length (all_so_far (p ∷ [])) - 8 + 0) (2 ^ 32) (omega arith)
one_size_decides (p ∷ q ∷ qs) k =
    let own = own_size p in
    let sf = length-so_far p k.0 in
    let w = all_whole (q ∷ qs) k.1 k.2 in
    let we = w.1 in
    let m = at_least_8 q qs in
    let len = length-append (all_so_far (q ∷ qs)) (so_far p) in
    let whole = (own + 0 + 7) / 8 in
    let ih = holders_fit q qs (extent (own + 0)) (1 + whole) (omega arith) k.1 k.2 in
    ap (λ b. nat_lt (own + 0) (2 ^ 32) && b) ih
    ∙ both_fit (own + 0) (length (all_so_far (q ∷ qs)) - 8 + extent (own + 0))
    (length (all_so_far (q ∷ qs)) - 8 + extent (own + 0)) (2 ^ 32) (omega arith) refl
    ∙ same_test (length (all_so_far (q ∷ qs)) - 8 + extent (own + 0))
    (length (all_so_far (p ∷ q ∷ qs)) - 8 + 0) (2 ^ 32) (2 ^ 32 - 7) (λ h. omega arith)
    (λ h. omega arith)

-- with so many bytes more in trees that are as many
pub room_later : (ps qs : List Partial) (more : ℕ) → length qs ≡ length ps →
    length (all_so_far qs) ≡ length (all_so_far ps) + more →
    has_room_for 0 qs ≡ has_room_for more ps
room_later [] [] more e f = refl
room_later [] (q ∷ qs) more e f = absurd (cc)
room_later (p ∷ ps) [] more e f = absurd (cc)
room_later (p ∷ []) (q ∷ []) more e f = let m = at_least_8 p [] in
    ap (λ n. nat_lt n (2 ^ 32)) (omega arith)
room_later (p ∷ []) (q ∷ r ∷ qs) more e f = absurd (omega arith)
room_later (p ∷ s ∷ ps) (q ∷ []) more e f = absurd (omega arith)
room_later (p ∷ s ∷ ps) (q ∷ r ∷ qs) more e f = let m = at_least_8 p (s ∷ ps) in
    ap (λ n. nat_lt n (2 ^ 32 - 7)) (omega arith)

-- with a new tree of so many bytes, header and all
pub room_begun : (p : Partial) (ps : List Partial) (n : ℕ) → n ≤ 2 → length (so_far p) ≡ 8 + 8 * n →
    IsTrue (takes_trees ps) → IsNested ps → has_room_for 0 (p ∷ ps) ≡ has_room_for (8 + 8 * n) ps
room_begun p [] n u l h k = same_test (length (all_so_far (p ∷ [])) - 8 + 0) 0 (2 ^ 32) 1
    (λ x. omega arith) (λ x. omega arith)
room_begun p (q ∷ []) n u l h k =
    let w = all_whole (q ∷ []) h k in
    let we = w.1 in
    let m = at_least_8 q [] in
    let len = length-append (all_so_far (q ∷ [])) (so_far p) in
    same_test (length (all_so_far (p ∷ q ∷ [])) - 8 + 0)
    (length (all_so_far (q ∷ [])) - 8 + (8 + 8 * n)) (2 ^ 32 - 7) (2 ^ 32) (λ x. omega arith)
    (λ x. omega arith)
room_begun p (q ∷ r ∷ qs) n u l h k =
    let m = at_least_8 q (r ∷ qs) in
    let len = length-append (all_so_far (q ∷ r ∷ qs)) (so_far p) in
    ap (λ x. nat_lt x (2 ^ 32 - 7)) (omega arith)

-- what a size that fits says of the bytes
pub small_now : (ps : List Partial) → 0 < length ps → IsTrue (has_room_for 0 ps) →
    (8 ≤ length (all_so_far ps)) × (length (all_so_far ps) < 2 ^ 33)
small_now [] h t = absurd (omega arith)
small_now (p ∷ []) h t = let m = at_least_8 p [] in let l = ltb-true _ _ t in (m, omega arith)
small_now (p ∷ q ∷ qs) h t = let m = at_least_8 p (q ∷ qs) in let l = ltb-true _ _ t in
    (m, omega arith)

-- a closed tree takes no more than it took when it was open
pub inside_fit : (ps : List Partial) (n m : ℕ) → n ≡ 8 * m → takes_trees ps ≡ true → IsNested ps →
    all_fit n ps ≡ has_room_for n ps
inside_fit [] n m e h k = refl
inside_fit (p ∷ []) n m e h k = holders_fit p [] n m e h k
inside_fit (p ∷ q ∷ qs) n m e h k =
    let w = all_whole (p ∷ q ∷ qs) h k in
    let we = w.1 in
    let l = at_least_8 p (q ∷ qs) in
    holders_fit p (q ∷ qs) n m e h k ∙ same_test _ _ (2 ^ 32) (2 ^ 32 - 7) (λ x. omega arith)
    (λ x. omega arith)
