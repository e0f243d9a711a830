-- Keys, each once, as a list grows.
use Rattle.std.proofs.Common.{◌≡◌, ℕ, List, [], ◌∷◌, ◌++◌, Bool, true, false, not, cond, ◌==◌, if◌then◌else◌, refl, sym, ap, ◌∙◌, true≢false}
use Rattle.std.specs.List.{filter}
use Rattle.std.specs.Cmp.{unsigned_Decides}
use Rattle.std.proofs.lemmas.List.{append-nil}
use Rattle.std.proofs.lemmas.List.Elements.{filter-append}
use Rattle.std.proofs.lemmas.Bool.{eqb-true}
use Rattle.spa_format.specs.Tree.{Tree, Properties, no_properties, property, join_properties}
use Rattle.spa_keyed_objects.specs.Keys.{key_list, distinct_of, contains}

-- these numbers without one
abbrev without : ℕ → List ℕ → List ℕ
without j ks = filter (λ i. not (i == j)) ks

-- the test of two numbers
pub test-self : (n : ℕ) → (n == n) ≡ true
test-self n = (unsigned_Decides n n).1 refl

test-flipped_by : (m n : ℕ) (b : Bool) → (n == m) ≡ b → (m == n) ≡ false → (n == m) ≡ false
test-flipped_by m n true e h =
    absurd (true≢false (sym (test-self n) ∙ ap (λ x. x == n) (eqb-true n m e) ∙ h))
test-flipped_by m n false e h = e

test-flipped : (m n : ℕ) → (m == n) ≡ false → (n == m) ≡ false
test-flipped m n h = test-flipped_by m n (n == m) refl h

-- where k isn't among j and ks, it isn't j, and isn't among ks
absent_first : (b c : Bool) → (if b then true else c) ≡ false → b ≡ false
absent_first true c h = absurd (true≢false h)
absent_first false c h = refl

absent_rest : (b c : Bool) → (if b then true else c) ≡ false → c ≡ false
absent_rest true c h = absurd (true≢false h)
absent_rest false c h = h

without-other : (j k : ℕ) (ks : List ℕ) → (k == j) ≡ false → without j (k ∷ ks) ≡ k ∷ without j ks
without-other j k ks n = ap (λ b. cond (not b) (k ∷ without j ks) (without j ks)) n

without-same : (k : ℕ) (ks : List ℕ) → without k (k ∷ ks) ≡ without k ks
without-same k ks = ap (λ b. cond (not b) (k ∷ without k ks) (without k ks)) (test-self k)

without-append : (j : ℕ) (ks js : List ℕ) → without j (ks ++ js) ≡ without j ks ++ without j js
without-append j ks js = filter-append (λ i. not (i == j)) ks js

-- a new number comes behind the others
pub distinct_of-new : (k : ℕ) (ks : List ℕ) → contains k ks ≡ false →
    distinct_of (ks ++ k ∷ []) ≡ distinct_of ks ++ k ∷ []
distinct_of-new k [] h = refl
distinct_of-new k (j ∷ ks) h =
    let other = test-flipped j k (absent_first (j == k) (contains k ks) h) in
    let rest = distinct_of-new k ks (absent_rest (j == k) (contains k ks) h) in
    ap (λ js. j ∷ js)
    (ap (without j) rest ∙ without-append j (distinct_of ks) (k ∷ [])
    ∙ ap (λ js. without j (distinct_of ks) ++ js) (without-other j k [] other))

distinct_of-seen_by : (j k : ℕ) (ks : List ℕ) (b c : Bool) → (j == k) ≡ b → contains k ks ≡ c →
    (if b then true else c) ≡ true →
    (contains k ks ≡ true → distinct_of (ks ++ k ∷ []) ≡ distinct_of ks) →
    without j (distinct_of (ks ++ k ∷ [])) ≡ without j (distinct_of ks)
distinct_of-seen_by j k ks b true e f h more = ap (without j) (more f)
distinct_of-seen_by j k ks true false e f h more =
    let none = ap (λ n. without n (k ∷ [])) (eqb-true j k e) ∙ without-same k [] in
    ap (without j) (distinct_of-new k ks f) ∙ without-append j (distinct_of ks) (k ∷ [])
    ∙ ap (λ js. without j (distinct_of ks) ++ js) none ∙ append-nil (without j (distinct_of ks))
distinct_of-seen_by j k ks false false e f h more = absurd (true≢false (sym h))

-- a number that was there changes nothing
pub distinct_of-seen : (k : ℕ) (ks : List ℕ) → contains k ks ≡ true →
    distinct_of (ks ++ k ∷ []) ≡ distinct_of ks
distinct_of-seen k [] h = absurd (true≢false (sym h))
distinct_of-seen k (j ∷ ks) h =
    ap (λ js. j ∷ js)
    (distinct_of-seen_by j k ks (j == k) (contains k ks) refl refl h (distinct_of-seen k ks))

-- a new number stands behind those that come before it, whatever comes behind it
pub distinct_of-split : (k : ℕ) (js ks : List ℕ) → contains k ks ≡ false →
    (after : List ℕ) × (distinct_of (ks ++ k ∷ js) ≡ distinct_of ks ++ k ∷ after)
distinct_of-split k js [] h = (without k (distinct_of js), refl)
distinct_of-split k js (j ∷ ks) h =
    let other = test-flipped j k (absent_first (j == k) (contains k ks) h) in
    let rest = distinct_of-split k js ks (absent_rest (j == k) (contains k ks) h) in
    let same =
    ap (without j) rest.1 ∙ without-append j (distinct_of ks) (k ∷ rest.0)
    ∙ ap (λ is. without j (distinct_of ks) ++ is) (without-other j k rest.0 other) in
    (without j rest.0, ap (λ is. j ∷ is) same)

-- keys of properties behind one another
pub key_list-join : (ps qs : Properties) →
    key_list (join_properties ps qs) ≡ key_list ps ++ key_list qs
key_list-join no_properties qs = refl
key_list-join (property k f v ps) qs = ap (λ ks. k ∷ ks) (key_list-join ps qs)

contains-push_by : (k j i : ℕ) (ks : List ℕ) (b c : Bool) →
    contains k (ks ++ j ∷ []) ≡ (if c then true else contains k ks) →
    (if b then true else contains k (ks ++ j ∷ [])) ≡ (if c then true else if b then true else contains k ks)
contains-push_by k j i ks true true h = refl
contains-push_by k j i ks true false h = refl
contains-push_by k j i ks false c h = h

-- what is among some numbers and one more
contains-push : (k j : ℕ) (ks : List ℕ) →
    contains k (ks ++ j ∷ []) ≡ (if j == k then true else contains k ks)
contains-push k j [] = refl
contains-push k j (i ∷ ks) = contains-push_by k j i ks (i == k) (j == k) (contains-push k j ks)

-- the keys of some properties and of one more
pub contains-key_list : (k j f : ℕ) (v : Tree) (ps : Properties) →
    contains k (key_list (join_properties ps (property j f v no_properties)))
    ≡ (if j == k then true else contains k (key_list ps))
contains-key_list k j f v ps =
    ap (contains k) (key_list-join ps (property j f v no_properties)) ∙ contains-push k j (key_list ps)
