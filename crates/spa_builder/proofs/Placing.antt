-- A value that isn't an element, by what the test for it says.
use Rattle.std.proofs.Common.{◌≡◌, ℕ, ◌+◌, ◌<◌, ◌≤◌, ◌++◌, List, length, refl, sym, ap, ◌∙◌, subst, true, Ok, Err, inl, inr}
use Rattle.std.specs.Prelude.{IsErrAnd, Option, Result}
use Rattle.std.proofs.lemmas.Result.{err_from_is_err_and}
use Rattle.std.proofs.lemmas.Bool.{and_right, lt-ltb, and_left, le-ltb}
use Rattle.spa_format.specs.Words.{extent, size_limit}
use Rattle.spa_format.specs.Tree.{Tree}
use Rattle.spa_format.specs.Encoding.{encoded_body, encoding_of, member_encodings}
use Rattle.spa_builder.specs.State.{Partial, State}
use Rattle.spa_builder.specs.Step.{all_fit, outcome_with_value, takes_trees}
use Rattle.spa_builder.specs.Fields.{BuilderFields, IsAt, all_so_far, frames_of}
use Rattle.spa_builder.specs.Innermost.{innermost_of, trees_with_value}
use Rattle.spa_builder.specs.Answers.{IsAdmitted, IsNoElement, Makes}
use Rattle.spa_utils.specs.declared.errno.Errno.{Errno}
use Rattle.spa_utils.specs.declared.errno.TheConstants.Errno.{NOMEM}
use Rattle.spa_builder.proofs.Steps.{sized_goes, sized_nomem, sized_nospc, sized_inval, placed_is, after, added_fit, is_after, base_and_more}
use Rattle.spa_builder.specs.declared.begun.BegunPod.{BegunPod}

-- what a size that was tested says of the value's
pub record IsSizeOf (n : ℕ) (v : Tree) : Type 0 where
  pub exact : n < size_limit → n ≡ length (encoded_body v)
  pub large : size_limit ≤ n → size_limit ≤ length (encoded_body v)

-- a size that is the value's
pub exactly : {n : ℕ} {v : Tree} → n ≡ length (encoded_body v) → IsSizeOf n v
exactly e = record { exact = λ _. e; large = λ l. subst (λ m. size_limit ≤ m) e l }

-- a size that was computed, and is the value's where it fits a word of 32 bits
pub computed : {n m : ℕ} {v : Tree} → m ≡ length (encoded_body v) → (n < size_limit → n ≡ m) → (size_limit ≤ n → size_limit ≤ m) → IsSizeOf n v
computed e exact large = record { exact = λ l. exact l ∙ e; large = λ l. subst (λ m. size_limit ≤ m) e (large l) }

-- what was answered where a size was tested behind so many bytes
abbrev Answers : BuilderFields → (len n : ℕ) → Result (Unit {0}) Errno → Type 0
Answers old len n r = (base : ℕ) (ps : List Partial) → old.frames ≡ frames_of base ps → len ≡ base + length (all_so_far ps) → IsAdmitted n ps r

answered : (s : State) (old : BuilderFields) (len n : ℕ) (r : Result (Unit {0}) Errno) → IsAt old s → len ≡ length old.bytes →
    Answers old len n r → IsAdmitted n s.opened r
answered s old len n r at l k = k (length (member_encodings s.closed)) s.opened at.frames (l ∙ base_and_more old s at)

refused_so : (s : State) (v : Tree) (old : BuilderFields) (n : ℕ) (e : Errno) → IsAt old s → IsSizeOf n v →
    IsNoElement s v →
    IsAdmitted n s.opened (Err e) → Makes {A = Unit {0}} (outcome_with_value s v) old old (Err e)
refused_so s v old n e at size none (inl h) =
    subst (λ x. Makes {A = Unit {0}} (outcome_with_value s v) old old (Err x)) (sym h.0) (sized_inval _ _ _ old (none h.1))
refused_so s v old n e at size none (inr (h, t, inl l)) =
    subst (λ x. Makes {A = Unit {0}} (outcome_with_value s v) old old (Err x)) (sym h)
    (sized_nospc _ _ _ (after s.closed s.opened v) old (placed_is s.closed s.opened v t)
    (and_left _ _ (le-ltb _ _ (size.large l))))
refused_so s v old n e at size none (inr (h, t, inr (l, r))) =
    subst (λ x. Makes {A = Unit {0}} (outcome_with_value s v) old old (Err x)) (sym h)
    (sized_nospc _ _ _ (after s.closed s.opened v) old (placed_is s.closed s.opened v t)
    (and_right _ _ (added_fit s.opened v (extent n) (ap extent (size.exact l)) t at.nested
    ∙ r)))

pub passed : {A : Type 0} (r : Result A Errno) (e : Errno) → IsErrAnd r (λ y. y ≡ e) → r ≡ Err e
passed r e h = let p = err_from_is_err_and r h in rw (p.1, p.2) refl

-- refused by the test
pub not_admitted : (s : State) (v : Tree) (old : BuilderFields) (len n : ℕ) (e : Errno)
    (r : Result (Unit {0}) Errno) → IsErrAnd r (λ y. y ≡ e) → IsAt old s → IsSizeOf n v →
    IsNoElement s v → len ≡ length old.bytes → Answers old len n (Err e) →
    Makes {A = Unit {0}} (outcome_with_value s v) old old r
not_admitted s v old len n e r h at size none l k =
    subst (Makes {A = Unit {0}} (outcome_with_value s v) old old) (sym (passed r e h))
    (refused_so s v old n e at size none (answered s old len n (Err e) at l k))

-- admitted, and refused for lack of memory
pub admitted_nomem : (s : State) (v : Tree) (old new : BuilderFields) (len n : ℕ) (x : Unit {0})
    (r : Result (Unit {0}) Errno) → IsAt old s → IsSizeOf n v → len ≡ length old.bytes → Answers old len n (Ok x) →
    r ≡ Err NOMEM → new ≡ old →
    Makes (outcome_with_value s v) old new r
admitted_nomem s v old new len n x r at size l a e f =
    let k = answered s old len n (Ok x) at l a in
    sized_nomem _ _ (after s.closed s.opened v) old new r
    (lt-ltb _ _ (subst (λ m. m < size_limit) (size.exact k.1) k.1))
    (placed_is s.closed s.opened v k.0)
    (added_fit s.opened v (extent n) (ap extent (size.exact k.1)) k.0 at.nested ∙ k.2) e f

-- admitted, and added: the frames are filled, of which this was the innermost
pub admitted : (s : State) (v : Tree) (old new : BuilderFields) (len n : ℕ) (x y : Unit {0}) (innermost : Option BegunPod) → IsAt old s →
    IsSizeOf n v → len ≡ length old.bytes → Answers old len n (Ok x) → new.bytes ≡ old.bytes ++ encoding_of v →
    ((base : ℕ) (ps : List Partial) (w : Tree) → takes_trees ps ≡ true → old.frames ≡ frames_of base ps → innermost ≡ innermost_of base ps →
    new.frames ≡ frames_of base (trees_with_value ps w)) →
    ((base : ℕ) (ps : List Partial) → old.frames ≡ frames_of base ps → innermost ≡ innermost_of base ps) →
    Makes (outcome_with_value s v) old new (Ok y)
admitted s v old new len n x y innermost at size l a b fill last =
    let k = answered s old len n (Ok x) at l a in
    let base = length (member_encodings s.closed) in
    let fit : all_fit 0 (trees_with_value s.opened v) ≡ true =
    added_fit s.opened v (extent n) (ap extent (size.exact k.1)) k.0 at.nested ∙ k.2 in
    sized_goes _ _ (after s.closed s.opened v) old new y
    (lt-ltb _ _ (subst (λ m. m < size_limit) (size.exact k.1) k.1))
    (placed_is s.closed s.opened v k.0) fit
    (is_after s.closed s.opened v old.bytes new at.bytes at.nested k.0 b
    (fill base s.opened v k.0 at.frames (last base s.opened at.frames)) fit)
