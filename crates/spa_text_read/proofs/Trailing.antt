-- What is open of a text, in the reader's list of it: the innermost stands last there.
use Rattle.std.proofs.Common.{◌≡◌, ℕ, ◌<◌, ◌≤◌, List, [], ◌∷◌, ◌++◌, true, false, length, sym, ap, ◌∙◌, subst, arith}
use Rattle.std.proofs.lemmas.Bool.Decides.{nat_tests}
use Rattle.std.proofs.lemmas.List.{map_push}
use Rattle.json.specs.Token.{Token}
use Rattle.std.specs.Prelude.{codes, if◌then◌else◌, map, nat_lt, reverse}
use Rattle.std.proofs.lemmas.List.{reverse-append}
use Rattle.spa_text_read.specs.declared.place.Open.{Open}
use Rattle.spa_text_read.specs.Places.{Opens, none, one, after, path_behind, path_limit, step_text}
use Rattle.spa_text_read.specs.Trails.{open_of, opens_of}

-- one more is the innermost
pub one_opened : (trail grown : List Open) (o : Open) → grown ≡ trail ++ o ∷ [] → opens_of grown ≡ open_of o ∷ opens_of trail
one_opened trail grown o e =
    ap opens_of e ∙ ap reverse (map_push open_of trail o) ∙ reverse-append (map open_of trail) (open_of o ∷ [])

not_above : (n : ℕ) → n ≤ path_limit → nat_lt path_limit n ≡ false
not_above n h = grind (arith, nat_tests)

above : (n : ℕ) → path_limit < n → nat_lt path_limit n ≡ true
above n h = grind (arith, nat_tests)

-- a path so far, and the steps that are left
pub LeadsOn : List Open → List ℕ → List Open → Type 0
LeadsOn trail path left = path_behind [] (map open_of trail) ≡ path_behind path (map open_of left)

pub no_step_taken : (trail left : List Open) → left ≡ trail → LeadsOn trail [] left
unfolding LeadsOn
no_step_taken trail left e = ap (λ l. path_behind [] (map open_of l)) (sym e)

pub step_taken : (trail left rest : List Open) (o : Open) (path next : List ℕ) → left ≡ o ∷ rest → length path ≤ path_limit →
    next ≡ path ++ step_text (open_of o) → LeadsOn trail path left → LeadsOn trail next rest
unfolding LeadsOn
step_taken trail left rest o path next l n e h =
    h ∙ ap (λ x. path_behind path (map open_of x)) l ∙ ap (λ b. if b then path ++ codes ".." else path_behind (path ++ step_text (open_of o)) (map open_of rest)) (not_above (length path) n)
    ∙ ap (λ x. path_behind x (map open_of rest)) (sym e)

pub path_cut : (trail left rest : List Open) (o : Open) (path next : List ℕ) → left ≡ o ∷ rest → path_limit < length path →
    next ≡ path ++ codes ".." → LeadsOn trail path left → next ≡ path_behind [] (map open_of trail)
unfolding LeadsOn
path_cut trail left rest o path next l n e h =
    e ∙ sym (h ∙ ap (λ x. path_behind path (map open_of x)) l ∙ ap (λ b. if b then path ++ codes ".." else path_behind (path ++ step_text (open_of o)) (map open_of rest)) (above (length path) n))

pub all_steps_taken : (trail left : List Open) (path : List ℕ) → left ≡ [] → LeadsOn trail path left → path ≡ path_behind [] (map open_of trail)
unfolding LeadsOn
all_steps_taken trail left path l h = sym (h ∙ ap (λ x. path_behind path (map open_of x)) l)

-- nothing is open before the first token
pub none_open : (ts : List Token) (trail : List Open) → trail ≡ [] → Opens ts (opens_of trail) ts
none_open ts trail e = subst (λ l. Opens ts (opens_of l) ts) (sym e) none

pub one_taken : (all left rest : List Token) (t : Token) (trail next : List Open) → Opens all (opens_of trail) left → left ≡ t ∷ rest →
    opens_of next ≡ after t (opens_of trail) → Opens all (opens_of next) rest
one_taken all left rest t trail next h e a = subst (λ os. Opens all os rest) (sym a) (one (subst (λ l. Opens all (opens_of trail) l) e h))
