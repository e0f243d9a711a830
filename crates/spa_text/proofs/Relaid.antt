-- The tokens that are written, and those of a line laid out anew.
use Rattle.std.proofs.Common.{◌≡◌, ℕ, ◌<◌, ◌≤◌, List, [], ◌∷◌, ◌++◌, true, ◌&&◌, Result, Ok, Err, refl, sym, ap, subst, ◌∙◌, append_assoc, append-nil, arith, true≢false}
use Rattle.std.specs.Prelude.{◌≢◌, if◌then◌else◌}
use Rattle.std.specs.List.{list_all}
use Rattle.std.proofs.lemmas.Bool.{and_parts, le-leb, lt-leb}
use Rattle.std.proofs.lemmas.List.Folds.{list_all-append}
use Rattle.json.specs.Align.{is_good}
use Rattle.json.specs.Layout.{pretty}
use Rattle.json.specs.Print.{IsPrintable, print}
use Rattle.json.specs.Reads.{token_of}
use Rattle.json.specs.Token.{Token}
use Rattle.json.specs.declared.token.Token as Rust
use Rattle.json.specs.Written.{Written, Writes}
use Rattle.spa_text.specs.Indented.{LEVEL_LIMIT, indented, is_shallow, is_shallow_behind, open_behind}
use Rattle.spa_text.specs.Line.{AreGood}

good-push : (ts : List Token) (t : Token) → is_good t ≡ true → AreGood ts → AreGood (ts ++ t ∷ [])
good-push ts t g h = list_all-append is_good ts (t ∷ []) ∙ rw (h, g) refl

-- what was written stays good behind one more good token
pub kept_good : {E : Type 0} (r : Result (Unit {0}) E) (old new : Written) (t : Token) → is_good t ≡ true → Writes r old new t →
    (old.before ≡ []) × AreGood old.tokens → (new.before ≡ []) × AreGood new.tokens
kept_good (Ok x) old new t g w h = (w.room.0 ∙ h.0, subst AreGood (sym w.ok) (good-push old.tokens t g h.1))
kept_good (Err e) old new t g w h = (w.room.0 ∙ h.0, subst AreGood (sym w.err) h.1)

-- the tokens of the whole text are those that are laid out, and those that are left
pub record IsLaid (all laid left : List Token) : Type 0 where
  pub parts : all ≡ laid ++ left
  pub good : AreGood left

pub none_laid : (all left : List Token) → left ≡ all → AreGood all → IsLaid all [] left
none_laid all left e h = record { parts = sym e; good = subst AreGood (sym e) h }

pub one_laid : (all laid next left more : List Token) (t : Token) → IsLaid all laid left → left ≡ t ∷ more → next ≡ laid ++ t ∷ [] → IsLaid all next more
one_laid all laid next left more t l e d = record {
  parts = l.parts ∙ ap (λ x. laid ++ x) e ∙ sym (append_assoc laid (t ∷ []) more) ∙ ap (λ x. x ++ more) (sym d);
  good = (and_parts (is_good t) (list_all is_good more) (subst AreGood e l.good)).1;
}

pub all_laid : (all laid left : List Token) → IsLaid all laid left → left ≡ [] → laid ≡ all
all_laid all laid left l e = sym (l.parts ∙ ap (λ x. laid ++ x) e ∙ append-nil laid)

-- the next token can be written
pub next_good : (all laid left more : List Token) (t : Rust.Token) → IsLaid all laid left → left ≡ token_of t ∷ more → is_good (token_of t) ≡ true
next_good all laid left more t l e = (and_parts (is_good (token_of t)) (list_all is_good more) (subst AreGood e l.good)).0

not_bad : (t : Rust.Token) → is_good (token_of t) ≡ true → t ≢ Rust.TheVariants.Bad
not_bad t g e = true≢false (sym g ∙ ap (λ x. is_good (token_of x)) e)

pub next_printable : (all laid left more : List Token) (t : Rust.Token) → IsLaid all laid left → left ≡ token_of t ∷ more →
    (t ≢ Rust.TheVariants.Bad → IsPrintable (token_of t)) → IsPrintable (token_of t)
next_printable all laid left more t l e p = p (not_bad t (next_good all laid left more t l e))

-- where so many are open, what is left nests too deep if all does
pub record Nests (all left : List Token) (count : ℕ) : Type 0 where
  pub few : count ≤ LEVEL_LIMIT
  pub alike : is_shallow all ≡ is_shallow_behind count left

pub none_nested : (all left : List Token) → left ≡ all → Nests all left 0
none_nested all left e = record { few = omega arith; alike = ap (is_shallow_behind 0) (sym e) }

-- a token more is no deeper
pub one_nested : (all left more : List Token) (t : Token) (count next : ℕ) → Nests all left count → left ≡ t ∷ more → next ≡ open_behind count t →
    next ≤ LEVEL_LIMIT → Nests all more next
one_nested all left more t count next n e d h = record {
  few = h;
  alike =
      n.alike ∙ ap (is_shallow_behind count) e
      ∙ ap (λ b. b && is_shallow_behind (open_behind count t) more) (le-leb (open_behind count t) LEVEL_LIMIT (subst (λ k. k ≤ LEVEL_LIMIT) d h))
      ∙ ap (λ k. is_shallow_behind k more) (sym d);
}

-- one that is too deep decides, and so does the end
pub too_deep : (all left more : List Token) (t : Token) (count next : ℕ) → Nests all left count → left ≡ t ∷ more → next ≡ open_behind count t →
    LEVEL_LIMIT < next → indented all ≡ print all
too_deep all left more t count next n e d h =
    ap (λ b. if b then pretty all else print all)
    (n.alike ∙ ap (is_shallow_behind count) e
    ∙ ap (λ b. b && is_shallow_behind (open_behind count t) more) (lt-leb (open_behind count t) LEVEL_LIMIT (subst (λ k. LEVEL_LIMIT < k) d h)))

pub deep_enough : (all left : List Token) (count : ℕ) → Nests all left count → left ≡ [] → indented all ≡ pretty all
deep_enough all left count n e = ap (λ b. if b then pretty all else print all) (n.alike ∙ ap (is_shallow_behind count) e)
