-- Objects printed as pw-dump prints params, pod by pod.
use Rattle.std.proofs.Common.{◌≡◌, ◌<◌, ℕ, Bool, true, List, [], ◌∷◌, ◌++◌, sym, arith, length, ◌∙◌, ap, subst}
use Rattle.std.specs.Borrow.{Bor}
use Rattle.std.specs.Prelude.{Result, Ok, Err, IfOk}
use Rattle.std.proofs.lemmas.List.{length-append}
use Rattle.json.proofs.Numbered.{ArePrintableOrBad-tokens}
use Rattle.json.specs.Json.{no_members}
use Rattle.json.specs.Lex.{tokens}
use Rattle.json.specs.Print.{ArePrintableOrBad, print}
use Rattle.json.specs.Token.{Token}
use Rattle.json.specs.Tree.{HasNumbers, MembersHaveNumbers, json_tokens, members_tokens}
use Rattle.json.specs.Value.{members_view, value_view}
use Rattle.json.specs.declared.value.Value.{Value as Json}
use Rattle.spa_format.specs.Tree.{Tree}
use Rattle.spa_value.specs.Equality.{tree_eq}
use Rattle.spa_value.specs.EqualityLaws.{tree-decides}
use Rattle.spa_text.specs.Line.{HasNoEnd}
use Rattle.spa_text.proofs.Lines.{no_end-print}
use Rattle.spa_text_commands.specs.Params.{IsValueIn, RefusesParams, cause_of}
use Rattle.spa_text_commands.specs.Texts.{RefusesPods}
use Rattle.spa_text_commands.specs.declared.answer.Failure.TheVariants.{NoPods, OutOfMemory}
use Rattle.spa_text_commands.specs.declared.answer.Failure.{Failure}
use Rattle.spa_text_commands.specs.declared.params.Unprinted.{Unprinted}

-- why pods aren't printed is why they aren't read
pub not_printed : (start : List ℕ) (why : Failure) (r : Unprinted) → RefusesPods start why → r ≡ cause_of why → RefusesParams start r
not_printed start NoPods r h e = subst (RefusesParams start) (sym e) h
not_printed start OutOfMemory r h e = subst (RefusesParams start) (sym e) tt
not_printed start _ r h e = absurd h

-- the last of some members has numbers, and fewer tokens than they
pub last_numbers : {A : Type 0} (ms : List (Bor (List ℕ) × Json A)) (m : Bor (List ℕ) × Json A) → MembersHaveNumbers (members_view (ms ++ m ∷ [])) →
    HasNumbers (value_view m.1)
last_numbers [] m h = h.0
last_numbers (n ∷ ms) m h = last_numbers ms m h.1

pub last_fewer : {A : Type 0} (ms : List (Bor (List ℕ) × Json A)) (m : Bor (List ℕ) × Json A) →
    length (json_tokens (value_view m.1)) < length (members_tokens (members_view (ms ++ m ∷ [])))
last_fewer [] m = omega (arith, length-append (json_tokens (value_view m.1)) (members_tokens no_members))
last_fewer (n ∷ ms) m =
    omega (arith, length-append (json_tokens (value_view n.1)) (members_tokens (members_view (ms ++ m ∷ []))), last_fewer ms m)

pub value_last : {A : Type 0} (ms : List (Bor (List ℕ) × Json A)) (m : Bor (List ℕ) × Json A) (all : List (Bor (List ℕ) × Json A)) →
    all ≡ ms ++ m ∷ [] → MembersHaveNumbers (members_view all) → IsValueIn m.1 all
value_last ms m all e h = record {
  numbers = last_numbers ms m (subst (λ l. MembersHaveNumbers (members_view l)) e h);
  fewer = subst (λ l. length (json_tokens (value_view m.1)) < length (members_tokens (members_view l))) (sym e) (last_fewer ms m);
}

-- a value that is the same as another one has what that has
pub read_as : {E : Type 0} (r : Result Bool E) (v w : Tree) (IsSo : Tree → Type 0) → IfOk r (λ b. b ≡ tree_eq v w) → IsSo v →
    IfOk r (λ b. b ≡ true → IsSo w)
read_as (Ok b) v w IsSo e h = λ t. subst IsSo ((tree-decides v w).0 (sym e ∙ t)) h
read_as (Err x) v w IsSo e h = tt

-- what a writer gives has one line
pub one_line : (before bytes text : List ℕ) (ts : List Token) → bytes ≡ before ++ print ts → before ≡ [] → tokens (print ts) ≡ ts → text ≡ bytes →
    HasNoEnd text
one_line before bytes text ts e b r t =
    subst HasNoEnd (sym (t ∙ e ∙ ap (λ l. l ++ print ts) b)) (no_end-print ts (subst ArePrintableOrBad r (ArePrintableOrBad-tokens (print ts))))
