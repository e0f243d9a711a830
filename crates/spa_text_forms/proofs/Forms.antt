-- Texts as they stand and in order.
use Rattle.std.proofs.Common.{◌≡◌, ℕ, List, [], Option, Some, None, ap, ◌∙◌, sym, subst, inl, inr}
use Rattle.std.proofs.lemmas.Option.{none-some}
use Rattle.json.specs.Json.{Json, document}
use Rattle.json.specs.Lex.{tokens}
use Rattle.spa_format.specs.Tree.{Tree}
use Rattle.spa_text_read.specs.Fitting.{Admits}
use Rattle.spa_text_read.specs.Grammar.{IsTextOf, ReadsAs, nothing}
use Rattle.spa_text_read.specs.Places as places
use Rattle.spa_text_read.specs.Places.{IsPlace}
use Rattle.spa_text_read.specs.declared.fitting.Strictness.{Strictness}
use Rattle.spa_text_forms.specs.Forms.{IsInOrder, IsPlaceFor, IsTextFor, IsTextInOrder, strictness_in, tokens_in}
use Rattle.spa_text_forms.specs.declared.form.Form.{Form}
use Rattle.spa_text_forms.specs.declared.form.Form.TheVariants.{Named}

pub taken : (s : Strictness) (v : Tree) (text : List ℕ) → IsTextOf v text → Admits s v → IsTextFor s v text
taken s v text h a = inl (h, a)

pub taken_in_order : (s : Strictness) (v : Tree) (text : List ℕ) → ((w : Tree) → IsTextOf w text → ¬ (Admits s w)) → IsTextInOrder (Named s) v text → IsTextFor s v text
taken_in_order s v text none h = inr (λ w t. none w t.0 t.1, h)

pub not_taken : (s : Strictness) (text : List ℕ) → ((w : Tree) → IsTextOf w text → ¬ (Admits s w)) → ((w : Tree) → ¬ (IsTextInOrder (Named s) w text)) → (v : Tree) →
    ¬ (IsTextFor s v text)
not_taken s text none ordered_none v (inl t) = none v t.0 t.1
not_taken s text none ordered_none v (inr t) = ordered_none v t.1

-- the second text, which is given again, has the first one's tokens in order
pub read_in_order : (f : Form) (v : Tree) (text other given : List ℕ) → IsInOrder f text other → given ≡ other → IsTextOf v given → Admits (strictness_in f) v →
    IsTextInOrder f v text
read_in_order f v text other given o e r a = (o.0, o.1, subst (λ ts. ReadsAs nothing v ts []) (ap tokens e ∙ o.2) r, a)

one_json : (a b : Json) (o : Option Json) → o ≡ Some a → o ≡ Some b → b ≡ a
one_json a b o p q = cc

pub none_in_order : (f : Form) (text other given : List ℕ) → IsInOrder f text other → given ≡ other →
    ((w : Tree) → IsTextOf w given → ¬ (Admits (strictness_in f) w)) → (v : Tree) → ¬ (IsTextInOrder f v text)
none_in_order f text other given o e none v t =
    let same = one_json o.0 t.0 (document text) o.1 t.1 in
    none v (subst (λ ts. ReadsAs nothing v ts []) (ap (tokens_in f) same ∙ sym (ap tokens e ∙ o.2)) t.2) t.3

pub no_json : (f : Form) (text : List ℕ) → document text ≡ None → (v : Tree) → ¬ (IsTextInOrder f v text)
no_json f text n v t = none-some t.0 (sym n ∙ t.1)

pub place : (f : Form) (text path : List ℕ) → IsPlace (tokens text) path → IsPlaceFor f text path
place f text path p = inl p

pub place_in_order : (f : Form) (text other given path : List ℕ) → IsInOrder f text other → given ≡ other → IsPlace (tokens given) path →
    IsPlaceFor f text path
place_in_order f text other given path o e p = inr (o.0, o.1, subst (λ ts. IsPlace ts path) (ap tokens e ∙ o.2) p)

-- the empty path leads to the front
pub front : (text path : List ℕ) → path ≡ [] → IsPlace (tokens text) path
front text path e = ([], tokens text, places.none, e)
