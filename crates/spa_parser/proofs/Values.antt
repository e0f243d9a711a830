-- Properties of accepted objects, found by their keys.
use Rattle.std.proofs.Common.{◌≡◌, ℕ, List, Some, None, drop, sym, ◌∙◌, subst}
use Rattle.std.proofs.lemmas.Option.{same_Some}
use Rattle.std.specs.Prelude.{IsSomeAnd}
use Rattle.spa_format.specs.Words.{header_size}
use Rattle.spa_format.specs.Tree.{Tree, Properties, object}
use Rattle.spa_format.specs.Pod.{IsPod}
use Rattle.spa_view.specs.Found.{first_value, property_at}
use Rattle.spa_view.proofs.FoundValues.{finds_value, lacks_value}
use Rattle.spa_parser.specs.State.{ParserState, start_of}
use Rattle.spa_parser.specs.Steps.{IsValueOf}

some_none : (p : List ℕ) → Some p ≡ None → ⊥
some_none p e = absurd (cc)

pub value_found : (key : ℕ) (b p : List ℕ) (x : ParserState) → property_at key b ≡ Some p →
    x ≡ start_of (drop header_size p) → IsValueOf key b x
value_found key b p x e f =
    subst (λ o. IsSomeAnd o (λ q. x ≡ start_of (drop header_size q))) (sym e) f

pub value_is : (key : ℕ) (b p : List ℕ) (type id : ℕ) (ps : Properties) (v : Tree) →
    property_at key b ≡ Some p → IsPod b (object type id ps) → first_value key ps ≡ Some v →
    IsPod (drop header_size p) v
value_is key b p type id ps v e h g =
    let f = finds_value key b type id ps v h g in
    let i : f.0 ≡ p = same_Some f.0 p (sym f.1 ∙ e) in
    subst (λ q. IsPod (drop header_size q) v) i f.2

pub no_value : (key : ℕ) (b : List ℕ) (type id : ℕ) (ps : Properties) (v : Tree) →
    property_at key b ≡ None → IsPod b (object type id ps) → first_value key ps ≡ Some v → ⊥
no_value key b type id ps v e h g =
    let f = finds_value key b type id ps v h g in
    some_none f.0 (sym f.1 ∙ e)

pub some_value : (key : ℕ) (b p : List ℕ) (type id : ℕ) (ps : Properties) →
    property_at key b ≡ Some p → IsPod b (object type id ps) → first_value key ps ≡ None → ⊥
some_value key b p type id ps e h g = some_none p (sym e ∙ lacks_value key b type id ps h g)
