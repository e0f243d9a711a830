-- Objects of JSON as trees.
use Rattle.std.proofs.Common.{◌≡◌, ℕ, List, sym, ap, ◌∙◌, Vec}
use Rattle.std.specs.Borrow.{Bor}
use Rattle.json.proofs.Trees.{view-Object}
use Rattle.json.specs.Json.{Json, Members, object}
use Rattle.json.specs.Value.{members_view, value_view}
use Rattle.json.specs.declared.value.Value.{Value, Object}

-- what is said of the members of an object is said of it
pub object_is : {A X : Type 0} (f : Json → X) (g : Members → X) → ((ms : Members) → f (object ms) ≡ g ms) → (v : Value A)
    (ms : Vec (Bor (List ℕ) × Value A) A) (xs : List (Bor (List ℕ) × Value A)) → v ≡ Object ms → xs ≡ ms.items →
    g (members_view xs) ≡ f (value_view v)
object_is f g same v ms xs is e =
    ap (λ ys. g (members_view ys)) e ∙ sym (ap f (ap value_view is ∙ view-Object ms) ∙ same (members_view ms.items))
