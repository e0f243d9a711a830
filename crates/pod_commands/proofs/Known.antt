-- What is known to be left of the standard input.
use Rattle.std.proofs.Common.{◌≡◌, ◌∙◌, ap, refl, sym, inl, inr, subst, List, ℕ, Option, None, Bool, true, false}
use Rattle.std.specs.Prelude.{if◌then◌else◌}
use Rattle.std.specs.Str.{bytes_eq}
use Rattle.spa_device.specs.Whole.{IsAllOf}
use Rattle.pod_commands.specs.Inputs.{IsKnown, content_of, left_behind}
use Rattle.pod_commands.specs.Requests.{dash}

none_all : (is_dash : Bool) (now other : Option (List ℕ)) (bytes : List ℕ) → IsAllOf (if is_dash then now else other) bytes →
    IsAllOf (if is_dash then None else other) bytes
none_all true now other bytes h = tt
none_all false now other bytes h = h

none_behind : (is_dash : Bool) (r : Option (List ℕ)) → (if is_dash then r else r) ≡ r
none_behind true r = refl
none_behind false r = refl

-- what is read of an input is read of one of which less is known
pub known_all : (expected now : Option (List ℕ)) (holds : List ℕ → Option (List ℕ)) (name bytes : List ℕ) → IsKnown expected now →
    IsAllOf (content_of now holds name) bytes → IsAllOf (content_of expected holds name) bytes
known_all expected now holds name bytes (inl e) h = subst (λ r. IsAllOf (content_of r holds name) bytes) (sym e) h
known_all expected now holds name bytes (inr e) h =
    subst (λ r. IsAllOf (content_of r holds name) bytes) (sym e) (none_all (bytes_eq name dash) now (holds name) bytes h)

-- what is known behind an input is known behind one of which less is known
pub known_behind : (expected now after : Option (List ℕ)) (name : List ℕ) → IsKnown expected now → IsKnown (left_behind now name) after →
    IsKnown (left_behind expected name) after
known_behind expected now after name (inl e) k = subst (λ r. IsKnown (left_behind r name) after) (sym e) k
known_behind expected now after name (inr e) k = inr (ap (λ r. left_behind r name) e ∙ none_behind (bytes_eq name dash) None)
