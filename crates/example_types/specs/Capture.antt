-- A capture: which struct says it, and why none is read.
use Rattle.std.specs.Prelude.{◌≡◌, ◌≢◌, ℕ, List, [], Option, Some, None, false}
use Rattle.std.specs.Borrow.{Bor}
use Rattle.libspa.specs.Asking.{RefusesAsked, of_type}
use Rattle.libspa.specs.DeserializeError.{DeserializeError}
use Rattle.libspa.specs.Exactly.{RefusesFirst}
use Rattle.libspa.specs.Fraction.{Fraction}
use Rattle.libspa.specs.Kind.{fraction, fraction_kind, rectangle, rectangle_kind, type_number}
use Rattle.libspa.specs.Members.{Reader}
use Rattle.libspa.specs.Rectangle.{Rectangle}
use Rattle.libspa.specs.Tree.{Tree, Trees, fixed, member, no_trees, struct}
use Rattle.libspa.specs.Visiting.{DeclinesExactly}
use Rattle.example_types.specs.declared.capture.Capture.{Capture}

-- the last member: the rate, where it is said
abbrev pub rate_members : Option Fraction → Trees
rate_members None = no_trees
rate_members (Some rate) = member (fixed (fraction rate.num rate.denom)) no_trees

-- the members of a capture, its size and its rate, and the struct of them
abbrev pub capture_members : Capture → Trees
capture_members c = member (fixed (rectangle c.size.width c.size.height)) (rate_members c.rate)

-- the struct as which a capture is written
abbrev pub capture_tree : Capture → Tree
capture_tree c = struct (capture_members c)

-- these are the members of the capture
abbrev pub AreCapture : Trees → Capture → Type 0
AreCapture members c = members ≡ capture_members c

-- the first member isn't there, or is no rectangle; or one stands behind it that is no fraction
abbrev pub RefusesCapture : List ℕ → DeserializeError (Bor (List ℕ)) → Type 0
RefusesCapture =
    RefusesFirst (λ v (size : Rectangle). v ≡ fixed (rectangle size.width size.height)) (RefusesAsked (of_type (type_number rectangle_kind)) ⊥)
    (λ b e. (b ≢ []) × RefusesAsked (of_type (type_number fraction_kind)) ⊥ b e)

-- a struct's members are declined only where they are no capture's, by the cause, and never for lack of memory
pub record DeclinesCapture (lent now : Reader) (e : DeserializeError (Bor (List ℕ))) : Type 0 where
  pub exactly : DeclinesExactly AreCapture ⊥ lent now e
  pub cause : lent.failed ≡ false → RefusesCapture lent.left e
