-- Values that are set in place: docs/CAPI.md, "Setting".
use Rattle.std.specs.Prelude.{◌≡◌, ℕ, ℤ, ◌+◌, List, ◌++◌, length, take, drop}
use Rattle.spa_format.specs.Front.{HasFront, front_of}
use Rattle.spa_format.specs.Kind.{Kind}
use Rattle.spa_format.specs.Words.{header_size}
use Rattle.spa_view.specs.Settled.{settled_bytes}
use Rattle.spa_view.specs.Tests.{IsOfKind}
use Rattle.spav.specs.Items.{HasNoValue, HasValueAt, settled_at}
use Rattle.spav.specs.Reading.{IsAnswerFor}

-- a pod of this kind is at the front, or a None choice whose value is
pub record BeginsKind (kind : Kind) (input : List ℕ) : Type 0 where
  pub front : HasFront input
  pub its_kind : IsOfKind kind (settled_bytes (front_of input))

-- The value of the first property with this key is a pod of this kind, or a None choice of one, whose body begins at this byte.
pub record HasBodyAt (kind : Kind) (key : ℕ) (input : List ℕ) (at : ℕ) : Type 0 where
  pub value_at : ℕ
  pub value : HasValueAt key input value_at
  pub begins : BeginsKind kind (drop value_at input)
  pub behind : at ≡ value_at + settled_at (drop value_at input) + header_size

-- the value of the first property with this key is none
pub record HasOtherAt (kind : Kind) (key : ℕ) (input : List ℕ) : Type 0 where
  pub value_at : ℕ
  pub value : HasValueAt key input value_at
  pub other : ¬ (BeginsKind kind (drop value_at input))

-- the body of the value of the first property with this key became these bytes, and no other byte changed
pub record IsSet (kind : Kind) (key : ℕ) (body old new : List ℕ) : Type 0 where
  pub at : ℕ
  pub there : HasBodyAt kind key old at
  pub changed : new ≡ take at old ++ body ++ drop (at + length body) old

-- the answer of a change of a value of this kind
abbrev pub IsAnswerAt : Kind → ℕ → List ℕ → ℤ → Type 0
IsAnswerAt kind key input answer = IsAnswerFor (HasOtherAt kind key input) (HasNoValue key input) input answer
