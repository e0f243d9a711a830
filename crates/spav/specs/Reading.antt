-- Reads of the front of an input, and of a property of the object there: docs/CAPI.md, "Reading".
use Rattle.std.specs.Prelude.{◌≡◌, ◌+◌, ◌++◌, ◌∷◌, [], ℕ, ℤ, List, drop, length, Option, None, Some}
use Rattle.spa_format.specs.Words.{body_of, header_size, word_at}
use Rattle.spa_format.specs.Kind.{Kind, Fixed, content}
use Rattle.spa_format.specs.Front.{HasFront, front_of}
use Rattle.spa_format.specs.Walk.{first_with_key, properties_of, property_walk}
use Rattle.spa_view.specs.Settled.{settled_bytes}
use Rattle.spa_view.specs.Tests.{IsNulEnded, IsObjectPod, IsOfKind, before_nul}
use Rattle.spav.specs.Answers.{IsInvalid, IsMissing, IsOther, IsRead}

-- the front is there, and is an object's pod by its type and its size
pub record BeginsObject (input : List ℕ) : Type 0 where
  pub front : HasFront input
  pub object : IsObjectPod (front_of input)

-- an object is at the front, of this type and id
pub record SaysObject (input : List ℕ) (type id : ℕ) : Type 0 where
  pub object : BeginsObject input
  pub its_type : type ≡ word_at (body_of (front_of input)) 0
  pub its_id : id ≡ word_at (body_of (front_of input)) 4

-- the first property with this key of the object at the front, with its key and flags; None where no property has it
abbrev pub property_under : ℕ → List ℕ → Option (List ℕ)
property_under key input = first_with_key key (property_walk (properties_of (front_of input)))

-- this is the pod of the value of the first property with this key, or, where that is a None choice, of the choice's value
pub record IsUnder (key : ℕ) (input pod : List ℕ) : Type 0 where
  pub object : BeginsObject input
  pub property : List ℕ
  pub first : property_under key input ≡ Some property
  pub value : pod ≡ settled_bytes (drop header_size property)

-- an object is at the front, and no property of it has this key
pub record HasNoneUnder (key : ℕ) (input : List ℕ) : Type 0 where
  pub object : BeginsObject input
  pub none : property_under key input ≡ None

-- the value under this key is a pod for which the fact holds
pub record HasUnder (key : ℕ) (input : List ℕ) (Holds : List ℕ → Type 0) : Type 0 where
  pub pod : List ℕ
  pub under : IsUnder key input pod
  pub holds : Holds pod

-- the value under this key is of this kind, and is this value
abbrev pub SaysUnder : Kind → ℕ → List ℕ → Fixed → Type 0
SaysUnder kind key input said = HasUnder key input (λ pod. IsOfKind kind pod × (said ≡ content kind (body_of pod)))

-- the value under this key isn't of this kind
abbrev pub HasOtherUnder : Kind → ℕ → List ℕ → Type 0
HasOtherUnder kind key input = HasUnder key input (λ pod. ¬ (IsOfKind kind pod))

-- the answer of a read or a change of the value under a key, and, where it isn't 0, why: the value is another, the object lacks the key, or no
-- object is at the front
pub record IsAnswerFor (Differs Lacks : Type 0) (input : List ℕ) (answer : ℤ) : Type 0 where
  pub differs : IsOther answer → Differs
  pub lacks : IsMissing answer → Lacks
  pub refused : IsInvalid answer → ¬ (BeginsObject input)
  pub answers : IsRead answer

-- the answer of a read of a value of this kind
abbrev pub IsAnswerUnder : Kind → ℕ → List ℕ → ℤ → Type 0
IsAnswerUnder kind key input answer = IsAnswerFor (HasOtherUnder kind key input) (HasNoneUnder key input) input answer

-- the value under this key is a string whose body ends in NUL, and this is its text
abbrev pub HasTextUnder : ℕ → List ℕ → List ℕ → Type 0
HasTextUnder key input text = HasUnder key input (λ pod. IsNulEnded pod × (text ≡ before_nul (body_of pod)))

-- the value under this key isn't a string whose body ends in NUL
abbrev pub HasNoTextUnder : ℕ → List ℕ → Type 0
HasNoTextUnder key input = HasUnder key input (λ pod. ¬ (IsNulEnded pod))

-- the front of the output became this text and one NUL, `len` is the text's length, and the output is unchanged behind the NUL
pub record TextIsPut (text : List ℕ) (len : ℕ) (old new : List ℕ) : Type 0 where
  pub counted : len ≡ length text
  pub front : new ≡ (text ++ 0 ∷ []) ++ drop (length text + 1) old
