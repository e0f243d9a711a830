-- Reads that are refused only where the input begins with no value that they read: docs/FORMAT.md, "Faults".
use Rattle.std.specs.Prelude.{◌≡◌, ◌≢◌, ℕ, List, []}
use Rattle.spa_format.specs.Tree.{Tree, Trees, member, struct}
use Rattle.spa_format.specs.Pod.{AreMembers}
use Rattle.spa_format.specs.Front.{HasFront, Begins}
use Rattle.spa_format.specs.Kind.{Kind, type_number}
use Rattle.spa_format.specs.Tree.{choice_type, struct_type}
use Rattle.spa_format.specs.Words.{body_of, word_at}
use Rattle.spa_fixed_sized.specs.declared.fault.DeserializeError.TheVariants as error
use Rattle.spa_bodies.specs.Reading.{IsRead, IsShortAt, Names, OnFault, OnMemory, RefusesInput}
use Rattle.spa_bodies.specs.Refusing.{StandsInMembers}
use Rattle.spa_typed_read.specs.Asking.{LacksFront, RefusesAsked, of_type, ReadRefusal, RefusingRead}

-- the input begins with no value that is read as one of the type `X`
abbrev pub IsUnread : {X : Type 0} → (Tree → X → Type 0) → List ℕ → Type 0
IsUnread {X = X} reads b = (v : Tree) (x : X) → Begins b v → ¬ (reads v x)

-- Any refusal but one for want of memory says that the input begins with no value that is read so. Where the front isn't
-- there, it is `Short`. One for want of memory says that the front is there, and that such a read takes memory.
pub record RefusesExactly {X : Type 0} (reads : Tree → X → Type 0) (takes_memory : Type 0) (b : List ℕ) (e : ReadRefusal) : Type 0 where
  pub unread : OnFault (IsUnread reads b) e
  pub short_first : ¬ (HasFront b) → IsShortAt b e
  pub memory : OnMemory (takes_memory × HasFront b) e

-- these bytes are the pods of no members that are read so
abbrev pub AreUnread : {X : Type 0} → (Trees → X → Type 0) → List ℕ → Type 0
AreUnread {X = X} reads b = (vs : Trees) (x : X) → AreMembers vs b → ¬ (reads vs x)

-- these bytes are the pods of no members
abbrev pub AreNoMembers : List ℕ → Type 0
AreNoMembers b = (vs : Trees) → ¬ (AreMembers vs b)

-- A refusal of members of any types: but for want of memory it says that these bytes are no members, and names a fault that
-- stands in them. One for want of memory says that there is at least one byte.
pub record RefusesMembers (b : List ℕ) (e : ReadRefusal) : Type 0 where
  pub unread : OnFault (AreNoMembers b) e
  pub named : Names (λ k place. StandsInMembers b place k) e
  pub memory : OnMemory (b ≢ []) e

-- A refusal of members that are read one by one: the first isn't there, or is refused, or is read and those behind it are refused.
pub data RefusesFirst {A : Type 0} (reads : Tree → A → Type 0) (refuses others : RefusingRead) (b : List ℕ) (e : ReadRefusal) : Type 0 where
  missing : b ≡ [] → e ≡ error.PropertyMissing → RefusesFirst reads refuses others b e
  first : b ≢ [] → refuses b e → RefusesFirst reads refuses others b e
  behind : (x : A) (rest : List ℕ) → IsRead b rest (λ v. reads v x) → others rest e → RefusesFirst reads refuses others b e

-- the refusal where a member is left behind those that are read
abbrev pub RefusesMore : List ℕ → ReadRefusal → Type 0
RefusesMore b e = (b ≢ []) × (e ≡ error.UnreadMembers)

-- The refusal of the struct at the front: it isn't opened, or its members are refused.
pub data RefusesStructOf (refuses : RefusingRead) (b : List ℕ) (e : ReadRefusal) : Type 0 where
  not_struct : LacksFront struct_type b e → RefusesStructOf refuses b e
  its_members : HasFront b → word_at b 4 ≡ struct_type → refuses (body_of b) e → RefusesStructOf refuses b e

-- the first of these members and those behind it are read as these results
pub record ReadsFirst {A R : Type 0} (reads : Tree → A → Type 0) (others : Trees → R → Type 0) (vs : Trees) (a : A) (r : R) : Type 0 where
  pub first : Tree
  pub behind : Trees
  pub is : vs ≡ member first behind
  pub first_is : reads first a
  pub behind_are : others behind r

-- this value is a struct whose members are read as this result
pub record ReadsStruct {X : Type 0} (reads : Trees → X → Type 0) (v : Tree) (x : X) : Type 0 where
  pub members : Trees
  pub is : v ≡ struct members
  pub are : reads members x

-- the front of the input is there and has the type number of choices; it need not be a pod
abbrev pub BeginsChoice : List ℕ → Type 0
BeginsChoice b = HasFront b × (word_at b 4 ≡ choice_type)

-- The refusal of a value of this kind or of a None choice over it. Where the front is no choice, it is that of a value of the kind. A choice is
-- refused for a fault that stands in it, or, where it is a pod of which no value is read, as `UnsupportedType`.
pub data RefusesSettled {X : Type 0} (k : Kind) (reads : Tree → X → Type 0) (b : List ℕ) (e : ReadRefusal) : Type 0 where
  no_choice : ¬ (BeginsChoice b) → RefusesAsked (of_type (type_number k)) ⊥ b e → RefusesSettled k reads b e
  malformed : BeginsChoice b → RefusesInput b e → OnMemory ⊥ e → RefusesSettled k reads b e
  other_choice : BeginsChoice b → (v : Tree) → Begins b v → IsUnread reads b → e ≡ error.UnsupportedType → RefusesSettled k reads b e
