-- Objects at the fronts of inputs, and their canonical pods: docs/NEGOTIATION.md, "From bytes to bytes".
use Rattle.std.specs.Prelude.{⊤, ◌≡◌, ◌≤◌, ℕ, List, drop, length}
use Rattle.spa_format.specs.Words.{header_size, word_at}
use Rattle.spa_format.specs.Tree.{Tree, object, Properties}
use Rattle.spa_format.specs.Front.{Begins, IsRefused}
use Rattle.spa_bodies.specs.Reading.{MayLackMemory}
use Rattle.spa_object_view.specs.Written.{BeginsWritten}
use Rattle.spa_object_view.specs.declared.object_view.ObjectView.{ObjectView}
use Rattle.spa_object_view.specs.declared.front.ObjectPod.{ObjectPod}
use Rattle.spa_object_view.specs.declared.front.ObjectPod.TheVariants.{Borrowed, Rewritten}
use Rattle.spa_object_view.specs.declared.front.NoObject.{NoObject}
use Rattle.spa_object_view.specs.declared.front.NoObject.TheVariants.{Unread, Other, OutOfMemory}
use Rattle.spa_keyed_objects.specs.CanonicalPods.{IsCanonicalPod}

-- the front of the input is a pod of an object, and this is that object's canonical pod
pub record BeginsObjectIn (input pod : List ℕ) : Type 0 where
  pub type : ℕ
  pub id : ℕ
  pub values : Properties
  pub begins : Begins input (object type id values)
  pub written : IsCanonicalPod (object type id values) pod

-- the front of the input is a pod of the object of this view
abbrev pub BeginsView : List ℕ → ObjectView → Type 0
BeginsView input view = BeginsWritten input view.type_ view.id view.properties.now

-- the front of the input is a pod of this object
abbrev pub BeginsObjectOf : List ℕ → ObjectPod → Type 0
BeginsObjectOf input (Borrowed view) = BeginsView input view
BeginsObjectOf input (Rewritten bytes) = BeginsObjectIn input bytes.items

-- the view is of the object whose canonical pod this is
abbrev pub IsViewIn : List ℕ → ObjectView → Type 0
IsViewIn pod view = (input : List ℕ) → BeginsObjectIn input pod → BeginsView input view

-- the view is of the object with this body, type and id and then the properties
pub record IsObjectBody (body : List ℕ) (view : ObjectView) : Type 0 where
  pub header : header_size ≤ length body
  pub type : view.type_ ≡ word_at body 0
  pub id : view.id ≡ word_at body 4
  pub properties : view.properties.now ≡ drop header_size body

-- the value is an object
abbrev pub IsObject : Tree → Type 0
IsObject (object type id ps) = ⊤
IsObject _ = ⊥

-- the front of the input is a pod of an object
pub record BeginsObject (input : List ℕ) : Type 0 where
  pub value : Tree
  pub begins : Begins input value
  pub is_object : IsObject value

-- the front of the input is a pod of a value other than an object
pub record BeginsOther (input : List ℕ) : Type 0 where
  pub value : Tree
  pub begins : Begins input value
  pub no_object : ¬ (IsObject value)

-- the fronts of two inputs are pods of two values of which the fact holds
pub record BeginBoth (a b : List ℕ) (Holds : Tree → Tree → Type 0) : Type 0 where
  pub ours : Tree
  pub theirs : Tree
  pub first : Begins a ours
  pub second : Begins b theirs
  pub holds : Holds ours theirs

-- why no object is at the front of the input
abbrev pub IsNoObject : List ℕ → NoObject → Type 0
IsNoObject input Unread = IsRefused input
IsNoObject input Other = BeginsOther input
IsNoObject input OutOfMemory = MayLackMemory input

-- why there is no canonical pod of the front
abbrev pub IsUnread : List ℕ → NoObject → Type 0
IsUnread input Unread = IsRefused input
IsUnread input Other = ⊥
IsUnread input OutOfMemory = MayLackMemory input
