-- The items of the caller's pods, and the offsets of values: docs/CAPI.md, "Reading".
use Rattle.std.specs.Prelude.{◌≡◌, ◌⊎◌, ℕ, ◌+◌, ◌<◌, ◌≤◌, List, ◌++◌, length, take, drop, false, if◌then◌else◌, Option, Some, None}
use Rattle.spa_format.specs.Front.{HasFront, front_of}
use Rattle.spa_format.specs.Tree.{array_type, choice_type}
use Rattle.spa_format.specs.Walk.{properties_of, property_walk, walk}
use Rattle.spa_format.specs.Words.{body_of, header_size, word_at}
use Rattle.spa_items.specs.Contents as contents
use Rattle.spa_items.specs.Contents.{element_at}
use Rattle.spa_items.specs.Items.{head, items_of}
use Rattle.spa_items.specs.Places.{place_of_key, place_of_number}
use Rattle.spa_items.specs.declared.item.Item.{Item}
use Rattle.spa_view.specs.Elements.{choice_values, element_count}
use Rattle.spa_view.specs.Settled.{child_place, holds_value, settled_bytes}
use Rattle.spa_view.specs.Tests.{IsArrayPod, IsChoicePod, IsStructPod}
use Rattle.spav.specs.Reading.{BeginsObject}
use Rattle.spav.specs.declared.items.Elements.{Elements}

-- the input has `count` items, they are at the front of the output, and the output is unchanged behind them
pub record AreRead (input : List ℕ) (count : ℕ) (old new : List Item) : Type 0 where
  pub counted : count ≡ length (items_of input)
  pub front : new ≡ items_of input ++ drop count old

-- the input has `count` items, more than the output has room for, which is full of the first of them
pub record ArePast (input : List ℕ) (count : ℕ) (new : List Item) : Type 0 where
  pub counted : count ≡ length (items_of input)
  pub first : new ≡ take (length new) (items_of input)
  pub more : length new < count

-- the offset at which the value of the None choice at the front begins; 0 where the front is another pod
abbrev pub settled_at : List ℕ → ℕ
settled_at input = if holds_value (front_of input) then child_place else 0

-- the front is there, and this is its item
pub record SaysFront (input : List ℕ) (item : Item) : Type 0 where
  pub front : HasFront input
  pub its_item : item ≡ head false 0 0 (front_of input)

-- the front is there, and this is its item, or that of the value of the None choice there
pub record SaysItem (input : List ℕ) (item : Item) : Type 0 where
  pub front : HasFront input
  pub its_item : item ≡ head false 0 (settled_at input) (settled_bytes (front_of input))

-- how many bytes of other properties are before the first property with this key, in the object at the front; None where no property has it
abbrev pub bytes_before_key : ℕ → List ℕ → Option ℕ
bytes_before_key key input = place_of_key key (property_walk (properties_of (front_of input)))

-- an object is at the front, and the value of its first property with this key begins at this byte, behind the headers of the pod and of the
-- object, and the key and the flags
pub record HasValueAt (key : ℕ) (input : List ℕ) (at : ℕ) : Type 0 where
  pub object : BeginsObject input
  pub place : ℕ
  pub before : bytes_before_key key input ≡ Some place
  pub behind : at ≡ header_size + header_size + place + header_size

-- an object is at the front, and no property of it has this key
pub record HasNoValue (key : ℕ) (input : List ℕ) : Type 0 where
  pub object : BeginsObject input
  pub none : bytes_before_key key input ≡ None

-- a struct is at the front
pub record BeginsStruct (input : List ℕ) : Type 0 where
  pub front : HasFront input
  pub struct : IsStructPod (front_of input)

-- how many bytes of other members are before the member of this number, in the struct at the front; None where there is none
abbrev pub bytes_before_member : ℕ → List ℕ → Option ℕ
bytes_before_member number input = place_of_number number (walk (body_of (front_of input)))

-- a struct is at the front, and its member of this number begins at this byte
pub record HasMemberAt (number : ℕ) (input : List ℕ) (at : ℕ) : Type 0 where
  pub struct : BeginsStruct input
  pub place : ℕ
  pub before : bytes_before_member number input ≡ Some place
  pub behind : at ≡ header_size + place

-- a struct is at the front, and has no such member
pub record HasNoMember (number : ℕ) (input : List ℕ) : Type 0 where
  pub struct : BeginsStruct input
  pub none : bytes_before_member number input ≡ None

-- type and size of the elements are those of the child header at the front of these bytes, and their number is that of the elements behind it
pub record AreHeaded (values : List ℕ) (e : Elements) : Type 0 where
  pub its_type : e.element_type ≡ word_at values 4
  pub its_size : e.element_size ≡ word_at values 0
  pub its_count : e.count ≡ element_count values

-- these are the elements of this array
pub record AreOfArray (pod : List ℕ) (e : Elements) : Type 0 where
  pub array : IsArrayPod pod
  pub type : e.type_ ≡ array_type
  pub shape : e.shape ≡ 0
  pub flags : e.flags ≡ 0
  pub reserved : e.reserved ≡ 0
  pub headed : AreHeaded (body_of pod) e
  pub begins : e.at ≡ header_size + header_size

-- these are the values that this choice takes
pub record AreOfChoice (pod : List ℕ) (e : Elements) : Type 0 where
  pub choice : IsChoicePod pod
  pub type : e.type_ ≡ choice_type
  pub shape : e.shape ≡ word_at (body_of pod) 0
  pub flags : e.flags ≡ word_at (body_of pod) 4
  pub reserved : e.reserved ≡ 0
  pub headed : AreHeaded (choice_values (body_of pod)) e
  pub begins : e.at ≡ header_size + header_size + header_size

-- these are the elements of the array, or the values of the choice, that is the pod
abbrev pub HasElements : List ℕ → Elements → Type 0
HasElements pod e = AreOfArray pod e ⊎ AreOfChoice pod e

-- the pod is neither an array nor a choice
abbrev pub HasNoElements : List ℕ → Type 0
HasNoElements pod = (¬ (IsArrayPod pod)) × (¬ (IsChoicePod pod))

-- an array or a choice is at the front, and these are its elements or values
pub record SaysElements (input : List ℕ) (e : Elements) : Type 0 where
  pub front : HasFront input
  pub elements : HasElements (front_of input) e

-- neither an array nor a choice is at the front
abbrev pub BeginsNoElements : List ℕ → Type 0
BeginsNoElements input = HasFront input → HasNoElements (front_of input)

-- how many elements the array at the front has, or how many values the choice there takes
abbrev pub elements_at_front : List ℕ → ℕ
elements_at_front input = contents.element_count (word_at (front_of input) 4) (body_of (front_of input))

-- an array or a choice is at the front
pub record BeginsElements (input : List ℕ) : Type 0 where
  pub front : HasFront input
  pub elements : IsArrayPod (front_of input) ⊎ IsChoicePod (front_of input)

-- an array or a choice is at the front, and this is the item of its element or value of this number
pub record SaysElement (number : ℕ) (input : List ℕ) (item : Item) : Type 0 where
  pub begins : BeginsElements input
  pub there : number < elements_at_front input
  pub its_item : item ≡ element_at (word_at (front_of input) 4) 1 header_size number (body_of (front_of input))

-- an array or a choice is at the front, and has no element or value of this number
pub record HasFewerElements (number : ℕ) (input : List ℕ) : Type 0 where
  pub begins : BeginsElements input
  pub fewer : elements_at_front input ≤ number
