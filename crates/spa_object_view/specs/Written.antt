-- Objects and their properties in canonical bytes.
use Rattle.std.specs.Prelude.{◌≡◌, ◌≢◌, ℕ, ◌≤◌, List, ◌++◌, drop, length, Option, Some}
use Rattle.spa_format.specs.Words.{word_at, word_bytes, header_size}
use Rattle.spa_format.specs.Tree.{Tree, object, Properties, property, type_of, choice_type}
use Rattle.spa_format.specs.Pod.{AreProperties}
use Rattle.spa_format.specs.Encoding.{property_encodings}
use Rattle.spa_format.specs.Front.{Begins, HasFront, front_of, rest_of}
use Rattle.spa_keyed_objects.specs.CanonicalPods.{IsCanonicalPod}
use Rattle.spa_keyed_objects.specs.Keys.{Offered, offered, offered_at}

-- the bytes are these properties, and canonical
pub record AreWritten (ps : Properties) (b : List ℕ) : Type 0 where
  pub properties : AreProperties ps b
  pub same : b ≡ property_encodings ps

-- the front of the input is a pod of an object of this type and id, whose properties have these canonical bytes
pub record BeginsWritten (input : List ℕ) (type id : ℕ) (properties : List ℕ) : Type 0 where
  pub values : Properties
  pub begins : Begins input (object type id values)
  pub written : AreWritten values properties

-- a property with this key, these flags and this pod is at the front of the bytes, and `rest` is left behind it
pub record HasFirst (b : List ℕ) (key flags : ℕ) (pod rest : List ℕ) : Type 0 where
  pub header : header_size ≤ length b
  pub its_key : key ≡ word_at b 0
  pub its_flags : flags ≡ word_at b 4
  pub there : HasFront (drop header_size b)
  pub its_pod : pod ≡ front_of (drop header_size b)
  pub its_rest : rest ≡ rest_of (drop header_size b)

-- the property that was found has these flags, and this is the canonical pod of its value
pub record IsFound (found : Option Offered) (flags : ℕ) (pod : List ℕ) : Type 0 where
  pub value : Tree
  pub is_found : found ≡ Some (offered flags value)
  pub written : IsCanonicalPod value pod

-- two values that aren't choices, and differ
pub record AreApart (v w : Tree) : Type 0 where
  pub first : type_of v ≢ choice_type
  pub second : type_of w ≢ choice_type
  pub differ : v ≢ w

-- the first of our properties has this key, under which both sides have values that are apart
pub record AreApartAtFirst (ours theirs : Properties) (key : ℕ) : Type 0 where
  pub our : Offered
  pub their : Offered
  pub behind : Properties
  pub first : ours ≡ property key our.flags our.value behind
  pub found : offered_at key theirs ≡ Some their
  pub apart : AreApart our.value their.value

-- the first bytes of an open object: its header with a size word of 0, its type and its id
abbrev pub open_header : ℕ → ℕ → List ℕ
open_header type id = (word_bytes 0 ++ word_bytes 15) ++ (word_bytes type ++ word_bytes id)

-- the canonical bytes of these properties are behind `head` in the output
pub record AreBehind (met : Properties) (head out : List ℕ) : Type 0 where
  pub bytes : List ℕ
  pub parts : out ≡ head ++ bytes
  pub written : AreWritten met bytes
