-- The one encoding of a value, which is how it is written: docs/FORMAT.md, "The encoding of a value".
use Rattle.std.specs.Prelude.{ℕ, List, [], ◌∷◌, ◌++◌, length}
use Rattle.spa_format.specs.Words.{word_bytes, wide_bytes, padding}
use Rattle.spa_format.specs.Kind.{Kind, type_number, body_size, Fixed, fixed_body}
use Rattle.spa_format.specs.Tree.{shape_number, Tree, fixed, string, bytes, bitmap, array, choice, pointer, struct, object, Trees, no_trees, member, Properties, no_properties, property, type_of}

-- the bodies of values of fixed size, one after another; a None has an empty body
abbrev pub fixed_bodies : List Fixed → List ℕ
fixed_bodies [] = []
fixed_bodies (x ∷ xs) = fixed_body x ++ fixed_bodies xs

-- the body of an array: the size word and the type word of one element, then the elements' bodies without padding
abbrev pub array_body : Kind → List Fixed → List ℕ
array_body k xs = word_bytes (body_size k) ++ (word_bytes (type_number k) ++ fixed_bodies xs)

-- a pod from its body: size word, type word, body, and zeros up to a multiple of 8 bytes
abbrev pub encoded_pod : ℕ → List ℕ → List ℕ
encoded_pod type b = word_bytes (length b) ++ (word_bytes type ++ (b ++ padding (length b)))

-- the body of a value's encoding
abbrev mutual
  pub encoded_body : Tree → List ℕ
  encoded_body (fixed x) = fixed_body x
  encoded_body (string s) = s ++ 0 ∷ []
  encoded_body (bytes s) = s
  encoded_body (bitmap s) = s
  encoded_body (array k xs) = array_body k xs
  encoded_body (choice s f k x xs) = word_bytes (shape_number s) ++ (word_bytes f ++ array_body k (x ∷ xs))
  encoded_body (pointer t a) = word_bytes t ++ (word_bytes 0 ++ wide_bytes a)
  encoded_body (struct vs) = member_encodings vs
  encoded_body (object t i ps) = word_bytes t ++ (word_bytes i ++ property_encodings ps)

  pub member_encodings : Trees → List ℕ
  member_encodings no_trees = []
  member_encodings (member v vs) = encoded_pod (type_of v) (encoded_body v) ++ member_encodings vs

  pub property_encodings : Properties → List ℕ
  property_encodings no_properties = []
  property_encodings (property key flags v ps) = word_bytes key ++ (word_bytes flags ++ (encoded_pod (type_of v) (encoded_body v) ++ property_encodings ps))

-- the encoding of a value: the one pod as which it is written
abbrev pub encoding_of : Tree → List ℕ
encoding_of v = encoded_pod (type_of v) (encoded_body v)
