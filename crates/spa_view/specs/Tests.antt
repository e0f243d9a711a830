-- The tests of a view, by its pod's bytes: docs/FORMAT.md, "Walks over views".
use Rattle.std.specs.Prelude.{◌≡◌, ℕ, ◌-◌, ◌≤◌, ◌⊎◌, ◌==◌, List, slice_index}
use Rattle.std.specs.List.{before_first}
use Rattle.spa_format.specs.Words.{word_at, wide_at, header_size, body_of}
use Rattle.spa_format.specs.Kind.{Kind, type_number, body_size}
use Rattle.spa_format.specs.Tree.{string_type, bytes_type, bitmap_type, array_type, struct_type, object_type, pointer_type, choice_type}
use Rattle.spa_format.specs.Faults.{choice_header_size}

-- the type number that a view knows and no value has
abbrev pub sequence_type : ℕ
sequence_type = 16

-- a pod of this kind of fixed size, by its type and its size
abbrev pub IsOfKind : Kind → List ℕ → Type 0
IsOfKind k b = (word_at b 4 ≡ type_number k) × (word_at b 0 ≡ body_size k)

-- a pod of this type and at least this size
abbrev pub IsOfType : ℕ → ℕ → List ℕ → Type 0
IsOfType type least b = (word_at b 4 ≡ type) × (least ≤ word_at b 0)

abbrev pub IsStringPod : List ℕ → Type 0
IsStringPod = IsOfType string_type 1

abbrev pub IsBytesPod : List ℕ → Type 0
IsBytesPod b = word_at b 4 ≡ bytes_type

abbrev pub IsBitmapPod : List ℕ → Type 0
IsBitmapPod b = word_at b 4 ≡ bitmap_type

abbrev pub IsArrayPod : List ℕ → Type 0
IsArrayPod = IsOfType array_type header_size

abbrev pub IsStructPod : List ℕ → Type 0
IsStructPod b = word_at b 4 ≡ struct_type

abbrev pub IsObjectPod : List ℕ → Type 0
IsObjectPod = IsOfType object_type header_size

abbrev pub IsSequencePod : List ℕ → Type 0
IsSequencePod b = word_at b 4 ≡ sequence_type

-- a sequence that has its unit and the word behind it, which stand before the controls
abbrev pub HoldsControls : List ℕ → Type 0
HoldsControls = IsOfType sequence_type header_size

abbrev pub IsChoicePod : List ℕ → Type 0
IsChoicePod = IsOfType choice_type choice_header_size

-- the sizes of a pointer's body: a type word, a free word, and the address in four or eight bytes
abbrev pub short_pointer_size : ℕ
short_pointer_size = 12

abbrev pub long_pointer_size : ℕ
long_pointer_size = 16

abbrev pub IsPointerPod : List ℕ → Type 0
IsPointerPod b = (word_at b 4 ≡ pointer_type) × ((word_at b 0 ≡ short_pointer_size) ⊎ (word_at b 0 ≡ long_pointer_size))

-- the address in a pointer's body, in four or eight bytes by the body's length
abbrev pub IsAddress : ℕ → List ℕ → Type 0
IsAddress a b =
    (word_at b 0 ≡ short_pointer_size → a ≡ word_at (body_of b) header_size)
    × (word_at b 0 ≡ long_pointer_size → a ≡ wide_at (body_of b) header_size)

-- a string's pod whose last body byte is NUL
abbrev pub IsNulEnded : List ℕ → Type 0
IsNulEnded b = IsStringPod b × (slice_index (body_of b) (word_at b 0 - 1) ≡ 0)

-- the bytes before the first NUL, or all where there is none
abbrev pub before_nul : List ℕ → List ℕ
before_nul b = before_first (λ x. x == 0) b
