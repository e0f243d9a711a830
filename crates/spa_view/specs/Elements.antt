-- Values of one type behind the header that they share, as arrays and choices have them: docs/FORMAT.md, "Walks over views".
use Rattle.std.specs.Prelude.{◌≡◌, ℕ, ◌+◌, ◌*◌, ◌-◌, ◌/◌, List, length, take, drop, map, Option, None, Some}
use Rattle.std.specs.Simd.{first_chunks}
use Rattle.spa_format.specs.Words.{word_at, header_size}
use Rattle.spa_format.specs.Kind.{Kind, Fixed, type_number, body_size, content}
use Rattle.spa_fixed_sized.specs.Choices.{count_taken}
use Rattle.spa_view.specs.declared.arrays.PodArray.{PodArray}
use Rattle.spa_view.specs.declared.arrays.PodElements.{PodElements}

-- the child header, and the elements behind it
abbrev pub array_bytes : PodArray → List ℕ
array_bytes values = values.body.now

-- how many whole elements of the child size there are
abbrev pub element_count : List ℕ → ℕ
element_count b = (length b - header_size) / word_at b 0

-- the child header is that of the kind
abbrev pub HasKind : Kind → List ℕ → Type 0
HasKind k b = (word_at b 4 ≡ type_number k) × (word_at b 0 ≡ body_size k)

-- the values of the whole bodies of this kind, one after another in these bytes; of None, whose bodies are empty, there are none
abbrev pub values_in : Kind → List ℕ → List Fixed
values_in k b = map (content k) (first_chunks (body_size k) (length b / body_size k) b)

-- the values that the iterator has left
abbrev pub elements_left : {T : Type 0} → Kind → PodElements T → List Fixed
elements_left k elements = values_in k elements.left.now

-- the child header, and this many elements at most; None: all
abbrev pub first_elements : Option ℕ → List ℕ → List ℕ
first_elements None b = b
first_elements (Some n) b = take (header_size + n * word_at b 0) b

-- the child header in a choice's body, and the values that its shape takes, the default first
abbrev pub choice_values : List ℕ → List ℕ
choice_values b = first_elements (count_taken (word_at b 0)) (drop header_size b)
