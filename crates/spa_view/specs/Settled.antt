-- Settled pods: the value of a None choice in place of the choice: docs/FORMAT.md, "Walks over views".
use Rattle.std.specs.Prelude.{ℕ, ◌+◌, List, drop, if◌then◌else◌, Bool, nat_eq, nat_le, ◌&&◌}
use Rattle.spa_format.specs.Words.{word_at, header_size}
use Rattle.spa_format.specs.Tree.{Tree, fixed, choice, shape_number, none_choice, type_of}
use Rattle.spa_format.specs.Pod.{IsWhole}
use Rattle.spa_format.specs.Front.{front_of}
use Rattle.spa_format.specs.Faults.{choice_header_size}
use Rattle.spa_format.specs.Fixation.{is_choice_pod, shape_place}
use Rattle.spa_format.specs.Lenient.{ConveysBody}

-- the offset of the child header in a choice's pod, which is the header of a None choice's value
abbrev pub child_place : ℕ
child_place = header_size + header_size

-- a None choice's pod, in whose body its value is whole
abbrev pub holds_value : List ℕ → Bool
holds_value b =
    is_choice_pod b
    && (nat_eq (word_at b shape_place) (shape_number none_choice)
    && nat_le (choice_header_size + word_at b child_place) (word_at b 0))

-- the pod of a None choice's value, whose padding is the bytes behind the value in the choice; of any other pod the pod itself
abbrev pub settled_bytes : List ℕ → List ℕ
settled_bytes b = if holds_value b then front_of (drop child_place b) else b

-- the value of a None choice; of any other value the value itself
abbrev pub settled_of : Tree → Tree
settled_of (choice none_choice f k x xs) = fixed x
settled_of v = v

-- whole bytes of this value's type, whose body conveys it
abbrev pub Says : Tree → List ℕ → Type 0
Says v b = IsWhole b (type_of v) (ConveysBody v)
