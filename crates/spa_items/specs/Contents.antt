-- The item of one pod: docs/FORMAT.md, "Items".
use Rattle.std.specs.Prelude.{ℕ, ◌+◌, ◌-◌, ◌*◌, ◌/◌, List, [], ◌∷◌, length, drop, min, if◌then◌else◌, nat_eq, nat_le, take, Option, None, Some}
use Rattle.std.specs.Simd.{first_chunks}
use Rattle.spa_format.specs.Kind.{bool_kind, id_kind, int_kind, long_kind, float_kind, double_kind, rectangle_kind, fraction_kind, fd_kind, type_number}
use Rattle.spa_fixed_sized.specs.Choices.{count_taken}
use Rattle.spa_format.specs.Tree.{string_type, bytes_type, bitmap_type, array_type, object_type, pointer_type, choice_type}
use Rattle.spa_format.specs.Words.{header_size, word_at, wide_at}
use Rattle.spa_items.specs.declared.item.Content.{Content}
use Rattle.spa_items.specs.declared.item.Item.{Item}

-- the word at this offset, or 0 where the bytes end before
abbrev pub word_or : List ℕ → ℕ → ℕ
word_or b i = if nat_le (i + 4) (length b) then word_at b i else 0

-- the number of eight bytes at this offset, or 0 where the bytes end before
abbrev pub wide_or : List ℕ → ℕ → ℕ
wide_or b i = if nat_le (i + 8) (length b) then wide_at b i else 0

abbrev pub both : ℕ → ℕ → Content
both x y = record { first = x; second = y }

-- the content of a body of a type of fixed size; of any other type zeros
abbrev pub fixed_content : ℕ → List ℕ → Content
fixed_content type b =
    if nat_eq type (type_number bool_kind) then both (if nat_eq (word_or b 0) 0 then 0 else 1) 0
    else (if nat_eq type (type_number id_kind) then both (word_or b 0) 0
    else (if nat_eq type (type_number int_kind) then both (word_or b 0) 0
    else (if nat_eq type (type_number float_kind) then both (word_or b 0) 0
    else (if nat_eq type (type_number long_kind) then both (wide_or b 0) 0
    else (if nat_eq type (type_number double_kind) then both (wide_or b 0) 0
    else (if nat_eq type (type_number fd_kind) then both (wide_or b 0) 0
    else (if nat_eq type (type_number rectangle_kind) then both (word_or b 0) (word_or b 4)
    else (if nat_eq type (type_number fraction_kind) then both (word_or b 0) (word_or b 4)
    else both 0 0))))))))

-- the bytes of an array's or a choice's body from its child header on; of any other type none
abbrev pub values_of : ℕ → List ℕ → List ℕ
values_of type b =
    if nat_eq type array_type then b
    else (if nat_eq type choice_type then drop header_size b
    else [])

-- this number, up to a limit where there is one
abbrev pub at_most : Option ℕ → ℕ → ℕ
at_most None n = n
at_most (Some most) n = min n most

-- how many of `n` values a choice of this shape takes
abbrev pub values_taken : ℕ → ℕ → ℕ
values_taken shape n = at_most (count_taken shape) n

-- how many whole values follow a child header; none where their size is 0
abbrev pub values_behind : List ℕ → ℕ
values_behind c = (length c - header_size) / word_or c 0

-- how many elements an array has, or how many values a choice takes
abbrev pub element_count : ℕ → List ℕ → ℕ
element_count type b =
    if nat_eq type choice_type then values_taken (word_or b 0) (values_behind (values_of type b))
    else values_behind (values_of type b)

-- The two numbers of a pod of this type, whose body begins at the byte `at`: a value of fixed size; where a text, bytes or a bitmap begin, and how
-- many bytes they are; a pointer's type and address; where an array's elements begin, and how many they are; a choice's shape, and how many values it
-- takes; an object's type and id.
abbrev pub content : (type at : ℕ) → List ℕ → Content
content type at b =
    if nat_eq type string_type then both at (length b - 1)
    else (if nat_eq type bytes_type then both at (length b)
    else (if nat_eq type bitmap_type then both at (length b)
    else (if nat_eq type pointer_type then both (word_or b 0) (if nat_eq (length b) 12 then word_or b 8 else wide_or b 8)
    else (if nat_eq type array_type then both (at + header_size) (element_count type b)
    else (if nat_eq type choice_type then both (word_or b 0) (element_count type b)
    else (if nat_eq type object_type then both (word_or b 0) (word_or b 4)
    else fixed_content type b))))))

-- the flags of a choice; 0 of any other type
abbrev pub flags_of_choice : ℕ → List ℕ → ℕ
flags_of_choice type b = if nat_eq type choice_type then word_or b 4 else 0

-- the item of a pod with this key, flags, type and body, which begins at the byte `at`, and its body at the byte `body_at`
abbrev pub pod_item : (key flags type depth at body_at : ℕ) → List ℕ → Item
pod_item key flags type depth at body_at b =
    let c = content type body_at b in record {
      type_ = type;
      key = key;
      flags = flags;
      child = word_or (values_of type b) 4;
      choice_flags = flags_of_choice type b;
      reserved = 0;
      depth = depth;
      at = at;
      first = c.first;
      second = c.second;
    }

-- the item of a value without key, which begins at the byte `at`
abbrev pub element : (type depth at : ℕ) → List ℕ → Item
element type depth at b =
    let c = fixed_content type b in record {
      type_ = type;
      key = 0;
      flags = 0;
      child = 0;
      choice_flags = 0;
      reserved = 0;
      depth = depth;
      at = at;
      first = c.first;
      second = c.second;
    }

-- the items of values of one type and size one after another, the first of which begins at the byte `at`
abbrev pub elements_along : (type depth size at : ℕ) → List (List ℕ) → List Item
elements_along type depth size at [] = []
elements_along type depth size at (b ∷ bs) = element type depth at b ∷ elements_along type depth size (at + size) bs

-- how many bytes of a body are before an array's elements, or before a choice's values
abbrev pub before_values : ℕ → ℕ
before_values type = if nat_eq type choice_type then header_size + header_size else header_size

-- the items of the elements of an array, or of the values that a choice takes, where the body begins at the byte `at`
abbrev pub elements : (type depth at : ℕ) → List ℕ → List Item
elements type depth at b =
    let c = values_of type b in
    elements_along (word_or c 4) depth (word_or c 0) (at + before_values type)
    (first_chunks (word_or c 0) (element_count type b) (drop header_size c))

-- the item of an array's element or a choice's value with this number, counted from 0, where the pod's body begins at the byte `at`
abbrev pub element_at : (type depth at number : ℕ) → List ℕ → Item
element_at type depth at number b =
    let c = values_of type b in
    let before = number * word_or c 0 in
    element (word_or c 4) depth (at + before_values type + before) (take (word_or c 0) (drop before (drop header_size c)))
