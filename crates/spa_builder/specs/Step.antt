-- One call of a builder, on trees: the next state, or the refusal: docs/FORMAT.md, "Making pods call by call".
use Rattle.std.specs.Prelude.{ℕ, ◌+◌, List, [], ◌∷◌, ◌++◌, length, Bool, true, false, cond, ◌&&◌, ◌||◌, not, nat_eq, nat_lt, Option, Some, None}
use Rattle.std.specs.List.{list_any}
use Rattle.spa_format.specs.Words.{extent, header_size, size_limit}
use Rattle.spa_format.specs.Kind.{Kind, none_kind, type_number, Fixed, none, kind_of}
use Rattle.spa_format.specs.Tree.{Shape, shape_number, none_choice, range_choice, step_choice, enum_choice, flags_choice, Tree, fixed, string, array, choice, struct, object, Trees, no_trees, member, Properties, no_properties, property}
use Rattle.spa_format.specs.Normal.{kept_elements}
use Rattle.spa_format.specs.Pod.{least_count}
use Rattle.spa_fixed_sized.specs.Choices.{count_taken}
use Rattle.spa_format.specs.Faults.{choice_header_size}
use Rattle.spa_format.specs.Encoding.{encoded_body, fixed_bodies}
use Rattle.spa_builder.specs.State.{Partial, open_struct, open_object, open_property, open_array, open_choice, State, with_tree, with_property}

-- the calls of a builder
pub data Call : Type 0 where
  add : Tree → Call
  add_prop : (key flags : ℕ) → Call
  push_struct : Call
  push_object : (type id : ℕ) → Call
  push_array : Call
  -- the shape word of the choice, and its flags
  push_choice : (shape flags : ℕ) → Call
  -- closes the innermost tree; its frame is the number of open trees after it was opened
  pop : ℕ → Call
  -- gives up the innermost tree; its frame is the number of open trees after it was opened
  abandon : ℕ → Call

-- what a call comes to: the next state, or a refusal as INVAL or NOSPC
pub data Outcome : Type 0 where
  Accepts : State → Outcome
  Inval : Outcome
  Nospc : Outcome

-- the shape of this shape word; None where no shape has it
abbrev pub shape_of : ℕ → Option Shape
shape_of n = cond (nat_eq n 0) (Some none_choice) (cond (nat_eq n 1) (Some range_choice) (cond (nat_eq n 2) (Some step_choice) (cond (nat_eq n 3) (Some enum_choice) (cond (nat_eq n 4) (Some flags_choice) None))))

-- whether the byte is NUL
abbrev pub is_nul : ℕ → Bool
is_nul x = nat_eq x 0

-- whether a text in the value holds NUL
abbrev mutual
  pub has_nul : Tree → Bool
  has_nul (string s) = list_any is_nul s
  has_nul (struct vs) = some_has_nul vs
  has_nul (object t i ps) = some_value_has_nul ps
  has_nul v = false

  pub some_has_nul : Trees → Bool
  some_has_nul no_trees = false
  some_has_nul (member v vs) = has_nul v || some_has_nul vs

  pub some_value_has_nul : Properties → Bool
  some_value_has_nul no_properties = false
  some_value_has_nul (property k f v ps) = has_nul v || some_value_has_nul ps

-- whether two values of fixed size are of one kind
abbrev pub same_kind : Fixed → Fixed → Bool
same_kind x y = nat_eq (type_number (kind_of x)) (type_number (kind_of y))

-- an array takes elements of the first one's kind
abbrev pub array_takes : List Fixed → Fixed → Bool
array_takes [] x = true
array_takes (y ∷ ys) x = same_kind y x

-- less than this limit, if there is one
abbrev pub is_below : ℕ → Option ℕ → Bool
is_below n None = true
is_below n (Some limit) = nat_lt n limit

-- a choice takes no more values than its shape needs, where that fixes their number
abbrev pub has_place : Shape → ℕ → Bool
has_place h n = is_below n (count_taken (shape_number h))

-- a choice takes values of the first one's kind, which isn't None
abbrev pub choice_takes : Shape → List Fixed → Fixed → Bool
choice_takes h [] x = not (same_kind none x)
choice_takes h (y ∷ ys) x = same_kind y x && has_place h (length (y ∷ ys))

-- the open tree with one more value; None where it doesn't take that value. An open array of Ints takes an Int, and no Long.
abbrev pub tree_with_value : Partial → Tree → Option Partial
tree_with_value (open_struct vs) v = Some (open_struct (with_tree vs v))
tree_with_value (open_object t i ps) v = None
tree_with_value (open_property t i ps k f) v = Some (open_object t i (with_property ps k f v))
tree_with_value (open_array xs) (fixed x) = cond (array_takes xs x) (Some (open_array (xs ++ x ∷ []))) None
tree_with_value (open_array xs) v = None
tree_with_value (open_choice h f xs) (fixed x) = cond (choice_takes h xs x) (Some (open_choice h f (xs ++ x ∷ []))) None
tree_with_value (open_choice h f xs) v = None

-- the state after a value is added to the innermost open tree, or to the closed values where none is open; None where it isn't allowed
abbrev pub state_with_value : Trees → List Partial → Tree → Option State
state_with_value closed [] v = Some (record { closed = with_tree closed v; opened = [] })
state_with_value closed (p ∷ ps) v = elim (tree_with_value p v) as (λ _. Option State) [ Some q ↦ Some (record { closed = closed; opened = q ∷ ps }) | None ↦ None ]

-- the state after a key and flags are added to the innermost open tree; None where that isn't an object in which no key waits
abbrev pub state_with_key : Trees → List Partial → ℕ → ℕ → Option State
state_with_key closed (open_object t i qs ∷ ps) k f = Some (record { closed = closed; opened = open_property t i qs k f ∷ ps })
state_with_key closed ps k f = None

-- a tree of any type is allowed next
abbrev pub takes_trees : List Partial → Bool
takes_trees [] = true
takes_trees (open_struct vs ∷ ps) = true
takes_trees (open_object t i qs ∷ ps) = false
takes_trees (open_property t i qs k f ∷ ps) = true
takes_trees (open_array xs ∷ ps) = false
takes_trees (open_choice h f xs ∷ ps) = false

-- the state after this tree is opened, in the innermost open tree or beside the closed values; None where no tree is allowed there
abbrev pub state_with_tree : Partial → State → Option State
state_with_tree p s = cond (takes_trees s.opened) (Some (record { closed = s.closed; opened = p ∷ s.opened })) None

-- the kind of the elements; that of None where there are no elements
abbrev pub child_kind : List Fixed → Kind
child_kind [] = none_kind
child_kind (x ∷ xs) = kind_of x

-- The tree of an array of these elements. Where it has no elements or only None elements, it is an array of None without elements.
abbrev pub array_of : List Fixed → Tree
array_of xs = array (child_kind xs) (kept_elements (child_kind xs) xs)

-- the tree of a choice of these values; None where it lacks values
abbrev pub choice_of : Shape → ℕ → List Fixed → Option Tree
choice_of h f [] = None
choice_of h f (x ∷ xs) = cond (nat_lt (length (x ∷ xs)) (least_count h)) None (Some (choice h f (kind_of x) x xs))

-- the value that an open tree becomes when it is closed; None where it can't be closed
abbrev pub closed_value : Partial → Option Tree
closed_value (open_struct vs) = Some (struct vs)
closed_value (open_object t i ps) = Some (object t i ps)
closed_value (open_property t i ps k f) = None
closed_value (open_array xs) = Some (array_of xs)
closed_value (open_choice h f xs) = choice_of h f xs

-- the size that an open tree has without the open trees inside it: a waiting key and its flags have 8 bytes
abbrev pub own_size : Partial → ℕ
own_size (open_struct vs) = length (encoded_body (struct vs))
own_size (open_object t i ps) = length (encoded_body (object t i ps))
own_size (open_property t i ps k f) = length (encoded_body (object t i ps)) + header_size
own_size (open_array xs) = length (encoded_body (array_of xs))
own_size (open_choice h f xs) = choice_header_size + length (fixed_bodies xs)

-- The size of each open tree fits a word of 32 bits, where `inside` bytes are added to the innermost, and the open trees inside each are
-- counted as closed. Where the inner of two structs has a member of 16 bytes, and the outer one of 8 before it, the inner's size is 16, its extent 24,
-- and the outer's size 32: `all_fit 0` asks whether 16 and 32 are below 4294967296.
abbrev pub all_fit : ℕ → List Partial → Bool
all_fit inside [] = true
all_fit inside (p ∷ ps) = nat_lt (own_size p + inside) size_limit && all_fit (extent (own_size p + inside)) ps

-- the outcome: the next state where there is one and its sizes fit, else INVAL or NOSPC
abbrev pub outcome_if_fits : Bool → Option State → Outcome
outcome_if_fits fits None = Inval
outcome_if_fits fits (Some s) = cond (fits && all_fit 0 s.opened) (Accepts s) Nospc

-- the outcome of adding this value, where no text in it holds NUL
abbrev pub outcome_with_value : State → Tree → Outcome
outcome_with_value s v = outcome_if_fits (nat_lt (length (encoded_body v)) size_limit) (state_with_value s.closed s.opened v)

-- the outcome of opening this tree
abbrev pub outcome_with_tree : State → Partial → Outcome
outcome_with_tree s p = outcome_if_fits true (state_with_tree p s)

-- the outcome: the next state where there is one, else INVAL
abbrev pub outcome_of : Option State → Outcome
outcome_of None = Inval
outcome_of (Some s) = Accepts s

-- the state after the innermost tree is closed; None where the frame isn't its own, or it can't be closed
abbrev pub state_after_pop : Trees → List Partial → ℕ → Option State
state_after_pop closed [] frame = None
state_after_pop closed (p ∷ ps) frame = cond (nat_eq frame (length (p ∷ ps))) (elim (closed_value p) as (λ _. Option State) [ Some v ↦ state_with_value closed ps v | None ↦ None ]) None

-- the state after the innermost tree is given up, which is that before it was opened; None where the frame isn't its own
abbrev pub state_after_abandon : Trees → List Partial → ℕ → Option State
state_after_abandon closed [] frame = None
state_after_abandon closed (p ∷ ps) frame = cond (nat_eq frame (length (p ∷ ps))) (Some (record { closed = closed; opened = ps })) None

-- the outcome of a call in a state: of `push_struct` and then `add (fixed (int 3))` from the start, Accepts of a state with one open struct, which has the
-- member Int 3; of `pop 2` then Inval, as the struct's frame is 1
abbrev pub step : State → Call → Outcome
step s (add v) = cond (has_nul v) Inval (outcome_with_value s v)
step s (add_prop k f) = outcome_if_fits true (state_with_key s.closed s.opened k f)
step s push_struct = outcome_with_tree s (open_struct no_trees)
step s (push_object t i) = outcome_with_tree s (open_object t i no_properties)
step s push_array = outcome_with_tree s (open_array [])
step s (push_choice n f) = elim (shape_of n) as (λ _. Outcome) [ Some h ↦ outcome_with_tree s (open_choice h f []) | None ↦ Inval ]
step s (pop frame) = outcome_of (state_after_pop s.closed s.opened frame)
step s (abandon frame) = outcome_of (state_after_abandon s.closed s.opened frame)
