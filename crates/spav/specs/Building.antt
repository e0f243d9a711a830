-- Pods that are built by a list of calls, in the caller's memory: docs/CAPI.md, "Building".
use Rattle.std.specs.Prelude.{◌≡◌, ◌≢◌, ◌≤◌, ◌⊎◌, ◌+◌, ◌*◌, ℕ, List, [], ◌∷◌, ◌++◌, length, map, take, drop, not, nat_eq, nat_le, if◌then◌else◌, Option, Some, None}
use Rattle.std.specs.Option.{option_map}
use Rattle.std.specs.Simd.{first_chunks}
use Rattle.std.specs.Str.{is_utf8}
use Rattle.spa_format.specs.Encoding.{encoding_of, member_encodings}
use Rattle.spa_format.specs.Kind.{Fixed, Kind, body_size, content, none, bool, id, int, long, float, double, rectangle, fraction, fd, type_number, none_kind, bool_kind, id_kind, int_kind, long_kind, float_kind, double_kind, rectangle_kind, fraction_kind, fd_kind}
use Rattle.spa_format.specs.Normal.{kept_elements}
use Rattle.spa_format.specs.Pod.{IsPod}
use Rattle.spa_format.specs.Tree.{Tree, array, fixed, string, bytes, pointer, string_type, bytes_type, array_type, struct_type, object_type, pointer_type, choice_type}
use Rattle.spa_builder.specs.State.{State, start}
use Rattle.spa_builder.specs.Step as builder
use Rattle.spa_builder.specs.Step.{Outcome, Accepts, Inval, add, add_prop, pop, push_array, push_choice, push_object, push_struct, step}
use Rattle.spa_canonical.specs.Depth.{depth_of, levels_looked_into}
use Rattle.spav.specs.declared.building.Call.{Call}

-- the number of a call that adds a key; those of calls that add a value or open a container are the numbers of its type
abbrev pub key_number : ℕ
key_number = 256

-- the number of a call that closes a container
abbrev pub pop_number : ℕ
pop_number = 257

-- the number of a call that adds a whole array
abbrev pub array_number : ℕ
array_number = 258

-- the number of a call that adds a whole pod
abbrev pub pod_number : ℕ
pod_number = 259

-- the `len` bytes of the texts at the offset `from`; None where the texts are shorter
abbrev pub part_of : List ℕ → (from len : ℕ) → Option (List ℕ)
part_of texts from len = if nat_le (from + len) (length texts) then Some (take len (drop from texts)) else None

-- the bytes, where they are UTF-8, and else None
abbrev pub text_of : Option (List ℕ) → Option (List ℕ)
text_of None = None
text_of (Some text) = if is_utf8 text then Some text else None

-- the `count` elements of a kind whose bodies are one after another in these bytes; of None there are no elements
abbrev pub elements_in : Kind → (count : ℕ) → List ℕ → List Fixed
elements_in k count b = kept_elements k (map (content k) (first_chunks (body_size k) count b))

-- the array of a call's elements; None where the texts are shorter
abbrev pub array_in : Kind → List ℕ → Call → Option Tree
array_in k texts c = option_map (λ b. array k (elements_in k c.len b)) (part_of texts c.bits (c.len * body_size k))

-- the array of a call whose elements are of the type of this number; None where that has no fixed size or the texts are shorter
abbrev pub array_of : ℕ → List ℕ → Call → Option Tree
array_of number texts c =
    if nat_eq number (type_number none_kind) then array_in none_kind texts c
    else (if nat_eq number (type_number bool_kind) then array_in bool_kind texts c
    else (if nat_eq number (type_number id_kind) then array_in id_kind texts c
    else (if nat_eq number (type_number int_kind) then array_in int_kind texts c
    else (if nat_eq number (type_number long_kind) then array_in long_kind texts c
    else (if nat_eq number (type_number float_kind) then array_in float_kind texts c
    else (if nat_eq number (type_number double_kind) then array_in double_kind texts c
    else (if nat_eq number (type_number rectangle_kind) then array_in rectangle_kind texts c
    else (if nat_eq number (type_number fraction_kind) then array_in fraction_kind texts c
    else (if nat_eq number (type_number fd_kind) then array_in fd_kind texts c
    else None)))))))))

-- the value that a call of this number adds; None where it adds none
abbrev pub added_by : ℕ → List ℕ → Call → Option Tree
added_by number texts c =
    if nat_eq number (type_number none_kind) then Some (fixed none)
    else (if nat_eq number (type_number bool_kind) then Some (fixed (bool (not (nat_eq c.first 0))))
    else (if nat_eq number (type_number id_kind) then Some (fixed (id c.first))
    else (if nat_eq number (type_number int_kind) then Some (fixed (int c.number))
    else (if nat_eq number (type_number long_kind) then Some (fixed (long c.wide))
    else (if nat_eq number (type_number float_kind) then Some (fixed (float c.first))
    else (if nat_eq number (type_number double_kind) then Some (fixed (double c.bits))
    else (if nat_eq number (type_number rectangle_kind) then Some (fixed (rectangle c.first c.second))
    else (if nat_eq number (type_number fraction_kind) then Some (fixed (fraction c.first c.second))
    else (if nat_eq number (type_number fd_kind) then Some (fixed (fd c.wide))
    else (if nat_eq number string_type then option_map string (text_of (part_of texts c.bits c.len))
    else (if nat_eq number bytes_type then option_map bytes (part_of texts c.bits c.len)
    else (if nat_eq number pointer_type then Some (pointer c.first c.bits)
    else (if nat_eq number array_number then array_of c.first texts c
    else None)))))))))))))

-- the frame of the pod that a call closes: 0 stands for the innermost
abbrev pub frame_of : State → Call → ℕ
frame_of s c = if nat_eq c.bits 0 then length s.opened else c.bits

-- the builder's call of this number that adds no value; None where there is none
abbrev pub begun_by : State → ℕ → Call → Option builder.Call
begun_by s number c =
    if nat_eq number array_type then Some push_array
    else (if nat_eq number struct_type then Some push_struct
    else (if nat_eq number object_type then Some (push_object c.first c.second)
    else (if nat_eq number choice_type then Some (push_choice c.first c.second)
    else (if nat_eq number key_number then Some (add_prop c.first c.second)
    else (if nat_eq number pop_number then Some (pop (frame_of s c))
    else None)))))

-- the builder's call that adds the value, where there is one, or else the other call
abbrev pub adds : Option Tree → Option builder.Call → Option builder.Call
adds v other = elim v as (λ _. Option builder.Call) [ Some t ↦ Some (add t) | None ↦ other ]

-- the builder's call that a call stands for; None where it is none
abbrev pub said_by : State → ℕ → List ℕ → Call → Option builder.Call
said_by s number texts c = adds (added_by number texts c) (begun_by s number c)

-- the outcome of a builder's call; a call that is none is refused
abbrev pub outcome_of : State → Option builder.Call → Outcome
outcome_of s None = Inval
outcome_of s (Some call) = step s call

-- the outcome of a call over these texts that adds no whole pod; one whose reserved field isn't 0 is none
abbrev pub outcome_in : List ℕ → State → Call → Outcome
outcome_in texts s c = if nat_eq c.reserved 0 then outcome_of s (said_by s c.what texts c) else Inval

-- these bytes are the canonical pod of this value, which nests in so many levels as are looked into
pub record IsPodOf (b : List ℕ) (v : Tree) : Type 0 where
  pub pod : IsPod b v
  pub own : b ≡ encoding_of v
  pub shallow : depth_of v ≤ levels_looked_into

-- the outcome of a call that adds these bytes as a pod: that of adding their value; where they are no such pod it is refused
abbrev pub AddsPod : State → Option (List ℕ) → Outcome → Type 0
AddsPod s None o = o ≡ Inval
AddsPod s (Some b) o = ((v : Tree) × IsPodOf b v × (o ≡ step s (add v))) ⊎ (((v : Tree) → ¬ (IsPodOf b v)) × (o ≡ Inval))

-- the outcome of a call over these texts
abbrev pub ComesTo : List ℕ → State → Call → Outcome → Type 0
ComesTo texts s c o =
    ((c.what ≡ pod_number) × (c.reserved ≡ 0) × AddsPod s (part_of texts c.bits c.len) o)
    ⊎ ((c.what ≡ pod_number → c.reserved ≢ 0) × (o ≡ outcome_in texts s c))

-- each of these calls is accepted, and they lead from one state to another
abbrev pub Leads : List ℕ → State → List Call → State → Type 0
Leads texts s [] t = s ≡ t
Leads texts s (c ∷ cs) t = (u : State) × ComesTo texts s c (Accepts u) × Leads texts u cs t

-- each call is accepted, no pod is open at the end, and these bytes are the encodings of the trees
pub record Builds (texts : List ℕ) (calls : List Call) (bytes : List ℕ) : Type 0 where
  pub state : State
  pub leads : Leads texts start calls state
  pub all_closed : state.opened ≡ []
  pub encodings : bytes ≡ member_encodings state.closed

-- the calls before the one at the index `at` are accepted, and the outcome of that one is such
pub record StopsAt (texts : List ℕ) (calls : List Call) (at : ℕ) (IsOutcome : Outcome → Type 0) : Type 0 where
  pub state : State
  pub before : Leads texts start (take at calls) state
  pub call : Call
  pub here : take (at + 1) calls ≡ take at calls ++ call ∷ []
  pub outcome : Outcome
  pub comes : ComesTo texts state call outcome
  pub such : IsOutcome outcome

-- each call is accepted, and a pod is still open after the last
pub record LeavesOpen (texts : List ℕ) (calls : List Call) (at : ℕ) : Type 0 where
  pub state : State
  pub leads : Leads texts start calls state
  pub left : state.opened ≢ []
  pub last : at ≡ length calls
