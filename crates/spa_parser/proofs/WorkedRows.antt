-- The worked examples of docs/FORMAT.md, "Taking pods one by one", computed from the definitions.
use Rattle.std.proofs.Common.{◌≡◌, ℕ, List, [], ◌∷◌, ◌++◌, Some, None, refl}
use Rattle.std.specs.Prelude.{true, false, pos}
use Rattle.spa_format.specs.Words.{word_at, word_bytes, body_of}
use Rattle.spa_format.specs.Kind.{int}
use Rattle.spa_format.specs.Walk.{walk_behind}
use Rattle.spa_parser.specs.State.{ParserState, start_of, next_pod, state_behind, state_inside, open_count}
use Rattle.spa_parser.specs.Steps.{NextPasses, SaysFixed, ClosesFrame}

-- words one after another
words : List ℕ → List ℕ
words [] = []
words (n ∷ ns) = word_bytes n ++ words ns

a_struct : List ℕ
a_struct = words (16 ∷ 14 ∷ 4 ∷ 4 ∷ 3 ∷ 0 ∷ [])

-- in the struct
in_struct : ParserState
in_struct = state_inside a_struct false (start_of a_struct)

struct_is_next : next_pod (start_of a_struct) ≡ Some a_struct
unfolding words a_struct word_bytes word_at walk_behind
struct_is_next = refl

frame_is_1 : open_count in_struct ≡ 1
unfolding in_struct
frame_is_1 = refl

int_is_next : NextPasses (SaysFixed (int (pos 3))) in_struct
unfolding words a_struct in_struct word_bytes word_at walk_behind
int_is_next = ((refl, refl), refl)

none_is_left : next_pod (state_behind in_struct) ≡ None
unfolding words a_struct in_struct word_bytes word_at walk_behind
none_is_left = refl

struct_is_closed : ClosesFrame (state_behind in_struct) (state_behind (start_of a_struct))
unfolding in_struct
struct_is_closed = refl

none_is_behind : next_pod (state_behind (start_of a_struct)) ≡ None
unfolding words a_struct word_bytes word_at walk_behind
none_is_behind = refl

an_object : List ℕ
an_object = words (32 ∷ 15 ∷ 5 ∷ 3 ∷ 1 ∷ 0 ∷ 4 ∷ 4 ∷ 3 ∷ 0 ∷ [])

object_is_next : next_pod (start_of an_object) ≡ Some an_object
unfolding words an_object word_bytes word_at walk_behind
object_is_next = refl

object_has_parts : word_at (body_of an_object) 0 ≡ 5
unfolding words an_object word_bytes word_at
object_has_parts = refl

object_has_an_id : word_at (body_of an_object) 4 ≡ 3
unfolding words an_object word_bytes word_at
object_has_an_id = refl

none_is_next_inside : next_pod (state_inside an_object true (start_of an_object)) ≡ None
none_is_next_inside = refl
