-- The worked examples of docs/FORMAT.md, computed from the definitions.
use Rattle.std.proofs.Common.{◌≡◌, ℕ, zero, suc, ◌<◌, List, [], ◌∷◌, ◌++◌, refl, arith, lit≤, inl, inr}
use Rattle.std.specs.Prelude.{true, pos, slice_index_or}
use lib.Utf8.{encode}
use Rattle.spa_format.specs.Words.{word_at, word_bytes, wide_bytes}
use Rattle.spa_format.specs.Kind.{id_kind, int_kind, none_kind, none, bool, id, int, rectangle, Fixed}
use Rattle.spa_format.specs.Tree.{none_choice, range_choice, Tree, fixed, string, bitmap, array, choice, pointer, struct, object, no_trees, member, no_properties, property, node_count}
use Rattle.spa_format.specs.Normal.{normal_of}
use Rattle.spa_format.specs.Pod.{IsPod}
use Rattle.spa_format.specs.Lenient.{Conveys}
use Rattle.spa_format.specs.Encoding.{encoding_of}
use Rattle.spa_format.specs.Front.{HasFront, rest_of}

-- words one after another
words : List ℕ → List ℕ
words [] = []
words (n ∷ ns) = word_bytes n ++ words ns

unit_is_read : IsPod (words (0 ∷ 1 ∷ [])) (fixed none)
unfolding words word_at word_bytes
unit_is_read = record { whole = refl; its_type = refl; content = record { whole = refl; says = refl } }

-- any word but 0 reads as true, and the bytes behind the body are free
bool_is_read : IsPod (words (4 ∷ 2 ∷ 7 ∷ 9 ∷ [])) (fixed (bool true))
unfolding words word_at word_bytes
bool_is_read = record { whole = refl; its_type = refl; content = record { whole = refl; says = refl } }

-- true is written as 1, and the padding is zeros
bool_is_written : encoding_of (fixed (bool true)) ≡ words (4 ∷ 2 ∷ 1 ∷ 0 ∷ [])
unfolding words word_bytes
bool_is_written = refl

-- seven characters and their NUL leave nothing to pad
string_is_written : encoding_of (string (49 ∷ 50 ∷ 51 ∷ 52 ∷ 53 ∷ 54 ∷ 55 ∷ [])) ≡ words (8 ∷ 8 ∷ []) ++ (49 ∷ 50 ∷ 51 ∷ 52 ∷ 53 ∷ 54 ∷ 55 ∷ 0 ∷ [])
unfolding words word_bytes
string_is_written = refl

empty_string_is_written : encoding_of (string []) ≡ words (1 ∷ 8 ∷ 0 ∷ 0 ∷ [])
unfolding words word_bytes
empty_string_is_written = refl

int_is_read : IsPod (words (4 ∷ 4 ∷ 3 ∷ 0 ∷ [])) (fixed (int (pos 3)))
unfolding words word_at word_bytes
int_is_read = record { whole = refl; its_type = refl; content = record { whole = refl; says = refl } }

struct_is_read : IsPod (words (16 ∷ 14 ∷ 4 ∷ 4 ∷ 3 ∷ 0 ∷ [])) (struct (member (fixed (int (pos 3))) no_trees))
unfolding words word_at word_bytes
struct_is_read = record {
  whole = refl;
  its_type = refl;
  content = (words (4 ∷ 4 ∷ 3 ∷ 0 ∷ []), [], refl, int_is_read, refl);
}

-- the bytes behind a bitmap's body are free, and written as zeros
bitmap_is_read : IsPod (words (3 ∷ 12 ∷ []) ++ (1 ∷ 2 ∷ 3 ∷ 255 ∷ 255 ∷ 255 ∷ 255 ∷ 255 ∷ [])) (bitmap (1 ∷ 2 ∷ 3 ∷ []))
unfolding words word_at word_bytes
bitmap_is_read = record { whole = refl; its_type = refl; content = refl }

bitmap_is_written : encoding_of (bitmap (1 ∷ 2 ∷ 3 ∷ [])) ≡ words (3 ∷ 12 ∷ 197121 ∷ 0 ∷ [])
unfolding words word_bytes
bitmap_is_written = refl

empty_bitmap_is_read : IsPod (words (0 ∷ 12 ∷ [])) (bitmap [])
unfolding words word_at word_bytes
empty_bitmap_is_read = record { whole = refl; its_type = refl; content = refl }

ints : List Fixed
ints = int (pos 10) ∷ int (pos 15) ∷ int (pos 19) ∷ []

array_is_read : IsPod (words (20 ∷ 13 ∷ 4 ∷ 4 ∷ 10 ∷ 15 ∷ 19 ∷ 0 ∷ [])) (array int_kind ints)
unfolding words ints word_at word_bytes
array_is_read = record {
  whole = refl;
  its_type = refl;
  content = record {
    header = lit≤ tt;
    child_size = refl;
    child_type = refl;
    elements = (lit≤ tt, record { whole = refl; says = refl }, (lit≤ tt, record { whole = refl; says = refl }, (lit≤ tt, record { whole = refl; says = refl }, refl)));
  };
}

-- however many units an array holds, its encoding has none
units_are_written : encoding_of (array none_kind (none ∷ none ∷ none ∷ none ∷ none ∷ [])) ≡ words (8 ∷ 13 ∷ 0 ∷ 1 ∷ [])
unfolding words word_bytes
units_are_written = refl

range_is_written : encoding_of (choice range_choice 0 int_kind (int (pos 5)) (int (pos 2) ∷ int (pos 10) ∷ [])) ≡ words (28 ∷ 19 ∷ 1 ∷ 0 ∷ 4 ∷ 4 ∷ 5 ∷ 2 ∷ 10 ∷ 0 ∷ [])
unfolding words word_bytes
range_is_written = refl

-- the flags and the surplus of a choice without alternatives are dropped
none_choice_is_read : IsPod (words (28 ∷ 19 ∷ 0 ∷ 5 ∷ 4 ∷ 4 ∷ 7 ∷ 9 ∷ 11 ∷ 0 ∷ [])) (choice none_choice 0 int_kind (int (pos 7)) [])
unfolding words word_at word_bytes
none_choice_is_read = record {
  whole = refl;
  its_type = refl;
  content = record {
    header = lit≤ tt;
    shape = refl;
    flags = refl;
    all = int (pos 9) ∷ int (pos 11) ∷ [];
    values = record {
      header = lit≤ tt;
      child_size = refl;
      child_type = refl;
      elements = (lit≤ tt, record { whole = refl; says = refl }, (lit≤ tt, record { whole = refl; says = refl }, (lit≤ tt, record { whole = refl; says = refl }, refl)));
    };
    enough = lit≤ tt;
    first = refl;
  };
}

-- its encoding keeps the flags that the value holds, and reads back without them
none_choice_is_written : encoding_of (choice none_choice 5 int_kind (int (pos 7)) []) ≡ words (20 ∷ 19 ∷ 0 ∷ 5 ∷ 4 ∷ 4 ∷ 7 ∷ 0 ∷ [])
unfolding words word_bytes
none_choice_is_written = refl

none_choice_is_normalized : normal_of (choice none_choice 5 int_kind (int (pos 7)) []) ≡ choice none_choice 0 int_kind (int (pos 7)) []
none_choice_is_normalized = refl

-- a pointer of four bytes is written with eight
pointer_is_read : IsPod (words (12 ∷ 17 ∷ 7 ∷ 0 ∷ 4096 ∷ 9 ∷ [])) (pointer 7 4096)
unfolding words word_at word_bytes
pointer_is_read = record { whole = refl; its_type = refl; content = (refl, inl (refl, refl)) }

pointer_is_written : encoding_of (pointer 7 4096) ≡ words (16 ∷ 17 ∷ 7 ∷ 0 ∷ 4096 ∷ 0 ∷ [])
unfolding words word_bytes wide_bytes
pointer_is_written = refl

object_is_read : IsPod (words (32 ∷ 15 ∷ 5 ∷ 3 ∷ 1 ∷ 0 ∷ 4 ∷ 4 ∷ 3 ∷ 0 ∷ [])) (object 5 3 (property 1 0 (fixed (int (pos 3))) no_properties))
unfolding words word_at word_bytes
object_is_read = record {
  whole = refl;
  its_type = refl;
  content = (lit≤ tt, refl, refl, (lit≤ tt, refl, refl, words (4 ∷ 4 ∷ 3 ∷ 0 ∷ []), [], refl, int_is_read, refl));
}

tree : Tree
tree = struct (member (fixed (int (pos 313))) (member (string (102 ∷ 111 ∷ 111 ∷ [])) (member (struct (member (fixed (rectangle 31 14)) no_trees)) no_trees)))

tree_is_written : encoding_of tree ≡ words (56 ∷ 14 ∷ 4 ∷ 4 ∷ 313 ∷ 0 ∷ 4 ∷ 8 ∷ 7303014 ∷ 0 ∷ 16 ∷ 14 ∷ 8 ∷ 10 ∷ 31 ∷ 14 ∷ [])
unfolding words tree word_bytes
tree_is_written = refl

tree_is_counted : node_count tree ≡ 5
unfolding tree
tree_is_counted = refl

-- a front that isn't there: the size word says more than the input has
array_is_short : ¬ (HasFront (words (4294967295 ∷ 13 ∷ [])))
unfolding words word_at word_bytes
array_is_short h = absurd (let w = h.whole in omega arith)

int_is_short : ¬ (HasFront (words (4 ∷ 4 ∷ 3 ∷ [])))
unfolding words word_at word_bytes
int_is_short h = absurd (let w = h.whole in omega arith)

-- the first pod ends where its size word says
rest_is_left : rest_of (words (0 ∷ 1 ∷ 4 ∷ 4 ∷ [])) ≡ words (4 ∷ 4 ∷ [])
unfolding words word_at word_bytes
rest_is_left = refl

jk : List ℕ
jk = 106 ∷ 107 ∷ []

no_nul_inside : (k : ℕ) → k < 2 → slice_index_or jk k 0 ≡ 0 → ⊥
unfolding jk
no_nul_inside zero l e = absurd (omega arith)
no_nul_inside (suc zero) l e = absurd (omega arith)
no_nul_inside (suc (suc k)) l e = absurd (omega arith)

-- what is behind the first NUL of a text means nothing, where NUL is last
padded_text_conveys : Conveys (words (6 ∷ 8 ∷ []) ++ (106 ∷ 107 ∷ 0 ∷ 108 ∷ 109 ∷ 0 ∷ 0 ∷ 0 ∷ [])) (string (106 ∷ 107 ∷ []))
unfolding words word_at word_bytes encode jk
padded_text_conveys = record {
  whole = refl;
  content = inl (refl, record { text = record { utf8 = (106 ∷ 107 ∷ [], (refl, refl)); no_nul = λ c. no_nul_inside c.0 c.1 c.2 }; surplus = 108 ∷ 109 ∷ 0 ∷ []; parts = refl; before = 106 ∷ 107 ∷ 0 ∷ 108 ∷ 109 ∷ []; last = refl });
}

ids : List Fixed
ids = id 3 ∷ id 4 ∷ []

-- a None choice over an array conveys the array, and what is behind its child means nothing
none_choice_over_array_conveys : Conveys (words (48 ∷ 19 ∷ 0 ∷ 0 ∷ 16 ∷ 13 ∷ 4 ∷ 3 ∷ 3 ∷ 4 ∷ 4 ∷ 3 ∷ 7 ∷ 8 ∷ [])) (array id_kind ids)
unfolding words ids word_at word_bytes
none_choice_over_array_conveys = record {
  whole = refl;
  content = inr (
    refl,
    tt,
    words (4 ∷ 3 ∷ 3 ∷ 4 ∷ []),
    record { headers = lit≤ tt; shape = refl; its_type = refl; whole = lit≤ tt; body = refl },
    record {
      header = lit≤ tt;
      child_size = refl;
      child_type = refl;
      elements = (lit≤ tt, record { whole = refl; says = refl }, (lit≤ tt, record { whole = refl; says = refl }, refl));
    },
  );
}
