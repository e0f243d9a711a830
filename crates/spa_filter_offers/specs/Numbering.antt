-- Search keys of values of fixed size, their order, and sets of them.
use Rattle.std.specs.Prelude.{ℕ, ℤ, pos, ◌≡◌, ◌↔◌, if◌then◌else◌, Bool, true, not, cond, IsTrue, List, Contains}
use Rattle.std.specs.BTreeMap.{is_at}
use Rattle.std.specs.BTreeSet.{BTreeSet, contains}
use Rattle.std.specs.declared.cmp.Ordering.{Ordering}
use Rattle.std.specs.Ordering.{ordering_then, nat_cmp, int_cmp}
use Rattle.spa_format.specs.Kind.{Kind, none_kind, bool_kind, id_kind, int_kind, long_kind, float_kind, double_kind, rectangle_kind, fraction_kind, fd_kind, type_number, Fixed, none, bool, id, int, long, float, double, rectangle, fraction, fd}
use Rattle.spa_filter_offers.specs.declared.numbers.Numbers.{Numbers}

-- the search key of a value whose kind has negative numbers
abbrev pub signed : Kind → ℤ → Numbers
signed kind x = record { type_ = type_number kind; signed = x; first = 0; second = 0 }

-- the search key of a value of one or two numbers, whose kind has no negative ones
abbrev pub unsigned : Kind → ℕ → ℕ → Numbers
unsigned kind x y = record { type_ = type_number kind; signed = pos 0; first = x; second = y }

-- the search key of a value of fixed size, which no other value has
abbrev pub numbers_of : Fixed → Numbers
numbers_of none = unsigned none_kind 0 0
numbers_of (bool x) = unsigned bool_kind (if x then 1 else 0) 0
numbers_of (id x) = unsigned id_kind x 0
numbers_of (int x) = signed int_kind x
numbers_of (long x) = signed long_kind x
numbers_of (float x) = unsigned float_kind x 0
numbers_of (double x) = unsigned double_kind x 0
numbers_of (rectangle w h) = unsigned rectangle_kind w h
numbers_of (fraction n d) = unsigned fraction_kind n d
numbers_of (fd x) = signed fd_kind x

-- the order of search keys: by the type number, then by each of the other numbers in turn
abbrev pub numbers_cmp : Numbers → Numbers → Ordering
numbers_cmp a b =
    ordering_then (nat_cmp a.type_ b.type_)
    (ordering_then (int_cmp a.signed b.signed)
    (ordering_then (nat_cmp a.first b.first) (nat_cmp a.second b.second)))

-- the set has the search key of the element
abbrev pub Has : BTreeSet Numbers → Fixed → Type 0
Has set x = IsTrue (contains numbers_cmp set (numbers_of x))

-- the set has the search keys of these elements, and no other
pub record HasAll (set : BTreeSet Numbers) (contents : List Fixed) : Type 0 where
  pub each : (x : Fixed) → Has set x ↔ Contains contents x

-- the search key was inserted into the set, in which it was new or not
pub record IsInserted (old : BTreeSet Numbers) (numbers : Numbers) (is_new : Bool)
    (new : BTreeSet Numbers) : Type 0 where
  pub absent : is_new ≡ not (contains numbers_cmp old numbers)
  pub others : (q : Numbers) →
      contains numbers_cmp new q ≡ cond (is_at (numbers_cmp numbers) q) true (contains numbers_cmp old q)
