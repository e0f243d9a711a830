-- Words in a list of bytes, least byte first, and how many bytes a pod takes: docs/FORMAT.md, "Words and sizes".
use Rattle.std.specs.Prelude.{ℕ, ◌+◌, ◌*◌, ◌/◌, ◌-◌, ◌^◌, List, take, drop, replicate}
use Rattle.std.specs.Int.{w32, w64, from_le_bytes, to_le_bytes}

-- the number that the four bytes at this offset spell, least byte first
unfoldable pub word_at : List ℕ → ℕ → ℕ
word_at b i = from_le_bytes w32 (drop i b)

-- the four bytes that spell a number, least byte first
unfoldable pub word_bytes : ℕ → List ℕ
word_bytes n = to_le_bytes w32 n

-- the number that the eight bytes at this offset spell, and the eight bytes that spell a number, least byte first
unfoldable pub wide_at : List ℕ → ℕ → ℕ
wide_at b i = from_le_bytes w64 (drop i b)

unfoldable pub wide_bytes : ℕ → List ℕ
wide_bytes n = to_le_bytes w64 n

-- two words: a pod's size and type, an array's child size and child type, an object's type and id, a property's
-- key and flags, a choice's shape and flags, a pointer's type and its free word
abbrev pub header_size : ℕ
header_size = 8

-- the least number that a word can't spell: each size is below it
abbrev pub size_limit : ℕ
size_limit = 2 ^ 32

-- rounded up to a multiple of 8
abbrev pub padded_size : ℕ → ℕ
padded_size size = (size + 7) / 8 * 8

-- how many bytes a pod takes, with its header and its padding, whose body has this size
abbrev pub extent : ℕ → ℕ
extent size = header_size + padded_size size

-- as many zeros as bring this size to a multiple of 8
abbrev pub padding : ℕ → List ℕ
padding size = replicate (padded_size size - size) 0

-- the bytes that the size word at the front counts, behind the header
abbrev pub body_of : List ℕ → List ℕ
body_of b = take (word_at b 0) (drop header_size b)
