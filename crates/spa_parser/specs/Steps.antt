-- When the calls of a parser succeed, and why they are refused: docs/FORMAT.md, "Taking pods one by one".
use Rattle.std.specs.Prelude.{◌≡◌, ◌≢◌, ◌⊎◌, ℕ, List, ◌∷◌, drop, Option, Some, IsSomeAnd, IsUtf8, MatchOption, false}
use Rattle.spa_format.specs.Words.{header_size, word_at, body_of}
use Rattle.spa_format.specs.Kind.{Fixed, kind_of, content}
use Rattle.spa_format.specs.Tree.{Tree, Trees, property}
use Rattle.spa_format.specs.Pod.{IsPod, AreMembers}
use Rattle.spa_utils.specs.declared.errno.Errno.{Errno}
use Rattle.spa_utils.specs.declared.errno.TheConstants.Errno.{NOMEM, INVAL, PIPE, PROTO}
use Rattle.spa_view.specs.Found.{property_at}
use Rattle.spa_view.specs.Tests.{IsOfKind, IsNulEnded, before_nul, IsBytesPod, IsPointerPod, IsAddress, IsStructPod, IsObjectPod}
use Rattle.spa_parser.specs.State.{ParserState, next_pod, start_of}

-- there is a next pod, and it passes the test
abbrev pub NextPasses : (List ℕ → Type 0) → ParserState → Type 0
NextPasses Passes s = IsSomeAnd (next_pod s) Passes

-- the next pod is a pod of this value
abbrev pub NextIs : Tree → ParserState → Type 0
NextIs v = NextPasses (λ pod. IsPod pod v)

-- the innermost remaining bytes are pods of these values and nothing else, and not an object's
abbrev pub HoldsMembers : Trees → ParserState → Type 0
HoldsMembers vs s = (s.innermost.of_object ≡ false) × AreMembers vs s.innermost.bytes

-- a pod of fixed size, of the value's kind and with its content
abbrev pub SaysFixed : Fixed → List ℕ → Type 0
SaysFixed x pod = IsOfKind (kind_of x) pod × (x ≡ content (kind_of x) (body_of pod))

-- a string's pod, which ends in NUL and has these bytes before its first NUL
abbrev pub SaysString : List ℕ → List ℕ → Type 0
SaysString s pod = IsNulEnded pod × (s ≡ before_nul (body_of pod))

-- a string's pod, which ends in NUL and has UTF-8 before its first NUL
abbrev pub IsTextPod : List ℕ → Type 0
IsTextPod pod = IsNulEnded pod × IsUtf8 (before_nul (body_of pod))

-- a pod of these bytes
abbrev pub SaysBytes : List ℕ → List ℕ → Type 0
SaysBytes s pod = IsBytesPod pod × (s ≡ body_of pod)

-- a pointer's pod, of this type and this address
abbrev pub SaysPointer : (type address : ℕ) → List ℕ → Type 0
SaysPointer type address pod = IsPointerPod pod × (type ≡ word_at (body_of pod) 0) × IsAddress address pod

-- an object's pod, of this type
abbrev pub IsObjectOf : ℕ → List ℕ → Type 0
IsObjectOf type pod = IsObjectPod pod × (word_at (body_of pod) 0 ≡ type)

-- why a get with this test is refused: PIPE where no pod is next, else INVAL where the next one doesn't pass
abbrev pub RefusesGet : (List ℕ → Type 0) → ParserState → Errno → Type 0
RefusesGet Passes s e = MatchOption (next_pod s) (e ≡ PIPE) (λ pod. (¬ (Passes pod)) × (e ≡ INVAL))

-- why a push of a struct is refused: PIPE where no pod is next, INVAL where it is no struct, else NOMEM
abbrev pub RefusesStruct : ParserState → Errno → Type 0
RefusesStruct s e = MatchOption (next_pod s) (e ≡ PIPE) (λ pod.
    ((¬ (IsStructPod pod)) × (e ≡ INVAL)) ⊎ (IsStructPod pod × (e ≡ NOMEM)))

-- why a get of an object is refused: PIPE where no pod is next, INVAL where it is no object, else PROTO where it is of another type
abbrev pub RefusesObjectGet : ℕ → ParserState → Errno → Type 0
RefusesObjectGet type s e = MatchOption (next_pod s) (e ≡ PIPE) (λ pod.
    ((¬ (IsObjectPod pod)) × (e ≡ INVAL)) ⊎ (IsObjectPod pod × (word_at (body_of pod) 0 ≢ type) × (e ≡ PROTO)))

-- why a push of an object is refused: as a get of one, and else NOMEM
abbrev pub RefusesObject : ℕ → ParserState → Errno → Type 0
RefusesObject type s e = MatchOption (next_pod s) (e ≡ PIPE) (λ pod.
    ((¬ (IsObjectPod pod)) × (e ≡ INVAL))
    ⊎ (IsObjectPod pod × (word_at (body_of pod) 0 ≢ type) × (e ≡ PROTO))
    ⊎ (IsObjectOf type pod × (e ≡ NOMEM)))

-- the innermost frame is closed, and the bytes left of it are skipped
abbrev pub ClosesFrame : ParserState → ParserState → Type 0
ClosesFrame old new = old.outer ≡ new.innermost ∷ new.outer

-- the parser is at the front of the value of the object's first property with this key
abbrev pub IsValueOf : ℕ → List ℕ → ParserState → Type 0
IsValueOf key object s = IsSomeAnd (property_at key object) (λ p. s ≡ start_of (drop header_size p))
