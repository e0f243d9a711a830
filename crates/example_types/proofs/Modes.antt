-- A mode's value: how long its encoding is, that it can be written, and what is read as one.
use Rattle.std.proofs.Common.{◌≡◌, ℕ, ◌≤◌, ℤ, List, length, refl, ap, ◌∙◌, arith, ⊎_elim}
use Rattle.std.specs.Borrow.{Bor}
use Rattle.libspa.specs.DeepValues.{levels_without_memory}
use Rattle.libspa.specs.Depth.{depth_of}
use Rattle.libspa.specs.Encoding.{encoding_of}
use Rattle.libspa.specs.Front.{HasFront, Begins}
use Rattle.libspa.specs.Kind.{int, long}
use Rattle.libspa.specs.Tree.{Tree, fixed, member, no_trees, struct}
use Rattle.libspa.specs.Words.{word_bytes, wide_bytes}
use Rattle.libspa.specs.Writable.{IsWritable}
use Rattle.libspa.specs.Exactly.{IsUnread, ReadsFirst, ReadsStruct, RefusesExactly}
use Rattle.libspa.specs.Reading.{OnFault, OnMemory}
use Rattle.libspa.specs.DeserializeError.{DeserializeError}
use Rattle.libspa.specs.DeserializeErrors as error
use Rattle.example_types.specs.declared.mode.Mode.{Mode}
use Rattle.example_types.specs.declared.mode.Size.{Size}

abbrev pub size_value : Size → Tree
size_value s = struct (member (fixed (int s.width)) (member (fixed (int s.height)) no_trees))

abbrev pub mode_value : Mode → Tree
mode_value m = struct (member (size_value m.size) (member (fixed (long m.rate)) no_trees))

pub mode_length : (m : Mode) → length (encoding_of (mode_value m)) ≡ 64
unfolding word_bytes wide_bytes
mode_length m = refl

pub mode_writable : (m : Mode) → IsWritable (mode_value m)
unfolding word_bytes wide_bytes
mode_writable m = record {
  no_nul = ⊎_elim (⊎_elim absurd (⊎_elim absurd absurd)) (⊎_elim absurd absurd);
  fits =
      ⊎_elim (λ l. absurd (omega (arith, l)))
      (⊎_elim (⊎_elim (λ l. absurd (omega (arith, l))) (⊎_elim absurd (⊎_elim absurd absurd))) (⊎_elim absurd absurd));
}

pub mode_shallow : (m : Mode) → depth_of (mode_value m) ≤ levels_without_memory
mode_shallow m =
    let two : 2 ≤ 512 = omega arith in
    two

-- Of two members, what is read as a struct of them is their values' struct, and this is read so.
abbrev pub ReadsTwo : {A B : Type 0} → (Tree → A → Type 0) → (Tree → B → Type 0) → Tree → A × (B × Unit {0}) → Type 0
ReadsTwo {A = A} {B = B} P Q =
    ReadsStruct (λ vs (x : A × (B × Unit {0})).
    ReadsFirst P (λ ws (y : B × Unit {0}). ReadsFirst Q (λ us (z : Unit {0}). us ≡ no_trees) ws y.0 y.1) vs x.0 x.1)

two_read : {A B : Type 0} (P : Tree → A → Type 0) (Q : Tree → B → Type 0) (f : A → Tree) (g : B → Tree) (v : Tree) (a : A) (b : B) →
    ((w : Tree) → P w a → w ≡ f a) → ((w : Tree) → Q w b → w ≡ g b) → ReadsTwo P Q v (a, (b, tt)) →
    v ≡ struct (member (f a) (member (g b) no_trees))
two_read P Q f g v a b p q r =
    let one = r.are in
    let two = one.behind_are in
    r.is
    ∙ ap struct
    (one.is ∙ ap (λ w. member w one.behind) (p one.first one.first_is)
    ∙ ap (member (f a)) (two.is ∙ ap (λ w. member w two.behind) (q two.first two.first_is) ∙ ap (member (g b)) two.behind_are))

reads_two : {A B : Type 0} (P : Tree → A → Type 0) (Q : Tree → B → Type 0) (v w : Tree) (a : A) (b : B) → P v a → Q w b →
    ReadsTwo P Q (struct (member v (member w no_trees))) (a, (b, tt))
reads_two P Q v w a b p q = record {
  members = member v (member w no_trees);
  is = refl;
  are = record {
    first = v;
    behind = member w no_trees;
    is = refl;
    first_is = p;
    behind_are = record { first = w; behind = no_trees; is = refl; first_is = q; behind_are = refl };
  };
}

abbrev pub ReadsSize : Tree → Size → Type 0
ReadsSize v s = ReadsTwo (λ w n. w ≡ fixed (int n)) (λ w n. w ≡ fixed (int n)) v (s.width, (s.height, tt))

abbrev pub ReadsMode : Tree → Mode → Type 0
ReadsMode v m = ReadsTwo ReadsSize (λ w n. w ≡ fixed (long n)) v (m.size, (m.rate, tt))

size_read : (v : Tree) (s : Size) → ReadsSize v s → v ≡ size_value s
size_read v s r =
    two_read (λ w n. w ≡ fixed (int n)) (λ w n. w ≡ fixed (int n)) (λ n. fixed (int n)) (λ n. fixed (int n)) v s.width s.height
    (λ w e. e) (λ w e. e) r

-- what is read as a mode is the mode's value
pub mode_read : (v : Tree) (m : Mode) → ReadsMode v m → v ≡ mode_value m
mode_read v m r =
    two_read ReadsSize (λ w n. w ≡ fixed (long n)) size_value (λ n. fixed (long n)) v m.size m.rate
    (λ w s. size_read w m.size s) (λ w e. e) r

-- and that is read so
pub reads_mode : (m : Mode) → ReadsMode (mode_value m) m
reads_mode m =
    reads_two ReadsSize (λ w n. w ≡ fixed (long n)) (size_value m.size) (fixed (long m.rate)) m.size m.rate
    (reads_two (λ w n. w ≡ fixed (int n)) (λ w n. w ≡ fixed (int n)) (fixed (int m.size.width)) (fixed (int m.size.height))
    m.size.width m.size.height refl refl) refl

-- a refusal that isn't for memory
fault : (A B : Type 0) (e : DeserializeError (Bor (List ℕ))) → OnFault A e → OnMemory B e → ¬ B → A
fault A B (error.Nom f) a b n = a
fault A B error.UnsupportedType a b n = a
fault A B error.InvalidType a b n = a
fault A B error.PropertyMissing a b n = a
fault A B (error.PropertyWrongKey k) a b n = a
fault A B error.InvalidChoiceType a b n = a
fault A B error.MissingChoiceValues a b n = a
fault A B error.WrongSize a b n = a
fault A B error.UnreadMembers a b n = a
fault A B error.NoElementLeft a b n = a
fault A B error.FailedReader a b n = a
fault A B error.OutOfMemory a b n = absurd (n b)

-- the members of a mode, as they are read
abbrev pub ReadsMembers : Tree → Size × (ℤ × Unit {0}) → Type 0
ReadsMembers = ReadsTwo ReadsSize (λ w n. w ≡ fixed (long n))

-- a mode's read takes no memory, so a refusal says that no mode is there
pub no_mode : (takes : Type 0) (b : List ℕ) (e : DeserializeError (Bor (List ℕ))) → ¬ takes → RefusesExactly ReadsMembers takes b e →
    (m : Mode) → ¬ (Begins b (mode_value m))
no_mode takes b e n r m begins =
    fault (IsUnread ReadsMembers b) (takes × HasFront b) e r.unread r.memory (λ t. n t.0) (mode_value m) (m.size, (m.rate, tt))
    begins (reads_mode m)
