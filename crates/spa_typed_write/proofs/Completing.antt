-- Writes that are refused only where they have to be.
use Rattle.std.proofs.Common.{◌≡◌, ℕ, ◌+◌, ◌<◌, ◌≤◌, inl, inr, ⊎_elim, List, [], ◌++◌, length, take, refl, sym, ap, ◌∙◌, subst, arith, append_assoc, length-append}
use Rattle.std.specs.Prelude.{drop, max}
use Rattle.std.proofs.lemmas.List.{append-nil, take-append-drop}
use Rattle.spa_sink.specs.declared.gen_error.GenError.{GenError}
use Rattle.spa_sink.specs.declared.gen_error.GenError.TheVariants.{TooLarge, NulInText}
use Rattle.spa_sink.specs.Writing.{Begun, MayRefuse, RefusedFor, Sent, none_sent, some_sent}
use Rattle.spa_format.specs.Words.{header_size, size_limit, word_bytes}
use Rattle.spa_format.specs.Tree.{Tree, Trees, Properties, member, no_trees, no_properties, object, object_type, property, struct, struct_type}
use Rattle.spa_format.specs.Encoding.{encoded_body, encoding_of, member_encodings, property_encodings}
use Rattle.spa_format.proofs.Encodings.{key_words, length-encoded_pod, property_encoding, two_words_length, whole_members, whole_properties, length-object}
use Rattle.spa_sink.proofs.Sending.{RefusesAfter, RefusesLonger}
use Rattle.spa_canonical.specs.Depth.{depth_of, member_depth, property_depth}
use Rattle.spa_write.specs.DeepValues.{LacksMemory}
use Rattle.spa_typed_write.specs.Parts.{ArePropertyParts, AreParts, IsPart, beginning, last_key, last_member, last_value, no_member, no_property, open_object, open_struct, whole_member, whole_property}
use Rattle.spa_typed_write.specs.Complete.{AreWritten, ArePropertiesWritten, IsWritten, KeepsBytes, RefusesBytes, RefusesMembers, RefusesProperties, RefusesValue}
use Rattle.spa_bodies.specs.Written.{Appending, IsClosed, IsExtended, Refusing, begun_length}
use Rattle.spa_bodies.proofs.Frames.{begun_size, closed_encoding}

-- The law of an output, as its trait has it.

abbrev pub ContentAppends : {S : Type 0} → (S → List ℕ) → Appending S → Type 0
ContentAppends {S = S} content appends = (a b : S) (xs : List ℕ) → appends a xs b → content b ≡ content a ++ xs

-- What an output holds.

-- bytes that were appended
pub extended_by : {S : Type 0} {content : S → List ℕ} {appends : Appending S} {refuses : Refusing S} →
    ContentAppends content appends → RefusesAfter appends refuses → (a b : S) (xs : List ℕ) → appends a xs b →
    IsExtended content refuses a xs b
extended_by law after a b xs p = record {
  bytes = law a b xs p;
  room = λ c n e r. after a b c xs n e p r;
}

pub extended_none : {S : Type 0} {content : S → List ℕ} {refuses : Refusing S} (a : S) (xs : List ℕ) → length xs ≡ 0 →
    content a ≡ content a ++ xs → IsExtended content refuses a xs a
extended_none {refuses = refuses} a xs none same = record {
  bytes = same;
  room = λ c n e r.
      let is : n ≡ length xs + n = omega (arith, none) in
      subst (λ m. refuses a m c e) is r;
}

pub extended_twice : {S : Type 0} {content : S → List ℕ} {refuses : Refusing S} (a b c : S) (xs ys : List ℕ) →
    IsExtended content refuses a xs b → IsExtended content refuses b ys c → IsExtended content refuses a (xs ++ ys) c
extended_twice {content = content} {refuses = refuses} a b c xs ys p q = record {
  bytes = q.bytes ∙ ap (λ l. l ++ ys) p.bytes ∙ append_assoc (content a) xs ys;
  room = λ d n e r.
      let is : length xs + (length ys + n) ≡ length (xs ++ ys) + n = omega (arith, length-append xs ys) in
      subst (λ m. refuses a m d e) is (p.room d (length ys + n) e (q.room d n e r));
}

pub extended_as : {S : Type 0} {content : S → List ℕ} {refuses : Refusing S} (a b : S) (xs ys : List ℕ) → xs ≡ ys →
    IsExtended content refuses a xs b → IsExtended content refuses a ys b
extended_as {content = content} {refuses = refuses} a b xs ys is p =
    let P : List ℕ → Type 0 = λ l. IsExtended content refuses a l b in
    subst P is p

-- What an output still holds after a refusal.

-- a beginning of a value's encoding
pub keeps_begun : {S : Type 0} {content : S → List ℕ} {appends : Appending S} → ContentAppends content appends → (a b : S)
    (v : Tree) → Begun appends a (encoding_of v) b → KeepsBytes content a (IsPart v) b
keeps_begun {S = S} {content = content} {appends = appends} law a b v h = by h.first h.left h.parts h.sent
  where
    by : (first left : List ℕ) → encoding_of v ≡ first ++ left → Sent appends a first b → KeepsBytes content a (IsPart v) b
    by first left p (none_sent n same) = record {
      behind = [];
      bytes = ap content (sym same) ∙ sym (append-nil (content a));
      part = beginning v [] (encoding_of v) refl;
    }
    by first left p (some_sent q) = record { behind = first; bytes = law a b first q; part = beginning v first left p }

-- a beginning of bytes that were to be appended at once
keeps_taken : {S : Type 0} {content : S → List ℕ} {appends : Appending S} {P : List ℕ → Type 0} → ContentAppends content appends → (a b : S)
    (xs : List ℕ) → ((first left : List ℕ) → xs ≡ first ++ left → P first) → ((count : ℕ) × appends a (take count xs) b) →
    KeepsBytes content a P b
keeps_taken law a b xs f h = record {
  behind = take h.0 xs;
  bytes = law a b (take h.0 xs) h.1;
  part = f (take h.0 xs) (drop h.0 xs) (sym (take-append-drop h.0 xs));
}

-- behind bytes that were appended first
keeps_behind : {S : Type 0} {content : S → List ℕ} {refuses : Refusing S} {P Q : List ℕ → Type 0} (a b c : S) (xs : List ℕ) →
    IsExtended content refuses a xs b → ((part : List ℕ) → P part → Q (xs ++ part)) → KeepsBytes content b P c → KeepsBytes content a Q c
keeps_behind {content = content} a b c xs p f h = record {
  behind = xs ++ h.behind;
  bytes = h.bytes ∙ ap (λ l. l ++ h.behind) p.bytes ∙ append_assoc (content a) xs h.behind;
  part = f h.behind h.part;
}

keeps_as : {S : Type 0} {content : S → List ℕ} {P Q : List ℕ → Type 0} (a b : S) → ((part : List ℕ) → P part → Q part) →
    KeepsBytes content a P b → KeepsBytes content a Q b
keeps_as a b f h = record { behind = h.behind; bytes = h.bytes; part = f h.behind h.part }

-- What an output may refuse.

pub may_behind : {S : Type 0} {content : S → List ℕ} {refuses : Refusing S} → RefusesLonger refuses → (a b : S) (xs : List ℕ) (m n : ℕ)
    (e : GenError) → IsExtended content refuses a xs b → length xs + m ≤ n → MayRefuse refuses b m e → MayRefuse refuses a n e
may_behind longer a b xs m n e p le r = (r.0, longer a r.0 (length xs + m) n e le (p.room r.0 m e r.1))

-- memory lacks for what nests deeper, too
lacks_deeper : (d d' : ℕ) → d ≤ d' → (e : GenError) → LacksMemory d e → LacksMemory d' e
lacks_deeper d d' le e r = (r.0, omega (arith, le, r.1))

-- a refusal for other facts
refused_to : (nul nul' large large' : Type 0) (d d' : ℕ) → (nul → nul') → (large → large') → d ≤ d' → (e : GenError) →
    RefusedFor nul large (LacksMemory d) e → RefusedFor nul' large' (LacksMemory d') e
refused_to n n' l l' d d' f g le TooLarge r = g r
refused_to n n' l l' d d' f g le NulInText r = f r
refused_to n n' l l' d d' f g le e r = lacks_deeper d d' le e r

-- of bytes that are a part of others
pub bytes_refused : {S : Type 0} {refuses : Refusing S} (a b : S) (nul nul' large large' : Type 0) (d d' m n : ℕ) (e : GenError) →
    (nul → nul') → (large → large') → d ≤ d' → (MayRefuse refuses b m e → MayRefuse refuses a n e) →
    RefusesBytes refuses b nul large d m e → RefusesBytes refuses a nul' large' d' n e
bytes_refused {refuses = refuses} a b nul nul' large large' d d' m n e f g le h r =
    let goal : Type 0 = RefusesBytes refuses a nul' large' d' n e in
    let first : RefusedFor nul large (LacksMemory d) e → goal =
    λ x. record { cause = inl (refused_to nul nul' large large' d d' f g le e x) } in
    let second : MayRefuse refuses b m e → goal = λ x. record { cause = inr (h x) } in
    ⊎_elim first second r.cause

-- the output's own
pub by_output : {S : Type 0} {refuses : Refusing S} → RefusesLonger refuses → (a c : S) (nul large : Type 0) (depth m n : ℕ) (e : GenError) →
    m ≤ n → refuses a m c e → RefusesBytes refuses a nul large depth n e
by_output longer a c nul large depth m n e le r = record { cause = inr (c, longer a c m n e le r) }

-- Values that are put at once.

-- Members.

pub none_written : {S : Type 0} {content : S → List ℕ} {refuses : Refusing S} (a : S) → AreWritten content refuses a no_trees a
none_written {content = content} a = record {
  extended = extended_none a (member_encodings no_trees) refl (sym (append-nil (content a)));
  typed = tt;
  no_nul = λ n. n;
  fits = λ n. n;
}

pub first_keeps : {S : Type 0} {content : S → List ℕ} (a b : S) (v : Tree) (vs : Trees) → KeepsBytes content a (IsPart v) b →
    KeepsBytes content a (AreParts (member v vs)) b
first_keeps a b v vs h = keeps_as a b (last_member v vs) h

pub others_keep : {S : Type 0} {content : S → List ℕ} {refuses : Refusing S} (a b c : S) (v : Tree) (vs : Trees) →
    IsWritten content refuses a v b → KeepsBytes content b (AreParts vs) c → KeepsBytes content a (AreParts (member v vs)) c
others_keep a b c v vs h k = keeps_behind a b c (encoding_of v) h.extended (whole_member v vs) k

-- Properties.

pub no_properties_written : {S : Type 0} {content : S → List ℕ} {refuses : Refusing S} (a : S) →
    ArePropertiesWritten content refuses a no_properties a
no_properties_written {content = content} a = record {
  extended = extended_none a (property_encodings no_properties) refl (sym (append-nil (content a)));
  typed = tt;
  no_nul = λ n. n;
  fits = λ n. n;
}

pub property_written : {S : Type 0} {content : S → List ℕ} {refuses : Refusing S} (a b c d : S) (key flags : ℕ) (v : Tree)
    (ps : Properties) → key < size_limit → flags < size_limit → IsExtended content refuses a (key_words key flags) b →
    IsWritten content refuses b v c → ArePropertiesWritten content refuses c ps d →
    ArePropertiesWritten content refuses a (property key flags v ps) d
property_written a b c d key flags v ps k f w h q = record {
  extended =
      extended_as a d ((key_words key flags ++ encoding_of v) ++ property_encodings ps) (property_encodings (property key flags v ps))
      (sym (property_encoding key flags v ps))
      (extended_twice a c d (key_words key flags ++ encoding_of v) (property_encodings ps)
      (extended_twice a b c (key_words key flags) (encoding_of v) w h.extended) q.extended);
  typed = (k, f, h.typed, q.typed);
  no_nul = ⊎_elim h.writable.no_nul q.no_nul;
  fits = ⊎_elim h.writable.fits q.fits;
}

pub property_length : (key flags : ℕ) (v : Tree) (ps : Properties) →
    length (property_encodings (property key flags v ps)) ≡ header_size + length (encoding_of v) + length (property_encodings ps)
property_length key flags v ps =
    omega (
      arith,
      ap length (property_encoding key flags v ps),
      length-append (key_words key flags ++ encoding_of v) (property_encodings ps),
      length-append (key_words key flags) (encoding_of v),
      two_words_length key flags,
    )

pub words_refused : {S : Type 0} {refuses : Refusing S} → RefusesLonger refuses → (a c : S) (key flags : ℕ) (v : Tree) (ps : Properties)
    (e : GenError) → refuses a 8 c e → RefusesProperties refuses a (property key flags v ps) e
words_refused longer a c key flags v ps e r =
    let l = property_length key flags v ps in
    by_output longer a c _ _ _ 8 (length (property_encodings (property key flags v ps))) e (omega arith) r

pub value_refused : {S : Type 0} {content : S → List ℕ} {refuses : Refusing S} → RefusesLonger refuses → (a b : S) (key flags : ℕ)
    (v : Tree) (ps : Properties) (e : GenError) → IsExtended content refuses a (key_words key flags) b → RefusesValue refuses b v e →
    RefusesProperties refuses a (property key flags v ps) e
value_refused longer a b key flags v ps e w r =
    let l = property_length key flags v ps in
    let two = two_words_length key flags in
    let deep : depth_of v ≤ max (depth_of v) (property_depth ps) = omega arith in
    bytes_refused a b _ _ _ _ _ _ _ _ e inl inl deep
    (may_behind longer a b (key_words key flags) (length (encoding_of v)) (length (property_encodings (property key flags v ps))) e w (omega arith)) r

pub behind_refused : {S : Type 0} {content : S → List ℕ} {refuses : Refusing S} → RefusesLonger refuses → (a b c : S) (key flags : ℕ)
    (v : Tree) (ps : Properties) (e : GenError) → IsExtended content refuses a (key_words key flags) b →
    IsWritten content refuses b v c → RefusesProperties refuses c ps e → RefusesProperties refuses a (property key flags v ps) e
behind_refused longer a b c key flags v ps e w h r =
    let l = property_length key flags v ps in
    let two = two_words_length key flags in
    let sum = length-append (key_words key flags) (encoding_of v) in
    let deep : property_depth ps ≤ max (depth_of v) (property_depth ps) = omega arith in
    bytes_refused a c _ _ _ _ _ _ _ _ e inr inr deep
    (may_behind longer a c (key_words key flags ++ encoding_of v) (length (property_encodings ps))
    (length (property_encodings (property key flags v ps))) e (extended_twice a b c (key_words key flags) (encoding_of v) w h.extended)
    (omega arith)) r

pub words_keep : {S : Type 0} {content : S → List ℕ} {appends : Appending S} → ContentAppends content appends → (a b : S) (key flags : ℕ)
    (v : Tree) (ps : Properties) → ((count : ℕ) × appends a (take count (key_words key flags)) b) →
    KeepsBytes content a (ArePropertyParts (property key flags v ps)) b
words_keep law a b key flags v ps h = keeps_taken law a b (key_words key flags) (last_key key flags v ps) h

pub value_keeps : {S : Type 0} {content : S → List ℕ} {refuses : Refusing S} (a b c : S) (key flags : ℕ) (v : Tree) (ps : Properties) →
    IsExtended content refuses a (key_words key flags) b → KeepsBytes content b (IsPart v) c →
    KeepsBytes content a (ArePropertyParts (property key flags v ps)) c
value_keeps a b c key flags v ps w h = keeps_behind a b c (key_words key flags) w (last_value key flags v ps) h

pub behind_keeps : {S : Type 0} {content : S → List ℕ} {refuses : Refusing S} (a b c d : S) (key flags : ℕ) (v : Tree) (ps : Properties) →
    IsExtended content refuses a (key_words key flags) b → IsWritten content refuses b v c → KeepsBytes content c (ArePropertyParts ps) d →
    KeepsBytes content a (ArePropertyParts (property key flags v ps)) d
behind_keeps a b c d key flags v ps w h k =
    keeps_behind a c d (key_words key flags ++ encoding_of v) (extended_twice a b c (key_words key flags) (encoding_of v) w h.extended)
    (whole_property key flags v ps) k

-- Structs and objects.

-- all members, where the container can't be closed
all_members : (vs : Trees) → AreParts vs (member_encodings vs)
all_members no_trees = no_member no_trees
all_members (member v vs) = whole_member v vs (member_encodings vs) (all_members vs)

all_properties : (ps : Properties) → ArePropertyParts ps (property_encodings ps)
all_properties no_properties = no_property no_properties
all_properties (property key flags v ps) =
    subst (ArePropertyParts (property key flags v ps)) (sym (property_encoding key flags v ps))
    (whole_property key flags v ps (property_encodings ps) (all_properties ps))

abbrev struct_head : List ℕ
struct_head = word_bytes 0 ++ word_bytes struct_type

abbrev object_head : List ℕ
object_head = word_bytes 0 ++ word_bytes object_type

-- an open struct with these parts of its members
with_members : (vs : Trees) (inside : List ℕ) → AreParts vs inside → IsPart (struct vs) (struct_head ++ inside)
with_members vs inside h = open_struct vs inside (struct_head ++ inside) [] h (sym (append-nil (struct_head ++ inside)))

with_properties : (t i : ℕ) (ps : Properties) (inside : List ℕ) → ArePropertyParts ps inside →
    IsPart (object t i ps) (object_head ++ ((word_bytes t ++ word_bytes i) ++ inside))
with_properties t i ps inside h =
    let b = object_head ++ ((word_bytes t ++ word_bytes i) ++ inside) in
    open_object t i ps inside b [] h (sym (append-nil b))

pub header_keeps : {S : Type 0} {content : S → List ℕ} {appends : Appending S} → ContentAppends content appends → (a b : S) (vs : Trees) →
    ((count : ℕ) × appends a (take count struct_head) b) → KeepsBytes content a (IsPart (struct vs)) b
header_keeps law a b vs h =
    keeps_taken law a b struct_head (λ first left p. open_struct vs [] first left (no_member vs) (append-nil struct_head ∙ p)) h

pub members_keep : {S : Type 0} {content : S → List ℕ} {refuses : Refusing S} (a b c : S) (vs : Trees) →
    IsExtended content refuses a struct_head b → KeepsBytes content b (AreParts vs) c → KeepsBytes content a (IsPart (struct vs)) c
members_keep a b c vs p h = keeps_behind a b c struct_head p (with_members vs) h

pub unclosed_keeps : {S : Type 0} {content : S → List ℕ} {refuses : Refusing S} (a b c d : S) (vs : Trees) →
    IsExtended content refuses a struct_head b → AreWritten content refuses b vs c → d ≡ c →
    KeepsBytes content a (IsPart (struct vs)) d
unclosed_keeps {content = content} a b c d vs p h same =
    members_keep a b d vs p (record { behind = member_encodings vs; bytes = ap content same ∙ h.extended.bytes; part = all_members vs })

pub object_header_keeps : {S : Type 0} {content : S → List ℕ} {appends : Appending S} → ContentAppends content appends → (a b : S)
    (t i : ℕ) (ps : Properties) → ((count : ℕ) × appends a (take count object_head) b) → KeepsBytes content a (IsPart (object t i ps)) b
object_header_keeps law a b t i ps h =
    keeps_taken law a b object_head
    (λ first left p. open_object t i ps [] first (left ++ ((word_bytes t ++ word_bytes i) ++ [])) (no_property ps)
    (ap (λ l. l ++ ((word_bytes t ++ word_bytes i) ++ [])) p ∙ append_assoc first left ((word_bytes t ++ word_bytes i) ++ []))) h

pub object_words_keep : {S : Type 0} {content : S → List ℕ} {appends : Appending S} {refuses : Refusing S} → ContentAppends content appends →
    (a b c : S) (t i : ℕ) (ps : Properties) → IsExtended content refuses a object_head b →
    ((count : ℕ) × appends b (take count (word_bytes t ++ word_bytes i)) c) → KeepsBytes content a (IsPart (object t i ps)) c
object_words_keep {content = content} law a b c t i ps p h =
    let words = word_bytes t ++ word_bytes i in
    let first : KeepsBytes content b (λ l. (left : List ℕ) × (words ≡ l ++ left)) c = keeps_taken law b c words (λ first left q. (left, q)) h in
    keeps_behind a b c object_head p
    (λ part q. open_object t i ps [] (object_head ++ part) q.0 (no_property ps)
    (ap (λ l. object_head ++ l) (append-nil words ∙ q.1) ∙ sym (append_assoc object_head part q.0))) first

pub properties_keep : {S : Type 0} {content : S → List ℕ} {refuses : Refusing S} (a b c d : S) (t i : ℕ) (ps : Properties) →
    IsExtended content refuses a object_head b → IsExtended content refuses b (word_bytes t ++ word_bytes i) c →
    KeepsBytes content c (ArePropertyParts ps) d → KeepsBytes content a (IsPart (object t i ps)) d
properties_keep {content = content} a b c d t i ps p w h =
    let words = word_bytes t ++ word_bytes i in
    let inner : KeepsBytes content b (λ l. (inside : List ℕ) × ArePropertyParts ps inside × (l ≡ words ++ inside)) d =
    keeps_behind b c d words w (λ part q. (part, q, refl)) h in
    keeps_behind a b d object_head p
    (λ part q. subst (λ l. IsPart (object t i ps) (object_head ++ l)) (sym q.2) (with_properties t i ps q.0 q.1)) inner

pub unclosed_object_keeps : {S : Type 0} {content : S → List ℕ} {refuses : Refusing S} (a b c d f : S) (t i : ℕ) (ps : Properties) →
    IsExtended content refuses a object_head b → IsExtended content refuses b (word_bytes t ++ word_bytes i) c →
    ArePropertiesWritten content refuses c ps d → f ≡ d → KeepsBytes content a (IsPart (object t i ps)) f
unclosed_object_keeps {content = content} a b c d f t i ps p w h same =
    properties_keep a b c f t i ps p w (record { behind = property_encodings ps; bytes = ap content same ∙ h.extended.bytes; part = all_properties ps })

pub struct_written : {S : Type 0} {content : S → List ℕ} {refuses : Refusing S} (a b c d : S) (start : ℕ) (vs : Trees) →
    start ≡ length (content a) → IsExtended content refuses a (word_bytes 0 ++ word_bytes struct_type) b →
    AreWritten content refuses b vs c → IsClosed content refuses c start d → IsWritten content refuses a (struct vs) d
struct_written a b c d start vs s p h q =
    let all = extended_twice a b c (word_bytes 0 ++ word_bytes struct_type) (member_encodings vs) p h.extended in
    let closed = closed_encoding a c d start struct_type (member_encodings vs) (whole_members vs) s all q in
    record {
      extended = closed.0;
      typed = h.typed;
      writable = record { no_nul = h.no_nul; fits = ⊎_elim (λ n. omega (arith, n, closed.1)) h.fits };
    }

pub struct_length : (vs : Trees) → length (encoding_of (struct vs)) ≡ header_size + length (member_encodings vs)
struct_length vs = omega (arith, length-encoded_pod struct_type (member_encodings vs), whole_members vs)

pub header_refused : {S : Type 0} {refuses : Refusing S} → RefusesLonger refuses → (a c : S) (vs : Trees) (e : GenError) →
    refuses a header_size c e → RefusesValue refuses a (struct vs) e
header_refused longer a c vs e r =
    let l = struct_length vs in
    by_output longer a c _ _ _ header_size (length (encoding_of (struct vs))) e (omega arith) r

pub members_refused : {S : Type 0} {content : S → List ℕ} {refuses : Refusing S} → RefusesLonger refuses → (a b : S) (vs : Trees)
    (e : GenError) → IsExtended content refuses a (word_bytes 0 ++ word_bytes struct_type) b → RefusesMembers refuses b vs e →
    RefusesValue refuses a (struct vs) e
members_refused longer a b vs e p r =
    let l = struct_length vs in
    let two = two_words_length 0 struct_type in
    let deep : member_depth vs ≤ 1 + member_depth vs = omega arith in
    bytes_refused a b _ _ _ _ _ _ _ _ e (λ n. n) inr deep
    (may_behind longer a b (word_bytes 0 ++ word_bytes struct_type) (length (member_encodings vs)) (length (encoding_of (struct vs))) e p (omega arith)) r

pub struct_past : {S : Type 0} {content : S → List ℕ} {refuses : Refusing S} (a b c : S) (start : ℕ) (vs : Trees) (e : GenError) →
    start ≡ length (content a) → IsExtended content refuses a (word_bytes 0 ++ word_bytes struct_type) b →
    AreWritten content refuses b vs c → (e ≡ TooLarge) × (size_limit ≤ begun_length (content c) start) →
    RefusesValue refuses a (struct vs) e
struct_past {refuses = refuses} a b c start vs e s p h r =
    let all = extended_twice a b c (word_bytes 0 ++ word_bytes struct_type) (member_encodings vs) p h.extended in
    let size = begun_size a c start struct_type (member_encodings vs) s all in
    let P : GenError → Type 0 = λ x. RefusesValue refuses a (struct vs) x in
    let q : P TooLarge = record { cause = inl (inl (omega (arith, r.1, size))) } in
    subst P (sym r.0) q

pub object_size : (type id : ℕ) (ps : Properties) →
    length (encoding_of (object type id ps)) ≡ header_size + (header_size + length (property_encodings ps))
object_size type id ps =
    omega (arith, length-encoded_pod object_type (encoded_body (object type id ps)), length-object type id ps, whole_properties ps)

-- all that was written of it so far
object_begun : {S : Type 0} {content : S → List ℕ} {refuses : Refusing S} (a b c d : S) (type id : ℕ) (ps : Properties) →
    IsExtended content refuses a (word_bytes 0 ++ word_bytes object_type) b →
    IsExtended content refuses b (word_bytes type ++ word_bytes id) c →
    IsExtended content refuses c (property_encodings ps) d →
    IsExtended content refuses a ((word_bytes 0 ++ word_bytes object_type) ++ encoded_body (object type id ps)) d
object_begun a b c d type id ps p w q =
    extended_twice a b d (word_bytes 0 ++ word_bytes object_type) (encoded_body (object type id ps)) p
    (extended_as b d ((word_bytes type ++ word_bytes id) ++ property_encodings ps) (encoded_body (object type id ps))
    (append_assoc (word_bytes type) (word_bytes id) (property_encodings ps))
    (extended_twice b c d (word_bytes type ++ word_bytes id) (property_encodings ps) w q))

pub object_written : {S : Type 0} {content : S → List ℕ} {refuses : Refusing S} (a b c d f : S) (start type id : ℕ) (ps : Properties) →
    start ≡ length (content a) → type < size_limit → id < size_limit →
    IsExtended content refuses a (word_bytes 0 ++ word_bytes object_type) b →
    IsExtended content refuses b (word_bytes type ++ word_bytes id) c →
    ArePropertiesWritten content refuses c ps d → IsClosed content refuses d start f →
    IsWritten content refuses a (object type id ps) f
object_written a b c d f start type id ps s t i p w h q =
    let all = object_begun a b c d type id ps p w h.extended in
    let size = length-object type id ps in
    let closed = closed_encoding a d f start object_type (encoded_body (object type id ps)) (omega (arith, size, whole_properties ps)) s all q in
    record {
      extended = closed.0;
      typed = (t, i, h.typed);
      writable = record { no_nul = h.no_nul; fits = ⊎_elim (λ n. omega (arith, n, closed.1)) h.fits };
    }

pub object_header_refused : {S : Type 0} {refuses : Refusing S} → RefusesLonger refuses → (a c : S) (type id : ℕ) (ps : Properties)
    (e : GenError) → refuses a header_size c e → RefusesValue refuses a (object type id ps) e
object_header_refused longer a c type id ps e r =
    let l = object_size type id ps in
    by_output longer a c _ _ _ header_size (length (encoding_of (object type id ps))) e (omega arith) r

pub object_words_refused : {S : Type 0} {content : S → List ℕ} {refuses : Refusing S} → RefusesLonger refuses → (a b c : S)
    (type id : ℕ) (ps : Properties) (e : GenError) → IsExtended content refuses a (word_bytes 0 ++ word_bytes object_type) b →
    refuses b 8 c e → RefusesValue refuses a (object type id ps) e
object_words_refused longer a b c type id ps e p r =
    let l = object_size type id ps in
    let two = two_words_length 0 object_type in
    record {
      cause = inr (may_behind longer a b (word_bytes 0 ++ word_bytes object_type) 8 (length (encoding_of (object type id ps))) e p (omega arith) (c, r));
    }

pub properties_refused : {S : Type 0} {content : S → List ℕ} {refuses : Refusing S} → RefusesLonger refuses → (a b c : S)
    (type id : ℕ) (ps : Properties) (e : GenError) → IsExtended content refuses a (word_bytes 0 ++ word_bytes object_type) b →
    IsExtended content refuses b (word_bytes type ++ word_bytes id) c → RefusesProperties refuses c ps e →
    RefusesValue refuses a (object type id ps) e
properties_refused longer a b c type id ps e p w r =
    let l = object_size type id ps in
    let two = two_words_length 0 object_type in
    let more = two_words_length type id in
    let sum = length-append (word_bytes 0 ++ word_bytes object_type) (word_bytes type ++ word_bytes id) in
    let deep : property_depth ps ≤ 1 + property_depth ps = omega arith in
    bytes_refused a c _ _ _ _ _ _ _ _ e (λ n. n) inr deep
    (may_behind longer a c ((word_bytes 0 ++ word_bytes object_type) ++ (word_bytes type ++ word_bytes id)) (length (property_encodings ps))
    (length (encoding_of (object type id ps))) e
    (extended_twice a b c (word_bytes 0 ++ word_bytes object_type) (word_bytes type ++ word_bytes id) p w) (omega arith)) r

pub object_past : {S : Type 0} {content : S → List ℕ} {refuses : Refusing S} (a b c d : S) (start type id : ℕ) (ps : Properties)
    (e : GenError) → start ≡ length (content a) → IsExtended content refuses a (word_bytes 0 ++ word_bytes object_type) b →
    IsExtended content refuses b (word_bytes type ++ word_bytes id) c → ArePropertiesWritten content refuses c ps d →
    (e ≡ TooLarge) × (size_limit ≤ begun_length (content d) start) → RefusesValue refuses a (object type id ps) e
object_past {refuses = refuses} a b c d start type id ps e s p w h r =
    let all = object_begun a b c d type id ps p w h.extended in
    let size = begun_size a d start object_type (encoded_body (object type id ps)) s all in
    let P : GenError → Type 0 = λ x. RefusesValue refuses a (object type id ps) x in
    let q : P TooLarge = record { cause = inl (inl (omega (arith, r.1, size))) } in
    subst P (sym r.0) q
