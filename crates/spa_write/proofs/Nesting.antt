-- Steps within the structs and objects that are begun.
use Rattle.std.proofs.Common.{◌≡◌, ℕ, ◌+◌, ◌<◌, ◌≤◌, ◌^◌, inl, inr, ⊎_elim, List, [], ◌∷◌, ◌++◌, length, take, drop, reverse, refl, sym, ap, ◌∙◌, subst, arith, append_assoc, length-append}
use Rattle.std.specs.Prelude.{◌↔◌}
use Rattle.std.specs.Borrow.{Bor}
use Rattle.std.proofs.lemmas.List.{reverse-append}
use Rattle.spa_sink.specs.declared.gen_error.GenError.{GenError}
use Rattle.spa_sink.specs.declared.gen_error.GenError.TheVariants.{TooLarge, NulInText}
use Rattle.spa_sink.specs.Writing.{RefusesWrite}
use Rattle.spa_format.specs.Words.{size_limit, word_bytes}
use Rattle.spa_format.specs.Tree.{Tree, struct, object, struct_type, object_type}
use Rattle.spa_format.specs.Encoding.{encoded_body, encoding_of, encoded_pod, member_encodings, property_encodings}
use Rattle.spa_format.specs.Typed.{AllPropertiesTyped, AllTyped}
use Rattle.spa_format.specs.Writable.{SomeHasNul, SomeTooLarge, SomeValueHasNul, SomeValueTooLarge}
use Rattle.spa_value.specs.declared.value.Value.{Value}
use Rattle.spa_value.specs.declared.object.Property.{Property}
use Rattle.spa_value.specs.View.{view}
use Rattle.spa_value.specs.Views.{views, property_views}
use Rattle.spa_format.proofs.Encodings.{key_words, length-encoded_pod, property_encoding, two_words_length, whole_members, whole_properties, length-object}
use Rattle.spa_bodies.specs.Written.{IsWholeSize, begun_length}
use Rattle.spa_write.specs.Nesting.{AwaitsAllClosing, AwaitsClosing, Begins, IsAppended, LeftHasNul, LeftIsWritable, LeftTooLarge, LeftTyped, PutsAll, RefusesLeft, RefusesMade, StopsAt, bytes_left, closed_at, left_encodings}
use Rattle.spa_write.specs.declared.left.Left.{Left}
use Rattle.spa_write.specs.declared.left.Left.TheVariants as left
use Rattle.spa_write.specs.declared.left.Begun.{Begun}
use Rattle.spa_bodies.proofs.Frames.{sized_encoding}

-- Refusals.

-- for other facts
pub refusal_through : {nul nul' large large' : Type 0} {lacks : GenError → Type 0} → (nul → nul') →
    (large → large') → (e : GenError) → RefusesWrite nul large lacks e → RefusesWrite nul' large' lacks e
refusal_through f g TooLarge r = record { cause = g r.cause }
refusal_through f g NulInText r = record { cause = f r.cause }
refusal_through f g _ r = record { cause = r.cause }

-- Pods that are begun.

pub begun_size : (old all body : List ℕ) (type start : ℕ) → start ≡ length old →
    all ≡ old ++ ((word_bytes 0 ++ word_bytes type) ++ body) → begun_length all start ≡ length body
begun_size old all body type start s e =
    let whole = ap length e in
    let e0 = length-append old ((word_bytes 0 ++ word_bytes type) ++ body) in
    let e1 = length-append (word_bytes 0 ++ word_bytes type) body in
    let e2 = two_words_length 0 type in
    omega (arith, s, whole)

pub closed_whole : (old all body : List ℕ) (type start : ℕ) → start ≡ length old →
    all ≡ old ++ ((word_bytes 0 ++ word_bytes type) ++ body) → IsWholeSize (length body) →
    closed_at start all ≡ old ++ encoded_pod type body
closed_whole old all body type start s e whole =
    let size = begun_size old all body type start s e in
    let made = old ++ ((word_bytes 0 ++ word_bytes type) ++ body) in
    ap (λ n. take start all ++ (word_bytes n ++ drop (start + 4) all)) size
    ∙ ap (λ l. take start l ++ (word_bytes (length body) ++ drop (start + 4) l)) e
    ∙ ap (λ n. take n made ++ (word_bytes (length body) ++ drop (n + 4) made)) s
    ∙ sized_encoding old body type whole

pub begins_struct : (vs : Bor (List Value)) (start : ℕ) (old now : List ℕ) → start ≡ length old →
    now ≡ old ++ (word_bytes 0 ++ word_bytes struct_type) →
    Begins (struct (views vs.now)) old (record { start = start; left = left.Members vs }) now
begins_struct vs start old now s e =
    let body = member_encodings (views vs.now) in
    let head = word_bytes 0 ++ word_bytes struct_type in
    let all : now ++ body ≡ old ++ (head ++ body) = ap (λ l. l ++ body) e ∙ append_assoc old head body in
    let size = ap length e ∙ length-append old head in
    let two = two_words_length 0 struct_type in
    let inside = begun_size old (now ++ body) body struct_type start s all in
    let pod_size = length-encoded_pod struct_type body in
    record {
      room = omega (arith, s, size, two);
      closed = closed_whole old (now ++ body) body struct_type start s all (whole_members (views vs.now));
      size = inside;
      typed = λ t. t;
      nul = (λ n. n, λ n. n);
      large = (λ n. n, λ n. n);
      shorter = omega (arith, pod_size, whole_members (views vs.now));
    }

pub begins_object : (t i : ℕ) (ps : Bor (List Property)) (start : ℕ) (old head now : List ℕ) → t < 2 ^ 32 → i < 2 ^ 32 →
    start ≡ length old → head ≡ old ++ (word_bytes 0 ++ word_bytes object_type) →
    now ≡ head ++ (word_bytes t ++ word_bytes i) →
    Begins (object t i (property_views ps.now)) old (record { start = start; left = left.Properties ps }) now
begins_object t i ps start old head now tf jf s e0 e1 =
    let left = property_encodings (property_views ps.now) in
    let body = encoded_body (object t i (property_views ps.now)) in
    let first = word_bytes 0 ++ word_bytes object_type in
    let ids = word_bytes t ++ word_bytes i in
    let all : now ++ left ≡ old ++ (first ++ body) =
    ap (λ l. l ++ left) e1
    ∙ append_assoc head ids left
    ∙ ap (λ l. l ++ (ids ++ left)) e0
    ∙ append_assoc old first (ids ++ left)
    ∙ ap (λ l. old ++ (first ++ l)) (append_assoc (word_bytes t) (word_bytes i) left) in
    let size0 = ap length e0 ∙ length-append old first in
    let size1 = ap length e1 ∙ length-append head ids in
    let two = two_words_length 0 object_type in
    let inside = begun_size old (now ++ left) body object_type start s all in
    let body_size = length-object t i (property_views ps.now) in
    let pod_size = length-encoded_pod object_type body in
    let whole : IsWholeSize (length body) = omega (arith, body_size, whole_properties (property_views ps.now)) in
    record {
      room = omega (arith, s, size0, size1, two);
      closed = closed_whole old (now ++ left) body object_type start s all whole;
      size = inside;
      typed = λ h. (tf, jf, h);
      nul = (λ n. n, λ n. n);
      large = (λ n. n, λ n. n);
      shorter = omega (arith, pod_size, body_size, whole_properties (property_views ps.now));
    }

-- Members and properties, one after another.

-- what was left was appended up to what is left now
pub record Passed (from : Left) (old : List ℕ) (left : Left) (now : List ℕ) : Type 0 where
  pub bytes : now ++ left_encodings left ≡ old ++ left_encodings from
  pub longer : length old ≤ length now
  pub typed : LeftTyped left → LeftTyped from
  pub nul : LeftHasNul from ↔ LeftHasNul left
  pub large : LeftTooLarge from ↔ LeftTooLarge left

-- what was left was appended up to what is left now: of a list of members, and of one of properties
pub record PassedMembers (from : List Value) (old : List ℕ) (rest : List Value) (now : List ℕ) : Type 0 where
  pub bytes : now ++ member_encodings (views rest) ≡ old ++ member_encodings (views from)
  pub longer : length old ≤ length now
  pub typed : AllTyped (views rest) → AllTyped (views from)
  pub nul : SomeHasNul (views from) ↔ SomeHasNul (views rest)
  pub large : SomeTooLarge (views from) ↔ SomeTooLarge (views rest)

pub record PassedProperties (from : List Property) (old : List ℕ) (rest : List Property) (now : List ℕ) : Type 0 where
  pub bytes : now ++ property_encodings (property_views rest) ≡ old ++ property_encodings (property_views from)
  pub longer : length old ≤ length now
  pub typed : AllPropertiesTyped (property_views rest) → AllPropertiesTyped (property_views from)
  pub nul : SomeValueHasNul (property_views from) ↔ SomeValueHasNul (property_views rest)
  pub large : SomeValueTooLarge (property_views from) ↔ SomeValueTooLarge (property_views rest)

pub members_none : (from : List Value) (old : List ℕ) → PassedMembers from old from old
members_none from old = record {
  bytes = refl;
  longer = omega arith;
  typed = λ t. t;
  nul = (λ n. n, λ n. n);
  large = (λ n. n, λ n. n);
}

pub properties_none : (from : List Property) (old : List ℕ) → PassedProperties from old from old
properties_none from old = record {
  bytes = refl;
  longer = omega arith;
  typed = λ t. t;
  nul = (λ n. n, λ n. n);
  large = (λ n. n, λ n. n);
}

pub members_passed : (from rest : Bor (List Value)) (old now : List ℕ) →
    Passed (left.Members from) old (left.Members rest) now → PassedMembers from.now old rest.now now
members_passed from rest old now p = record { bytes = p.bytes; longer = p.longer; typed = p.typed; nul = p.nul; large = p.large }

pub properties_passed : (from rest : Bor (List Property)) (old now : List ℕ) →
    Passed (left.Properties from) old (left.Properties rest) now → PassedProperties from.now old rest.now now
properties_passed from rest old now p = record { bytes = p.bytes; longer = p.longer; typed = p.typed; nul = p.nul; large = p.large }

-- up to a member
pub stops_member : (from : Bor (List Value)) (old now : List ℕ) (vs : List Value) (rest : Bor (List Value)) (v : Value) →
    vs ≡ v ∷ rest.now → PassedMembers from.now old vs now →
    StopsAt (left.Members from) old (view v) (left.Members rest) now
stops_member from old now vs rest v e p = record {
  bytes = sym p.bytes ∙ ap (λ l. now ++ member_encodings (views l)) e;
  longer = p.longer;
  typed = λ t u. p.typed (subst (λ l. AllTyped (views l)) (sym e) (t, u));
  nul = (λ n. subst (λ l. SomeHasNul (views l)) e (p.nul.0 n), λ n. p.nul.1 (subst (λ l. SomeHasNul (views l)) (sym e) n));
  large = (λ n. subst (λ l. SomeTooLarge (views l)) e (p.large.0 n), λ n. p.large.1 (subst (λ l. SomeTooLarge (views l)) (sym e) n));
}

-- up to the value of a property, behind its key and flags
pub stops_property : (from : Bor (List Property)) (old now keyed : List ℕ) (ps : List Property) (rest : Bor (List Property))
    (p : Property) → p.key < 2 ^ 32 → p.flags.0 < 2 ^ 32 → ps ≡ p ∷ rest.now →
    keyed ≡ now ++ key_words p.key p.flags.0 → PassedProperties from.now old ps now →
    StopsAt (left.Properties from) old (view p.value) (left.Properties rest) keyed
stops_property from old now keyed ps rest p kf ff e w h =
    let others = property_encodings (property_views rest.now) in
    let own = encoding_of (view p.value) in
    let first = key_words p.key p.flags.0 in
    let size = ap length w ∙ length-append now first in
    record {
      bytes = sym h.bytes
          ∙ ap (λ l. now ++ property_encodings (property_views l)) e
          ∙ ap (λ l. now ++ l) (property_encoding p.key p.flags.0 (view p.value) (property_views rest.now) ∙ append_assoc first own others)
          ∙ sym (append_assoc now first (own ++ others))
          ∙ ap (λ l. l ++ (own ++ others)) (sym w);
      longer = omega (arith, h.longer, size);
      typed = λ t u. h.typed (subst (λ l. AllPropertiesTyped (property_views l)) (sym e) (kf, ff, t, u));
      nul = (λ n. subst (λ l. SomeValueHasNul (property_views l)) e (h.nul.0 n), λ n. h.nul.1 (subst (λ l. SomeValueHasNul (property_views l)) (sym e) n));
      large = (λ n. subst (λ l. SomeValueTooLarge (property_views l)) e (h.large.0 n), λ n. h.large.1 (subst (λ l. SomeValueTooLarge (property_views l)) (sym e) n));
    }

-- and behind the value
pub passed_value : (from behind : Left) (old mid now : List ℕ) (v : Tree) → StopsAt from old v behind mid →
    IsAppended v mid now → Passed from old behind now
passed_value from behind old mid now v s a =
    let own = encoding_of v in
    let size = ap length a.bytes ∙ length-append mid own in
    record {
      bytes = ap (λ l. l ++ left_encodings behind) a.bytes ∙ append_assoc mid own (left_encodings behind) ∙ sym s.bytes;
      longer = omega (arith, s.longer, size);
      typed = λ t. s.typed a.typed t;
      nul = (λ n. ⊎_elim (λ x. absurd (a.writable.no_nul x)) (λ x. x) (s.nul.0 n), λ n. s.nul.1 (inr n));
      large = (λ n. ⊎_elim (λ x. absurd (a.writable.fits x)) (λ x. x) (s.large.0 n), λ n. s.large.1 (inr n));
    }

-- the refusal of the value there
pub value_refused : (from behind : Left) (old now : List ℕ) (v : Tree) (e : GenError) → StopsAt from old v behind now →
    RefusesMade v e → RefusesLeft from e
value_refused from behind old now v e s r =
    refusal_through (λ n. s.nul.1 (inl n)) (λ n. s.large.1 (inl n)) e r

-- The whole value.

-- a pod that was begun, once it is closed
pub written : (v : Tree) (old : List ℕ) (begun : Begun) (now : List ℕ) → Begins v old begun now →
    LeftIsWritable begun.left →
    begun_length (now ++ left_encodings begun.left) begun.start < size_limit →
    IsAppended v old (closed_at begun.start (now ++ left_encodings begun.left))
written v old begun now b w short = record {
  bytes = b.closed;
  typed = b.typed w.typed;
  writable = record {
    no_nul = λ n. w.no_nul (b.nul.0 n);
    fits = λ l. ⊎_elim (λ x. omega (arith, x, short, b.size)) (λ x. w.fits x) (b.large.0 l);
  };
}

-- a value within the innermost was appended
pub advanced : (holds : List ℕ → Type 0) (v w : Tree) (inner : Begun) (behind : Left) (now mid next : List ℕ) →
    AwaitsClosing holds v inner now → StopsAt inner.left now w behind mid → IsAppended w mid next →
    AwaitsClosing holds v (record { start = inner.start; left = behind }) next
advanced holds v w inner behind now mid next h s a =
    let p = passed_value inner.left behind now mid next w s a in
    record {
      room = omega (arith, h.room, p.longer);
      closes = λ k short.
          subst (λ b. holds (closed_at inner.start b)) (sym p.bytes)
          (h.closes (record { typed = p.typed k.typed; no_nul = λ n. k.no_nul (p.nul.0 n); fits = λ n. k.fits (p.large.0 n) })
          (subst (λ b. begun_length b inner.start < size_limit) p.bytes short));
      past = λ l. h.past (subst (λ b. size_limit ≤ begun_length b inner.start) p.bytes l);
      nul = λ n. h.nul (p.nul.1 n);
      large = λ l. h.large (p.large.1 l);
    }

-- one within the innermost is begun
pub nested : (v w : Tree) (inner begun : Begun) (outer : List Begun) (behind : Left) (now mid new : List ℕ) →
    AwaitsAllClosing v (inner ∷ outer) now → StopsAt inner.left now w behind mid → Begins w mid begun new →
    AwaitsAllClosing v (begun ∷ record { start = inner.start; left = behind } ∷ outer) new
nested v w inner begun outer behind now mid new h s b = record {
  room = b.room;
  closes = λ k short. advanced (AwaitsAllClosing v outer) v w inner behind now mid _ h s (written w mid begun new b k short);
  past = λ l. h.large (s.large.1 (inl (b.large.1 (inl (omega (arith, l, b.size))))));
  nul = λ n. h.nul (s.nul.1 (inl (b.nul.1 n)));
  large = λ l. h.large (s.large.1 (inl (b.large.1 (inr l))));
}

-- it is closed,
pub closed : (holds : List ℕ → Type 0) (v : Tree) (inner : Begun) (now ended new : List ℕ) →
    AwaitsClosing holds v inner now → PutsAll inner.left now ended → new ≡ closed_at inner.start ended →
    begun_length ended inner.start < size_limit → holds new
closed holds v inner now ended new h p e short =
    subst holds (sym (e ∙ ap (closed_at inner.start) p.bytes))
    (h.closes p.writable (subst (λ b. begun_length b inner.start < size_limit) p.bytes short))

-- the innermost but one is the last of the others, of which the outermost is first
pub innermost : (old new : List Begun) (next : Begun) → old ≡ new ++ next ∷ [] →
    reverse old ≡ next ∷ reverse new
innermost old new next e = ap reverse e ∙ reverse-append new (next ∷ [])

pub pushed : (v : Tree) (outer all : List Begun) (inner begun : Begun) (now : List ℕ) → all ≡ outer ++ inner ∷ [] →
    AwaitsAllClosing v (begun ∷ inner ∷ reverse outer) now → AwaitsAllClosing v (begun ∷ reverse all) now
pushed v outer all inner begun now e h =
    subst (λ l. AwaitsAllClosing v (begun ∷ l) now) (sym (innermost all outer inner e)) h

-- and once one more is begun
pub less_begun : (w : Tree) (outer all : List Begun) (inner begun : Begun) (behind : Left) (now mid new : List ℕ) →
    all ≡ outer ++ record { start = inner.start; left = behind } ∷ [] → StopsAt inner.left now w behind mid →
    Begins w mid begun new → bytes_left (begun ∷ reverse all) < bytes_left (inner ∷ reverse outer)
less_begun w outer all inner begun behind now mid new e s b =
    let whole = ap length s.bytes in
    let before = length-append now (left_encodings inner.left) in
    let after = length-append mid (encoding_of w ++ left_encodings behind) in
    let own = length-append (encoding_of w) (left_encodings behind) in
    rw (innermost all outer (record { start = inner.start; left = behind }) e) (omega (arith, whole, before, after, own, s.longer, b.shorter))
