-- Steps of the writer of elements.
use Rattle.std.proofs.Common.{◌≡◌, ℕ, ◌+◌, ◌*◌, ◌<◌, ◌≤◌, List, [], ◌∷◌, ◌++◌, length, take, drop}
use Rattle.std.proofs.Common.{map, get_or, refl, sym, ap, ◌∙◌, subst, arith, append_assoc}
use Rattle.std.proofs.Common.{length-append, take-append-drop}
use Rattle.std.proofs.lemmas.List.{map-append, take_more, nil_from_length}
use Rattle.spa_format.specs.Kind.{Kind, body_size, Fixed, none, bool, id, int, long, float, double}
use Rattle.spa_format.specs.Kind.{rectangle, fraction, fd, kind_of, fixed_body}
use Rattle.spa_format.specs.Encoding.{fixed_bodies}
use Rattle.spa_format.specs.Typed.{IsTypedFixed, AreOf}
use Rattle.spa_format.proofs.FixedKinds.{length-fixed_body}
use Rattle.spa_format.proofs.Elements.{bodies_push, fixed_bodies-append}
use Rattle.spa_sink.specs.declared.gen_error.GenError.{GenError}
use Rattle.spa_sink.specs.Writing.{Begun, Sent, none_sent, some_sent}
use Rattle.spa_sink.proofs.Sending.{AppendsMore, RefusesAfter, RefusesLonger, sent_before}
use Rattle.spa_sink.proofs.Sending.{begun_as, begun_behind, begun_by, begun_first, refused_behind}

-- the first values stand in the block
pub record IsFilled {T : Type 0} (k : Kind) (f : T → Fixed) (s at i : ℕ) (block : List ℕ)
    (vs : List T) : Type 0 where
  pub place : at ≡ i * s
  pub bodies : take at block ≡ fixed_bodies (map f (take i vs))
  pub typed : AreOf k (map f (take i vs))

-- the first values were sent
pub record IsSent {S : Type 0} {T : Type 0} (appends : S → List ℕ → S → Type 0) (k : Kind)
    (f : T → Fixed) (old new : S) (vs left : List T) : Type 0 where
  pub first : List T
  pub parts : vs ≡ first ++ left
  pub sent : Sent appends old (fixed_bodies (map f first)) new
  pub typed : AreOf k (map f first)

-- how long the bodies are
pub bodies_length : {T : Type 0} (k : Kind) (f : T → Fixed) (s : ℕ) (vs : List T) →
    ((v : T) → kind_of (f v) ≡ k) → s ≡ body_size k →
    length (fixed_bodies (map f vs)) ≡ length vs * s
bodies_length k f s [] t z = omega arith
bodies_length k f s (v ∷ vs) t z =
    let a = length-append (fixed_body (f v)) (fixed_bodies (map f vs)) in
    let b : length (fixed_body (f v)) ≡ s = length-fixed_body (f v) ∙ ap body_size (t v) ∙ sym z in
    let e = bodies_length k f s vs t z in
    grind arith

pub AreOf-append : (k : Kind) (xs ys : List Fixed) → AreOf k xs → AreOf k ys → AreOf k (xs ++ ys)
AreOf-append k [] ys h i = i
AreOf-append k (x ∷ xs) ys h i = (h.0, h.1, AreOf-append k xs ys h.2 i)

-- the place of a value is in the block
pub within_block : {at i s n long : ℕ} (most : ℕ) → at ≡ i * s → i < n → n ≤ most → s ≤ 8 →
    long ≡ most * 8 → at ≤ long
within_block most e l m h b = grind arith

-- the place of a value is in a block that has room for more
pub within_slice : {at i s n was long : ℕ} → at ≡ i * s → i < n → s ≤ 8 → n * 8 ≤ was → long ≡ was → at ≤ long
within_slice e l h m b = grind arith

-- one more value in the block
pub filled_more : {T : Type 0} (k : Kind) (f : T → Fixed) (s size at i : ℕ)
    (block after piece : List ℕ) (vs : List T) (v : T) → IsFilled k f s at i block vs →
    i < length vs → v ≡ get_or vs i v → kind_of (f v) ≡ k → size ≡ s →
    take (at + size) after ≡ take at block ++ piece → piece ≡ fixed_body (f v) →
    IsTypedFixed (f v) → IsFilled k f s (at + size) (i + 1) after vs
filled_more k f s size at i block after piece vs v h l e t z p q y =
    let here : take (i + 1) vs ≡ take i vs ++ v ∷ [] =
    take_more vs i v l ∙ ap (λ x. take i vs ++ x ∷ []) (sym e) in
    let m : map f (take (i + 1) vs) ≡ map f (take i vs) ++ f v ∷ [] =
    ap (map f) here ∙ map-append f (take i vs) (v ∷ []) in
    let pl = h.place in
    record {
      place = grind arith;
      bodies =
          p ∙ ap (λ x. x ++ piece) h.bodies ∙ ap (λ x. fixed_bodies (map f (take i vs)) ++ x) q ∙
          sym (bodies_push (map f (take i vs)) (f v)) ∙ ap fixed_bodies (sym m);
      typed =
          subst (AreOf k) (sym m) (AreOf-append k (map f (take i vs))
          (f v ∷ []) h.typed (t, y, tt));
    }

bodies_of_parts : {T : Type 0} (f : T → Fixed) (xs ys : List T) →
    fixed_bodies (map f (xs ++ ys)) ≡ fixed_bodies (map f xs) ++ fixed_bodies (map f ys)
bodies_of_parts f xs ys =
    ap fixed_bodies (map-append f xs ys) ∙ fixed_bodies-append (map f xs) (map f ys)

-- one more block was sent
pub sent_more : {S : Type 0} {T : Type 0} {appends : S → List ℕ → S → Type 0}
    (law : AppendsMore appends) (k : Kind) (f : T → Fixed) (old mid new : S)
    (vs left chunk rest : List T) (n : ℕ) (bytes : List ℕ) → IsSent appends k f old mid vs left →
    chunk ≡ take n left → rest ≡ drop n left → appends mid bytes new →
    bytes ≡ fixed_bodies (map f chunk) → AreOf k (map f chunk) → IsSent appends k f old new vs rest
sent_more {appends = appends} law k f old mid new vs left chunk rest n bytes h c r a b t =
    let whole : left ≡ chunk ++ rest =
    sym (take-append-drop n left) ∙ ap (λ x. x ++ drop n left) (sym c) ∙ ap (λ x. chunk ++ x)
    (sym r) in
    record {
      first = h.first ++ chunk;
      parts = h.parts ∙ ap (λ x. h.first ++ x) whole ∙ sym (append_assoc h.first chunk rest);
      sent =
          some_sent (subst (λ x. appends old x new) (ap (λ x. fixed_bodies (map f h.first) ++ x)
          b ∙ sym (bodies_of_parts f h.first chunk)) (sent_before
          law old mid new (fixed_bodies (map f h.first)) bytes h.sent a));
      typed =
          subst (AreOf k) (sym (map-append f h.first chunk))
          (AreOf-append k (map f h.first) (map f chunk) h.typed t);
    }

-- a refusal of one block is one of all
pub sent_refused : {S : Type 0} {T : Type 0} {appends : S → List ℕ → S → Type 0}
    {refuses : S → ℕ → S → GenError → Type 0} (after : RefusesAfter appends refuses)
    (longer : RefusesLonger refuses) (k : Kind) (f : T → Fixed) (old mid new : S)
    (vs left chunk : List T) (n : ℕ) (bytes : List ℕ) (e : GenError) →
    IsSent appends k f old mid vs left → chunk ≡ take n left → bytes ≡ fixed_bodies (map f chunk) →
    refuses mid (length bytes) new e → refuses old (length (fixed_bodies (map f vs))) new e
sent_refused after longer k f old mid new vs left chunk n bytes e h c b r =
    let first = fixed_bodies (map f h.first) in
    let whole : left ≡ chunk ++ drop n left =
    sym (take-append-drop n left) ∙ ap (λ x. x ++ drop n left) (sym c) in
    let all =
    ap (λ x. fixed_bodies (map f x)) (h.parts ∙ ap (λ x. h.first ++ x) whole) ∙ bodies_of_parts
    f h.first (chunk ++ drop n left) ∙ ap (λ x. first ++ x)
    (bodies_of_parts f chunk (drop n left)) in
    let e0 = ap length all in
    let e1 =
    length-append first (fixed_bodies (map f chunk) ++ fixed_bodies (map f (drop n left))) in
    let e2 = length-append (fixed_bodies (map f chunk)) (fixed_bodies (map f (drop n left))) in
    let e3 = ap length b in
    longer old new (length first + length bytes) (length (fixed_bodies (map f vs))) e (omega arith)
    (refused_behind after old mid new first (length bytes) e h.sent r)

-- a beginning of one block, behind those before it
pub sent_begun : {S : Type 0} {T : Type 0} {appends : S → List ℕ → S → Type 0}
    (law : AppendsMore appends) (k : Kind) (f : T → Fixed) (old mid new : S)
    (vs left chunk : List T) (n count : ℕ) (bytes : List ℕ) →
    IsSent appends k f old mid vs left → chunk ≡ take n left → bytes ≡ fixed_bodies (map f chunk) →
    appends mid (take count bytes) new → Begun appends old (fixed_bodies (map f vs)) new
sent_begun law k f old mid new vs left chunk n count bytes h c b p =
    let first = fixed_bodies (map f h.first) in
    let rest = fixed_bodies (map f (drop n left)) in
    let whole : left ≡ chunk ++ drop n left =
    sym (take-append-drop n left) ∙ ap (λ x. x ++ drop n left) (sym c) in
    let all =
    ap (λ x. fixed_bodies (map f x)) (h.parts ∙ ap (λ x. h.first ++ x) whole)
    ∙ bodies_of_parts f h.first (chunk ++ drop n left)
    ∙ ap (λ x. first ++ x) (bodies_of_parts f chunk (drop n left))
    ∙ ap (λ x. first ++ (x ++ rest)) (sym b) in
    begun_as old new (first ++ (bytes ++ rest)) (fixed_bodies (map f vs)) (sym all)
    (begun_behind law old mid new first (bytes ++ rest) h.sent
    (begun_first mid new bytes rest (begun_by mid new count bytes p)))

-- a value of a kind without bytes is typed
units_typed : (x : Fixed) → body_size (kind_of x) ≡ 0 → IsTypedFixed x
units_typed none e = tt
units_typed (bool x) e = absurd (omega arith)
units_typed (id x) e = absurd (omega arith)
units_typed (int x) e = absurd (omega arith)
units_typed (long x) e = absurd (omega arith)
units_typed (float x) e = absurd (omega arith)
units_typed (double x) e = absurd (omega arith)
units_typed (rectangle w h) e = absurd (omega arith)
units_typed (fraction n d) e = absurd (omega arith)
units_typed (fd x) e = absurd (omega arith)

pub units_are : {T : Type 0} (k : Kind) (f : T → Fixed) (vs : List T) →
    ((v : T) → kind_of (f v) ≡ k) → body_size k ≡ 0 → AreOf k (map f vs)
units_are k f [] t z = tt
units_are k f (v ∷ vs) t z = (t v, units_typed (f v) (ap body_size (t v) ∙ z), units_are k f vs t z)

pub units_unsent : {S : Type 0} {T : Type 0} {appends : S → List ℕ → S → Type 0} (k : Kind)
    (f : T → Fixed) (vs : List T) (s : S) → ((v : T) → kind_of (f v) ≡ k) → body_size k ≡ 0 →
    Sent appends s (fixed_bodies (map f vs)) s
units_unsent k f vs s t z =
    let l = bodies_length k f 0 vs t (sym z) in
    none_sent (nil_from_length (fixed_bodies (map f vs)) (l ∙ omega arith)) refl
