-- What a value that is placed, begun or closed does to the bytes and the frames.
use Rattle.std.proofs.Common.{◌≡◌, ◌≢◌, ℕ, ◌+◌, ◌*◌, ◌/◌, ◌-◌, ◌<◌, ◌≤◌, ◌^◌, List, [], ◌∷◌, ◌++◌, length, take, drop, refl, sym, ap, ◌∙◌, subst, arith, length-append, append_assoc, Bool, true, false, ◌&&◌, Ok, Err, eq-eqb}
use Rattle.std.specs.Prelude.{nat_lt, nat_eq, cond, IsTrue, Option, Some, None, is_some, Result}
use Rattle.std.proofs.lemmas.Result.{err_from_is_err_and}
use Rattle.std.specs.Prelude.{IsErrAnd}
use Rattle.std.proofs.lemmas.List.{append-nil, take_at, drop_at}
use Rattle.std.proofs.lemmas.Bool.{and_parts}
use Rattle.spa_format.specs.Words.{word_bytes, extent, padding}
use Rattle.spa_format.specs.Kind.{Fixed, kind_of, body_size, type_number}
use Rattle.spa_format.specs.Pod.{least_count}
use Rattle.spa_format.specs.Tree.{Shape, Tree, fixed, bytes, Trees, no_trees, member, Properties, no_properties, property, struct, object, choice, type_of, array_type, choice_type, object_type, struct_type}
use Rattle.spa_format.specs.Encoding.{encoded_pod, encoding_of, member_encodings, property_encodings, encoded_body}
use Rattle.spa_format.proofs.WordLemmas.{length-word_bytes}
use Rattle.spa_format.proofs.Encodings.{length-encoded_pod, member_encodings-join, property_encodings-join, two_words_length}
use Rattle.spa_builder.specs.State.{Partial, open_struct, open_object, open_property, open_array, open_choice, State, start, with_tree, with_property}
use Rattle.spa_builder.specs.Step.{all_fit, own_size, array_of, child_kind, takes_trees, state_with_value, state_with_key, state_with_tree, state_after_pop, closed_value, outcome_if_fits, outcome_of, Outcome, Accepts, Inval, Nospc}
use Rattle.spa_builder.specs.Fields.{BuilderFields, fields_of, HasState, IsAt, IsNested, IsFair, so_far, all_so_far, body_so_far, type_of_partial, frames_of, what_of}
use Rattle.spa_builder.specs.Innermost.{trees_with_value, closed_with, has_room_for, innermost_of, takes_key}
use Rattle.spa_builder.specs.Answers.{Makes, Spells}
use Rattle.spa_utils.specs.declared.errno.Errno.{Errno}
use Rattle.spa_utils.specs.declared.errno.TheConstants.Errno.{NOMEM, INVAL, NOSPC}
use Rattle.spa_builder.specs.declared.begun.BegunPod.{BegunPod}
use Rattle.spa_builder.proofs.Sizes.{one_size_decides, room_later, room_begun, length-body, length-so_far, kept_bodies, inside_fit}
use borrow.Author.Tests.{ltb-true}

-- ---- what the model says of a call that is settled

pub sized_goes : {A : Type 0} (b : Bool) (o : Option State) (t : State) (old new : BuilderFields) (x : A) →
    b ≡ true → o ≡ Some t → all_fit 0 t.opened ≡ true → IsAt new t →
    Makes (outcome_if_fits b o) old new (Ok x)
sized_goes b o t old new x e f g h =
    subst (λ c. Makes (outcome_if_fits c o) old new (Ok x)) (sym e)
    (subst (λ p. Makes (outcome_if_fits true p) old new (Ok x)) (sym f)
    (subst (λ c. Makes (cond c (Accepts t) Nospc) old new (Ok x)) (sym g) h))

pub sized_nomem : {A : Type 0} (b : Bool) (o : Option State) (t : State) (old new : BuilderFields)
    (r : Result A Errno) → b ≡ true → o ≡ Some t → all_fit 0 t.opened ≡ true → r ≡ Err NOMEM →
    new ≡ old → Makes (outcome_if_fits b o) old new r
sized_nomem {A = A} b o t old new r e f g i k =
    subst (Makes {A = A} (outcome_if_fits b o) old new) (sym i)
    (subst (λ c. Makes {A = A} (outcome_if_fits c o) old new (Err NOMEM)) (sym e)
    (subst (λ p. Makes {A = A} (outcome_if_fits true p) old new (Err NOMEM)) (sym f)
    (subst (λ c. Makes {A = A} (cond c (Accepts t) Nospc) old new (Err NOMEM)) (sym g)
    (refl, k))))

pub sized_nospc : (A : Type 0) (b : Bool) (o : Option State) (t : State) (old : BuilderFields) → o ≡ Some t →
    (b && all_fit 0 t.opened) ≡ false → Makes {A = A} (outcome_if_fits b o) old old (Err NOSPC)
sized_nospc A b o t old f g =
    subst (λ p. Makes {A = A} (outcome_if_fits b p) old old (Err NOSPC)) (sym f)
    (subst (λ c. Makes {A = A} (cond c (Accepts t) Nospc) old old (Err NOSPC)) (sym g)
    (refl, refl))

-- what `?` passes on
pub is_nomem : {A : Type 0} (r : Result A Errno) (e : Errno) → IsErrAnd r (λ y. y ≡ e) → e ≡ NOMEM →
    r ≡ Err NOMEM
is_nomem r e h i = let p = err_from_is_err_and r h in rw (p.1, p.2, i) refl

-- ---- a value that is placed

abbrev pub after : Trees → List Partial → Tree → State
after closed ps v = record { closed = closed_with closed ps v; opened = trees_with_value ps v }

pub placed_is : (closed : Trees) (ps : List Partial) (v : Tree) → takes_trees ps ≡ true →
    state_with_value closed ps v ≡ Some (after closed ps v)
placed_is closed (open_object t i qs ∷ ps) v h = absurd (cc)
placed_is closed (open_array xs ∷ ps) v h = absurd (cc)
placed_is closed (open_choice k f xs ∷ ps) v h = absurd (cc)
placed_is closed _ v h = refl

grown : (n : ℕ) (base a b t : List ℕ) → b ≡ a ++ t → base ++ (word_bytes 0 ++ (word_bytes n ++ b)) ≡
    (base ++ (word_bytes 0 ++ (word_bytes n ++ a))) ++ t
grown n base a b t e = rw e (simp append_assoc)

one_more : (vs : Trees) (v : Tree) → member_encodings (with_tree vs v) ≡ member_encodings vs ++
    encoding_of v
one_more vs v = member_encodings-join vs (member v no_trees)
    ∙ ap (λ l. member_encodings vs ++ l) (append-nil (encoding_of v))

property_more : (t i : ℕ) (ps : Properties) (k f : ℕ) (v : Tree) →
    word_bytes t ++ (word_bytes i ++ property_encodings (with_property ps k f v)) ≡
    (word_bytes t ++ (word_bytes i ++ (property_encodings ps ++ (word_bytes k ++ word_bytes f)))) ++
    encoding_of v
property_more t i ps k f v =
    ap (λ l. word_bytes t ++ (word_bytes i ++ l))
    (property_encodings-join ps (property k f v no_properties)
    ∙ ap (λ l. property_encodings ps ++ (word_bytes k ++ (word_bytes f ++ l)))
    (append-nil (encoding_of v)))
    ∙ simp append_assoc

-- in an open tree
grows : (p : Partial) (ps : List Partial) (v : Tree) → takes_trees (p ∷ ps) ≡ true →
    all_so_far (trees_with_value (p ∷ ps) v) ≡ all_so_far (p ∷ ps) ++ encoding_of v
grows (open_struct vs) ps v h = grown struct_type (all_so_far ps) (member_encodings vs)
    (member_encodings (with_tree vs v)) (encoding_of v) (one_more vs v)
grows (open_property t i qs k f) ps v h = grown object_type (all_so_far ps) _ _ (encoding_of v)
    (property_more t i qs k f v)
grows _ ps v h = absurd (cc)

pub added_bytes : (closed : Trees) (ps : List Partial) (v : Tree) → takes_trees ps ≡ true →
    member_encodings (closed_with closed ps v) ++ all_so_far (trees_with_value ps v) ≡
    (member_encodings closed ++ all_so_far ps) ++ encoding_of v
added_bytes closed [] v h = append-nil (member_encodings (with_tree closed v)) ∙ one_more closed v
    ∙ ap (λ l. l ++ encoding_of v) (sym (append-nil (member_encodings closed)))
added_bytes closed (p ∷ ps) v h = ap (λ l. member_encodings closed ++ l) (grows p ps v h)
    ∙ sym (append_assoc (member_encodings closed) (all_so_far (p ∷ ps)) (encoding_of v))

added_frames : (closed : Trees) (ps : List Partial) (v : Tree) →
    frames_of (length (member_encodings closed)) (trees_with_value ps v) ≡ frames_of
    (length (member_encodings (closed_with closed ps v))) (trees_with_value ps v)
added_frames closed [] v = refl
added_frames closed (p ∷ ps) v = refl

added_nested : (ps : List Partial) (v : Tree) → IsNested ps → IsNested (trees_with_value ps v)
added_nested [] v k = tt
added_nested (open_struct vs ∷ ps) v k = k
added_nested (open_object t i qs ∷ ps) v k = k
added_nested (open_property t i qs l f ∷ ps) v k = k
added_nested (open_array xs ∷ ps) v k = k
added_nested (open_choice l f xs ∷ ps) v k = k

length-filled : (ps : List Partial) (v : Tree) → length (trees_with_value ps v) ≡ length ps
length-filled [] v = refl
length-filled (open_struct vs ∷ ps) v = refl
length-filled (open_object t i qs ∷ ps) v = refl
length-filled (open_property t i qs l f ∷ ps) v = refl
length-filled (open_array xs ∷ ps) v = refl
length-filled (open_choice l f xs ∷ ps) v = refl

pub added_fit : (ps : List Partial) (v : Tree) (n : ℕ) → n ≡ extent (length (encoded_body v)) →
    takes_trees ps ≡ true → IsNested ps → all_fit 0 (trees_with_value ps v) ≡ has_room_for n ps
added_fit [] v n l h k = refl
added_fit (p ∷ ps) v n l h k =
    one_size_decides (trees_with_value (p ∷ ps) v) (added_nested (p ∷ ps) v k)
    ∙ room_later (p ∷ ps) (trees_with_value (p ∷ ps) v) n (length-filled (p ∷ ps) v)
    (ap length (grows p ps v h) ∙ length-append (all_so_far (p ∷ ps)) (encoding_of v)
    ∙ ap (λ m. length (all_so_far (p ∷ ps)) + m) (length-encoded_pod (type_of v) (encoded_body v)
    ∙ sym l))

-- the bytes got the value's encoding_of, and the frames know it
pub is_after : (closed : Trees) (ps : List Partial) (v : Tree) (front : List ℕ) (new : BuilderFields) →
    front ≡ member_encodings closed ++ all_so_far ps → IsNested ps → takes_trees ps ≡ true →
    new.bytes ≡ front ++ encoding_of v → new.frames ≡ frames_of (length (member_encodings closed))
    (trees_with_value ps v) → all_fit 0 (trees_with_value ps v) ≡ true → IsAt new (after closed ps v)
is_after closed ps v front new at nested h b f g = record {
  bytes = b ∙ ap (λ l. l ++ encoding_of v) at ∙ sym (added_bytes closed ps v h);
  frames = f ∙ added_frames closed ps v;
  nested = added_nested ps v nested;
  fit = g;
}

pub base_and_more : (old : BuilderFields) (s : State) → IsAt old s →
    length old.bytes ≡ length (member_encodings s.closed) + length (all_so_far s.opened)
base_and_more old s at = ap length at.bytes
    ∙ length-append (member_encodings s.closed) (all_so_far s.opened)

-- what the test of room asks
pub has_its_room : (old : BuilderFields) (len : ℕ) → HasState old → len ≡ length old.bytes →
    (base : ℕ) × (ps : List Partial) × (old.frames ≡ frames_of base ps) ×
    (len ≡ base + length (all_so_far ps)) × IsTrue (has_room_for 0 ps)
has_its_room old len (s, at) l = (
  length (member_encodings s.closed),
  s.opened,
  at.frames,
  l ∙ base_and_more old s at,
  sym (one_size_decides s.opened at.nested) ∙ at.fit,
)

-- ---- a tree that is begun

pub begun_is : (s : State) (p : Partial) → takes_trees s.opened ≡ true →
    state_with_tree p s ≡ Some (record { closed = s.closed; opened = p ∷ s.opened })
begun_is s p h = ap (λ b. cond b (Some (record { closed = s.closed; opened = p ∷ s.opened })) None)
    h

pub begun_fit : (p : Partial) (s : State) (old : BuilderFields) (n m : ℕ) → n ≤ 2 →
    length (so_far p) ≡ 8 + 8 * n → m ≡ length (so_far p) → IsFair p → takes_trees s.opened ≡ true →
    IsAt old s → all_fit 0 (p ∷ s.opened) ≡ has_room_for m s.opened
begun_fit p s old n m u l e f h at =
    one_size_decides (p ∷ s.opened) (f, h, at.nested) ∙ room_begun p s.opened n u l h at.nested
    ∙ ap (λ x. has_room_for x s.opened) (omega arith)

pub is_begun : (old new : BuilderFields) (s : State) (p : Partial) (start : ℕ) → IsAt old s → IsFair p →
    takes_trees s.opened ≡ true → start ≡ length old.bytes → new.bytes ≡ old.bytes ++ so_far p →
    new.frames ≡ old.frames ++ (record { start = start; what = what_of p }) ∷ [] →
    all_fit 0 (p ∷ s.opened) ≡ true → IsAt new (record { closed = s.closed; opened = p ∷ s.opened })
is_begun old new s p start at f h e b g fit = record {
  bytes = b ∙ ap (λ l. l ++ so_far p) at.bytes
      ∙ append_assoc (member_encodings s.closed) (all_so_far s.opened) (so_far p);
  frames = g ∙ ap (λ l. l ++ (record { start = start; what = what_of p }) ∷ []) at.frames
      ∙ ap (λ n. frames_of (length (member_encodings s.closed)) s.opened ++
      (record { start = n; what = what_of p }) ∷ []) (e ∙ base_and_more old s at);
  nested = (f, h, at.nested);
  fit = fit;
}

-- ---- a tree that is closed

pub goes_ok : {A : Type 0} (o : Option State) (t : State) (old new : BuilderFields) (x : A) → o ≡ Some t →
    IsAt new t → Makes (outcome_of o) old new (Ok x)
goes_ok o t old new x e h = subst (λ p. Makes (outcome_of p) old new (Ok x)) (sym e) h

pub goes_nomem : {A : Type 0} (o : Option State) (t : State) (old new : BuilderFields) (r : Result A Errno) →
    o ≡ Some t → r ≡ Err NOMEM → new ≡ old → Makes (outcome_of o) old new r
goes_nomem {A = A} o t old new r e i k = subst (Makes {A = A} (outcome_of o) old new) (sym i)
    (subst (λ p. Makes {A = A} (outcome_of p) old new (Err NOMEM)) (sym e) (refl, k))

pub goes_inval : (A : Type 0) (o : Option State) (old : BuilderFields) → o ≡ None →
    Makes {A = A} (outcome_of o) old old (Err INVAL)
goes_inval A o old e = subst (λ p. Makes {A = A} (outcome_of p) old old (Err INVAL)) (sym e) (refl, refl)

-- what is known where a frame is innermost
pub record Closing (old : BuilderFields) (s : State) (o : BegunPod) (p : Partial) (rest : List Partial) :
    Type 0 where
  pub opened : s.opened ≡ p ∷ rest
  pub start : o.start ≡ length (member_encodings s.closed ++ all_so_far rest)
  pub what : o.what ≡ what_of p
  pub bytes : old.bytes ≡ (member_encodings s.closed ++ all_so_far rest) ++ so_far p
  pub frames : old.frames ≡ frames_of (length (member_encodings s.closed)) rest ++ o ∷ []
  pub size : length old.bytes - (o.start + 8) ≡ length (body_so_far p)
  pub long : o.start + 8 ≤ length old.bytes
  pub small : length (body_so_far p) < 2 ^ 32
  pub fair : IsFair p
  pub takes : takes_trees rest ≡ true
  pub nested : IsNested rest
  pub fit : all_fit (extent (own_size p)) rest ≡ true

pub closing : (old : BuilderFields) (closed : Trees) (ops : List Partial) (o : BegunPod) →
    IsAt old (record { closed = closed; opened = ops }) →
    Some o ≡ innermost_of (length (member_encodings closed)) ops →
    (p : Partial) × (rest : List Partial) × Closing old (record { closed = closed; opened = ops }) o
    p rest
closing old closed [] o at e = absurd (cc)
closing old closed (p ∷ rest) o at e =
    let i : o ≡ record {
      start = length (member_encodings closed) + length (all_so_far rest);
      what =
          what_of p;
    } = cc in
    let st : o.start ≡ length (member_encodings closed) + length (all_so_far rest) =
    ap (λ (x : BegunPod). x.start) i in
    let la = length-append (member_encodings closed) (all_so_far rest) in
    let b : old.bytes ≡ (member_encodings closed ++ all_so_far rest) ++ so_far p = at.bytes
    ∙ sym (append_assoc (member_encodings closed) (all_so_far rest) (so_far p)) in
    let lb = ap length b ∙ length-append (member_encodings closed ++ all_so_far rest) (so_far p) in
    let k = at.nested in
    let sf = length-so_far p k.0 in
    let own = length-body p k.0 in
    let f = and_parts (nat_lt (own_size p + 0) (2 ^ 32)) (all_fit (extent (own_size p + 0)) rest)
    at.fit in
    let small : own_size p + 0 < 2 ^ 32 = ltb-true (own_size p + 0) (2 ^ 32) f.0 in
    let zero : own_size p + 0 ≡ own_size p = omega arith in (
      p,
      rest,
      record {
        opened = refl;
        start = st ∙ sym la;
        what = ap (λ (x : BegunPod). x.what) i;
        bytes = b;
        frames = at.frames ∙ ap (λ x. frames_of (length (member_encodings closed)) rest ++ x ∷ [])
            (sym i);
        size = omega arith;
        long = omega arith;
        small = omega arith;
        fair = k.0;
        takes = k.1;
        nested = k.2;
        fit = ap (λ n. all_fit (extent n) rest) (sym zero) ∙ f.1;
      },
    )

pub closing_now : (old : BuilderFields) (o : BegunPod) (h : HasState old) →
    ((base : ℕ) (ps : List Partial) → old.frames ≡ frames_of base ps → Some o ≡ innermost_of base ps) →
    (p : Partial) × (rest : List Partial) × Closing old h.0 o p rest
closing_now old o (s, at) last =
    closing old s.closed s.opened o at (last (length (member_encodings s.closed)) s.opened at.frames)

pub patched : (front body b : List ℕ) (k n start : ℕ) → start ≡ length front → n ≡ length body →
    b ≡ (front ++ (word_bytes 0 ++ (word_bytes k ++ body))) ++ padding n →
    take start b ++ (word_bytes n ++ drop (start + 4) b) ≡ front ++ encoded_pod k body
patched front body b k n start s m e =
    let z = padding n in
    let e1 : b ≡ front ++ (word_bytes 0 ++ (word_bytes k ++ (body ++ z))) = e ∙ simp append_assoc in
    let e2 : b ≡ (front ++ word_bytes 0) ++ (word_bytes k ++ (body ++ z)) = e1
    ∙ sym (append_assoc front (word_bytes 0) (word_bytes k ++ (body ++ z))) in
    let t = ap (take start) e1 ∙ take_at front (word_bytes 0 ++ (word_bytes k ++ (body ++ z))) start
    (sym s) in
    let l = length-append front (word_bytes 0) in
    let l0 = length-word_bytes 0 in
    let d = ap (drop (start + 4)) e2 ∙ drop_at (front ++ word_bytes 0) (word_bytes k ++ (body ++ z))
    (start + 4) (omega arith) in
    ap (λ x. x ++ (word_bytes n ++ drop (start + 4) b)) t ∙ ap (λ x. front ++ (word_bytes n ++ x)) d
    ∙ ap (λ i. front ++ (word_bytes i ++ (word_bytes k ++ (body ++ padding i)))) m

-- the encoding of the choice that a tree becomes
choice_encoding : (h : Shape) (f : ℕ) (x : Fixed) (xs : List Fixed) (v : Tree) (b : Bool) →
    cond b None (Some (choice h f (kind_of x) x xs)) ≡ Some v →
    encoded_pod choice_type (body_so_far (open_choice h f (x ∷ xs))) ≡ encoding_of v
choice_encoding h f x xs v true e = absurd (cc)
choice_encoding h f x xs v false e = let i : v ≡ choice h f (kind_of x) x xs = cc in
    ap encoding_of (sym i)

choice_size : (h : Shape) (f : ℕ) (x : Fixed) (xs : List Fixed) (v : Tree) (b : Bool) →
    cond b None (Some (choice h f (kind_of x) x xs)) ≡ Some v →
    length (encoded_body v) ≡ own_size (open_choice h f (x ∷ xs))
choice_size h f x xs v true e = absurd (cc)
choice_size h f x xs v false e =
    let i : v ≡ choice h f (kind_of x) x xs = cc in
    ap (λ w. length (encoded_body w)) i ∙ length-body (open_choice h f (x ∷ xs)) tt

same_none : (b : Bool) → let o : Option State = None in cond b o o ≡ o
same_none true = refl
same_none false = refl

pub finished_encoding : (p : Partial) (v : Tree) → closed_value p ≡ Some v → IsFair p →
    encoded_pod (type_of_partial p) (body_so_far p) ≡ encoding_of v
finished_encoding (open_struct vs) v e f = let i : v ≡ struct vs = cc in ap encoding_of (sym i)
finished_encoding (open_object t i ps) v e f = let x : v ≡ object t i ps = cc in
    ap encoding_of (sym x)
finished_encoding (open_property t i ps k g) v e f = absurd (cc)
finished_encoding (open_array xs) v e f =
    let x : v ≡ array_of xs = cc in
    ap (λ l. encoded_pod array_type
    (word_bytes (body_size (child_kind xs)) ++ (word_bytes (type_number (child_kind xs)) ++ l)))
    (kept_bodies (child_kind xs) xs f) ∙ ap encoding_of (sym x)
finished_encoding (open_choice h g []) v e f = absurd (cc)
finished_encoding (open_choice h g (x ∷ xs)) v e f =
    choice_encoding h g x xs v (nat_lt (length (x ∷ xs)) (least_count h)) e

pub finished_size : (p : Partial) (v : Tree) → closed_value p ≡ Some v → IsFair p →
    length (encoded_body v) ≡ own_size p
finished_size (open_struct vs) v e f = let i : v ≡ struct vs = cc in
    ap (λ x. length (encoded_body x)) i
finished_size (open_object t i ps) v e f = let x : v ≡ object t i ps = cc in
    ap (λ x. length (encoded_body x)) x
finished_size (open_property t i ps k g) v e f = absurd (cc)
finished_size (open_array xs) v e f = let x : v ≡ array_of xs = cc in
    ap (λ x. length (encoded_body x)) x
finished_size (open_choice h g []) v e f = absurd (cc)
finished_size (open_choice h g (x ∷ xs)) v e f =
    choice_size h g x xs v (nat_lt (length (x ∷ xs)) (least_count h)) e

pub closes_is : (closed : Trees) (ops : List Partial) (p : Partial) (rest : List Partial)
    (frame : ℕ) (v : Tree) → ops ≡ p ∷ rest → frame ≡ length ops → closed_value p ≡ Some v →
    takes_trees rest ≡ true → state_after_pop closed ops frame ≡ Some (after closed rest v)
closes_is closed ops p rest frame v e f g h =
    ap (λ l. state_after_pop closed l frame) e
    ∙ ap (λ b. cond b (elim (closed_value p) as (λ _. Option State)
    [ Some w ↦ state_with_value closed rest w | None ↦ None ]) None)
    (eq-eqb frame (length (p ∷ rest)) (f ∙ ap length e))
    ∙ ap (λ (x : Option Tree). elim x as (λ _. Option State)
    [ Some w ↦ state_with_value closed rest w | None ↦ None ]) g
    ∙ placed_is closed rest v h

pub closes_not : (closed : Trees) (ops : List Partial) (p : Partial) (rest : List Partial)
    (frame : ℕ) → ops ≡ p ∷ rest → closed_value p ≡ None → state_after_pop closed ops frame ≡ None
closes_not closed ops p rest frame e g =
    ap (λ l. state_after_pop closed l frame) e
    ∙ ap (λ (x : Option Tree). cond (nat_eq frame (length (p ∷ rest)))
    (elim x as (λ _. Option State) [ Some w ↦ state_with_value closed rest w | None ↦ None ]) None) g
    ∙ same_none (nat_eq frame (length (p ∷ rest)))

pub closes_other : (closed : Trees) (ops : List Partial) (frame : ℕ) →
    nat_eq frame (length ops) ≡ false → state_after_pop closed ops frame ≡ None
closes_other closed [] frame e = refl
closes_other closed (p ∷ rest) frame e =
    ap (λ b. cond b (elim (closed_value p) as (λ _. Option State)
    [ Some w ↦ state_with_value closed rest w | None ↦ None ]) None) e

pub is_value : (o : Option Tree) → is_some o ≡ true → (v : Tree) × (o ≡ Some v)
is_value (Some v) e = (v, refl)
is_value None e = absurd (cc)

pub is_no_value : (o : Option Tree) → is_some o ≡ false → o ≡ None
is_no_value (Some v) e = absurd (cc)
is_no_value None e = refl

-- so a value that an open tree becomes leaves every size as it is
pub closed_fit : (rest : List Partial) (p : Partial) (v : Tree) → closed_value p ≡ Some v → IsFair p →
    takes_trees rest ≡ true → IsNested rest → all_fit (extent (own_size p)) rest ≡ true →
    all_fit 0 (trees_with_value rest v) ≡ true
closed_fit rest p v e f h k fit =
    added_fit rest v (extent (own_size p)) (ap extent (sym (finished_size p v e f))) h k
    ∙ sym (inside_fit rest (extent (own_size p)) (1 + (own_size p + 7) / 8) (omega arith) h k)
    ∙ fit

pub is_closed : (old new : BuilderFields) (s : State) (o : BegunPod) (p : Partial) (rest : List Partial)
    (v : Tree) → Closing old s o p rest → closed_value p ≡ Some v →
    new.bytes ≡ (member_encodings s.closed ++ all_so_far rest) ++ encoded_pod (type_of_partial p)
    (body_so_far p) → new.frames ≡ frames_of (length (member_encodings s.closed)) (trees_with_value rest v) →
    IsAt new (after s.closed rest v)
is_closed old new s o p rest v k e b f =
    is_after s.closed rest v (member_encodings s.closed ++ all_so_far rest) new refl k.nested
    k.takes
    (b ∙ ap (λ l. (member_encodings s.closed ++ all_so_far rest) ++ l)
    (finished_encoding p v e k.fair)) f (closed_fit rest p v e k.fair k.takes k.nested k.fit)

-- ---- a key

pub takes_key_is : (ops : List Partial) → takes_key ops ≡ true →
    (t : ℕ) × (i : ℕ) × (qs : Properties) × (ps : List Partial) × (ops ≡ open_object t i qs ∷ ps)
takes_key_is (open_object t i qs ∷ ps) h = (t, i, qs, ps, refl)
takes_key_is _ h = absurd (cc)

pub keyed_not : (closed : Trees) (ops : List Partial) (k f : ℕ) → takes_key ops ≡ false →
    state_with_key closed ops k f ≡ None
keyed_not closed (open_object t i qs ∷ ps) k f h = absurd (cc)
keyed_not closed _ k f h = refl

pub key_more : (t i : ℕ) (qs : Properties) (k f : ℕ) (ps : List Partial) →
    all_so_far (open_property t i qs k f ∷ ps) ≡ all_so_far (open_object t i qs ∷ ps) ++
    (word_bytes k ++ word_bytes f)
key_more t i qs k f ps = simp append_assoc

pub keyed_fit : (t i : ℕ) (qs : Properties) (k f : ℕ) (ps : List Partial) →
    IsNested (open_object t i qs ∷ ps) → all_fit 0 (open_property t i qs k f ∷ ps) ≡ has_room_for 8
    (open_object t i qs ∷ ps)
keyed_fit t i qs k f ps n =
    let e0 = two_words_length k f in
    let e1 = length-append (all_so_far (open_object t i qs ∷ ps)) (word_bytes k ++ word_bytes f) in
    one_size_decides (open_property t i qs k f ∷ ps) n
    ∙ room_later (open_object t i qs ∷ ps) (open_property t i qs k f ∷ ps) 8 refl
    (ap length (key_more t i qs k f ps) ∙ omega arith)

pub is_keyed : (new : BuilderFields) (closed : Trees) (t i : ℕ) (qs : Properties) (k f : ℕ)
    (ps : List Partial) (old : List ℕ) →
    old ≡ member_encodings closed ++ all_so_far (open_object t i qs ∷ ps) →
    IsNested (open_object t i qs ∷ ps) → new.bytes ≡ old ++ (word_bytes k ++ word_bytes f) →
    new.frames ≡ frames_of (length (member_encodings closed)) (open_property t i qs k f ∷ ps) →
    all_fit 0 (open_property t i qs k f ∷ ps) ≡ true →
    IsAt new (record { closed = closed; opened = open_property t i qs k f ∷ ps })
is_keyed new closed t i qs k f ps old e n b g fit = record {
  bytes = b ∙ ap (λ l. l ++ (word_bytes k ++ word_bytes f)) e
      ∙ append_assoc (member_encodings closed) (all_so_far (open_object t i qs ∷ ps))
      (word_bytes k ++ word_bytes f)
      ∙ ap (λ l. member_encodings closed ++ l) (sym (key_more t i qs k f ps));
  frames = g;
  nested = n;
  fit = fit;
}

pub sized_inval : (A : Type 0) (b : Bool) (o : Option State) (old : BuilderFields) → o ≡ None →
    Makes {A = A} (outcome_if_fits b o) old old (Err INVAL)
sized_inval A b o old e = subst (λ p. Makes {A = A} (outcome_if_fits b p) old old (Err INVAL)) (sym e)
    (refl, refl)

-- ---- the builder

pub at_start : (xs : List ℕ) (fs : List BegunPod) → xs ≡ [] → fs ≡ [] → IsAt (fields_of xs fs) start
at_start xs fs b f = record { bytes = b; frames = f; nested = tt; fit = refl }

pub kept_made : {A : Type 0} (o : Outcome) (old new : BuilderFields) (r : Result A Errno) → HasState old →
    Makes o old new r → HasState new
kept_made (Accepts s) old new (Ok x) h m = (s, m)
kept_made (Accepts s) old new (Err e) h m = subst HasState (sym m.1) h
kept_made Inval old new (Ok x) h m = absurd m
kept_made Inval old new (Err e) h m = subst HasState (sym m.1) h
kept_made Nospc old new (Ok x) h m = absurd m
kept_made Nospc old new (Err e) h m = subst HasState (sym m.1) h

-- whatever a call makes, the builder holds a state
pub kept : {A : Type 0} (o : State → Outcome) (old new : BuilderFields) (r : Result A Errno) → HasState old →
    ((s : State) → IsAt old s → Makes (o s) old new r) → HasState new
kept o old new r h f = kept_made (o h.0) old new r h (f h.0 h.1)

-- a tree of no fixed size isn't an element
pub no_element : (closed : Trees) (ps : List Partial) (v : Tree) → ((x : Fixed) → v ≢ fixed x) →
    takes_trees ps ≡ false → state_with_value closed ps v ≡ None
no_element closed [] v n h = absurd (cc)
no_element closed (open_struct vs ∷ ps) v n h = absurd (cc)
no_element closed (open_property t i qs k f ∷ ps) v n h = absurd (cc)
no_element closed (open_array xs ∷ ps) (fixed x) n h = absurd (n x refl)
no_element closed (open_choice k f xs ∷ ps) (fixed x) n h = absurd (n x refl)
no_element closed _ _ n h = refl

pub spells : (h : BuilderFields) (s : State) → IsAt h s → Spells h.bytes s
spells h s at = record {
  begin = (all_so_far s.opened, at.bytes);
  all = λ e. at.bytes ∙ ap (λ l. member_encodings s.closed ++ all_so_far l) e
      ∙ append-nil (member_encodings s.closed);
}

-- what the fields of the builder make, its value makes
pub through : {A : Type 0} (o : State → Outcome) (old old' new : BuilderFields) (r : Result A Errno) →
    old ≡ old' → ((s : State) → IsAt old s → Makes (o s) old new r) → (s : State) → IsAt old' s →
    Makes (o s) old' new r
through o old old' new r e f = subst (λ h. (s : State) → IsAt h s → Makes (o s) h new r) e f

pub nul_refused : (b : Bool) (o : Outcome) (old : BuilderFields) → b ≡ true →
    Makes {A = Unit {0}} (cond b Inval o) old old (Err INVAL)
nul_refused b o old e = subst (λ c. Makes {A = Unit {0}} (cond c Inval o) old old (Err INVAL))
    (sym e) (refl, refl)

pub without_nul : {A : Type 0} (b : Bool) (o : Outcome) (old new : BuilderFields) (r : Result A Errno) →
    b ≡ false → Makes o old new r → Makes (cond b Inval o) old new r
without_nul {A = A} b o old new r e m = subst (λ c. Makes {A = A} (cond c Inval o) old new r)
    (sym e) m
