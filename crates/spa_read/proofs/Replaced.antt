-- What the lenient reading reads in the place of a body conveys what the body conveys, and nothing else.
use Rattle.std.proofs.Common.{◌≡◌, ◌≢◌, ℕ, ◌+◌, ◌<◌, ◌≤◌, ◌⊎◌, inl, inr, ⊎_elim, List, [], ◌∷◌, ◌++◌, length, take, drop, drop-drop, refl, sym, ap, ◌∙◌, subst, arith, length-append, length-drop, length-take, true, false}
use Rattle.std.specs.Prelude.{◌-◌, Decides}
use Rattle.std.proofs.lemmas.Bool.{cases_lt}
use Rattle.std.proofs.lemmas.List.{append_cancel_right, drop-take, take-take, length-take-le, nil_from_length, take_all}
use Rattle.spa_format.specs.Words.{word_at, body_of}
use Rattle.spa_format.specs.Kind.{Kind, Fixed, kind_of, type_number, body_size, IsFixedBody}
use Rattle.spa_format.specs.Tree.{Shape, none_choice, shape_number, Tree, fixed, string, bytes, bitmap, array, choice, pointer, struct, object, type_of, choice_type, string_type}
use Rattle.spa_format.specs.Pod.{IsText, IsArray, IsChoice, IsBody}
use Rattle.spa_format.specs.Lenient.{HasChild, HasFixedChild, ConveysText, ConveysChoice, ReplacesNoneChoice, ConveysBody}
use Rattle.spa_format.proofs.Shapes.{fixed_only, choice_only}
use Rattle.spa_format.proofs.FixedKinds.{number_is}
use Rattle.spa_format.proofs.Conveyed.{by_shape, choice_conveyed, same_child, same_text}
use Rattle.spa_format.proofs.WordLemmas.{word_at-drop, word_at-take}
use Rattle.spa_bodies.specs.Reading.{TakesMemory}
use Rattle.spa_read.specs.Reading.{IsNoneChoice, StaysChoice, ReadsText, all, first, ReadsBody, of_text, of_other, ReadsAs, same_type, stays, of_child, no_child, IsBodyIn}

-- what a body of this type conveys: as it is, or by a child
abbrev pub ConveysAs : ℕ → List ℕ → Tree → Type 0
ConveysAs type b v =
    ((type ≡ type_of v) × ConveysBody v b)
    ⊎ ((type ≡ choice_type) × ReplacesNoneChoice v × (child : List ℕ) × HasChild (type_of v) child b × ConveysBody v child)

-- Children.

child_type : (t : ℕ) (d b : List ℕ) → HasChild t d b → word_at b 12 ≡ t
child_type t d b h = sym (word_at-drop 8 4 b) ∙ h.its_type

is_none_choice : (t type : ℕ) (d b : List ℕ) → type ≡ choice_type → HasChild t d b → IsNoneChoice type b
is_none_choice t type d b e h = let l = h.headers in record { its_type = e; headers = omega arith; shape = h.shape }

-- a choice of another shape isn't of shape 0
other_shape : (s : Shape) (f : ℕ) (k : Kind) (x : Fixed) (xs : List Fixed) (b : List ℕ) → word_at b 0 ≡ 0 →
    0 < shape_number s → IsChoice s f k x xs b → ⊥
other_shape s f k x xs b z p h = let e = h.shape in omega arith

-- over such a type a None choice doesn't stay one
replaces : (v : Tree) → ¬ (StaysChoice (type_of v)) → ReplacesNoneChoice v
replaces (fixed x) n =
    elim (cases_lt 0 (body_size (kind_of x))) [
      | inl p ↦ absurd (n (inr (kind_of x, p, refl)))
      | inr l ↦ omega arith
    ]
replaces (choice s f k x xs) n = absurd (n (inl refl))
replaces _ n = tt

never_stays : (v : Tree) → ReplacesNoneChoice v → ¬ (StaysChoice (type_of v))
never_stays v r (inl e) =
    let i = choice_only v e in
    subst ReplacesNoneChoice i.5 r
never_stays v r (inr m) =
    let j = fixed_only v m.0 m.2 in
    let none : body_size (kind_of j.0) ≡ 0 = subst ReplacesNoneChoice j.2 r in
    let same = ap body_size j.1 in
    let sized = m.1 in
    omega arith

-- Bodies.

no_text : (v : Tree) (b c : List ℕ) → type_of v ≢ string_type → ReadsBody (type_of v) b c → c ≡ b
no_text v b c n (of_text e r) = absurd (n e)
no_text v b c n (of_other m e) = e

body_shorter : (t : ℕ) (b c : List ℕ) → ReadsBody t b c → length c ≤ length b
body_shorter t b c (of_text e (all n f)) = let l = ap length f in omega arith
body_shorter t b c (of_text e (first s surplus m parts last f)) =
    let e0 = ap length f ∙ length-append s (0 ∷ []) in
    let e1 = ap length parts ∙ length-append s (0 ∷ surplus) in
    omega arith
body_shorter t b c (of_other n e) = let l = ap length e in omega arith

-- of a text
text_conveyed : (s b c : List ℕ) → ReadsText b c → IsText s → c ≡ s ++ 0 ∷ [] → ConveysText s b
text_conveyed s b c (all n e) t f = absurd (n (s, sym e ∙ f))
text_conveyed s b c (first s' surplus m parts last e) t f =
    let same : s' ≡ s = append_cancel_right s' s (0 ∷ []) (sym e ∙ f) in
    record {
      text = t;
      surplus = surplus;
      parts = parts ∙ ap (λ l. l ++ 0 ∷ surplus) same;
      before = last.0;
      last = last.1;
    }

conveyed_text : (s b c : List ℕ) → ReadsText b c → ConveysText s b → c ≡ s ++ 0 ∷ []
conveyed_text s b c (all n e) h = absurd (n (h.before, h.last))
conveyed_text s b c (first s' surplus m parts last e) h =
    e ∙ ap (λ l. l ++ 0 ∷ []) (same_text s' s surplus h.surplus m h.text.no_nul (sym parts ∙ h.parts))

text_read : (s b c : List ℕ) → ReadsBody string_type b c → ReadsText b c
text_read s b c (of_text e r) = r
text_read s b c (of_other n e) = absurd (n refl)

-- what is read of a body conveys what the body does
body_conveyed : (v : Tree) (b c : List ℕ) → ReadsBody (type_of v) b c → IsBodyIn true v c → ConveysBody v b
body_conveyed (fixed x) b c r h =
    let e = no_text (fixed x) b c (λ e. let i = number_is (kind_of x) in grind arith) r in
    subst (λ l. IsFixedBody (kind_of x) l x) e h
body_conveyed (string s) b c r h = text_conveyed s b c (text_read s b c r) h.0 h.1
body_conveyed (bytes s) b c r h = sym (no_text (bytes s) b c (λ e. omega arith) r) ∙ h
body_conveyed (bitmap s) b c r h = sym (no_text (bitmap s) b c (λ e. omega arith) r) ∙ h
body_conveyed (array k xs) b c r h = subst (ConveysBody (array k xs)) (no_text (array k xs) b c (λ e. omega arith) r) h
body_conveyed (choice s f k x xs) b c r h =
    subst (ConveysBody (choice s f k x xs)) (no_text (choice s f k x xs) b c (λ e. omega arith) r) (choice_conveyed s f k x xs c h)
body_conveyed (pointer t a) b c r h = subst (ConveysBody (pointer t a)) (no_text (pointer t a) b c (λ e. omega arith) r) h
body_conveyed (struct vs) b c r h = subst (ConveysBody (struct vs)) (no_text (struct vs) b c (λ e. omega arith) r) h
body_conveyed (object t i ps) b c r h = subst (ConveysBody (object t i ps)) (no_text (object t i ps) b c (λ e. omega arith) r) h

-- and the other way round
conveyed_body : (v : Tree) (b c : List ℕ) → ¬ (IsNoneChoice (type_of v) b) → ReadsBody (type_of v) b c → ConveysBody v b → IsBodyIn true v c
conveyed_body (fixed x) b c n r h =
    let e = no_text (fixed x) b c (λ e. let i = number_is (kind_of x) in grind arith) r in
    subst (λ l. IsFixedBody (kind_of x) l x) (sym e) h
conveyed_body (string s) b c n r h = (h.text, conveyed_text s b c (text_read s b c r) h)
conveyed_body (bytes s) b c n r h = no_text (bytes s) b c (λ e. omega arith) r ∙ h
conveyed_body (bitmap s) b c n r h = no_text (bitmap s) b c (λ e. omega arith) r ∙ h
conveyed_body (array k xs) b c n r h =
    subst (ConveysBody (array k xs)) (sym (no_text (array k xs) b c (λ e. omega arith) r)) h
conveyed_body (choice s f k x xs) b c n r h =
    let e = no_text (choice s f k x xs) b c (λ e. omega arith) r in
    ⊎_elim
    (λ m. absurd (n (is_none_choice (type_number k) choice_type m.3.child b refl m.3.there)))
    (λ m. subst (IsBody (choice s f k x xs)) (sym e) m.1)
    (by_shape s f k x xs b h)
conveyed_body (pointer t a) b c n r h =
    subst (ConveysBody (pointer t a)) (sym (no_text (pointer t a) b c (λ e. omega arith) r)) h
conveyed_body (struct vs) b c n r h =
    subst (ConveysBody (struct vs)) (sym (no_text (struct vs) b c (λ e. omega arith) r)) h
conveyed_body (object t i ps) b c n r h =
    subst (ConveysBody (object t i ps)) (sym (no_text (object t i ps) b c (λ e. omega arith) r)) h

-- None choices that stay such.

-- the words of the headers are in what is read
record IsCut (b c : List ℕ) : Type 0 where
  long : 16 ≤ length c
  shape : word_at c 0 ≡ word_at b 0
  size : word_at (drop 8 c) 0 ≡ word_at (drop 8 b) 0
  type : word_at (drop 8 c) 4 ≡ word_at (drop 8 b) 4
  behind : drop 8 (drop 8 c) ≡ take (word_at (drop 8 b) 0) (drop 8 (drop 8 b))

cut : (b c : List ℕ) → 16 ≤ length b → c ≡ take (16 + word_at b 8) b → IsCut b c
cut b c l e =
    let n = word_at b 8 in
    let m : n ≡ word_at (drop 8 b) 0 = sym (word_at-drop 8 0 b) in
    let len = ap length e ∙ length-take (16 + n) b in
    let first : (i : ℕ) → i + 4 ≤ 16 → word_at c i ≡ word_at b i = λ i h.
    ap (λ y. word_at y i) e ∙ word_at-take (16 + n) i b (omega arith) in
    record {
      long = omega arith;
      shape = first 0 (omega arith);
      size = word_at-drop 8 0 c ∙ first 8 (omega arith) ∙ sym (word_at-drop 8 0 b);
      type = word_at-drop 8 4 c ∙ first 12 (omega arith) ∙ sym (word_at-drop 8 4 b);
      behind = ap (λ y. drop 8 (drop 8 y)) e
          ∙ ap (λ y. drop 8 (drop 8 (take y b))) (let z : 16 + n ≡ 8 + (8 + n) = omega arith in z)
          ∙ ap (drop 8) (drop-take 8 (8 + n) b) ∙ drop-take 8 n (drop 8 b)
          ∙ ap (λ y. take y (drop 8 (drop 8 b))) m;
    }

-- the child is in what is read
fixed_child : (k : Kind) (x : Fixed) (b c : List ℕ) → 16 ≤ length b → IsCut b c → HasFixedChild k x c → HasFixedChild k x b
fixed_child k x b c l i h =
    let n = word_at (drop 8 b) 0 in
    let behind = drop 8 (drop 8 b) in
    let z = h.there.whole in
    let e0 = i.size in
    let e1 = ap length i.behind ∙ length-take n behind in
    let fits : n ≤ length behind = omega arith in
    let same : body_of (drop 8 c) ≡ body_of (drop 8 b) =
    ap (λ m. take m (drop 8 (drop 8 c))) i.size ∙ ap (take n) i.behind ∙ take-take n n behind (omega arith) in
    let there : HasChild (type_number k) h.child b = record {
      headers = omega arith;
      shape = sym i.shape ∙ h.there.shape;
      its_type = sym i.type ∙ h.there.its_type;
      whole = fits;
      body = h.there.body ∙ same;
    } in
    record { sized = h.sized; child = h.child; there = there; says = h.says }

-- and what is read is a choice of it alone
cut_choice : (k : Kind) (x : Fixed) (b c : List ℕ) → IsCut b c → HasFixedChild k x b → IsChoice none_choice 0 k x [] c
cut_choice k x b c i h =
    let n = word_at (drop 8 b) 0 in
    let d = h.child in
    let size = body_size k in
    let its : drop 8 (drop 8 c) ≡ d = i.behind ∙ sym h.there.body in
    let whole = h.says.whole in
    let e0 = ap length h.there.body ∙ length-take-le n (drop 8 (drop 8 b)) h.there.whole in
    let sized : n ≡ size = omega arith in
    let z = h.there.headers in
    let l = i.long in
    let e1 = length-drop 8 c in
    let taken : take size (drop 8 (drop 8 c)) ≡ d = ap (take size) its ∙ take-whole size d whole in
    let nothing : drop size (drop 8 (drop 8 c)) ≡ [] =
    ap (drop size) its ∙ nil_from_length (drop size d) (let e = length-drop size d in omega arith) in
    let values : IsArray k (x ∷ []) (drop 8 c) = record {
      header = omega arith;
      child_size = i.size ∙ sized;
      child_type = i.type ∙ h.there.its_type;
      elements = (h.sized, subst (λ y. IsFixedBody k y x) (sym taken) h.says, nothing);
    } in
    record {
      header = omega arith;
      shape = i.shape ∙ h.there.shape;
      flags = refl;
      all = [];
      values = values;
      enough = omega arith;
      first = refl;
    }
  where
    take-whole : (n : ℕ) (xs : List ℕ) → length xs ≡ n → take n xs ≡ xs
    take-whole n xs e = take_all n xs (omega arith)

-- What is read in the place of a body.

stays_conveyed : (v : Tree) (b c : List ℕ) → IsNoneChoice choice_type b → IsCut b c → type_of v ≡ choice_type →
    IsBodyIn true v c → ConveysBody v b
stays_conveyed v b c n i e h =
    let j = choice_only v e in
    let h' : IsChoice j.0 j.1 j.2 j.3 j.4 c = subst (λ w. IsBodyIn true w c) j.5 h in
    subst (λ w. ConveysBody w b) (sym j.5)
    (⊎_elim
    (λ m. let e0 = m.0 in let e1 = m.1 in let e2 = m.2 in
    let same : choice none_choice 0 j.2 j.3 [] ≡ choice j.0 j.1 j.2 j.3 j.4 = cc in
    subst (λ w. ConveysBody w b) same (refl, refl, fixed_child j.2 j.3 b c n.headers i m.3))
    (λ m. absurd (other_shape j.0 j.1 j.2 j.3 j.4 c (i.shape ∙ n.shape) m.0 m.1))
    (by_shape j.0 j.1 j.2 j.3 j.4 c (choice_conveyed j.0 j.1 j.2 j.3 j.4 c h')))

-- where a body of another shape would be, or of a kind
conveyed_stays : (v : Tree) (b c : List ℕ) → IsNoneChoice choice_type b → IsCut b c → type_of v ≡ choice_type →
    ConveysBody v b → IsBodyIn true v c
conveyed_stays v b c n i e h =
    let j = choice_only v e in
    let h' : ConveysChoice j.0 j.1 j.2 j.3 j.4 b = subst (λ w. ConveysBody w b) j.5 h in
    subst (λ w. IsBodyIn true w c) (sym j.5)
    (⊎_elim
    (λ m. let e0 = m.0 in let e1 = m.1 in let e2 = m.2 in
    let same : choice none_choice 0 j.2 j.3 [] ≡ choice j.0 j.1 j.2 j.3 j.4 = cc in
    subst (λ w. IsBodyIn true w c) same (cut_choice j.2 j.3 b c i m.3))
    (λ m. absurd (other_shape j.0 j.1 j.2 j.3 j.4 b n.shape m.0 m.1))
    (by_shape j.0 j.1 j.2 j.3 j.4 b h'))

-- a None choice that conveys a choice stays one
conveys_kind : (v : Tree) (b : List ℕ) → IsNoneChoice choice_type b → type_of v ≡ choice_type → ConveysBody v b →
    StaysChoice (word_at b 12)
conveys_kind v b n e h =
    let j = choice_only v e in
    let h' : ConveysChoice j.0 j.1 j.2 j.3 j.4 b = subst (λ w. ConveysBody w b) j.5 h in
    ⊎_elim
    (λ m. inr (j.2, m.3.sized, child_type (type_number j.2) m.3.child b m.3.there))
    (λ m. absurd (other_shape j.0 j.1 j.2 j.3 j.4 b n.shape m.0 m.1))
    (by_shape j.0 j.1 j.2 j.3 j.4 b h')

of_choice : (type : ℕ) (b : List ℕ) → IsNoneChoice type b → IsNoneChoice choice_type b
of_choice type b n = record { its_type = refl; headers = n.headers; shape = n.shape }

-- it conveys what the body does,
pub as_conveyed : (type : ℕ) (b : List ℕ) (read_type : ℕ) (read : List ℕ) (v : Tree) → ReadsAs type b read_type read →
    type_of v ≡ read_type → IsBodyIn true v read → ConveysAs type b v
as_conveyed type b u c v (same_type n e r) t h =
    let same : type ≡ type_of v = sym e ∙ sym t in
    inl (same, body_conveyed v b c (subst (λ y. ReadsBody y b c) same r) h)
as_conveyed type b u c v (stays n s e d) t h =
    inl (n.its_type ∙ sym (t ∙ e), stays_conveyed v b c (of_choice type b n) (cut b c n.headers d) (t ∙ e) h)
as_conveyed type b u c v (of_child d n s i r) t h =
    inr (
      n.its_type,
      replaces v (subst (λ y. ¬ (StaysChoice y)) (sym t) s),
      d,
      subst (λ y. HasChild y d b) (sym t) i,
      body_conveyed v d c (subst (λ y. ReadsBody y d c) (sym t) r) h,
    )
as_conveyed type b u c v (no_child n s l e d) t h =
    let j = choice_only v (t ∙ e) in
    let h' : IsChoice j.0 j.1 j.2 j.3 j.4 c = subst (λ w. IsBodyIn true w c) j.5 h in
    absurd (let z = h'.header in let y = ap length d in omega arith)

-- and nothing else.
pub conveyed_as : (type : ℕ) (b : List ℕ) (read_type : ℕ) (read : List ℕ) (v : Tree) → ReadsAs type b read_type read →
    ConveysAs type b v → (type_of v ≡ read_type) × IsBodyIn true v read
conveyed_as type b u c v (same_type n e r) (inl h) =
    (sym h.0 ∙ sym e, conveyed_body v b c (subst (λ y. ¬ (IsNoneChoice y b)) h.0 n) (subst (λ y. ReadsBody y b c) h.0 r) h.1)
conveyed_as type b u c v (same_type n e r) (inr h) = absurd (n (is_none_choice (type_of v) type h.2 b h.0 h.3))
conveyed_as type b u c v (stays n s e d) (inl h) =
    let t : type_of v ≡ choice_type = sym h.0 ∙ n.its_type in
    (t ∙ sym e, conveyed_stays v b c (of_choice type b n) (cut b c n.headers d) t h.1)
conveyed_as type b u c v (stays n s e d) (inr h) =
    absurd (never_stays v h.1 (subst StaysChoice (child_type (type_of v) h.2 b h.3) s))
conveyed_as type b u c v (of_child d n s i r) (inl h) =
    absurd (s (subst StaysChoice (child_type u d b i) (conveys_kind v b (of_choice type b n) (sym h.0 ∙ n.its_type) h.1)))
conveyed_as type b u c v (of_child d n s i r) (inr h) =
    let e = same_child (type_of v) u h.2 d b h.3 i in
    let other : ¬ (IsNoneChoice (type_of v) d) = λ m. never_stays v h.1 (inl m.its_type) in
    (e.0, conveyed_body v d c other (subst (λ y. ReadsBody y d c) (sym e.0) r) (subst (ConveysBody v) e.1 h.4))
conveyed_as type b u c v (no_child n s l e d) (inl h) =
    absurd (s (conveys_kind v b (of_choice type b n) (sym h.0 ∙ n.its_type) h.1))
conveyed_as type b u c v (no_child n s l e d) (inr h) =
    let w = h.3.whole in
    let m = word_at-drop 8 0 b in
    let e0 = length-drop 8 (drop 8 b) in
    let e1 = length-drop 8 b in
    let z = n.headers in
    absurd (omega arith)

-- Sizes and memory.

-- what is read is no longer
pub read_shorter : (type : ℕ) (b : List ℕ) (read_type : ℕ) (read : List ℕ) → ReadsAs type b read_type read → length read ≤ length b
read_shorter type b u c (same_type n e r) = body_shorter type b c r
read_shorter type b u c (stays n s e d) = let e0 = ap length d ∙ length-take (16 + word_at b 8) b in omega arith
read_shorter type b u c (of_child d n s i r) =
    let l = body_shorter u d c r in
    let e0 = ap length i.body ∙ length-take-le (word_at (drop 8 b) 0) (drop 8 (drop 8 b)) i.whole in
    let w = i.whole in
    let e1 = length-drop 8 (drop 8 b) in
    let e2 = length-drop 8 b in
    omega arith
read_shorter type b u c (no_child n s l e d) = let e0 = ap length d in omega arith

-- where it takes memory, the pod's type does
pub takes_as : (type : ℕ) (b : List ℕ) (read_type : ℕ) (read : List ℕ) → ReadsAs type b read_type read → TakesMemory read_type →
    TakesMemory type
takes_as type b u c (same_type n e r) m = subst TakesMemory e m
takes_as type b u c (stays n s e d) m = inr (inr (inr (inr (inr (inr n.its_type)))))
takes_as type b u c (of_child d n s i r) m = inr (inr (inr (inr (inr (inr n.its_type)))))
takes_as type b u c (no_child n s l e d) m = inr (inr (inr (inr (inr (inr n.its_type)))))

-- Where the code finds them.

pub kind_stays : (k : Kind) (t : ℕ) → 0 < body_size k → t ≡ type_number k → Decides true (StaysChoice t)
kind_stays k t p e = (λ _. inr (k, p, e), λ _. refl)

pub never_read : (t : ℕ) → (StaysChoice t → false ≡ true) → ¬ (StaysChoice t)
never_read t f s = let e = f s in cc

pub never_choice : (t : ℕ) (b : List ℕ) → (IsNoneChoice t b → false ≡ true) → ¬ (IsNoneChoice t b)
never_choice t b f s = let e = f s in cc

pub child_there : (b : List ℕ) (n t : ℕ) → IsNoneChoice choice_type b → n ≡ word_at b 8 → t ≡ word_at b 12 → 16 + n ≤ length b →
    HasChild t (take (16 + n - 16) (drop 16 b)) b
child_there b n t i e f l =
    let z = i.headers in
    let size : n ≡ word_at (drop 8 b) 0 = e ∙ sym (word_at-drop 8 0 b) in
    let behind : drop 16 b ≡ drop 8 (drop 8 b) = sym (drop-drop 8 8 b) in
    let d0 = length-drop 8 (drop 8 b) in
    let d1 = length-drop 8 b in
    record {
      headers = omega arith;
      shape = i.shape;
      its_type = word_at-drop 8 4 b ∙ sym f;
      whole = omega arith;
      body = ap (λ m. take m (drop 16 b)) (let y : 16 + n - 16 ≡ n = omega arith in y ∙ size) ∙ ap (take (word_at (drop 8 b) 0)) behind;
    }
