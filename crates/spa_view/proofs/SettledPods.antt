-- What stands in a None choice's pod, and that any other pod stays as it is.
use Rattle.std.proofs.Common.{◌≡◌, ◌≢◌, ℕ, ◌+◌, ◌-◌, ◌<◌, ◌≤◌, inl, ⊎_elim, List, length, take, drop, true, false, refl, sym, ap, ◌∙◌, subst, arith, length-drop}
use Rattle.std.specs.Prelude.{Bool, if◌then◌else◌, nat_eq, nat_le, ◌&&◌}
use Rattle.std.proofs.lemmas.Bool.{le-leb, ne_eqb, lt-leb}
use Rattle.std.proofs.lemmas.List.{drop-drop, drop-take, take-take, length-take-le}
use Rattle.spa_format.specs.Words.{word_at, extent, body_of}
use Rattle.spa_format.specs.Kind.{Kind, Fixed, kind_of, type_number, IsFixedBody}
use Rattle.spa_format.specs.Tree.{Shape, none_choice, range_choice, step_choice, enum_choice, flags_choice, shape_number, Tree, fixed, string, bytes, bitmap, array, choice, pointer, struct, object, type_of}
use Rattle.spa_format.specs.Pod.{IsWhole, IsChoice, IsPod}
use Rattle.spa_format.specs.Front.{HasFront, front_of}
use Rattle.spa_format.specs.Fixation.{is_choice_pod}
use Rattle.spa_format.specs.Lenient.{HasChild, HasFixedChild, ConveysBody, Conveys}
use Rattle.spa_format.proofs.Conveyed.{by_shape, pod_conveys}
use Rattle.spa_format.proofs.FixedKinds.{number_is, kind_of_body}
use Rattle.spa_format.proofs.Fronts.{whole_front}
use Rattle.spa_format.proofs.WordLemmas.{word_at-take, word_at-drop}
use Rattle.spa_format.proofs.FixationLemmas.{never}
use Rattle.spa_view.specs.Settled.{holds_value, settled_bytes, settled_of}

-- a word of a body, in its pod
word_of_body : (b : List ℕ) (i : ℕ) → i + 4 ≤ word_at b 0 → word_at (body_of b) i ≡ word_at b (8 + i)
word_of_body b i l = word_at-take (word_at b 0) i (drop 8 b) l ∙ word_at-drop 8 i b

word_behind : (b : List ℕ) (i : ℕ) → 12 + i ≤ word_at b 0 → word_at (drop 8 (body_of b)) i ≡ word_at b (16 + i)
word_behind b i l =
    word_at-drop 8 i (body_of b) ∙ word_of_body b (8 + i) (omega arith)
    ∙ ap (word_at b) (let e : 8 + (8 + i) ≡ 16 + i = omega arith in e)

pub stays : (b : List ℕ) → holds_value b ≡ false → settled_bytes b ≡ b
stays b e = ap (λ t. if t then front_of (drop 16 b) else b) e

pub other_type : (b : List ℕ) → word_at b 4 ≢ 19 → settled_bytes b ≡ b
other_type b n =
    stays b (ap (λ t. (t && nat_le 16 (word_at b 0)) && (nat_eq (word_at b 8) 0 && nat_le (16 + word_at b 16) (word_at b 0))) (ne_eqb (word_at b 4) 19 n))

shape_of : (s t : Bool) → (s && (false && t)) ≡ false
shape_of true t = refl
shape_of false t = refl

pub other_shape : (b : List ℕ) → word_at b 8 ≢ 0 → settled_bytes b ≡ b
other_shape b n =
    let t = nat_le (16 + word_at b 16) (word_at b 0) in
    stays b (ap (λ s. is_choice_pod b && (s && t)) (ne_eqb (word_at b 8) 0 n) ∙ shape_of (is_choice_pod b) t)

-- the value of a None choice, where it is whole
pub holds : (b : List ℕ) → word_at b 4 ≡ 19 → 16 ≤ word_at b 0 → word_at b 8 ≡ 0 → 16 + word_at b 16 ≤ word_at b 0 →
    holds_value b ≡ true
holds b t l s c =
    let of_type = ap (λ n. nat_eq n 19) t in
    let of_size = le-leb 16 (word_at b 0) l in
    let of_shape = ap (λ n. nat_eq n 0) s in
    let inside = le-leb (16 + word_at b 16) (word_at b 0) c in
    rw (of_type, of_size, of_shape, inside) refl

pub runs_past : (b : List ℕ) → word_at b 0 < 16 + word_at b 16 → holds_value b ≡ false
runs_past b l =
    ap (λ t. is_choice_pod b && (nat_eq (word_at b 8) 0 && t)) (lt-leb (16 + word_at b 16) (word_at b 0) l)
    ∙ never (is_choice_pod b) (nat_eq (word_at b 8) 0)

pub value_seen : (b : List ℕ) → holds_value b ≡ true → settled_bytes b ≡ front_of (drop 16 b)
value_seen b e = ap (λ z. if z then front_of (drop 16 b) else b) e

-- the pod of that value is there
pub value_front : (b : List ℕ) → length b ≡ extent (word_at b 0) → 16 + word_at b 16 ≤ word_at b 0 → HasFront (drop 16 b)
value_front b w c =
    let e = word_at-drop 16 0 b in
    let d = length-drop 16 b in
    record { header = omega arith; whole = rw e (omega arith) }

-- A child in a choice's body, as the pod that it is.
pub child_seen : (b : List ℕ) (type : ℕ) (child : List ℕ) (P : List ℕ → Type 0) → length b ≡ extent (word_at b 0) → word_at b 4 ≡ 19 →
    HasChild type child (body_of b) → P child → IsWhole (settled_bytes b) type P
child_seen b type child P w t h p =
    let n = word_at b 0 in
    let d = length-drop 8 b in
    let all : length (body_of b) ≡ n = length-take-le n (drop 8 b) (omega arith) in
    let d8 = length-drop 8 (body_of b) in
    let d16 = length-drop 8 (drop 8 (body_of b)) in
    let l = h.headers in
    let inside = h.whole in
    let c : word_at (drop 8 (body_of b)) 0 ≡ word_at b 16 = word_behind b 0 (omega arith) in
    let size = word_at-drop 16 0 b in
    let shape : word_at b 8 ≡ 0 = sym (word_of_body b 0 (omega arith)) ∙ h.shape in
    let its_type : word_at (drop 16 b) 4 ≡ type = word_at-drop 16 4 b ∙ sym (word_behind b 4 (omega arith)) ∙ h.its_type in
    let m = word_at b 16 in
    let same : child ≡ body_of (drop 16 b) =
    h.body
    ∙ ap (λ k. take k (drop 8 (drop 8 (body_of b)))) c
    ∙ ap (take m) (drop-drop 8 8 (body_of b))
    ∙ ap (λ k. take m (drop 16 (take k (drop 8 b)))) (let e : n ≡ 16 + (n - 16) = omega arith in e)
    ∙ ap (take m) (drop-take 16 (n - 16) (drop 8 b) ∙ ap (take (n - 16)) (drop-drop 16 8 b))
    ∙ take-take m (n - 16) (drop 24 b) (omega arith)
    ∙ ap (λ k. take k (drop 24 b)) (sym size)
    ∙ ap (take (word_at (drop 16 b) 0)) (sym (drop-drop 8 16 b)) in
    subst (λ z. IsWhole z type P) (sym (value_seen b (holds b t (omega arith) shape (omega arith))))
    (whole_front (drop 16 b) type P (value_front b w (omega arith)) its_type (subst P same p))

-- What a pod conveys, its settled view conveys, and of a None choice the value.

of_itself : (v : Tree) (b : List ℕ) → type_of v ≢ 19 → Conveys b v → Conveys (settled_bytes b) v
of_itself v b n h =
    ⊎_elim
    (λ q. subst (λ z. Conveys z v) (sym (other_type b (λ e. n (sym q.0 ∙ e)))) h)
    (λ q. let w = child_seen b (type_of v) q.2 (ConveysBody v) h.whole q.0 q.3 q.4 in record { whole = w.whole; content = inl (w.its_type, w.content) })
    h.content

fixed_type : (x : Fixed) → type_number (kind_of x) ≢ 19
fixed_type x e = let n = number_is (kind_of x) in omega (arith, n, e)

fixed_child : (b : List ℕ) (k : Kind) (x : Fixed) → length b ≡ extent (word_at b 0) → word_at b 4 ≡ 19 → HasFixedChild k x (body_of b) →
    IsWhole (settled_bytes b) (type_number (kind_of x)) (λ c. IsFixedBody (kind_of x) c x)
fixed_child b k x w t h =
    let e = sym (kind_of_body k h.child x h.says) in
    subst (λ l. IsWhole (settled_bytes b) (type_number l) (λ c. IsFixedBody l c x)) e
    (child_seen b (type_number k) h.child (λ c. IsFixedBody k c x) w t h.there h.says)

-- a choice of another shape than None stays
shaped : (s : Shape) (f : ℕ) (k : Kind) (x : Fixed) (xs : List Fixed) (b : List ℕ) → length b ≡ extent (word_at b 0) →
    IsChoice s f k x xs (body_of b) → 0 < shape_number s → settled_bytes b ≡ b
shaped s f k x xs b w h l =
    let d = length-drop 8 b in
    let all : length (body_of b) ≡ word_at b 0 = length-take-le (word_at b 0) (drop 8 b) (omega arith) in
    let head = h.header in
    let e = word_of_body b 0 (omega arith) in
    let shape = h.shape in
    other_shape b (λ z. omega arith)

-- a choice of another shape than None conveys itself
shape_conveyed : (s : Shape) (f : ℕ) (k : Kind) (x : Fixed) (xs : List Fixed) (b : List ℕ) → 0 < shape_number s →
    settled_of (choice s f k x xs) ≡ choice s f k x xs → Conveys b (choice s f k x xs) →
    Conveys (settled_bytes b) (settled_of (choice s f k x xs))
shape_conveyed s f k x xs b l e h =
    ⊎_elim
    (λ q.
    let same = ⊎_elim (λ m. absurd (let z = ap shape_number m.0 in omega arith)) (λ m. shaped s f k x xs b h.whole m.1 l) (by_shape s f k x xs (body_of b) q.1) in
    subst (λ v. Conveys (settled_bytes b) v) (sym e) (subst (λ z. Conveys z (choice s f k x xs)) (sym same) h))
    (λ q. absurd q.1)
    h.content

choice_conveyed : (s : Shape) (f : ℕ) (k : Kind) (x : Fixed) (xs : List Fixed) (b : List ℕ) → Conveys b (choice s f k x xs) →
    Conveys (settled_bytes b) (settled_of (choice s f k x xs))
choice_conveyed none_choice f k x xs b h =
    ⊎_elim
    (λ q. let w = fixed_child b k x h.whole q.0 q.1.2 in record { whole = w.whole; content = inl (w.its_type, w.content) })
    (λ q. absurd q.1)
    h.content
choice_conveyed range_choice f k x xs b h = shape_conveyed range_choice f k x xs b (omega arith) refl h
choice_conveyed step_choice f k x xs b h = shape_conveyed step_choice f k x xs b (omega arith) refl h
choice_conveyed enum_choice f k x xs b h = shape_conveyed enum_choice f k x xs b (omega arith) refl h
choice_conveyed flags_choice f k x xs b h = shape_conveyed flags_choice f k x xs b (omega arith) refl h

pub settled_conveys : (v : Tree) (b : List ℕ) → Conveys b v → Conveys (settled_bytes b) (settled_of v)
settled_conveys (fixed x) b h = of_itself (fixed x) b (fixed_type x) h
settled_conveys (string s) b h = of_itself (string s) b (λ e. omega arith) h
settled_conveys (bytes s) b h = of_itself (bytes s) b (λ e. omega arith) h
settled_conveys (bitmap s) b h = of_itself (bitmap s) b (λ e. omega arith) h
settled_conveys (array k xs) b h = of_itself (array k xs) b (λ e. omega arith) h
settled_conveys (choice s f k x xs) b h = choice_conveyed s f k x xs b h
settled_conveys (pointer t a) b h = of_itself (pointer t a) b (λ e. omega arith) h
settled_conveys (struct vs) b h = of_itself (struct vs) b (λ e. omega arith) h
settled_conveys (object t i ps) b h = of_itself (object t i ps) b (λ e. omega arith) h

-- What a pod is of, its settled view is of, and of a None choice the value.

of_pod : (v : Tree) (b : List ℕ) → type_of v ≢ 19 → IsPod b v → IsPod (settled_bytes b) v
of_pod v b n h = subst (λ z. IsPod z v) (sym (other_type b (λ e. n (sym h.its_type ∙ e)))) h

shape_pod : (s : Shape) (f : ℕ) (k : Kind) (x : Fixed) (xs : List Fixed) (b : List ℕ) → 0 < shape_number s →
    settled_of (choice s f k x xs) ≡ choice s f k x xs → IsPod b (choice s f k x xs) → IsPod (settled_bytes b) (settled_of (choice s f k x xs))
shape_pod s f k x xs b l e h =
    subst (λ v. IsPod (settled_bytes b) v) (sym e)
    (subst (λ z. IsPod z (choice s f k x xs)) (sym (shaped s f k x xs b h.whole h.content l)) h)

none_pod : (f : ℕ) (k : Kind) (x : Fixed) (xs : List Fixed) (b : List ℕ) → IsPod b (choice none_choice f k x xs) →
    IsPod (settled_bytes b) (fixed x)
none_pod f k x xs b h =
    ⊎_elim (λ q. fixed_child b k x h.whole q.0 q.1.2) (λ q. absurd q.1) (pod_conveys b (choice none_choice f k x xs) h).content

pub settled_pod : (v : Tree) (b : List ℕ) → IsPod b v → IsPod (settled_bytes b) (settled_of v)
settled_pod (fixed x) b h = of_pod (fixed x) b (fixed_type x) h
settled_pod (string s) b h = of_pod (string s) b (λ e. omega arith) h
settled_pod (bytes s) b h = of_pod (bytes s) b (λ e. omega arith) h
settled_pod (bitmap s) b h = of_pod (bitmap s) b (λ e. omega arith) h
settled_pod (array k xs) b h = of_pod (array k xs) b (λ e. omega arith) h
settled_pod (choice none_choice f k x xs) b h = none_pod f k x xs b h
settled_pod (choice range_choice f k x xs) b h = shape_pod range_choice f k x xs b (omega arith) refl h
settled_pod (choice step_choice f k x xs) b h = shape_pod step_choice f k x xs b (omega arith) refl h
settled_pod (choice enum_choice f k x xs) b h = shape_pod enum_choice f k x xs b (omega arith) refl h
settled_pod (choice flags_choice f k x xs) b h = shape_pod flags_choice f k x xs b (omega arith) refl h
settled_pod (pointer t a) b h = of_pod (pointer t a) b (λ e. omega arith) h
settled_pod (struct vs) b h = of_pod (struct vs) b (λ e. omega arith) h
settled_pod (object t i ps) b h = of_pod (object t i ps) b (λ e. omega arith) h
