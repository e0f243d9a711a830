-- For what bytes convey there is a pod that is no longer than they are, and so the encoding is one.
use Rattle.std.proofs.Common.{◌≡◌, ℕ, ◌-◌, ◌<◌, ◌≤◌, ◌^◌, ⊎_elim, List, [], ◌∷◌, ◌++◌, length, take, drop, refl, sym, ap, ◌∙◌, subst, arith, length-append, length-drop, length-take}
use Rattle.spa_format.specs.Words.{word_at, extent, padded_size, body_of}
use Rattle.spa_format.specs.Tree.{Shape, none_choice, Tree, fixed, string, bytes, bitmap, array, choice, pointer, struct, object, Trees, no_trees, member, Properties, no_properties, property, type_of}
use Rattle.std.proofs.lemmas.List.{drop_at}
use Rattle.spa_format.specs.Kind.{Kind, Fixed, fixed_body}
use Rattle.spa_format.specs.Pod.{IsBody, AreMembers, AreProperties, IsPod}
use Rattle.spa_format.specs.Typed.{IsBytes, AreOf, IsTyped, AllTyped, AllPropertiesTyped}
use Rattle.spa_format.specs.Writable.{IsWritable}
use Rattle.spa_format.specs.Encoding.{encoding_of, encoded_body, array_body, encoded_pod}
use Rattle.spa_format.specs.Lenient.{HasChild, HasFixedChild, ConveysChoice, ConveysBody, ConveyMembers, ConveyProperties, Conveys}
use Rattle.spa_format.proofs.WordLemmas.{word_at-append, word_at-take, word_fits, IsBytes-drop}
use Rattle.spa_format.proofs.FixedKinds.{kind_of_body, typed_fixed, fixed_length}
use Rattle.spa_format.proofs.Elements.{array_length}
use Rattle.spa_format.proofs.Choices.{choice_back}
use Rattle.spa_format.proofs.Short.{length-encoded_pod, shortest, without_nul, not_too_large}
use Rattle.spa_format.proofs.Back.{whole_frame, type_fits, encoding_is_pod}
use Rattle.spa_format.proofs.Origin.{IsBytes-body_of, IsBytes-first, IsBytes-others, normal, typed_body}
use Rattle.spa_format.proofs.Conveyed.{by_shape}
use Rattle.spa_format.proofs.Encodings.{length-behind_two}

-- a body of the value that is no longer than these bytes; and the value is typed
record HasExact (v : Tree) (b : List ℕ) : Type 0 where
  body : List ℕ
  says : IsBody v body
  typed : IsTyped v
  shorter : length body ≤ length b

record HaveExact (vs : Trees) (b : List ℕ) : Type 0 where
  bodies : List ℕ
  say : AreMembers vs bodies
  typed : AllTyped vs
  shorter : length bodies ≤ length b

record HaveExactValues (ps : Properties) (b : List ℕ) : Type 0 where
  bodies : List ℕ
  say : AreProperties ps bodies
  typed : AllPropertiesTyped ps
  shorter : length bodies ≤ length b

-- a pod of the value that is no longer than these bytes
record HasPod (v : Tree) (b : List ℕ) : Type 0 where
  pod : List ℕ
  is : IsPod pod v
  typed : IsTyped v
  writable : IsWritable v
  shorter : length pod ≤ length b

itself : (v : Tree) (b : List ℕ) → IsBytes b → IsBody v b → HasExact v b
itself v b f h = record { body = b; says = h; typed = typed_body v b f h; shorter = omega arith }

length_of_child : (t : ℕ) (child b : List ℕ) → HasChild t child b → (16 ≤ length b) × (length child ≤ length b - 16)
length_of_child t child b h =
    let n = word_at (drop 8 b) 0 in
    let e0 = ap length h.body in
    let e1 = length-take n (drop 8 (drop 8 b)) in
    let e2 = length-drop 8 (drop 8 b) in
    let e3 = length-drop 8 b in
    let l = h.headers in
    (omega arith, omega arith)

bytes_of_child : (t : ℕ) (child b : List ℕ) → IsBytes b → HasChild t child b → IsBytes child
bytes_of_child t child b f h = subst IsBytes (sym h.body) (IsBytes-body_of (drop 8 b) (IsBytes-drop 8 b f))

none_choice_exact : (k : Kind) (x : Fixed) (b : List ℕ) → IsBytes b → HasFixedChild k x b → HasExact (choice none_choice 0 k x []) b
none_choice_exact k x b f h =
    let of_kind : AreOf k (x ∷ []) = (kind_of_body k h.child x h.says, typed_fixed k h.child x (bytes_of_child _ h.child b f h.there) h.says, tt) in
    let e0 = length-behind_two 0 0 (array_body k (x ∷ [])) in
    let e1 = array_length k (x ∷ []) in
    let e2 = length-append (fixed_body x) [] in
    let e3 = fixed_length k h.child x h.says in
    let e4 = length_of_child _ h.child b h.there in
    let e5 = e4.0 in
    let e6 = e4.1 in
    record {
      body = encoded_body (choice none_choice 0 k x []);
      says = choice_back none_choice 0 k x [] (omega arith) h.sized of_kind refl;
      typed = (omega arith, h.sized, of_kind, refl);
      shorter = omega arith;
    }

choice_exact : (s : Shape) (g : ℕ) (k : Kind) (x : Fixed) (xs : List Fixed) (b : List ℕ) → IsBytes b → ConveysChoice s g k x xs b →
    HasExact (choice s g k x xs) b
choice_exact s g k x xs b f h =
    ⊎_elim
    (λ m. let e0 = m.0 in let e1 = m.1 in let e2 = m.2 in
    let e : choice none_choice 0 k x [] ≡ choice s g k x xs = cc in
    subst (λ v. HasExact v b) e (none_choice_exact k x b f m.3))
    (λ m. itself (choice s g k x xs) b f m.1)
    (by_shape s g k x xs b h)

-- the body that was found, as a whole pod
pod_exact : (v : Tree) (c b : List ℕ) (n : ℕ) → length c ≤ n → n < 2 ^ 32 → length b ≡ extent n → HasExact v c → HasPod v b
pod_exact v c b n l fits whole r =
    let e0 = length-encoded_pod (type_of v) r.body in
    let short = r.shorter in
    let m : padded_size (length r.body) ≤ padded_size n = omega arith in
    record {
      pod = encoded_pod (type_of v) r.body;
      is = whole_frame (type_of v) r.body (IsBody v) (type_fits v) (omega arith) r.says;
      typed = r.typed;
      writable = record { no_nul = without_nul v r.body r.says; fits = not_too_large v r.body (omega arith) r.says };
      shorter = omega arith;
    }

length_of_content : (b : List ℕ) → length b ≡ extent (word_at b 0) → length (body_of b) ≤ word_at b 0
length_of_content b e = let d = length-take (word_at b 0) (drop 8 b) in omega arith

exact_in : (v : Tree) (b : List ℕ) → IsBytes b → ((c : List ℕ) → IsBytes c → ConveysBody v c → HasExact v c) → Conveys b v → HasPod v b
exact_in v b f inner h =
    let n = word_at b 0 in
    let fits = word_fits b 0 f in
    let l = length_of_content b h.whole in
    let y = IsBytes-body_of b f in
    ⊎_elim
    (λ m. pod_exact v (body_of b) b n l fits h.whole (inner (body_of b) y m.1))
    (λ m. let c = length_of_child _ m.2 (body_of b) m.3 in
    let c0 = c.1 in
    pod_exact v m.2 b n (omega arith) fits h.whole (inner m.2 (bytes_of_child _ m.2 (body_of b) y m.3) m.4))
    h.content

-- two words, and what is behind them
two_words_before : (b c : List ℕ) → 8 ≤ length b →
    (8 ≤ length (take 8 b ++ c)) × (word_at b 0 ≡ word_at (take 8 b ++ c) 0) × (word_at b 4 ≡ word_at (take 8 b ++ c) 4) × (drop 8 (take 8 b ++ c) ≡ c)
two_words_before b c l =
    let e0 = length-take 8 b in
    let e1 = length-append (take 8 b) c in
    let n : length (take 8 b) ≡ 8 = omega arith in (
      omega arith,
      sym (word_at-append (take 8 b) c 0 (omega arith) ∙ word_at-take 8 0 b (omega arith)),
      sym (word_at-append (take 8 b) c 4 (omega arith) ∙ word_at-take 8 4 b (omega arith)),
      drop_at (take 8 b) c 8 n,
    )

mutual
  exact_body : (v : Tree) (b : List ℕ) → IsBytes b → ConveysBody v b → HasExact v b
  exact_body (fixed x) b f h = itself (fixed x) b f h
  exact_body (string s) b f h = record {
    body = s ++ 0 ∷ [];
    says = (h.text, refl);
    typed = h.text.utf8;
    shorter = let e0 = ap length h.parts in let e1 = length-append s (0 ∷ h.surplus) in let e2 = length-append s (0 ∷ []) in omega arith;
  }
  exact_body (bytes s) b f h = itself (bytes s) b f h
  exact_body (bitmap s) b f h = itself (bitmap s) b f h
  exact_body (array k xs) b f h = itself (array k xs) b f h
  exact_body (choice s g k x xs) b f h = choice_exact s g k x xs b f h
  exact_body (pointer t a) b f h = itself (pointer t a) b f h
  exact_body (struct vs) b f h =
      let r = exact_members vs b f h in
      record { body = r.bodies; says = r.say; typed = r.typed; shorter = r.shorter }
  exact_body (object t i ps) b f h =
      let r = exact_properties ps (drop 8 b) (IsBytes-drop 8 b f) h.3 in
      let w = two_words_before b r.bodies h.0 in
      let e0 = length-append (take 8 b) r.bodies in
      let e1 = length-take 8 b in
      let e2 = length-drop 8 b in
      let l = h.0 in
      let k = r.shorter in
      record {
        body = take 8 b ++ r.bodies;
        says = (w.0, h.1 ∙ w.1, h.2 ∙ w.2, subst (AreProperties ps) (sym w.3) r.say);
        typed = (subst (λ n. n < 2 ^ 32) (sym h.1) (word_fits b 0 f), subst (λ n. n < 2 ^ 32) (sym h.2) (word_fits b 4 f), r.typed);
        shorter = omega arith;
      }

  exact_members : (vs : Trees) (b : List ℕ) → IsBytes b → ConveyMembers vs b → HaveExact vs b
  exact_members no_trees b f h = record { bodies = []; say = refl; typed = tt; shorter = omega arith }
  exact_members (member v vs) b f h =
      let p = exact_in v h.0 (IsBytes-first b h.0 h.1 h.2 f) (exact_body v) h.3 in
      let r = exact_members vs h.1 (IsBytes-others b h.0 h.1 h.2 f) h.4 in
      let e0 = length-append p.pod r.bodies in
      let e1 = ap length h.2 in
      let e2 = length-append h.0 h.1 in
      let l = p.shorter in
      let k = r.shorter in
      record { bodies = p.pod ++ r.bodies; say = (p.pod, r.bodies, refl, p.is, r.say); typed = (p.typed, r.typed); shorter = omega arith }

  exact_properties : (ps : Properties) (b : List ℕ) → IsBytes b → ConveyProperties ps b → HaveExactValues ps b
  exact_properties no_properties b f h = record { bodies = []; say = refl; typed = tt; shorter = omega arith }
  exact_properties (property key flags v ps) b f h =
      let y = IsBytes-drop 8 b f in
      let p = exact_in v h.3 (IsBytes-first (drop 8 b) h.3 h.4 h.5 y) (exact_body v) h.6 in
      let r = exact_properties ps h.4 (IsBytes-others (drop 8 b) h.3 h.4 h.5 y) h.7 in
      let w = two_words_before b (p.pod ++ r.bodies) h.0 in
      let e0 = length-append (take 8 b) (p.pod ++ r.bodies) in
      let e1 = length-append p.pod r.bodies in
      let e2 = length-take 8 b in
      let e3 = ap length h.5 in
      let e4 = length-append h.3 h.4 in
      let e5 = length-drop 8 b in
      let l = p.shorter in
      let k = r.shorter in
      let n = h.0 in
      record {
        bodies = take 8 b ++ (p.pod ++ r.bodies);
        say = (w.0, h.1 ∙ w.1, h.2 ∙ w.2, p.pod, r.bodies, w.3, p.is, r.say);
        typed = (subst (λ n. n < 2 ^ 32) (sym h.1) (word_fits b 0 f), subst (λ n. n < 2 ^ 32) (sym h.2) (word_fits b 4 f), p.typed, r.typed);
        shorter = omega arith;
      }

exact_pod : (b : List ℕ) (v : Tree) → IsBytes b → Conveys b v → HasPod v b
exact_pod b v f h = exact_in v b f (exact_body v) h

pub conveyed_typed : (b : List ℕ) (v : Tree) → IsBytes b → Conveys b v → IsTyped v
conveyed_typed b v f h = (exact_pod b v f h).typed

pub conveyed_writable : (b : List ℕ) (v : Tree) → IsBytes b → Conveys b v → IsWritable v
conveyed_writable b v f h = (exact_pod b v f h).writable

pub encoding_conveyed : (b : List ℕ) (v : Tree) → IsBytes b → Conveys b v → IsPod (encoding_of v) v
encoding_conveyed b v f h =
    let p = exact_pod b v f h in
    subst (IsPod (encoding_of v)) (normal p.pod v p.is) (encoding_is_pod v p.typed p.writable)

pub no_longer_conveyed : (b : List ℕ) (v : Tree) → IsBytes b → Conveys b v → length (encoding_of v) ≤ length b
no_longer_conveyed b v f h =
    let p = exact_pod b v f h in
    let e0 = shortest p.pod v p.is in
    let e1 = p.shorter in
    omega arith
