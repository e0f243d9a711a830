-- What is known of a value that bytes spell: it is typed, normal and writable.
use Rattle.std.proofs.Common.{◌≡◌, ℕ, ◌<◌, ◌^◌, List, [], ◌∷◌, ◌++◌, length, drop, take, refl, sym, ap, ◌∙◌, subst, arith, length-append}
use Rattle.spa_format.specs.Words.{word_at, extent, body_of}
use Rattle.spa_format.specs.Tree.{Tree, fixed, string, bytes, bitmap, array, choice, pointer, struct, object, Trees, no_trees, member, Properties, no_properties, property}
use Rattle.spa_format.specs.Kind.{kind_of}
use Rattle.spa_format.specs.Pod.{IsBody, AreMembers, AreProperties, IsPod}
use Rattle.spa_format.specs.Normal.{normal_of, normal_members, normal_properties}
use Rattle.spa_format.specs.Typed.{IsBytes, IsTyped, AllTyped, AllPropertiesTyped}
use Rattle.spa_format.specs.Writable.{IsWritable}
use Rattle.spa_format.specs.Encoding.{encoding_of}
use Rattle.spa_format.proofs.Short.{length_of_body, without_nul, not_too_large}
use Rattle.spa_format.proofs.Back.{encoding_is_pod}
use Rattle.spa_format.proofs.Unique.{one_value}
use Rattle.spa_format.proofs.WordLemmas.{word_at-append, word_fits, IsBytes-drop, IsBytes-take}
use Rattle.spa_format.proofs.FixedKinds.{typed_fixed}
use Rattle.spa_format.proofs.Elements.{normal_elements, typed_array}
use Rattle.spa_format.proofs.Choices.{normal_choice, typed_choice, typed_pointer}
use Rattle.std.specs.Prelude.{IsUtf8}
use Rattle.std.proofs.lemmas.List.{take_at, drop_at}
use Rattle.spa_format.specs.Pod.{IsText}

mutual
  pub normal_body : (v : Tree) (b : List ℕ) → IsBody v b → normal_of v ≡ v
  normal_body (fixed x) b h = refl
  normal_body (string s) b h = refl
  normal_body (bytes s) b h = refl
  normal_body (bitmap s) b h = refl
  normal_body (array k xs) b h = ap (array k) (normal_elements k xs (drop 8 b) h.elements)
  normal_body (choice s f k x xs) b h = ap (λ g. choice s g k x xs) (normal_choice s f k x xs b h)
  normal_body (pointer t a) b h = refl
  normal_body (struct vs) b h = ap struct (normal_member_list vs b h)
  normal_body (object t i ps) b h = ap (object t i) (normal_props ps (drop 8 b) h.3)

  pub normal_member_list : (vs : Trees) (b : List ℕ) → AreMembers vs b → normal_members vs ≡ vs
  normal_member_list no_trees b h = refl
  normal_member_list (member v vs) b h =
      let e0 = normal_body v (body_of h.0) h.3.content in
      let e1 = normal_member_list vs h.1 h.4 in
      cc

  pub normal_props : (ps : Properties) (b : List ℕ) → AreProperties ps b → normal_properties ps ≡ ps
  normal_props no_properties b h = refl
  normal_props (property k f v ps) b h =
      let e0 = normal_body v (body_of h.3) h.6.content in
      let e1 = normal_props ps h.4 h.7 in
      cc

pub IsBytes-body_of : (b : List ℕ) → IsBytes b → IsBytes (body_of b)
IsBytes-body_of b h = IsBytes-take (word_at b 0) (drop 8 b) (IsBytes-drop 8 b h)

pub IsBytes-first : (b first others : List ℕ) → b ≡ first ++ others → IsBytes b → IsBytes first
IsBytes-first b first others e h = subst IsBytes (ap (take (length first)) e ∙ take_at first others (length first) refl) (IsBytes-take (length first) b h)

pub IsBytes-others : (b first others : List ℕ) → b ≡ first ++ others → IsBytes b → IsBytes others
IsBytes-others b first others e h = subst IsBytes (ap (drop (length first)) e ∙ drop_at first others (length first) refl) (IsBytes-drop (length first) b h)

IsUtf8-from_text : (s : List ℕ) → IsText s → IsUtf8 s
IsUtf8-from_text s h = h.utf8

mutual
  pub typed_body : (v : Tree) (b : List ℕ) → IsBytes b → IsBody v b → IsTyped v
  typed_body (fixed x) b f h = typed_fixed (kind_of x) b x f h
  typed_body (string s) b f h = IsUtf8-from_text s h.0
  typed_body (bytes s) b f h = tt
  typed_body (bitmap s) b f h = tt
  typed_body (array k xs) b f h = typed_array k xs b f h
  typed_body (choice s g k x xs) b f h = typed_choice s g k x xs b f h
  typed_body (pointer t a) b f h = typed_pointer t a b f h
  typed_body (struct vs) b f h = typed_members vs b f h
  typed_body (object t i ps) b f h =
      (subst (λ n. n < 2 ^ 32) (sym h.1) (word_fits b 0 f), subst (λ n. n < 2 ^ 32) (sym h.2) (word_fits b 4 f), typed_props ps (drop 8 b) (IsBytes-drop 8 b f) h.3)

  pub typed_members : (vs : Trees) (b : List ℕ) → IsBytes b → AreMembers vs b → AllTyped vs
  typed_members no_trees b f h = tt
  typed_members (member v vs) b f h =
      (typed_body v (body_of h.0) (IsBytes-body_of h.0 (IsBytes-first b h.0 h.1 h.2 f)) h.3.content, typed_members vs h.1 (IsBytes-others b h.0 h.1 h.2 f) h.4)

  pub typed_props : (ps : Properties) (b : List ℕ) → IsBytes b → AreProperties ps b → AllPropertiesTyped ps
  typed_props no_properties b f h = tt
  typed_props (property k l v ps) b f h =
      let c = IsBytes-drop 8 b f in (
        subst (λ n. n < 2 ^ 32) (sym h.1) (word_fits b 0 f),
        subst (λ n. n < 2 ^ 32) (sym h.2) (word_fits b 4 f),
        typed_body v (body_of h.3) (IsBytes-body_of h.3 (IsBytes-first (drop 8 b) h.3 h.4 h.5 c)) h.6.content,
        typed_props ps h.4 (IsBytes-others (drop 8 b) h.3 h.4 h.5 c) h.7,
      )

pub normal : (b : List ℕ) (v : Tree) → IsPod b v → normal_of v ≡ v
normal b v h = normal_body v (body_of b) h.content

pub typed : (b : List ℕ) (v : Tree) → IsBytes b → IsPod b v → IsTyped v
typed b v f h = typed_body v (body_of b) (IsBytes-body_of b f) h.content

pub writable : (b : List ℕ) (v : Tree) → IsBytes b → IsPod b v → IsWritable v
writable b v f h =
    let l : length (body_of b) < 2 ^ 32 = subst (λ n. n < 2 ^ 32) (sym (length_of_body b _ _ h)) (word_fits b 0 f) in
    record { no_nul = without_nul v (body_of b) h.content; fits = not_too_large v (body_of b) l h.content }

-- a rewriting is a pod of the same value
pub rewriting_is_pod : (b : List ℕ) (v : Tree) → IsBytes b → IsPod b v → IsPod (encoding_of v) v
rewriting_is_pod b v f h = subst (IsPod (encoding_of v)) (normal b v h) (encoding_is_pod v (typed b v f h) (writable b v f h))

-- two pods have one rewriting just where they are of one value
pub same_rewriting : (b c : List ℕ) (v w : Tree) → IsBytes b → IsBytes c → IsPod b v → IsPod c w → encoding_of v ≡ encoding_of w → v ≡ w
same_rewriting b c v w f g h k e = one_value (encoding_of w) v w (subst (λ l. IsPod l v) e (rewriting_is_pod b v f h)) (rewriting_is_pod c w g k)

-- no pod is a proper front of another
pub no_longer : (b r : List ℕ) (v w : Tree) → IsPod b v → IsPod (b ++ r) w → r ≡ []
no_longer b r v w h k =
    let body_size : word_at (b ++ r) 0 ≡ word_at b 0 = word_at-append b r 0 (let x = h.whole in omega arith) in
    let l = length-append b r in
    let x = h.whole in
    let y = k.whole ∙ ap extent body_size in
    nothing r (omega arith)
  where
    nothing : (r : List ℕ) → length r ≡ 0 → r ≡ []
    nothing [] e = refl
    nothing (x ∷ r) e = absurd (omega arith)

-- and one rewriting says one value
pub same_value : (v w : Tree) → v ≡ w → encoding_of v ≡ encoding_of w
same_value v w e = ap encoding_of e
