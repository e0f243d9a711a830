-- What was a pod before there were bitmaps.
use Rattle.std.proofs.Common.{◌≡◌, ◌↔◌, ℕ, List, drop, ap, inl, inr, ⊎_elim}
use Rattle.spa_format.specs.Words.{body_of}
use Rattle.spa_format.specs.Tree.{Tree, fixed, string, bytes, bitmap, array, choice, pointer, struct, object, Trees, no_trees, member, Properties, no_properties, property}
use Rattle.spa_format.specs.Pod.{IsWhole, IsBody, AreMembers, AreProperties, IsPod}
use Rattle.spa_format.specs.Before.{WasBody, WereMembers, WereProperties, WasPod, HasBitmap, SomeHasBitmap, SomeValueHasBitmap}
use Rattle.spa_format.specs.Encoding.{encoding_of}
use Rattle.spa_format.proofs.Unique.{one_value}

-- whole bytes whose body says more than was known of it
whole_as : (b : List ℕ) (t : ℕ) (P Q : List ℕ → Type 0) → (P (body_of b) → Q (body_of b)) → IsWhole b t P → IsWhole b t Q
whole_as b t P Q f h = record { whole = h.whole; its_type = h.its_type; content = f h.content }

mutual
  still_body : (v : Tree) (b : List ℕ) → WasBody v b → IsBody v b
  still_body (fixed x) b h = h
  still_body (string s) b h = h
  still_body (bytes s) b h = h
  still_body (bitmap s) b h = absurd h
  still_body (array k xs) b h = h
  still_body (choice s f k x xs) b h = h
  still_body (pointer t a) b h = h
  still_body (struct vs) b h = still_members vs b h
  still_body (object t i ps) b h = (h.0, h.1, h.2, still_properties ps (drop 8 b) h.3)

  still_members : (vs : Trees) (b : List ℕ) → WereMembers vs b → AreMembers vs b
  still_members no_trees b h = h
  still_members (member v vs) b h =
      (h.0, h.1, h.2, whole_as h.0 _ _ _ (still_body v (body_of h.0)) h.3, still_members vs h.1 h.4)

  still_properties : (ps : Properties) (b : List ℕ) → WereProperties ps b → AreProperties ps b
  still_properties no_properties b h = h
  still_properties (property k f v ps) b h =
      (h.0, h.1, h.2, h.3, h.4, h.5, whole_as h.3 _ _ _ (still_body v (body_of h.3)) h.6, still_properties ps h.4 h.7)

mutual
  body_without : (v : Tree) (b : List ℕ) → WasBody v b → ¬ (HasBitmap v)
  body_without (fixed x) b h n = n
  body_without (string s) b h n = n
  body_without (bytes s) b h n = n
  body_without (bitmap s) b h n = h
  body_without (array k xs) b h n = n
  body_without (choice s f k x xs) b h n = n
  body_without (pointer t a) b h n = n
  body_without (struct vs) b h n = members_without vs b h n
  body_without (object t i ps) b h n = properties_without ps (drop 8 b) h.3 n

  members_without : (vs : Trees) (b : List ℕ) → WereMembers vs b → ¬ (SomeHasBitmap vs)
  members_without no_trees b h n = n
  members_without (member v vs) b h n = ⊎_elim (body_without v (body_of h.0) h.3.content) (members_without vs h.1 h.4) n

  properties_without : (ps : Properties) (b : List ℕ) → WereProperties ps b → ¬ (SomeValueHasBitmap ps)
  properties_without no_properties b h n = n
  properties_without (property k f v ps) b h n =
      ⊎_elim (body_without v (body_of h.3) h.6.content) (properties_without ps h.4 h.7) n

mutual
  body_before : (v : Tree) (b : List ℕ) → ¬ (HasBitmap v) → IsBody v b → WasBody v b
  body_before (fixed x) b n h = h
  body_before (string s) b n h = h
  body_before (bytes s) b n h = h
  body_before (bitmap s) b n h = n tt
  body_before (array k xs) b n h = h
  body_before (choice s f k x xs) b n h = h
  body_before (pointer t a) b n h = h
  body_before (struct vs) b n h = members_before vs b n h
  body_before (object t i ps) b n h = (h.0, h.1, h.2, properties_before ps (drop 8 b) n h.3)

  members_before : (vs : Trees) (b : List ℕ) → ¬ (SomeHasBitmap vs) → AreMembers vs b → WereMembers vs b
  members_before no_trees b n h = h
  members_before (member v vs) b n h =
      (h.0, h.1, h.2, whole_as h.0 _ _ _ (body_before v (body_of h.0) (λ x. n (inl x))) h.3, members_before vs h.1 (λ x. n (inr x)) h.4)

  properties_before : (ps : Properties) (b : List ℕ) → ¬ (SomeValueHasBitmap ps) → AreProperties ps b → WereProperties ps b
  properties_before no_properties b n h = h
  properties_before (property k f v ps) b n h = (
    h.0,
    h.1,
    h.2,
    h.3,
    h.4,
    h.5,
    whole_as h.3 _ _ _ (body_before v (body_of h.3) (λ x. n (inl x))) h.6,
    properties_before ps h.4 (λ x. n (inr x)) h.7,
  )

pub still_pod : (b : List ℕ) (v : Tree) → WasPod b v → IsPod b v
still_pod b v h = whole_as b _ _ _ (still_body v (body_of b)) h

pub same_value : (b : List ℕ) (v w : Tree) → WasPod b v → IsPod b w → w ≡ v
same_value b v w h k = one_value b w v k (still_pod b v h)

pub same_rewriting : (b : List ℕ) (v w : Tree) → WasPod b v → IsPod b w → encoding_of w ≡ encoding_of v
same_rewriting b v w h k = ap encoding_of (same_value b v w h k)

-- the pods of before are those of values in which no bitmap stands
pub was_pod : (b : List ℕ) (v : Tree) → WasPod b v ↔ (IsPod b v × ¬ (HasBitmap v))
was_pod b v = (
  λ h. (still_pod b v h, body_without v (body_of b) h.content),
  λ h. whole_as b _ _ _ (body_before v (body_of b) h.1) h.0,
)
