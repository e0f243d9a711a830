-- No pod of a value is shorter than the value's encoding, and a value that bytes spell can be written.
use Rattle.std.proofs.Common.{◌≡◌, ℕ, ◌<◌, ◌≤◌, ◌^◌, ⊎_elim, List, [], ◌∷◌, ◌++◌, length, drop, sym, ap, ◌∙◌, subst, arith, length-append, length-drop, length-take}
use Rattle.spa_format.specs.Words.{word_at, padded_size, body_of}
use Rattle.spa_format.specs.Tree.{Tree, fixed, string, bytes, bitmap, array, choice, pointer, struct, object, Trees, no_trees, member, Properties, no_properties, property, type_of}
use Rattle.spa_format.specs.Kind.{kind_of, fixed_body}
use Rattle.spa_format.specs.Pod.{IsWhole, IsBody, AreMembers, AreProperties, IsPod}
use Rattle.spa_format.specs.Encoding.{encoded_pod, encoded_body, member_encodings, property_encodings, encoding_of}
use Rattle.spa_format.specs.Writable.{HasNul, SomeHasNul, SomeValueHasNul, IsTooLarge, SomeTooLarge, SomeValueTooLarge}
use Rattle.spa_format.proofs.FixedKinds.{fixed_length}
use Rattle.spa_format.proofs.Elements.{same_array_length}
use Rattle.spa_format.proofs.Choices.{short_choice, pointer_length, pointer_size}
pub use Rattle.spa_format.proofs.Encodings.{length-encoded_pod}
use Rattle.spa_format.proofs.Encodings.{length-object, length-property_encoding}

pub padded_above : (s : ℕ) → s ≤ padded_size s
padded_above s = omega arith

pub padded_mono : (s t : ℕ) → s ≤ t → padded_size s ≤ padded_size t
padded_mono s t h = omega arith

-- the body of whole bytes is as long as the size word says
pub length_of_body : (b : List ℕ) (t : ℕ) (P : List ℕ → Type 0) → IsWhole b t P → length (body_of b) ≡ word_at b 0
length_of_body b t P h =
    let n = word_at b 0 in
    let x = h.whole in
    let up = padded_above n in
    let d = length-drop 8 b in
    let e = length-take n (drop 8 b) in
    omega arith

short_frame : (first : List ℕ) (t u : ℕ) (P : List ℕ → Type 0) (c : List ℕ) → IsWhole first t P → padded_size (length c) ≤ padded_size (length (body_of first)) → length (encoded_pod u c) ≤ length first
short_frame first t u P c h le =
    let e = length-encoded_pod u c in
    let l = length_of_body first t P h in
    let x = h.whole in
    let m = ap padded_size l in
    omega arith

short_object : (t i : ℕ) (ps : Properties) (b : List ℕ) → 8 ≤ length b → length (property_encodings ps) ≤ length (drop 8 b) → length (encoded_body (object t i ps)) ≤ length b
short_object t i ps b l le =
    let e0 = length-object t i ps in
    let e1 = length-drop 8 b in
    omega arith

-- a pointer's body may be shorter than its encoding's, but is padded to as much
mutual
  pub short_body : (v : Tree) (b : List ℕ) → IsBody v b → padded_size (length (encoded_body v)) ≤ padded_size (length b)
  short_body (fixed x) b h = padded_mono (length (fixed_body x)) (length b) (let e = fixed_length (kind_of x) b x h in omega arith)
  short_body (string s) b h = padded_mono (length (s ++ 0 ∷ [])) (length b) (let e = ap length h.1 in omega arith)
  short_body (bytes s) b h = padded_mono (length s) (length b) (let e = ap length h in omega arith)
  short_body (bitmap s) b h = padded_mono (length s) (length b) (let e = ap length h in omega arith)
  short_body (array k xs) b h = padded_mono (length (encoded_body (array k xs))) (length b) (let e = same_array_length k xs b h in omega arith)
  short_body (choice s f k x xs) b h = padded_mono (length (encoded_body (choice s f k x xs))) (length b) (short_choice s f k x xs b h)
  short_body (pointer t a) b h =
      let e = pointer_length t a in
      let p = pointer_size t a b h in
      let m = padded_mono 12 (length b) p.0 in
      subst (λ n. padded_size n ≤ padded_size (length b)) (sym e) m
  short_body (struct vs) b h = padded_mono (length (member_encodings vs)) (length b) (short_members vs b h)
  short_body (object t i ps) b h = padded_mono (length (encoded_body (object t i ps))) (length b) (short_object t i ps b h.0 (short_props ps (drop 8 b) h.3))

  pub short_members : (vs : Trees) (b : List ℕ) → AreMembers vs b → length (member_encodings vs) ≤ length b
  short_members no_trees b h = let e = ap length h in omega arith
  short_members (member v vs) b h =
      let here = short_frame h.0 (type_of v) (type_of v) (IsBody v) (encoded_body v) h.3 (short_body v (body_of h.0) h.3.content) in
      let there = short_members vs h.1 h.4 in
      let e0 = length-append (encoded_pod (type_of v) (encoded_body v)) (member_encodings vs) in
      let e1 = ap length h.2 in
      let e2 = length-append h.0 h.1 in
      omega arith

  pub short_props : (ps : Properties) (b : List ℕ) → AreProperties ps b → length (property_encodings ps) ≤ length b
  short_props no_properties b h = let e = ap length h in omega arith
  short_props (property k f v ps) b h =
      let here = short_frame h.3 (type_of v) (type_of v) (IsBody v) (encoded_body v) h.6 (short_body v (body_of h.3) h.6.content) in
      let there = short_props ps h.4 h.7 in
      let e0 = length-property_encoding k f v ps in
      let e1 = ap length h.5 in
      let e2 = length-append h.3 h.4 in
      let e3 = length-drop 8 b in
      let l = h.0 in
      omega arith

pub shortest : (b : List ℕ) (v : Tree) → IsPod b v → length (encoding_of v) ≤ length b
shortest b v h = short_frame b (type_of v) (type_of v) (IsBody v) (encoded_body v) h (short_body v (body_of b) h.content)

mutual
  pub without_nul : (v : Tree) (b : List ℕ) → IsBody v b → ¬ (HasNul v)
  without_nul (fixed x) b h n = n
  without_nul (string s) b h n = h.0.no_nul n
  without_nul (bytes s) b h n = n
  without_nul (bitmap s) b h n = n
  without_nul (array k xs) b h n = n
  without_nul (choice s f k x xs) b h n = n
  without_nul (pointer t a) b h n = n
  without_nul (struct vs) b h n = without_nuls vs b h n
  without_nul (object t i ps) b h n = without_value_nuls ps (drop 8 b) h.3 n

  pub without_nuls : (vs : Trees) (b : List ℕ) → AreMembers vs b → ¬ (SomeHasNul vs)
  without_nuls no_trees b h n = n
  without_nuls (member v vs) b h n = ⊎_elim (without_nul v (body_of h.0) h.3.content) (without_nuls vs h.1 h.4) n

  pub without_value_nuls : (ps : Properties) (b : List ℕ) → AreProperties ps b → ¬ (SomeValueHasNul ps)
  without_value_nuls no_properties b h n = n
  without_value_nuls (property k f v ps) b h n = ⊎_elim (without_nul v (body_of h.3) h.6.content) (without_value_nuls ps h.4 h.7) n

mutual
  pub not_too_large : (v : Tree) (b : List ℕ) → length b < 2 ^ 32 → IsBody v b → ¬ (IsTooLarge v)
  not_too_large (fixed x) b l h n = n
  not_too_large (string s) b l h n = let e = ap length h.1 in omega arith
  not_too_large (bytes s) b l h n = let e = ap length h in omega arith
  not_too_large (bitmap s) b l h n = let e = ap length h in omega arith
  not_too_large (array k xs) b l h n = let e = same_array_length k xs b h in omega arith
  not_too_large (choice s f k x xs) b l h n = let e = short_choice s f k x xs b h in omega arith
  not_too_large (pointer t a) b l h n = n
  not_too_large (struct vs) b l h n = ⊎_elim (λ m. let e = short_members vs b h in omega arith) (none_too_large vs b l h) n
  not_too_large (object t i ps) b l h n =
      ⊎_elim (λ m. let e = short_object t i ps b h.0 (short_props ps (drop 8 b) h.3) in omega arith) (no_value_too_large ps (drop 8 b) (let e = length-drop 8 b in omega arith) h.3) n

  pub none_too_large : (vs : Trees) (b : List ℕ) → length b < 2 ^ 32 → AreMembers vs b → ¬ (SomeTooLarge vs)
  none_too_large no_trees b l h n = n
  none_too_large (member v vs) b l h n =
      let e0 = ap length h.2 ∙ length-append h.0 h.1 in
      let e1 = length_of_body h.0 (type_of v) (IsBody v) h.3 in
      let x = h.3.whole in
      let up = padded_above (word_at h.0 0) in
      ⊎_elim (not_too_large v (body_of h.0) (omega arith) h.3.content) (none_too_large vs h.1 (omega arith) h.4) n

  pub no_value_too_large : (ps : Properties) (b : List ℕ) → length b < 2 ^ 32 → AreProperties ps b → ¬ (SomeValueTooLarge ps)
  no_value_too_large no_properties b l h n = n
  no_value_too_large (property k f v ps) b l h n =
      let e0 = ap length h.5 ∙ length-append h.3 h.4 in
      let e1 = length_of_body h.3 (type_of v) (IsBody v) h.6 in
      let e2 = length-drop 8 b in
      let x = h.6.whole in
      let up = padded_above (word_at h.3 0) in
      ⊎_elim (not_too_large v (body_of h.3) (omega arith) h.6.content) (no_value_too_large ps h.4 (omega arith) h.7) n
