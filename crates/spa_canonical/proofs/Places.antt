-- Pods whose rewritings come to stand at the front of where they lay.
use Rattle.std.proofs.Common.{◌≡◌, ℕ, ◌+◌, ◌%◌, ◌<◌, List, [], ◌++◌, length, drop, take, refl, sym, ap, ◌∙◌, subst, arith, append_assoc, length-drop}
use Rattle.std.specs.Prelude.{Bool, true, false}
use Rattle.std.proofs.lemmas.List.{append-nil, drop-drop, nil_from_length, take_all}
use Rattle.spa_format.specs.Words.{padded_size, padding, word_at, word_bytes}
use Rattle.spa_format.specs.Tree.{Trees, Properties, member, no_properties, no_trees, object, object_type, property, struct_type, type_of}
use Rattle.spa_format.specs.Pod.{AreMembers, AreProperties, IsBody, IsPod}
use Rattle.spa_format.specs.Encoding.{encoded_body, encoding_of, member_encodings, property_encodings}
use Rattle.spa_format.specs.Front.{HasFront, front_of, rest_of}
use Rattle.spa_format.specs.Typed.{IsBytes}
use Rattle.spa_format.proofs.Encodings.{length-padding, whole_members, whole_properties}
use Rattle.spa_format.proofs.Fronts.{front_of_whole}
use Rattle.spa_format.proofs.Shapes.{object_only, struct_only}
use Rattle.spa_format.proofs.WordLemmas.{IsBytes-drop, IsBytes-take}
use Rattle.spa_events.specs.Inside.{key_size}
use Rattle.spa_canonical.specs.Emit.{ArePlaced, IsPlaced, IsPodOf, type_inside}
use Rattle.spa_canonical.proofs.Patches.{says_body, two_words_of}
use Rattle.spa_canonical.proofs.Lengths.{lengths}

-- no padding is behind bodies of pods
no_padding : (n : ℕ) → padded_size n ≡ n → padding n ≡ []
no_padding n e = nil_from_length (padding n) (length-padding n ∙ (omega arith))

-- the body of a pod whose size is a multiple of 8
whole_body : (pod : List ℕ) (type size : ℕ) → IsPodOf pod type size → size % 8 ≡ 0 → take size (drop 8 pod) ≡ drop 8 pod
whole_body pod type size p z = take_all size (drop 8 pod) (omega lengths)

-- a struct whose members became their rewritings
struct_placed : (pod inner : List ℕ) (size : ℕ) → IsPodOf pod struct_type size → size % 8 ≡ 0 → ArePlaced false (drop 8 pod) inner →
    IsPlaced pod ((word_bytes (length inner) ++ word_bytes struct_type) ++ inner)
struct_placed pod inner size p z q = λ v w.
    let b = says_body pod struct_type size v p w in
    let o = struct_only v b.its_type in
    let m : AreMembers o.0 (take size (drop 8 pod)) = subst (λ x. IsBody x (take size (drop 8 pod))) o.1 b.its_body in
    let is : inner ≡ member_encodings o.0 = q o.0 (subst (AreMembers o.0) (whole_body pod struct_type size p z) m) in
    let e = member_encodings o.0 in
    append_assoc (word_bytes (length inner)) (word_bytes struct_type) inner
    ∙ ap (λ x. word_bytes (length x) ++ (word_bytes struct_type ++ x)) is
    ∙ ap (λ x. word_bytes (length e) ++ (word_bytes struct_type ++ x)) (sym (append-nil e) ∙ ap (λ x. e ++ x) (sym (no_padding (length e) (whole_members o.0))))
    ∙ ap encoding_of (sym o.1)

-- an object whose properties did
object_placed : (pod inner : List ℕ) (size : ℕ) → IsBytes pod → IsPodOf pod object_type size → size % 8 ≡ 0 → ArePlaced true (drop 16 pod) inner →
    IsPlaced pod ((word_bytes (8 + length inner) ++ word_bytes object_type) ++ (take 8 (drop 8 pod) ++ inner))
object_placed pod inner size h p z q = λ v w.
    let b = says_body pod object_type size v p w in
    let o = object_only v b.its_type in
    let t = o.0 in
    let i = o.1 in
    let ps = o.2 in
    let all = whole_body pod object_type size p z in
    let m : IsBody (object t i ps) (drop 8 pod) = subst (IsBody (object t i ps)) all (subst (λ x. IsBody x (take size (drop 8 pod))) o.3 b.its_body) in
    let is : inner ≡ property_encodings ps = q ps (subst (AreProperties ps) (drop-drop 8 8 pod) m.3) in
    let e = property_encodings ps in
    let words : take 8 (drop 8 pod) ≡ word_bytes t ++ word_bytes i =
    two_words_of (drop 8 pod) (IsBytes-take 8 (drop 8 pod) (IsBytes-drop 8 pod h)) m.0
    ∙ ap (λ n. word_bytes n ++ word_bytes (word_at (drop 8 pod) 4)) (sym m.1) ∙ ap (λ n. word_bytes t ++ word_bytes n) (sym m.2) in
    let x = encoded_body (object t i ps) in
    let w = whole_properties ps in
    append_assoc (word_bytes (8 + length inner)) (word_bytes object_type) (take 8 (drop 8 pod) ++ inner)
    ∙ ap (λ y. word_bytes (8 + length y) ++ (word_bytes object_type ++ (take 8 (drop 8 pod) ++ y))) is
    ∙ ap (λ n. word_bytes n ++ (word_bytes object_type ++ (take 8 (drop 8 pod) ++ e))) (omega lengths)
    ∙ ap (λ y. word_bytes (length x) ++ (word_bytes object_type ++ y))
    (ap (λ y. y ++ e) words ∙ append_assoc (word_bytes t) (word_bytes i) e ∙ sym (append-nil x) ∙ ap (λ y. x ++ y) (sym (no_padding (length x) (omega lengths))))
    ∙ ap encoding_of (sym o.3)

pub inner_placed : (keyed : Bool) (pod inner : List ℕ) (size : ℕ) → IsBytes pod → IsPodOf pod (type_inside keyed) size → size % 8 ≡ 0 →
    ArePlaced keyed (drop (8 + key_size keyed) pod) inner →
    IsPlaced pod ((word_bytes (key_size keyed + length inner) ++ word_bytes (type_inside keyed)) ++ (take (key_size keyed) (drop 8 pod) ++ inner))
inner_placed false pod inner size h p w q =
    subst (λ n. IsPlaced pod ((word_bytes n ++ word_bytes struct_type) ++ inner)) (omega arith) (struct_placed pod inner size p w q)
inner_placed true pod inner size h p w q = object_placed pod inner size h p w q

-- the first pod of some, and the others
members_placed : (b pod others : List ℕ) → HasFront b → IsPlaced (front_of b) pod → ArePlaced false (rest_of b) others →
    (vs : Trees) → AreMembers vs b → pod ++ others ≡ member_encodings vs
members_placed b pod others f p q no_trees m = absurd (let l = ap length m in let g = f.header in omega arith)
members_placed b pod others f p q (member v vs) m =
    let w = front_of_whole b m.0 m.1 (type_of v) (IsBody v) m.2 m.3 in
    let one : IsPod (front_of b) v = subst (λ x. IsPod x v) w.1 m.3 in
    let more : AreMembers vs (rest_of b) = subst (AreMembers vs) w.2 m.4 in
    ap (λ x. x ++ others) (p v one) ∙ ap (λ x. encoding_of v ++ x) (q vs more)

properties_placed : (b pod others : List ℕ) → IsBytes b → HasFront (drop 8 b) → IsPlaced (front_of (drop 8 b)) pod →
    ArePlaced true (rest_of (drop 8 b)) others → (ps : Properties) → AreProperties ps b →
    take 8 b ++ (pod ++ others) ≡ property_encodings ps
properties_placed b pod others h f p q no_properties m = absurd (let l = ap length m in let g = f.header in let d = length-drop 8 b in omega arith)
properties_placed b pod others h f p q (property key flags v ps) m =
    let here = drop 8 b in
    let w = front_of_whole here m.3 m.4 (type_of v) (IsBody v) m.5 m.6 in
    let one : IsPod (front_of here) v = subst (λ x. IsPod x v) w.1 m.6 in
    let more : AreProperties ps (rest_of here) = subst (AreProperties ps) w.2 m.7 in
    let words : take 8 b ≡ word_bytes key ++ word_bytes flags =
    two_words_of b (IsBytes-take 8 b h) m.0 ∙ ap (λ n. word_bytes n ++ word_bytes (word_at b 4)) (sym m.1) ∙ ap (λ n. word_bytes key ++ word_bytes n) (sym m.2) in
    ap (λ x. x ++ (pod ++ others)) words ∙ append_assoc (word_bytes key) (word_bytes flags) (pod ++ others)
    ∙ ap (λ x. word_bytes key ++ (word_bytes flags ++ (x ++ others))) (p v one)
    ∙ ap (λ x. word_bytes key ++ (word_bytes flags ++ (encoding_of v ++ x))) (q ps more)

pub pods_placed : (keyed : Bool) (b pod others : List ℕ) → IsBytes b → HasFront (drop (key_size keyed) b) →
    IsPlaced (front_of (drop (key_size keyed) b)) pod → ArePlaced keyed (rest_of (drop (key_size keyed) b)) others →
    ArePlaced keyed b (take (key_size keyed) b ++ (pod ++ others))
pods_placed false b pod others h f p q = λ vs m. members_placed b pod others f p q vs m
pods_placed true b pod others h f p q = λ ps m. properties_placed b pod others h f p q ps m

-- no pod is there
no_member : (b : List ℕ) → ¬ (HasFront b) → (vs : Trees) → AreMembers vs b → [] ≡ member_encodings vs
no_member b n no_trees m = refl
no_member b n (member v vs) m = absurd (n (front_of_whole b m.0 m.1 (type_of v) (IsBody v) m.2 m.3).0)

no_property : (b : List ℕ) → ¬ (HasFront (drop 8 b)) → (ps : Properties) → AreProperties ps b → [] ≡ property_encodings ps
no_property b n no_properties m = refl
no_property b n (property key flags v ps) m = absurd (n (front_of_whole (drop 8 b) m.3 m.4 (type_of v) (IsBody v) m.5 m.6).0)

pub none_placed : (keyed : Bool) (b : List ℕ) → ¬ (HasFront (drop (key_size keyed) b)) → ArePlaced keyed b []
none_placed false b n = λ vs m. no_member b n vs m
none_placed true b n = λ ps m. no_property b n ps m

pub few_placed : (keyed : Bool) (b : List ℕ) → length b < key_size keyed + 8 → ArePlaced keyed b []
few_placed keyed b l = none_placed keyed b (λ f. let h = f.header in let d = length-drop (key_size keyed) b in absurd (omega arith))
