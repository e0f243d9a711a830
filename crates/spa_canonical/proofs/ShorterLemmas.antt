-- Pods whose rewritings may be shorter than they are.
use Rattle.std.proofs.Common.{◌≡◌, ◌≢◌, ℕ, ◌+◌, ◌<◌, ◌≤◌, inl, inr, List, ◌++◌, length, drop, refl, sym, ap, ◌∙◌, subst, arith, append_assoc, length-append, ◌%◌}
use Rattle.std.specs.Prelude.{Bool, true, false, max}
use Rattle.std.proofs.lemmas.List.{append-nil, nil_from_length}
use Rattle.spa_format.specs.Words.{body_of, extent, padded_size, word_at}
use Rattle.spa_format.specs.Kind.{kind_of}
use Rattle.spa_format.specs.Tree.{Tree, fixed, string, bytes, bitmap, array, choice, pointer, struct, object, Trees, no_trees, member, Properties, no_properties, property, join_members, choice_type, type_of}
use Rattle.spa_format.specs.Pod.{AreMembers, AreProperties, IsBody, IsPod}
use Rattle.spa_format.specs.Encoding.{encoded_body, encoding_of, property_encodings}
use Rattle.spa_format.specs.Front.{HasFront, front_of, rest_of}
use Rattle.spa_format.proofs.Choices.{pointer_length}
use Rattle.spa_format.proofs.Elements.{same_array_length}
use Rattle.spa_format.proofs.Encodings.{length-property_encoding, whole_members, whole_properties, member_encodings-join}
use Rattle.spa_format.proofs.FixedKinds.{fixed_length}
use Rattle.spa_format.proofs.Fronts.{front_of_whole, length-body_of}
use Rattle.spa_format.proofs.Short.{length-encoded_pod}
use Rattle.spa_bytes.specs.Opening.{Opens}
use Rattle.spa_bodies.proofs.Steps.{pod_read, parted}
use Rattle.spa_canonical.specs.Canonical.{AreCanonical, IsFixedLen}
use Rattle.spa_canonical.specs.Depth.{depth_of, member_depth}
use Rattle.spa_canonical.specs.Rewriting.{ArePodsWithin, AreShorter, AreShorterInside, BeginsShorter, IsShorterBody}
use Rattle.spa_events.specs.Inside.{IsBehindKey, IsInside}
use Rattle.spa_format.proofs.Sequences.{members_joined}
use Rattle.spa_canonical.proofs.SameLength.{as_long, fixed_same_length}
use Rattle.spa_canonical.proofs.Rewritten.{alone}
use Rattle.spa_canonical.proofs.Lengths.{lengths}

-- lists of pods are as long as a multiple of 8
pub whole_list : (vs : Trees) (b : List ℕ) → AreMembers vs b → length b % 8 ≡ 0
whole_list no_trees b m = let l = ap length m in omega arith
whole_list (member v vs) b m =
    let l = ap length m.2 ∙ length-append m.0 m.1 in
    let r = whole_list vs m.1 m.4 in
    omega arith

pub whole_keyed : (ps : Properties) (b : List ℕ) → AreProperties ps b → length b % 8 ≡ 0
whole_keyed no_properties b m = let l = ap length m in omega lengths
whole_keyed (property key flags v ps) b m =
    let l = ap length m.5 ∙ length-append m.3 m.4 in
    let r = whole_keyed ps m.4 m.7 in
    omega lengths

-- none is left
pub shorter_none : (keyed : Bool) (left : List ℕ) → length left ≡ 0 → AreShorterInside keyed left 0
shorter_none true left z = (no_properties, nil_from_length left z, sym z)
shorter_none false left z = record { values = no_trees; members = nil_from_length left z; long = sym z }

-- a pod that is opened
pub shorter_opened : (input body rest : List ℕ) (type n : ℕ) → Opens input type body rest → IsShorterBody type body n → BeginsShorter input rest n
shorter_opened input body rest type n o s =
    let v = s.value in
    let size : length body ≡ word_at input 0 = ap length o.its_body ∙ length-body_of input o.there in
    let a = length-encoded_pod (type_of v) (encoded_body v) in
    record { value = v; begins = pod_read input body rest type v o s.its_type s.its_body; long = omega lengths }

-- a pod of one or two words
pub shorter_short : (input rest : List ℕ) (size number len : ℕ) → 16 ≤ length input → size ≡ word_at input 0 → number ≡ word_at input 4 →
    size ≡ len → IsFixedLen number len → 0 < size → size < 9 → rest ≡ drop 16 input → BeginsShorter input rest 0
shorter_short input rest size number len l z w e f p s d =
    let body = body_of input in
    let n : word_at input 0 ≡ size = sym z in
    let whole : extent (word_at input 0) ≡ 16 = omega arith in
    let there : HasFront input = record { header = omega arith; whole = omega arith } in
    let long : length body ≡ size = length-body_of input there ∙ n in
    let o : Opens input number body rest = record {
      there = there;
      its_type = w;
      its_body = refl;
      its_rest = d ∙ ap (λ m. drop m input) (sym whole);
      shorter = omega arith;
      fits = omega arith;
    } in
    shorter_opened input body rest number 0 o (fixed_same_length number len body f (long ∙ e))

-- what follows it
pub shorter_room : (input rest : List ℕ) (n : ℕ) → BeginsShorter input rest n → n + length rest ≤ length input
shorter_room input rest n c =
    let p = parted input c.value rest c.begins in
    let d = ap length p ∙ length-append (front_of input) rest in
    omega arith

-- one pod
pub front_shorter : (input rest : List ℕ) (n : ℕ) → BeginsShorter input rest n → AreShorter (front_of input) n
front_shorter input rest n c =
    let e = ap length (append-nil (encoding_of c.value)) in
    record { values = member c.value no_trees; members = alone (front_of input) c.value c.begins.begins.pod; long = omega arith }

-- canonical pods don't get shorter
pub canonical_shorter : (pods : List ℕ) → AreCanonical pods → AreShorter pods 0
canonical_shorter pods k = let own = ap length k.same in record { values = k.values; members = k.members; long = omega arith }

-- first pods and those behind them
pub shorter_joined : (pods first rest : List ℕ) (m n : ℕ) → pods ≡ first ++ rest → AreShorter first m → AreShorter rest n → AreShorter pods (m + n)
shorter_joined pods first rest m n e s t =
    let vs = join_members s.values t.values in
    let l2 = ap length (member_encodings-join s.values t.values) in
    let l3 = ap length e in
    record {
      values = vs;
      members = subst (AreMembers vs) (sym e) (members_joined s.values t.values first rest s.members t.members);
      long = omega lengths;
    }

-- one more
pub shorter_step : (keyed : Bool) (left here rest : List ℕ) (n m : ℕ) → IsBehindKey keyed left here → BeginsShorter here rest n →
    AreShorterInside keyed rest m → AreShorterInside keyed left (n + m)
shorter_step false left here rest n m k c r =
    shorter_joined left (front_of here) rest n m (sym k ∙ parted here c.value rest c.begins) (front_shorter here rest n c) r
shorter_step true left here rest n m k c r =
    let v = c.value in
    let ps = property (word_at left 0) (word_at left 4) v r.0 in
    let p = parted here v rest c.begins in
    let e = length-property_encoding (word_at left 0) (word_at left 4) v r.0 in
    let d = ap length p in
    let h = ap length k.1 in
    let long : n + m + length (property_encodings ps) ≡ length left = omega lengths in
    (ps, (k.0, refl, refl, front_of here, rest, sym k.1 ∙ p, c.begins.begins.pod, r.1), long)

-- the first of such pods, and the others
pub record FirstWithin (levels : ℕ) (left : List ℕ) : Type 0 where
  pub there : HasFront left
  pub value : Tree
  pub pod : IsPod (front_of left) value
  pub shallow : depth_of value ≤ levels
  pub others : ArePodsWithin levels (rest_of left)

pub first_within : (levels : ℕ) (left : List ℕ) → 0 < length left → ArePodsWithin levels left → FirstWithin levels left
first_within levels left l s = of_members s.values s.members s.shallow
  where
    of_members : (vs : Trees) → AreMembers vs left → member_depth vs ≤ levels → FirstWithin levels left
    of_members no_trees m d = absurd (let z = ap length m in omega arith)
    of_members (member v vs) m d =
        let f = front_of_whole left m.0 m.1 (type_of v) (IsBody v) m.2 m.3 in
        let n : max (depth_of v) (member_depth vs) ≤ levels = d in
        let behind : ArePodsWithin levels (rest_of left) = record { values = vs; members = subst (AreMembers vs) f.2 m.4; shallow = omega arith } in
        record { there = f.0; value = v; pod = subst (λ b. IsPod b v) f.1 m.3; shallow = omega arith; others = behind }

-- what is behind other pods
pub within_behind : (vs : Trees) (first rest : List ℕ) (levels : ℕ) → AreMembers vs first → ArePodsWithin levels (first ++ rest) → ArePodsWithin levels rest
within_behind no_trees first rest levels m s = subst (ArePodsWithin levels) (ap (λ x. x ++ rest) m) s
within_behind (member v vs) first rest levels m s =
    let all = first ++ rest in
    let e : all ≡ m.0 ++ (m.1 ++ rest) = ap (λ x. x ++ rest) m.2 ∙ append_assoc m.0 m.1 rest in
    let f = front_of_whole all m.0 (m.1 ++ rest) (type_of v) (IsBody v) e m.3 in
    let behind = (first_within levels all (omega arith) s).others in
    within_behind vs m.1 rest levels m.4 (subst (ArePodsWithin levels) (sym f.2) behind)

pub shorter_behind : (input first rest : List ℕ) (n : ℕ) → input ≡ first ++ rest → AreCanonical first → AreShorter rest n → AreShorter input n
shorter_behind input first rest n e c s = subst (AreShorter input) (omega arith) (shorter_joined input first rest 0 n e (canonical_shorter first c) s)

-- the body of a struct or of an object
pub shorter_inside : (type : ℕ) (body inside : List ℕ) (keyed : Bool) (n : ℕ) → IsInside type body keyed inside → AreShorterInside keyed inside n →
    IsShorterBody type body n
shorter_inside type body inside false n i s =
    let m = subst (AreMembers s.values) i.1 s.members in
    let w = whole_members s.values in
    let z = whole_list s.values body m in
    let d = ap length i.1 in
    record { value = struct s.values; its_type = sym i.0; its_body = m; long = omega lengths }
shorter_inside type body inside true n i s =
    let t = word_at body 0 in
    let k = word_at body 4 in
    let p = subst (AreProperties s.0) i.2 s.1 in
    let w = whole_properties s.0 in
    let z = whole_keyed s.0 (drop 8 body) p in
    let l = s.2 in
    let d = ap length i.2 in
    record { value = object t k s.0; its_type = sym i.0; its_body = (i.1, refl, refl, p); long = omega lengths }

-- no other encoding of a value without members is shorter than a body of it, choices aside
pub same_padded : (v : Tree) (b : List ℕ) → IsBody v b → depth_of v ≡ 0 → type_of v ≢ choice_type → padded_size (length (encoded_body v)) ≡ padded_size (length b)
same_padded (fixed x) b w z n = ap padded_size (fixed_length (kind_of x) b x w)
same_padded (string s) b w z n = ap (λ y. padded_size (length y)) (sym w.1)
same_padded (bytes s) b w z n = ap (λ y. padded_size (length y)) (sym w)
same_padded (bitmap s) b w z n = ap (λ y. padded_size (length y)) (sym w)
same_padded (array k xs) b w z n = ap padded_size (same_array_length k xs b w)
same_padded (choice s f k x xs) b w z n = absurd (n refl)
same_padded (pointer t a) b w z n = elim w.1 [
  | inl e ↦ ap padded_size (pointer_length t a) ∙ sym (ap padded_size e.0)
  | inr e ↦ ap padded_size (pointer_length t a) ∙ sym (ap padded_size e.0)
]
same_padded (struct vs) b w z n = absurd (omega arith)
same_padded (object t i ps) b w z n = absurd (omega arith)

-- a body without pods, of another type than a choice's
pub shorter_leaf : (type : ℕ) (body : List ℕ) (v : Tree) → type_of v ≡ type → IsBody v body → depth_of v ≡ 0 → type ≢ choice_type → IsShorterBody type body 0
shorter_leaf type body v e b z n =
    record { value = v; its_type = e; its_body = b; long = as_long _ _ (same_padded v body b z (λ c. n (sym e ∙ c))) }
