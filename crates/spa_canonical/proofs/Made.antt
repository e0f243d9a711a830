-- What canonical pods are made of.
use Rattle.std.proofs.Common.{◌≡◌, ℕ, ◌+◌, ◌<◌, ◌≤◌, ◌-◌, List, ◌++◌, length, take, drop, refl, sym, ap, ◌∙◌, subst, arith}
use Rattle.std.specs.Prelude.{max}
use Rattle.std.proofs.lemmas.List.{drop-take, drop_at}
use Rattle.spa_format.specs.Words.{word_at, padded_size, extent, padding, body_of, header_size}
use Rattle.spa_format.specs.Tree.{Tree, type_of, Trees, no_trees, member, Properties, no_properties, property}
use Rattle.spa_format.specs.Pod.{AreMembers, AreProperties, IsBody, IsPod, IsWhole}
use Rattle.spa_format.specs.Encoding.{encoded_pod, encoded_body, member_encodings, property_encodings}
use Rattle.spa_format.specs.Front.{HasFront, front_of, rest_of}
use Rattle.spa_format.specs.Typed.{IsBytes}
use Rattle.spa_format.proofs.Back.{body_fits, type_fits, whole_frame}
use Rattle.spa_format.proofs.Fronts.{front_of_whole, length-body_of, of_whole_front}
use Rattle.spa_format.proofs.Origin.{writable}
use Rattle.spa_format.proofs.Short.{padded_above}
use Rattle.spa_format.proofs.WordLemmas.{IsBytes-drop, IsBytes-take}
use Rattle.spa_bytes.specs.Opening.{Opens}
use Rattle.spa_canonical.specs.Canonical.{AreCanonical, AreCanonicalProperties, BeginsCanonical, HasZeros, IsCanonicalBody}
use Rattle.spa_canonical.specs.Depth.{depth_of, member_depth, property_depth}
use Rattle.spa_canonical.proofs.Words.{behind_two_words}

-- the pod of a value that is there has the size word, type and padding of its encoding
pub its_frame : (b : List ℕ) (v : Tree) → IsBytes b → IsPod b v → IsWhole (encoded_pod (type_of v) (encoded_body v)) (type_of v) (λ c. c ≡ encoded_body v)
its_frame b v h p =
    whole_frame (type_of v) (encoded_body v) (λ c. c ≡ encoded_body v) (type_fits v) (body_fits v (writable b v h p).fits) refl

-- the padding of an encoded pod
pod_zeros : (input : List ℕ) (t : ℕ) (body : List ℕ) → front_of input ≡ encoded_pod t body → word_at input 0 ≡ length body → HasZeros (drop 8 input) (length body)
pod_zeros input t body e s =
    let n = length body in
    let p = padded_size n in
    let behind = drop 8 input in
    let more : n + (p - n) ≡ p = let up = padded_above n in omega arith in
    let same : take p behind ≡ body ++ padding n =
    sym (drop-take 8 p input) ∙ behind_two_words (take (8 + p) input) (body ++ padding n) n t (ap (λ k. take (extent k) input) (sym s) ∙ e) in
    sym (drop-take n (p - n) behind) ∙ ap (λ k. drop n (take k behind)) more ∙ ap (drop n) same ∙ drop_at body (padding n) n refl

-- a canonical front: its body and its padding are as its value's are written
pub record MadeFront (input rest : List ℕ) (value : Tree) : Type 0 where
  pub there : HasFront input
  pub follows : rest ≡ rest_of input
  pub its_type : word_at input 4 ≡ type_of value
  pub its_body : IsBody value (body_of input)
  pub same : body_of input ≡ encoded_body value
  pub zeros : HasZeros (drop 8 input) (length (body_of input))

pub made_front : (input rest : List ℕ) → IsBytes input → (c : BeginsCanonical input rest) → MadeFront input rest c.value
made_front input rest h c =
    let v = c.value in
    let p = c.begins.begins.pod in
    let t = c.begins.begins.there in
    let w = its_frame (front_of input) v (IsBytes-take (extent (word_at input 0)) input h) p in
    let q = of_whole_front input (type_of v) (λ b. b ≡ encoded_body v) (subst (λ l. IsWhole l (type_of v) (λ b. b ≡ encoded_body v)) (sym c.same) w) in
    let size : word_at input 0 ≡ length (encoded_body v) = sym (length-body_of input t) ∙ ap length q.1 in
    record {
      there = t;
      follows = c.begins.follows;
      its_type = q.0;
      its_body = (of_whole_front input (type_of v) (IsBody v) p).1;
      same = q.1;
      zeros = subst (λ b. HasZeros (drop 8 input) (length b)) (sym q.1) (pod_zeros input (type_of v) (encoded_body v) c.same size);
    }

-- the body of such a front, opened
pub record MadeBody (type : ℕ) (body : List ℕ) (v : Tree) : Type 0 where
  pub canonical : IsCanonicalBody type body
  pub value : canonical.value ≡ v

pub made_body : (input rest body behind : List ℕ) (type : ℕ) → IsBytes input → (c : BeginsCanonical input rest) → Opens input type body behind → MadeBody type body c.value
made_body input rest body behind type h c o =
    let m = made_front input rest h c in
    record {
      canonical = record {
        value = c.value;
        its_type = sym m.its_type ∙ sym o.its_type;
        its_body = subst (IsBody c.value) (sym o.its_body) m.its_body;
        same = o.its_body ∙ m.same;
      };
      value = refl;
    }

-- the first of canonical pods, and the others
pub record MadeMembers (left : List ℕ) (vs : Trees) : Type 0 where
  pub first : BeginsCanonical left (rest_of left)
  pub others : AreCanonical (rest_of left)
  pub depth : member_depth vs ≡ max (depth_of first.value) (member_depth others.values)

pub made_members : (left : List ℕ) → IsBytes left → 0 < length left → (c : AreCanonical left) → MadeMembers left c.values
made_members left h l c = of_values c.values c.members c.same
  where
    of_values : (vs : Trees) → AreMembers vs left → left ≡ member_encodings vs → MadeMembers left vs
    of_values no_trees m s = absurd (let e = ap length m in omega arith)
    of_values (member v vs) m s =
        let f = front_of_whole left m.0 m.1 (type_of v) (IsBody v) m.2 m.3 in
        let pod : IsPod (front_of left) v = subst (λ b. IsPod b v) f.1 m.3 in
        let w = its_frame (front_of left) v (IsBytes-take (extent (word_at left 0)) left h) pod in
        let g = front_of_whole left (encoded_pod (type_of v) (encoded_body v)) (member_encodings vs) (type_of v) (λ b. b ≡ encoded_body v) s w in
        record {
          first = record { value = v; begins = record { begins = record { there = f.0; pod = pod }; follows = refl }; same = sym g.1 };
          others = record { values = vs; members = subst (AreMembers vs) f.2 m.4; same = sym g.2 };
          depth = refl;
        }

-- the same of properties
pub record MadeProperties (left : List ℕ) (ps : Properties) : Type 0 where
  pub header : header_size ≤ length left
  pub first : BeginsCanonical (drop header_size left) (rest_of (drop header_size left))
  pub others : AreCanonicalProperties (rest_of (drop header_size left))
  pub depth : property_depth ps ≡ max (depth_of first.value) (property_depth others.values)

pub made_properties : (left : List ℕ) → IsBytes left → 0 < length left → (c : AreCanonicalProperties left) → MadeProperties left c.values
made_properties left h l c = of_values c.values c.properties c.same
  where
    of_values : (ps : Properties) → AreProperties ps left → left ≡ property_encodings ps → MadeProperties left ps
    of_values no_properties m s = absurd (let e = ap length m in omega arith)
    of_values (property key flags v ps) m s =
        let behind = drop header_size left in
        let bytes = IsBytes-drop header_size left h in
        let f = front_of_whole behind m.3 m.4 (type_of v) (IsBody v) m.5 m.6 in
        let pod : IsPod (front_of behind) v = subst (λ b. IsPod b v) f.1 m.6 in
        let w = its_frame (front_of behind) v (IsBytes-take (extent (word_at behind 0)) behind bytes) pod in
        let frame = encoded_pod (type_of v) (encoded_body v) in
        let s' : behind ≡ frame ++ property_encodings ps = behind_two_words left _ key flags s in
        let g = front_of_whole behind frame (property_encodings ps) (type_of v) (λ b. b ≡ encoded_body v) s' w in
        record {
          header = m.0;
          first = record { value = v; begins = record { begins = record { there = f.0; pod = pod }; follows = refl }; same = sym g.1 };
          others = record { values = ps; properties = subst (AreProperties ps) f.2 m.7; same = sym g.2 };
          depth = refl;
        }
