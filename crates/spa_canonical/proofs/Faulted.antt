-- Where a look stops, and which fault stands there.
use Rattle.std.proofs.Common.{◌≡◌, ◌≢◌, ℕ, ◌+◌, ◌-◌, ◌<◌, inl, inr, List, [], length, refl, sym, ap, ◌∙◌, subst, arith}
use Rattle.std.specs.Prelude.{Bool, true, false}
use Rattle.std.proofs.lemmas.Bool.{cases_eq}
use Rattle.spa_format.specs.Words.{header_size, word_at}
use Rattle.spa_format.specs.Tree.{Tree, no_properties, object_type, struct_type, type_of}
use Rattle.spa_format.specs.Pod.{IsBody}
use Rattle.spa_format.specs.Front.{Begins, HasFront, IsRefused, rest_of}
use Rattle.spa_format.specs.Typed.{IsBytes}
use Rattle.spa_format.specs.Faults.{Fault, Short, StandsAtFront, at_front}
use Rattle.spa_format.specs.Opened.{OpensHeaderAlone, no_front, no_parts, short_object}
use Rattle.spa_format.proofs.Refused.{begun}
use Rattle.spa_format.proofs.WordLemmas.{word_at-drop}
use Rattle.spa_bytes.specs.Opening.{Opens}
use Rattle.spa_fixed_sized.specs.declared.fault.Refusal.{Refusal}
use Rattle.spa_bodies.specs.Refusing.{Says, StandsInBody}
use Rattle.spa_bodies.proofs.Refusals.{at_front_of, says_through}
use Rattle.spa_bodies.proofs.Steps.{pod_read}
use Rattle.spa_canonical.specs.Depth.{depth_of}
use Rattle.spa_canonical.specs.Canonical.{BeginsCanonical}
use Rattle.spa_canonical.specs.Look.{AreCanonicalInside, Awaits, IsLeafBody, IsNoLeaf, StandsAt, Stops, StopsAt, at_key, at_pod, from_properties, scope_of}
use Rattle.spa_events.specs.Inside.{IsBehindKey, IsContainer, key_size}
use Rattle.spa_canonical.proofs.Leaves.{container_depth}
use Rattle.spa_canonical.proofs.Looks.{first_own, stands_first}
use Rattle.spa_canonical.proofs.Offsets.{key_long, offset_first}
use Rattle.spa_canonical.proofs.LeafBodies.{leaf_depth, never, some_key}

-- no pod begins there, and not for what is inside it
pub record IsFaulted (here : List ℕ) : Type 0 where
  pub refused : IsRefused here
  pub alone : OpensHeaderAlone here

-- the front isn't there
pub short_there : (here : List ℕ) → ¬ (HasFront here) → IsFaulted here
short_there here n = record { refused = λ v b. n b.there; alone = no_front n }

-- it is no pod without members, and no struct or object
pub leaf_there : (here body rest : List ℕ) (type : ℕ) → Opens here type body rest → type ≢ struct_type → (type ≡ object_type → length body < header_size) →
    ((v : Tree) → type_of v ≡ type → depth_of v ≡ 0 → ¬ (IsBody v body)) → IsFaulted here
leaf_there here body rest type o s l n = record {
  refused = λ v b.
      let q = begun here v b in
      let t : type_of v ≡ type = sym q.0 ∙ sym o.its_type in
      let c : IsBody v body = subst (IsBody v) (sym o.its_body) q.1 in
      n v t (leaf_depth v body (λ e. s (sym t ∙ e)) (λ e. l (sym t ∙ e)) c) c;
  alone = elim (cases_eq type object_type) [
    | inl e ↦ short_object (sym o.its_type ∙ e) (subst (λ b. length b < header_size) o.its_body (l e))
    | inr e ↦ no_parts (λ t. s (o.its_type ∙ t)) (λ t. e (o.its_type ∙ t))
  ];
}

-- no value without members has such a body, where none is at the front
pub no_leaf_body : (here body rest : List ℕ) (type : ℕ) → Opens here type body rest → ((v : Tree) → Begins here v → 0 < depth_of v) →
    (v : Tree) → type_of v ≡ type → depth_of v ≡ 0 → ¬ (IsBody v body)
no_leaf_body here body rest type o n v t z b =
    let d = n v (pod_read here body rest type v o t b).begins in
    omega arith

pub container_stops : (canonical : Bool) (here : List ℕ) → IsContainer (word_at here 4) → IsNoLeaf canonical here
container_stops canonical here c = record { differs = λ _ rest k. deep k.value k.begins.begins; refused = λ _ v b. deep v b }
  where
    deep : (v : Tree) → Begins here v → 0 < depth_of v
    deep v b = container_depth v (subst IsContainer (begun here v b).0 c)

pub first_type : (keyed : Bool) (left here : List ℕ) → IsBehindKey keyed left here → word_at left (key_size keyed + 4) ≡ word_at here 4
first_type true left here k = sym (ap (λ b. word_at b 4) k.1 ∙ word_at-drop 8 4 left)
first_type false left here k = sym (ap (λ b. word_at b 4) k)

-- no struct or object begins there
pub leaf_shallow : (here body rest : List ℕ) (type : ℕ) → Opens here type body rest → type ≢ struct_type → (type ≡ object_type → length body < header_size) →
    (r : List ℕ) (c : BeginsCanonical here r) → depth_of c.value ≡ 0
leaf_shallow here body rest type o s l r c =
    let v = c.value in
    let q = begun here v c.begins.begins in
    let t : type_of v ≡ type = sym q.0 ∙ sym o.its_type in
    leaf_depth v body (λ e. s (sym t ∙ e)) (λ e. l (sym t ∙ e)) (subst (IsBody v) (sym o.its_body) q.1)

-- so it is no canonical pod, where only structs and objects may be
pub leaf_differs : (here body rest : List ℕ) (type : ℕ) → Opens here type body rest → type ≢ struct_type → (type ≡ object_type → length body < header_size) →
    ((r : List ℕ) (c : BeginsCanonical here r) → 0 < depth_of c.value) → (r : List ℕ) → ¬ (BeginsCanonical here r)
leaf_differs here body rest type o s l f r c =
    let z = leaf_shallow here body rest type o s l r c in
    let d = f r c in
    omega arith

-- where a look stops
pub stops_first : (keyed : Bool) (left here : List ℕ) → IsBehindKey keyed left here → 0 < length left → IsFaulted here → StopsAt keyed left here 0
stops_first keyed left here k l f = record {
  refused = f.refused;
  alone = f.alone;
  stands = λ c s. stands_first keyed left here c here k l (at_front here refl s);
  room = (let e = key_long keyed left here k in omega arith);
  offset = λ c s.
      let e = key_long keyed left here k in
      subst (λ m. StandsAt c (scope_of keyed) m left) (omega arith) (offset_first keyed left here c 0 l k (at_pod here s));
}

only_short : (b : List ℕ) (k : Fault) → length b < header_size → StandsAtFront k b → k ≡ Short
only_short b Short l s = refl
only_short b _ l s = absurd (let h = s.0.header in omega arith)

pub stops_key : (keyed : Bool) (left : List ℕ) → keyed ≡ true → length left < header_size → 0 < length left → StopsAt keyed left left 0
stops_key false left e l some = absurd (let t : false ≡ true = e in cc)
stops_key true left e l some =
    let f = short_there left (λ h. let k = h.header in omega arith) in
    record {
      refused = f.refused;
      alone = f.alone;
      stands = λ c s. (no_properties, [], left, refl, refl, inl (only_short left c l s, refl, (λ n. let z = ap length n in omega arith), l));
      room = omega arith;
      offset = λ c s.
          subst (λ m. StandsAt c from_properties m left) (omega arith) (at_key left (λ n. let z = ap length n in omega arith) l (only_short left c l s));
    }

pub stops_in : (canonical all keyed : Bool) (pods left place : List ℕ) (Then : ℕ → Type 0) (waiting behind surplus : ℕ) →
    Awaits canonical all pods Then waiting keyed left behind surplus → Stops canonical keyed left place 0 → Stops canonical all pods place behind
stops_in canonical all keyed pods left place Then waiting behind surplus w q =
    record {
      differs = λ t c. q.differs t (w.kept c);
      room = omega arith;
      fault = λ f.
          let s = q.fault f in
          record {
            refused = s.refused;
            alone = s.alone;
            stands = λ k x. w.stands k place (s.stands k x);
            room = omega arith;
            offset = λ k x.
                subst (λ m. StandsAt k (scope_of all) m pods) (omega arith) (w.offset k (length left - (length place + 0)) (s.offset k x));
          };
    }

-- where a look meets no struct or object, it stops, unless another pod is first

-- no key is there,
pub stops_without_key : (keyed canonical : Bool) (left : List ℕ) → keyed ≡ true → length left < header_size → 0 < length left → Stops canonical keyed left left 0
stops_without_key keyed canonical left e l some = record { differs = λ _. no_key keyed e; room = omega arith; fault = λ _. stops_key keyed left e l some }
  where
    no_key : (keyed : Bool) → keyed ≡ true → ¬ (AreCanonicalInside keyed left)
    no_key false e = absurd (never false e refl)
    no_key true e = some_key left l some

-- the front isn't there,
pub stops_without_front : (keyed canonical : Bool) (left here : List ℕ) → IsBytes left → 0 < length left → IsBehindKey keyed left here → ¬ (HasFront here) →
    Stops canonical keyed left here 0
stops_without_front keyed canonical left here h l k n =
    let e = key_long keyed left here k in
    record {
      differs = λ _ c. n (first_own keyed left here (rest_of here) h l k refl c).first.begins.begins.there;
      room = omega arith;
      fault = λ _. stops_first keyed left here k l (short_there here n);
    }

-- or it is another pod
pub stops_at_other : (keyed canonical : Bool) (left here body rest : List ℕ) (type : ℕ) → IsBytes left → 0 < length left → IsBehindKey keyed left here →
    Opens here type body rest → type ≢ struct_type → (type ≡ object_type → length body < header_size) → IsNoLeaf canonical here →
    Stops canonical keyed left here 0
stops_at_other keyed canonical left here body rest type h l k o s z n =
    let e = key_long keyed left here k in
    record {
      differs = λ t c. leaf_differs here body rest type o s z (n.differs t) rest (first_own keyed left here rest h l k o.its_rest c).first;
      room = omega arith;
      fault = λ f. stops_first keyed left here k l (leaf_there here body rest type o s z (no_leaf_body here body rest type o (n.refused f)));
    }

-- a fault of that body stands at the front
pub fault_at_front : (place body rest : List ℕ) (type : ℕ) (why : Refusal) → Opens place type body rest → Says (StandsInBody type body) ⊥ why →
    Says (λ k. StandsAtFront k place) ⊥ why
fault_at_front place body rest type why o s =
    let stands : (k : Fault) → StandsInBody type body k → StandsAtFront k place = λ k i.
    at_front_of place k o.there
    (subst (λ b. StandsInBody (word_at place 4) b k) o.its_body (subst (λ t. StandsInBody t body k) o.its_type i)) in
    says_through (StandsInBody type body) (λ k. StandsAtFront k place) ⊥ ⊥ stands (λ n. n) why s

-- and the body is that of no value
pub refused_leaf : (canonical : Bool) (place body rest : List ℕ) (type n : ℕ) → Opens place type body rest → IsRefused place → ¬ (IsLeafBody canonical type body n)
refused_leaf canonical place body rest type n o r l =
    let s = l.shorter in
    r s.value (pod_read place body rest type s.value o s.its_type s.its_body).begins
