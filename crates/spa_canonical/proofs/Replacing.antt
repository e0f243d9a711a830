-- Pods that are replaced by their encodings one after another, where they are.
use Rattle.std.proofs.Common.{◌≡◌, ℕ, ◌+◌, ◌-◌, ◌^◌, ◌<◌, ◌≤◌, ◌%◌, List, [], ◌++◌, length, drop, take, refl, sym, ap, ◌∙◌, subst, arith, append_assoc, length-drop}
use Rattle.std.specs.Prelude.{Bool, replicate, true, false}
use Rattle.std.proofs.Math.Seq.{take-add}
use Rattle.std.proofs.lemmas.List.{drop-drop, drop-take, drop_at, length-take-le, take-append-le, take_all, take_at, take_rest}
use Rattle.std.proofs.lemmas.Slice.{drop-put_mid}
use borrow.Rule.Slice.PartMut.{put_mid}
use Rattle.spa_format.specs.Words.{extent, word_at}
use Rattle.spa_format.specs.Kind.{IsFixedBody, fixed_body, kind_of, type_number}
use Rattle.spa_format.specs.Front.{HasFront, front_of, rest_of}
use Rattle.spa_format.specs.Typed.{IsBytes}
use Rattle.spa_format.proofs.Fronts.{length-body_of, size_of_front, type_of_front}
use Rattle.spa_format.proofs.WordLemmas.{IsBytes-drop, IsBytes-take, word_at-take}
use Rattle.spa_bytes.specs.Opening.{Opens}
use Rattle.spa_events.specs.Inside.{key_size}
use Rattle.spa_canonical.specs.Emit.{ArePlaced, BeginsWord, Encodes, EncodesFirst, HoldsWhole, IsPlaced, IsPodOf, OpensWhole, type_inside}
use Rattle.spa_canonical.proofs.PatchedBodies.{body_placed}
use Rattle.spa_format.specs.Encoding.{encoded_body}
use Rattle.spa_format.specs.Pod.{IsBody}
use Rattle.spa_format.proofs.Shapes.{fixed_only}
use Rattle.spa_canonical.proofs.Words.{content_kept}
use Rattle.spa_canonical.proofs.Patches.{front_bytes}
use Rattle.spa_canonical.proofs.Places.{few_placed, none_placed, pods_placed}
use Rattle.spa_canonical.proofs.Written.{further_behind, take_past}
use Rattle.spa_canonical.proofs.Lengths.{lengths}

pub key_whole : (keyed : Bool) → key_size keyed % 8 ≡ 0
key_whole true = refl
key_whole false = refl

-- from a pod's first byte on
behind : (at k : ℕ) (b : List ℕ) → drop (at + k) b ≡ drop k (drop at b)
behind at k b = sym (drop-drop k at b)

-- the pod that is opened
pub record IsOpenedAt (b body rest : List ℕ) (type size : ℕ) : Type 0 where
  pub whole : extent size + length rest ≡ length b
  pub front : front_of b ≡ take (extent size) b
  pub follows : rest_of b ≡ drop (extent size) b
  pub its : IsPodOf (take (extent size) b) type size

pub opened_at : (b body rest : List ℕ) (type size : ℕ) → Opens b type body rest → size ≡ length body → IsOpenedAt b body rest type size
opened_at b body rest type size o z =
    let n : size ≡ word_at b 0 = z ∙ ap length o.its_body ∙ length-body_of b o.there in
    let r = ap length o.its_rest ∙ length-drop (extent (word_at b 0)) b in
    let front : front_of b ≡ take (extent size) b = ap (λ m. take (extent m) b) (sym n) in
    record {
      whole = omega arith;
      front = front;
      follows = ap (λ m. drop (extent m) b) (sym n);
      its = record {
        long = length-take-le (extent size) b (omega arith);
        fits = subst (λ m. m < 2 ^ 32) (sym z) o.fits;
        its_size = ap (λ y. word_at y 0) (sym front) ∙ size_of_front b ∙ sym n;
        its_type = ap (λ y. word_at y 4) (sym front) ∙ type_of_front b ∙ sym o.its_type;
      };
    }

-- one pod more
encodes_more : (keyed : Bool) (old now sub : List ℕ) (at here next k len kept : ℕ) → EncodesFirst keyed old now at at → IsBytes now → here ≡ at + key_size keyed →
    HasFront (drop here now) → k ≡ extent (word_at (drop here now) 0) → next ≡ here + k → IsPlaced (take k (drop here now)) (take len sub) → len ≤ k →
    length sub ≡ length (take k (drop here now)) → kept ≡ here + len → EncodesFirst keyed old (put_mid here k now sub) kept next
encodes_more keyed old now sub at here next k len kept e y h o g f p w long t =
    let b = drop at now in
    let c = drop here now in
    let whole = o.whole in
    let header = o.header in
    let l : length sub ≡ k = long ∙ length-take-le k c (omega lengths) in
    let there : c ≡ drop (key_size keyed) b = ap (λ i. drop i now) h ∙ behind at (key_size keyed) now in
    let one : IsPlaced (front_of c) (take len sub) = subst (λ n. IsPlaced (take n c) (take len sub)) g p in
    let start : take here now ≡ take at now ++ take (key_size keyed) b = ap (λ i. take i now) h ∙ take-add at (key_size keyed) now in
    let T = drop k c in
    let front : take kept (put_mid here k now sub) ≡ take at now ++ (take (key_size keyed) b ++ take len sub) =
    ap (λ i. take i (put_mid here k now sub)) t ∙ take_past (take here now) (sub ++ T) here len (omega lengths)
    ∙ ap (λ x. take here now ++ x) (take-append-le len sub T (omega lengths)) ∙ ap (λ x. x ++ take len sub) start
    ∙ append_assoc (take at now) (take (key_size keyed) b) (take len sub) in
    let follows : drop next now ≡ rest_of c = ap (λ i. drop i now) f ∙ behind here k now ∙ ap (λ n. drop n c) g in
    let before : drop next old ≡ drop next now = sym (further_behind now old at next (omega lengths) e.behind) in
    let put_long = (let y : length (put_mid here k now sub) ≡ length now = omega lengths in y) in
    let key8 = key_whole keyed in
    record {
      ends = λ others q.
          subst (ArePlaced keyed old)
          (sym (ap (λ x. x ++ others) front ∙ append_assoc (take at now) (take (key_size keyed) b ++ take len sub) others
          ∙ ap (λ x. take at now ++ x) (append_assoc (take (key_size keyed) b) (take len sub) others)))
          (e.ends (take (key_size keyed) b ++ (take len sub ++ others))
          (subst (λ x. ArePlaced keyed x (take (key_size keyed) b ++ (take len sub ++ others))) e.behind
          (pods_placed keyed b (take len sub) others (IsBytes-drop at now y) (subst HasFront there o)
          (subst (λ x. IsPlaced (front_of x) (take len sub)) there one)
          (subst (λ x. ArePlaced keyed (rest_of x) others) there (subst (λ x. ArePlaced keyed x others) (before ∙ follows) q)))));
      behind = drop-put_mid here k now sub next (omega lengths) (omega lengths) l ∙ sym before;
      long = put_long ∙ e.long;
      order = omega lengths;
      within = omega lengths;
      whole = omega lengths;
    }

-- a word becomes its rewriting
word_placed : (c pod : List ℕ) (k : ℕ) → BeginsWord c → k ≡ 16 → pod ≡ take 12 (take k c) ++ replicate (length (take k c) - 12) 0 → IsBytes pod →
    IsPlaced (take k c) pod
word_placed c pod k w x e h =
    let n = w.long in
    let old = take k c in
    let t = w.its_type in
    let long : length old ≡ 16 = omega lengths in
    let its : IsPodOf old (word_at c 4) 4 = record {
      long = omega arith;
      fits = omega arith;
      its_size = word_at-take k 0 c (omega arith) ∙ w.its_size;
      its_type = word_at-take k 4 c (omega arith);
    } in
    let body = take 4 (drop 8 old) in
    let front : IsBytes (take 12 old) = front_bytes pod old _ 12 12 (omega arith) (omega arith) h e in
    let bytes : IsBytes body = subst IsBytes (drop-take 8 4 old) (IsBytes-drop 8 (take 12 old) front) in
    body_placed old pod body (word_at c 4) 4 (front_bytes pod old _ 8 12 (omega arith) (omega arith) h e) its (omega lengths)
    (λ v y b.
    let o = fixed_only v t.0 (y ∙ t.1) in
    let f : IsFixedBody (kind_of o.0) body o.0 = subst (λ z. IsBody z body) o.2 b in
    content_kept (kind_of o.0) body bytes f.whole (λ z. absurd (w.other (t.1 ∙ ap type_number (sym o.1 ∙ z)))) ∙ ap fixed_body (sym f.says) ∙ ap encoded_body (sym o.2))
    (e ∙ ap (λ y. y ++ replicate (length old - 12) 0) (take-add 8 4 old) ∙ append_assoc (take 8 old) body (replicate (length old - 12) 0)
    ∙ ap (λ m. take 8 old ++ (body ++ replicate m 0)) (let z : length old - 12 ≡ 4 = omega arith in z))

pub key_small : (keyed : Bool) → key_size keyed ≤ 8
key_small true = omega arith
key_small false = omega arith

-- one word more
pub word_replaced : (keyed : Bool) (old now pod : List ℕ) (at key k : ℕ) → EncodesFirst keyed old now at at → IsBytes now → key ≡ key_size keyed →
    8 ≤ length now - at → BeginsWord (take (length now - (at + key)) (drop (at + key) now)) → k ≡ 16 →
    pod ≡ take 12 (take k (drop (at + key) now)) ++ replicate (length (take k (drop (at + key) now)) - 12) 0 →
    length pod ≡ length (take k (drop (at + key) now)) → IsBytes (put_mid (at + key) k now pod) →
    EncodesFirst keyed old (put_mid (at + key) k now pod) (at + key + 16) (at + key + 16)
word_replaced keyed old now pod at key k e y h r begins z p long b =
    let here = at + key in
    let c = drop here now in
    let w : BeginsWord c = subst BeginsWord (take_rest now here) begins in
    let others = drop k c in
    let back : drop here (put_mid here k now pod) ≡ pod ++ others = drop_at (take here now) (pod ++ others) here (length-take-le here now (omega lengths)) in
    let bytes : IsBytes pod =
    subst IsBytes (ap (take (length pod)) back ∙ take_at pod others (length pod) refl)
    (IsBytes-take (length pod) (drop here (put_mid here k now pod)) (IsBytes-drop here (put_mid here k now pod) b)) in
    let placed : IsPlaced (take k c) (take k pod) = subst (IsPlaced (take k c)) (sym (take_all k pod (omega lengths))) (word_placed c pod k w z p bytes) in
    let n = w.its_size in
    let room = w.long in
    encodes_more keyed old now pod at here (here + 16) k k (here + 16) e y (omega lengths) (record { header = omega arith; whole = omega arith }) (omega arith)
    (omega arith) placed (omega lengths) long (omega lengths)

-- What follows.

here_left : (keyed : Bool) (old now : List ℕ) (at here : ℕ) → EncodesFirst keyed old now at at → here ≡ at + key_size keyed →
    drop here now ≡ drop (key_size keyed) (drop at old)
here_left keyed old now at here e h = ap (λ i. drop i now) h ∙ behind at (key_size keyed) now ∙ ap (drop (key_size keyed)) e.behind

pub none_follows : (keyed : Bool) (old now : List ℕ) (at : ℕ) → EncodesFirst keyed old now at at → length now - at < 8 → ArePlaced keyed (drop at old) []
none_follows keyed old now at e l = let s = e.long in let d = length-drop at old in few_placed keyed (drop at old) (omega arith)

pub no_front_follows : (keyed : Bool) (old now : List ℕ) (at key : ℕ) → EncodesFirst keyed old now at at → key ≡ key_size keyed →
    ¬ (HasFront (take (length now - (at + key)) (drop (at + key) now))) → ArePlaced keyed (drop at old) []
no_front_follows keyed old now at key e k n =
    none_placed keyed (drop at old)
    (λ f. n (subst HasFront (sym (take_rest now (at + key) ∙ here_left keyed old now at (at + key) e (ap (λ i. at + i) k))) f))

-- the pod behind a key, opened
pub record OpensAt (keyed : Bool) (now body rest : List ℕ) (at here type : ℕ) : Type 0 where
  pub key : here ≡ at + key_size keyed
  pub within : here ≤ length now
  pub opens : Opens (drop here now) type body rest

pub opens_at : (keyed : Bool) (now body rest : List ℕ) (at key type : ℕ) → 8 ≤ length now - at → key ≡ key_size keyed →
    Opens (take (length now - (at + key)) (drop (at + key) now)) type body rest → OpensAt keyed now body rest at (at + key) type
opens_at keyed now body rest at key type l k o =
    let s = key_small keyed in
    record { key = omega arith; within = omega arith; opens = subst (λ x. Opens x type body rest) (take_rest now (at + key)) o }

pub pod_at : (keyed : Bool) (now body rest : List ℕ) (at here type : ℕ) → OpensAt keyed now body rest at here type →
    IsPodOf (take (length now - length rest - here) (drop here now)) type (length body)
pod_at keyed now body rest at here type o =
    let is = opened_at (drop here now) body rest type (length body) o.opens refl in
    subst (λ m. IsPodOf (take m (drop here now)) type (length body)) (omega lengths) is.its

inner_of : (inner : Bool) (type size : ℕ) → HoldsWhole type size inner → (type ≡ type_inside inner) × (key_size inner ≤ size)
inner_of true type size h = h.holds
inner_of false type size h = (h.holds, omega arith)

pub container_follows : (keyed inner : Bool) (old now body rest : List ℕ) (at here type : ℕ) → EncodesFirst keyed old now at at →
    OpensAt keyed now body rest at here type → HoldsWhole type (length body) inner → OpensWhole keyed (drop at old) inner (length body)
container_follows keyed inner old now body rest at here type e o w =
    let is = opened_at (drop here now) body rest type (length body) o.opens refl in
    let holds = inner_of inner type (length body) w in
    let there = here_left keyed old now at here e o.key in
    record {
      there = subst HasFront there o.opens.there;
      its = subst (λ x. IsPodOf (front_of x) (type_inside inner) (length body)) there
          (subst (λ x. IsPodOf x (type_inside inner) (length body)) (sym is.front)
          (subst (λ t. IsPodOf (take (extent (length body)) (drop here now)) t (length body)) holds.0 is.its));
      key = holds.1;
      whole = w.whole;
    }

-- A pod that holds no others is replaced.
pub leaf_replaced : (keyed : Bool) (old now sub body rest : List ℕ) (at here type len kept : ℕ) → EncodesFirst keyed old now at at → IsBytes now →
    OpensAt keyed now body rest at here type → Encodes IsPlaced (take (length now - length rest - here) (drop here now)) sub len →
    length sub ≡ length (take (length now - length rest - here) (drop here now)) → kept ≡ here + len →
    EncodesFirst keyed old (put_mid here (length now - length rest - here) now sub) kept (length now - length rest)
leaf_replaced keyed old now sub body rest at here type len kept e y o p long t =
    let r = ap length o.opens.its_rest in
    let w = o.opens.there.whole in
    let n = o.within in
    encodes_more keyed old now sub at here (length now - length rest) (length now - length rest - here) len kept e y o.key o.opens.there (omega lengths)
    (omega lengths) p.placed (omega lengths) long t

-- by one as long
pub leaf_kept : (keyed : Bool) (old now sub body rest : List ℕ) (at here type len : ℕ) → EncodesFirst keyed old now at at → IsBytes now →
    OpensAt keyed now body rest at here type → Encodes IsPlaced (take (length now - length rest - here) (drop here now)) sub len →
    length sub ≡ length (take (length now - length rest - here) (drop here now)) → length now - length rest ≤ here + len →
    EncodesFirst keyed old (put_mid here (length now - length rest - here) now sub) (length now - length rest) (length now - length rest)
leaf_kept keyed old now sub body rest at here type len e y o p long t =
    let r = ap length o.opens.its_rest in
    let w = o.opens.there.whole in
    let n = o.within in
    leaf_replaced keyed old now sub body rest at here type len (length now - length rest) e y o p long (omega lengths)
