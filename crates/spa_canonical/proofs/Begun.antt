-- Containers whose encodings are begun, and what their headers hold.
use Rattle.std.proofs.Common.{◌≡◌, ℕ, ◌+◌, ◌-◌, ◌/◌, ◌<◌, ◌≤◌, ◌%◌, List, [], ◌∷◌, ◌++◌, length, drop, take, refl, sym, ap, ◌∙◌, subst, arith, append_assoc}
use Rattle.std.specs.Prelude.{⊤, Bool, false}
use Rattle.std.proofs.lemmas.List.{append-nil, drop-take, drop_at, take-take}
use Rattle.spa_format.specs.Words.{extent, header_size, padded_size, size_limit, word_at, word_bytes}
use Rattle.spa_format.specs.Front.{HasFront, front_of, rest_of}
use Rattle.spa_format.specs.Typed.{IsBytes}
use Rattle.spa_format.proofs.Fronts.{size_of_front}
use Rattle.spa_format.proofs.WordLemmas.{IsBytes-drop, IsBytes-take, word_at-take}
use Rattle.spa_events.specs.Inside.{key_size}
use Rattle.spa_canonical.specs.Emit.{ArePlaced, IsPlaced, IsPodOf, OpensWhole, type_inside}
use Rattle.spa_canonical.proofs.Places.{inner_placed, pods_placed}
use Rattle.spa_canonical.proofs.Written.{drop_past, take_past}
use Rattle.spa_canonical.proofs.Lengths.{lengths}

-- a container whose encoding is begun: where it begins, whether the list that it is in is keyed, and what of that list follows it
pub record Begun : Type 0 where
  pub start : ℕ
  pub keyed : Bool
  pub pods : List ℕ

-- the header of a container whose body has this length
abbrev pub header_of : Bool → ℕ → List ℕ
header_of inner size = word_bytes size ++ word_bytes (type_inside inner)

-- the bytes with the header of the container that begins at this offset and ends with them
abbrev pub with_header : Bool → ℕ → List ℕ → List ℕ
with_header inner start b = take start b ++ (header_of inner (length b - (start + header_size)) ++ drop (start + header_size) b)

-- a header behind other bytes
header_behind : (inner : Bool) (w b : List ℕ) (n start key : ℕ) → n ≡ length w → start ≡ n + key →
    with_header inner start (w ++ b) ≡ w ++ with_header inner key b
header_behind inner w b n start key l s =
    let front : take start (w ++ b) ≡ w ++ take key b = ap (λ i. take i (w ++ b)) s ∙ take_past w b n key (sym l) in
    let back : drop (start + header_size) (w ++ b) ≡ drop (key + header_size) b =
    ap (λ i. drop i (w ++ b)) (omega lengths) ∙ drop_past w b n (key + header_size) (sym l) in
    ap (λ x. x ++ (header_of inner (length (w ++ b) - (start + header_size)) ++ drop (start + header_size) (w ++ b))) front
    ∙ ap (λ x. (w ++ take key b) ++ (header_of inner (length (w ++ b) - (start + header_size)) ++ x)) back
    ∙ ap (λ n. (w ++ take key b) ++ (header_of inner n ++ drop (key + header_size) b)) (omega lengths)
    ∙ append_assoc w (take key b) (header_of inner (length b - (key + header_size)) ++ drop (key + header_size) b)

header_kept : (inner : Bool) (start : ℕ) (b : List ℕ) → start + header_size ≤ length b → length (with_header inner start b) ≡ length b
header_kept inner start b r =
    let n = length b - (start + header_size) in
    omega lengths

-- the encoding of a container that is first, once the pods inside and its header are there
headed_pod : (inner : Bool) (here link pods : List ℕ) (size : ℕ) → IsBytes here → IsPodOf (front_of here) (type_inside inner) size → key_size inner ≤ size →
    size % 8 ≡ 0 → HasFront here → length link ≡ 8 → ArePlaced inner (drop (header_size + key_size inner) (front_of here)) pods →
    IsPlaced (front_of here) (with_header inner 0 ((link ++ take (key_size inner) (drop header_size here)) ++ pods))
headed_pod inner here link pods size y p k z f l q =
    let key = key_size inner in
    let pod = front_of here in
    let w = word_at here 0 in
    let all = (link ++ take key (drop header_size here)) ++ pods in
    let same : w ≡ size = sym (size_of_front here) ∙ p.its_size in
    let words : take key (drop header_size here) ≡ take key (drop header_size pod) =
    sym (ap (take key) (drop-take header_size (padded_size w) here) ∙ take-take key (padded_size w) (drop header_size here) (omega arith)) in
    let behind : drop (0 + header_size) all ≡ take key (drop header_size pod) ++ pods =
    ap (drop 8) (append_assoc link (take key (drop header_size here)) pods) ∙ drop_at link (take key (drop header_size here) ++ pods) 8 l
    ∙ ap (λ x. x ++ pods) words in
    let there = f.whole in
    subst (IsPlaced pod)
    (sym (ap (λ n. header_of inner n ++ drop (0 + header_size) all) (omega lengths) ∙ ap (λ x. header_of inner (key + length pods) ++ x) behind))
    (inner_placed inner pod pods size (IsBytes-take (extent w) here y) p z q)

-- What is begun.

-- of these bytes, so many are written, and the others left: each container that is begun, the innermost first, has room for its header, and its size fits
abbrev pub Fits : List Begun → ℕ → ℕ → Type 0
Fits [] written all = ⊤
Fits (b ∷ bs) written all =
    (b.start + header_size ≤ written) × (all < b.start + header_size + size_limit) × Fits bs b.start (all + length b.pods)

-- once the encodings of what is left are behind what is written, and the containers have their headers, all holds
abbrev pub Awaits : (List ℕ → Type 0) → List Begun → Bool → List ℕ → List ℕ → Type 0
Awaits All [] keyed left now = (new : List ℕ) → ArePlaced keyed left new → All (now ++ new)
Awaits All (b ∷ bs) keyed left now =
    (new : List ℕ) → ArePlaced keyed left new → Awaits All bs b.keyed b.pods (with_header keyed b.start (now ++ new))

pub record Puts (All : List ℕ → Type 0) (begun : List Begun) (keyed : Bool) (left now : List ℕ) : Type 0 where
  pub awaits : Awaits All begun keyed left now
  pub fits : Fits begun (length now) (length now + length left)

fewer : (bs : List Begun) (written all more less : ℕ) → written ≤ more → less ≤ all → Fits bs written all → Fits bs more less
fewer [] written all more less a b f = tt
fewer (x ∷ bs) written all more less a b f =
    (omega arith, omega arith, fewer bs x.start (all + length x.pods) x.start (less + length x.pods) (omega arith) (omega arith) f.2)

goes_on : (All : List ℕ → Type 0) (bs : List Begun) (keyed : Bool) (left rest now added : List ℕ) →
    ((others : List ℕ) → ArePlaced keyed rest others → ArePlaced keyed left (added ++ others)) → Awaits All bs keyed left now →
    Awaits All bs keyed rest (now ++ added)
goes_on All [] keyed left rest now added e a = λ new q. subst All (sym (append_assoc now added new)) (a (added ++ new) (e new q))
goes_on All (b ∷ bs) keyed left rest now added e a = λ new q.
    subst (λ x. Awaits All bs b.keyed b.pods (with_header keyed b.start x)) (sym (append_assoc now added new)) (a (added ++ new) (e new q))

pub puts_none : (keyed : Bool) (pods : List ℕ) → Puts (ArePlaced keyed pods) [] keyed pods []
puts_none keyed pods = record { awaits = λ new q. q; fits = tt }

pub puts_more : (All : List ℕ → Type 0) (bs : List Begun) (keyed : Bool) (left rest now added : List ℕ) →
    ((others : List ℕ) → ArePlaced keyed rest others → ArePlaced keyed left (added ++ others)) → length added + length rest ≤ length left →
    Puts All bs keyed left now → Puts All bs keyed rest (now ++ added)
puts_more All bs keyed left rest now added e w p =
    record {
      awaits = goes_on All bs keyed left rest now added e p.awaits;
      fits = fewer bs (length now) (length now + length left) (length (now ++ added)) (length (now ++ added) + length rest) (omega lengths) (omega lengths) p.fits;
    }

pub puts_inner : (All : List ℕ → Type 0) (bs : List Begun) (keyed inner : Bool) (left here link now : List ℕ) (size : ℕ) → IsBytes left →
    here ≡ drop (key_size keyed) left → OpensWhole keyed left inner size → length link ≡ 8 → Puts All bs keyed left now →
    Puts All (record { start = length now + key_size keyed; keyed = keyed; pods = rest_of here } ∷ bs) inner (drop (header_size + key_size inner) (front_of here))
    (now ++ (take (key_size keyed) left ++ (link ++ take (key_size inner) (drop header_size here))))
puts_inner All bs keyed inner left here link now size y h w l p =
    let before = key_size keyed in
    let there : HasFront here = subst HasFront (sym h) w.there in
    let its : IsPodOf (front_of here) (type_inside inner) size = subst (λ x. IsPodOf (front_of x) (type_inside inner) size) (sym h) w.its in
    let key = take before left in
    let head = link ++ take (key_size inner) (drop header_size here) in
    let added = key ++ head in
    let room = w.key in
    let left_long = ap length h in
    let same : word_at here 0 ≡ size = sym (size_of_front here) ∙ its.its_size in
    let f0 = there.header in
    let f1 = there.whole in
    let fits = its.fits in
    record {
      awaits = λ x q.
          let pod = with_header inner 0 (head ++ x) in
          let start = length now + before in
          let e : with_header inner start ((now ++ added) ++ x) ≡ now ++ (key ++ pod) =
          ap (with_header inner start) (append_assoc now added x)
          ∙ header_behind inner now (added ++ x) (length now) start before refl refl
          ∙ ap (λ b. now ++ b) (ap (with_header inner before) (append_assoc key head x)
          ∙ header_behind inner key (head ++ x) before before 0 (sym (omega lengths)) (let s : before ≡ before + 0 = omega lengths in s)) in
          subst (Awaits All bs keyed (rest_of here)) (sym e)
          (goes_on All bs keyed left (rest_of here) now (key ++ pod)
          (λ others r. subst (ArePlaced keyed left) (sym (append_assoc key pod others))
          (pods_placed keyed left pod others y w.there
          (subst (λ b. IsPlaced (front_of b) pod) h (headed_pod inner here link x size (subst IsBytes (sym h) (IsBytes-drop before left y)) its room w.whole there l q))
          (subst (λ b. ArePlaced keyed (rest_of b) others) h r))) p.awaits);
      fits = (
        omega lengths,
        omega lengths,
        fewer bs (length now) (length now + length left) (length now + before)
            (length (now ++ added) + length (drop (header_size + key_size inner) (front_of here)) + length (rest_of here)) (omega lengths) (omega lengths) p.fits,
      );
    }

pub puts_end : (All : List ℕ → Type 0) (bs : List Begun) (b : Begun) (keyed : Bool) (left now : List ℕ) → ArePlaced keyed left [] →
    Puts All (b ∷ bs) keyed left now → Puts All bs b.keyed b.pods (with_header keyed b.start now)
puts_end All bs b keyed left now q p =
    let l = header_kept keyed b.start now p.fits.0 in
    record {
      awaits = subst (λ x. Awaits All bs b.keyed b.pods (with_header keyed b.start x)) (append-nil now) (p.awaits [] q);
      fits = fewer bs b.start (length now + length left + length b.pods) (length (with_header keyed b.start now))
          (length (with_header keyed b.start now) + length b.pods) (omega arith) (omega arith) p.fits.2;
    }

-- What the headers of the containers hold that are begun.

-- where the body of the innermost one begins
abbrev pub body_at : List Begun → ℕ
body_at [] = 0
body_at (b ∷ bs) = b.start + header_size

-- how far before it the one around it begins, how much of the list around it is left, and whether that is keyed
abbrev pub HoldsLink : List Begun → Begun → List ℕ → Type 0
HoldsLink [] b now = ⊤
HoldsLink (c ∷ cs) b now =
    (c.start + word_at now b.start ≡ b.start) × (word_at now (b.start + 4) ≡ length b.pods + key_size b.keyed / 8) × (length b.pods % 8 ≡ 0)

-- the list of the innermost one ends there, and what is left of the list around each one follows it
abbrev pub Linked : List Begun → (keyed : Bool) → (end : ℕ) → (now pods : List ℕ) → Type 0
Linked [] keyed end now pods = (keyed ≡ false) × (end ≡ length pods)
Linked (b ∷ bs) keyed end now pods =
    (end + length b.pods ≤ length pods) × (b.pods ≡ take (length b.pods) (drop end pods)) × HoldsLink bs b now
    × Linked bs b.keyed (end + length b.pods) now pods

link_same : (bs : List Begun) (b : Begun) (now new : List ℕ) → word_at new b.start ≡ word_at now b.start → word_at new (b.start + 4) ≡ word_at now (b.start + 4) →
    HoldsLink bs b now → HoldsLink bs b new
link_same [] b now new e f l = tt
link_same (c ∷ cs) b now new e f l = (ap (λ n. c.start + n) e ∙ l.0, f ∙ l.1, l.2)

-- what is before stays
pub linked_same : (bs : List Begun) (keyed : Bool) (end n all : ℕ) (now new pods : List ℕ) → n ≤ length now → n ≤ length new → take n new ≡ take n now →
    Fits bs n all → Linked bs keyed end now pods → Linked bs keyed end new pods
linked_same [] keyed end n all now new pods a b e f l = l
linked_same (x ∷ bs) keyed end n all now new pods a b e f l =
    let s = x.start in
    let first : take s new ≡ take s now = sym (take-take s n new (omega arith)) ∙ ap (take s) e ∙ take-take s n now (omega arith) in
    let word = λ (i : ℕ) (r : i + 4 ≤ n). sym (word_at-take n i new r) ∙ ap (λ y. word_at y i) e ∙ word_at-take n i now r in (
      l.0,
      l.1,
      link_same bs x now new (word s (omega arith)) (word (s + 4) (omega arith)) l.2,
      linked_same bs x.keyed (end + length x.pods) s (all + length x.pods) now new pods (omega arith) (omega arith) first f.2 l.3,
    )
