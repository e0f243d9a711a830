-- Bytes that are read, held and passed.
use Rattle.std.proofs.Common.{◌≡◌, ◌≢◌, ◌∙◌, ◌+◌, ◌-◌, ◌≤◌, ◌*◌, ℕ, suc, List, [], ◌∷◌, ◌++◌, Option, Some, None, append_assoc, ap, ap₂, arith, drop, length, length-append, length-drop, length-take, refl, subst, sym, take, take-add}
use Rattle.std.proofs.lemmas.List.{drop-append-le, drop-take, nil_from_length, take-append-le, take_all}
use Rattle.std.proofs.lemmas.List.Edits.{take-paste}
use Rattle.std.proofs.Math.Seq.{paste}
use Rattle.std.specs.Io.KnownBytes.{Consumes, IsAtEnd}
use Rattle.spa_device.specs.Whole.{IsAllOf}
use Rattle.spa_format.specs.Front.{HasFront, front_of, rest_of}
use Rattle.spa_format.specs.Encoding.{encoding_of, member_encodings}
use Rattle.spa_format.specs.Lenient.{ConveyMembers, Conveys}
use Rattle.spa_format.specs.Pod.{IsPod}
use Rattle.spa_format.specs.Tree.{Trees, join_members, no_trees, member}
use Rattle.spa_format.specs.Typed.{IsBytes}
use Rattle.spa_format.specs.Walk.{walk}
use Rattle.spa_format.specs.Words.{extent, word_at}
use Rattle.spa_format.proofs.Conveyed.{conveying_front}
use Rattle.spa_format.proofs.Exacted.{encoding_conveyed}
use Rattle.spa_format.proofs.Fronts.{front_and_rest, front_of_whole, size_of_front}
use Rattle.spa_format.proofs.Origin.{IsBytes-first, IsBytes-others}
use Rattle.spa_format.proofs.WalkLemmas.{length-walk_behind, walk-end, walk-there}
use Rattle.spa_format.proofs.WordLemmas.{word_at-append}
use Rattle.spa_lenient.proofs.Lists.{members_convey}
use Rattle.spa_read.proofs.Conveying.{members_joined}
use Rattle.spa_recordings.specs.Blocks.{AreWhole, no_pods, one_more}
use Rattle.spa_recordings.specs.Reading.{IsAccepted, IsNothing, ReadsAs}
use Rattle.spa_recordings.specs.Rewritings.{encodings_joined}
use Rattle.spa_recordings.specs.declared.reading.Reading.{Reading}
use Rattle.spa_recordings.specs.declared.reading.Reading.TheVariants.{Exact, Lenient}

-- ---- What a reader gives

-- what a reader has left, where that is known, and nothing else
pub unread_of : Option (List ℕ) → List ℕ
unread_of None = []
unread_of (Some xs) = xs

pub all_of : (a b : Option (List ℕ)) (read : List ℕ) → Consumes a b read → IsAllOf a (read ++ unread_of b)
unfolding unread_of
all_of None b read h = tt
all_of (Some xs) None read h = absurd h
all_of (Some xs) (Some ys) read h = sym h

pub none_unread : (b : Option (List ℕ)) → IsAtEnd b → unread_of b ≡ []
unfolding unread_of
none_unread None h = refl
none_unread (Some xs) h = h

-- ---- The buffer

-- what was read stands behind what was held
pub held_more : (old new : List ℕ) (held count : ℕ) → take held new ≡ take held old → take (held + count) new ≡ take held old ++ take count (drop held new)
held_more old new held count e = take-add held count new ∙ ap (λ l. l ++ take count (drop held new)) e

-- what is held is moved to the front
pub passed_over : (xs : List ℕ) (len held : ℕ) → len ≤ held → held ≤ length xs →
    take (held - len) (paste xs 0 (drop len xs) (held - len)) ≡ drop len (take held xs)
passed_over xs len held l h =
    let n = held - len in
    let d = length-drop len xs in
    let zero : 0 + n ≡ n = omega arith in
    let all : len + n ≡ held = omega (arith, l) in
    ap (λ m. take m (paste xs 0 (drop len xs) n)) (sym zero) ∙ take-paste xs 0 (drop len xs) n (omega arith) (omega (arith, d, l, h))
    ∙ sym (drop-take len n xs) ∙ ap (λ m. drop len (take m xs)) all

-- what is held behind a block stays
pub same_behind : (xs ys : List ℕ) (len held : ℕ) → len ≤ held → drop len ys ≡ drop len xs → drop len (take held ys) ≡ drop len (take held xs)
same_behind xs ys len held l e =
    let all : len + (held - len) ≡ held = omega (arith, l) in
    ap (λ m. drop len (take m ys)) (sym all) ∙ drop-take len (held - len) ys ∙ ap (take (held - len)) e ∙ sym (drop-take len (held - len) xs)
    ∙ ap (λ m. drop len (take m xs)) all

-- a full buffer is longer
pub kept_held : (old new : List ℕ) (held len : ℕ) → take len new ≡ old → held ≡ len → length old ≤ held → take held new ≡ take held old
kept_held old new held len k e l = ap (λ m. take m new) e ∙ k ∙ sym (take_all held old l)

-- ---- Whole pods

same_size : (a b : List ℕ) → HasFront a → word_at (a ++ b) 0 ≡ word_at a 0
same_size a b f = let h = f.header in word_at-append a b 0 (omega (arith, h))

front_there : (a b : List ℕ) → HasFront a → HasFront (a ++ b)
front_there a b f =
    let s = ap extent (same_size a b f) in
    let l = length-append a b in
    let h = f.header in
    let w = f.whole in
    record { header = omega (arith, h, l); whole = omega (arith, s, w, l) }

pub whole_joined : (a b : List ℕ) → AreWhole a → AreWhole b → AreWhole (a ++ b)
whole_joined _ b no_pods k = k
whole_joined _ b (one_more a f h) k =
    let e = extent (word_at a 0) in
    let behind : rest_of (a ++ b) ≡ rest_of a ++ b =
    ap (λ m. drop (extent m) (a ++ b)) (same_size a b f) ∙ drop-append-le e a b f.whole in
    one_more (a ++ b) (front_there a b f) (subst AreWhole (sym behind) (whole_joined (rest_of a) b h k))

one_whole : (b : List ℕ) → HasFront b → AreWhole (front_of b)
one_whole b f =
    let p = front_of b in
    let s = ap extent (size_of_front b) in
    let l = length-take (extent (word_at b 0)) b in
    let h = f.header in
    let w = f.whole in
    let d = length-drop (extent (word_at p 0)) p in
    let none : rest_of p ≡ [] = nil (rest_of p) (omega (arith, s, l, h, w, d)) in
    one_more p (record { header = omega (arith, s, l, h, w); whole = omega (arith, s, l, h, w) }) (subst AreWhole (sym none) no_pods)
  where
    nil : (xs : List ℕ) → length xs ≡ 0 → xs ≡ []
    nil [] e = refl
    nil (x ∷ xs) e = absurd (omega (arith, e))

-- none of no bytes is whole
nothing_there : ¬ (HasFront [])
nothing_there f = let h = f.header in omega (arith, h)

pub none_counted : length (walk []) ≡ 0
none_counted = ap length (walk-end [] nothing_there)

-- whole pods are walked before what follows them
walk_joined : (a b : List ℕ) → AreWhole a → walk (a ++ b) ≡ walk a ++ walk b
walk_joined _ b no_pods = ap (λ z. z ++ walk b) (sym (walk-end [] nothing_there))
walk_joined _ b (one_more a f h) =
    let e = extent (word_at a 0) in
    let front : front_of (a ++ b) ≡ front_of a = ap (λ m. take (extent m) (a ++ b)) (same_size a b f) ∙ take-append-le e a b f.whole in
    let behind : rest_of (a ++ b) ≡ rest_of a ++ b = ap (λ m. drop (extent m) (a ++ b)) (same_size a b f) ∙ drop-append-le e a b f.whole in
    walk-there (a ++ b) (front_there a b f) ∙ ap (λ z. z ∷ walk (rest_of (a ++ b))) front
    ∙ ap (λ z. front_of a ∷ z) (ap walk behind ∙ walk_joined (rest_of a) b h) ∙ ap (λ z. z ++ walk b) (sym (walk-there a f))

pub count_joined : (a b : List ℕ) → AreWhole a → length (walk (a ++ b)) ≡ length (walk a) + length (walk b)
count_joined a b w = ap length (walk_joined a b w) ∙ length-append (walk a) (walk b)

pub few_whole : (a : List ℕ) → length (walk a) * 8 ≤ length a
few_whole a = length-walk_behind 0 a

one_counted : (b : List ℕ) → HasFront b → length (walk (front_of b)) ≡ 1
one_counted b f =
    let p = front_of b in
    let s = ap extent (size_of_front b) in
    let l = length-take (extent (word_at b 0)) b in
    let h = f.header in
    let w = f.whole in
    let d = length-drop (extent (word_at p 0)) p in
    let there : HasFront p = record { header = omega (arith, s, l, h, w); whole = omega (arith, s, l, h, w) } in
    let none : rest_of p ≡ [] = nil_from_length (rest_of p) (omega (arith, s, l, h, w, d)) in
    let t = ap length (walk-there p there) in
    let n = ap (λ z. length (walk z)) none in
    let z = none_counted in
    omega (arith, t, n, z)

-- how far a walk over whole pods is, and how many they are
pub record WholeSoFar (bytes left : List ℕ) (count : ℕ) : Type 0 where
  pub before : List ℕ
  pub parts : bytes ≡ before ++ left
  pub whole : AreWhole before
  pub counted : count ≡ length (walk before)

pub walk_begins : (bytes : List ℕ) → WholeSoFar bytes bytes 0
walk_begins bytes = record { before = []; parts = refl; whole = no_pods; counted = sym none_counted }

pub walk_goes_on : (bytes left rest : List ℕ) (count : ℕ) → HasFront left → rest ≡ rest_of left → WholeSoFar bytes left count →
    WholeSoFar bytes rest (count + 1)
walk_goes_on bytes left rest count f r so = record {
  before = so.before ++ front_of left;
  parts =
      so.parts ∙ ap (λ l. so.before ++ l) (front_and_rest left ∙ ap (λ l. front_of left ++ l) (sym r))
      ∙ sym (append_assoc so.before (front_of left) rest);
  whole = whole_joined so.before (front_of left) so.whole (one_whole left f);
  counted =
      let c = so.counted in
      let j = count_joined so.before (front_of left) so.whole in
      let one = one_counted left f in
      omega (arith, c, j, one);
}

pub walk_few : (bytes left : List ℕ) (count : ℕ) → WholeSoFar bytes left count → count * 8 ≤ length bytes
walk_few bytes left count so =
    let c = so.counted in
    let f = few_whole so.before in
    let e = ap length so.parts in
    let l = length-append so.before left in
    omega (arith, c, f, e, l)

pub walk_counts_all : (bytes left : List ℕ) (count : ℕ) → WholeSoFar bytes left count → ¬ (HasFront left) → count ≡ length (walk bytes)
walk_counts_all bytes left count so none =
    let c = so.counted in
    let e = ap (λ z. length (walk z)) so.parts in
    let j = count_joined so.before left so.whole in
    let n = ap length (walk-end left none) in
    omega (arith, c, e, j, n)

-- what is accepted conveys values
pub values_conveyed : (reading : Reading) (b : List ℕ) → IsAccepted reading b → (vs : Trees) × ConveyMembers vs b
values_conveyed Exact b h = (h.0, members_convey h.0 b h.1)
values_conveyed Lenient b h = h

-- whole pods behind some that convey values
pub whole_behind : (vs : Trees) (b first left : List ℕ) → AreWhole b → b ≡ first ++ left → ConveyMembers vs first → AreWhole left
whole_behind no_trees b first left w e m = subst AreWhole (e ∙ ap (λ l. l ++ left) m) w
whole_behind (member v vs) b first left w e m =
    let parts : b ≡ m.0 ++ (m.1 ++ left) = e ∙ ap (λ l. l ++ left) m.2 ∙ append_assoc m.0 m.1 left in
    let f = conveying_front b m.0 (m.1 ++ left) _ _ _ parts m.3 in
    whole_behind vs (rest_of b) m.1 left (behind b w f.0) (sym f.2) m.4
  where
    behind : (b : List ℕ) → AreWhole b → HasFront b → AreWhole (rest_of b)
    behind _ no_pods f = absurd (let h = f.header in omega (arith, h))
    behind _ (one_more b g h) f = h

pub whole_front : (b : List ℕ) → AreWhole b → b ≢ [] → HasFront b
whole_front _ no_pods n = absurd (n refl)
whole_front _ (one_more b f h) n = f

front_longer : (b more : List ℕ) → HasFront b → front_of (b ++ more) ≡ front_of b
front_longer b more f =
    ap (λ m. take (extent m) (b ++ more)) (same_size b more f) ∙ take-append-le (extent (word_at b 0)) b more f.whole

-- where no pod is read, none is whatever follows, if the front is there
pub nothing_longer : (reading : Reading) (b more : List ℕ) → HasFront b → IsNothing reading b → IsNothing reading (b ++ more)
nothing_longer Exact b more f r = λ v h. r v (record { there = f; pod = subst (λ p. IsPod p v) (front_longer b more f) h.pod })
nothing_longer Lenient b more f r = λ v h. r v (record { there = f; conveys = subst (λ p. Conveys p v) (front_longer b more f) h.conveys })

-- ---- The pods as which bytes are read

-- the encodings of values are as many as what conveys these, and whole
encodings_walked : (vs : Trees) (b : List ℕ) → IsBytes b → ConveyMembers vs b →
    AreWhole (member_encodings vs) × (length (walk (member_encodings vs)) ≡ length (walk b))
encodings_walked no_trees b f h = (no_pods, ap (λ z. length (walk z)) (sym h))
encodings_walked (member v vs) b f h =
    let enc = member_encodings (member v vs) in
    let others = encodings_walked vs h.1 (IsBytes-others b h.0 h.1 h.2 f) h.4 in
    let c = conveying_front b h.0 h.1 _ _ _ h.2 h.3 in
    let e = front_of_whole enc (encoding_of v) (member_encodings vs) _ _ refl (encoding_conveyed h.0 v (IsBytes-first b h.0 h.1 h.2 f) h.3) in (
      one_more enc e.0 (subst AreWhole e.2 others.0),
      ap length (walk-there enc e.0) ∙ ap (λ z. suc (length (walk z))) (sym e.2) ∙ ap suc others.1 ∙ ap (λ z. suc (length (walk z))) c.2
          ∙ sym (ap length (walk-there b c.0)),
    )

pub pods_walked : (reading : Reading) (b pods : List ℕ) → IsBytes b → ReadsAs reading b pods →
    (AreWhole b → AreWhole pods) × (length (walk pods) ≡ length (walk b))
pods_walked Exact b pods f r = (λ w. subst AreWhole (sym r) w, ap (λ z. length (walk z)) r)
pods_walked Lenient b pods f r =
    let e = encodings_walked r.0 b f r.1 in
    (λ w. subst AreWhole (sym r.2) e.0, ap (λ z. length (walk z)) r.2 ∙ e.1)

pub nothing_read : (reading : Reading) → ReadsAs reading [] []
nothing_read Exact = refl
nothing_read Lenient = (no_trees, refl, refl)

pub reads_joined : (reading : Reading) (a b p q : List ℕ) → ReadsAs reading a p → ReadsAs reading b q → ReadsAs reading (a ++ b) (p ++ q)
reads_joined Exact a b p q h k = ap₂ (λ x y. x ++ y) h k
reads_joined Lenient a b p q h k = (
  join_members h.0 k.0,
  members_joined h.0 k.0 a b h.1 k.1,
  ap₂ (λ x y. x ++ y) h.2 k.2 ∙ sym (encodings_joined h.0 k.0),
)
