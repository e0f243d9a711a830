-- What is made of an input whose refused pods are left out or kept is that of its parts.
use Rattle.std.proofs.Common.{◌≡◌, ◌≢◌, ◌∙◌, ◌+◌, ◌≤◌, ℕ, List, [], ◌∷◌, ◌++◌, append_assoc, ap, ap₂, arith, drop, length, length-append, refl, subst, sym, take}
use Rattle.std.specs.Prelude.{⊤}
use Rattle.std.proofs.lemmas.List.{drop-append-le, drop-drop, drop_at, take_at}
use Rattle.spa_format.specs.Front.{HasFront, front_of, rest_of}
use Rattle.spa_format.specs.Pod.{AreMembers}
use Rattle.spa_format.specs.Lenient.{ConveyMembers}
use Rattle.spa_format.specs.Tree.{Trees, join_members, member, no_trees}
use Rattle.spa_format.specs.Walk.{walk}
use Rattle.spa_format.specs.Words.{extent, word_at}
use Rattle.spa_format.proofs.Fronts.{front_and_rest, front_of_whole}
use Rattle.spa_format.proofs.WalkLemmas.{walk-there}
use Rattle.spa_read.proofs.Conveying as conveying
use Rattle.spa_recordings.specs.Blocks.{AreWhole, no_pods, one_more}
use Rattle.spa_recordings.specs.GoingOn.{EndsBySize, GoesOnBehind, GoesOnFrom, MakesOf, PassesPod, ends, kept_of, passes}
use Rattle.spa_recordings.specs.declared.going_on.Overlap.{Overlap}
use Rattle.spa_recordings.specs.Rewritings.{encodings_joined}
use Rattle.spa_recordings.specs.declared.going_on.Refused.{Refused}
use Rattle.spa_recordings.specs.declared.going_on.Refused.TheVariants.{LeftOut, Kept, Resynced}
use Rattle.spa_recordings.specs.declared.going_on.RefusedPod.{RefusedPod}
use Rattle.spa_recordings.specs.declared.reading.Reading.{Reading}
use Rattle.spa_recordings.specs.declared.reading.Reading.TheVariants.{Exact, Lenient}
use Rattle.spa_recordings.proofs.Holding.{count_joined, whole_front}
use Rattle.spa_recordings.proofs.Streamed.{some_joined}
use Rattle.spa_refusals.specs.Refusals.{IsRefusalOf}
use Rattle.spa_refusals.specs.Several.{AreSaid}
use Rattle.spa_refusals.specs.declared.several.NamedRefusal.{NamedRefusal}
use Rattle.pod_commands.proofs.Longer.{front_same, no_pod_longer, refusal_longer, size_longer}

-- ---- Whole pods

-- whole pods begin at the places of these
abbrev pub AreFronts : List ℕ → List RefusedPod → Type 0
AreFronts a [] = ⊤
AreFronts a (pod ∷ pods) = (pod.place ≤ length a) × HasFront (drop pod.place a) × AreFronts a pods

rest_longer : (pod more : List ℕ) → HasFront pod → rest_of (pod ++ more) ≡ rest_of pod ++ more
rest_longer pod more f =
    ap (λ s. drop (extent s) (pod ++ more)) (size_longer pod more f) ∙ drop-append-le (extent (word_at pod 0)) pod more f.whole

whole_rest : (b : List ℕ) → AreWhole b → HasFront b → AreWhole (rest_of b)
whole_rest _ no_pods f = absurd (let h = f.header in omega (arith, h))
whole_rest _ (one_more b g h) f = h

-- what follows whole pods
whole_behind : (a left : List ℕ) → AreWhole a → AreWhole (a ++ left) → AreWhole left
whole_behind _ left no_pods w = w
whole_behind _ left (one_more a f h) w =
    let some : a ++ left ≢ [] = λ e. let l = ap length e in let j = length-append a left in let k = f.header in omega (arith, l, j, k) in
    whole_behind (rest_of a) left h (subst AreWhole (rest_longer a left f) (whole_rest (a ++ left) w (whole_front (a ++ left) w some)))

-- what is read is whole pods
accepted_whole : (vs : Trees) (b : List ℕ) → AreMembers vs b → AreWhole b
accepted_whole no_trees b m = subst AreWhole (sym m) no_pods
accepted_whole (member v vs) b m =
    let f = front_of_whole b m.0 m.1 _ _ m.2 m.3 in one_more b f.0 (subst AreWhole f.2 (accepted_whole vs m.1 m.4))

conveyed_whole : (vs : Trees) (b : List ℕ) → ConveyMembers vs b → AreWhole b
conveyed_whole no_trees b m = subst AreWhole (sym m) no_pods
conveyed_whole (member v vs) b m =
    let f = front_of_whole b m.0 m.1 (word_at m.0 4) (λ z. ⊤) m.2 (record { whole = m.3.whole; its_type = refl; content = tt }) in
    one_more b f.0 (subst AreWhole f.2 (conveyed_whole vs m.1 m.4))

-- a refused pod that ends by its size word, in more bytes
by_size : (refused : Refused) (reading : Reading) (place : ℕ) (left : List ℕ) (before these : Overlap) (n : ℕ) → EndsBySize refused →
    GoesOnBehind refused reading place left before n these → (n ≡ length (front_of left)) × (these ≡ before)
by_size LeftOut reading place left before these n s g = g
by_size Kept reading place left before these n s g = g
by_size Resynced reading place left before these n s g = absurd s

goes_on_by_size : (refused : Refused) (reading : Reading) (place : ℕ) (left : List ℕ) (before these : Overlap) (n : ℕ) → EndsBySize refused →
    n ≡ length (front_of left) → these ≡ before → GoesOnBehind refused reading place left before n these
goes_on_by_size LeftOut reading place left before these n s e o = (e, o)
goes_on_by_size Kept reading place left before these n s e o = (e, o)
goes_on_by_size Resynced reading place left before these n s e o = absurd s

front_taken : (left more : List ℕ) (n : ℕ) → n ≡ length (front_of left) →
    (take n (left ++ more) ≡ front_of left) × (drop n (left ++ more) ≡ rest_of left ++ more)
front_taken left more n e =
    let parts = ap (λ z. z ++ more) (front_and_rest left) ∙ append_assoc (front_of left) (rest_of left) more in (
      ap (take n) parts ∙ take_at (front_of left) (rest_of left ++ more) n (sym e),
      ap (drop n) parts ∙ drop_at (front_of left) (rest_of left ++ more) n (sym e),
    )

front_alone : (left : List ℕ) (n : ℕ) → n ≡ length (front_of left) → (take n left ≡ front_of left) × (drop n left ≡ rest_of left)
front_alone left n e = (
  ap (take n) (front_and_rest left) ∙ take_at (front_of left) (rest_of left) n (sym e),
  ap (drop n) (front_and_rest left) ∙ drop_at (front_of left) (rest_of left) n (sym e),
)

module _ (name : List ℕ) (reading : Reading) (refused : Refused) (Makes : List ℕ → List ℕ → Type 0)
    (joins : (a b x y : List ℕ) → Makes a x → Makes b y → Makes (a ++ b) (x ++ y)) (members : (a x : List ℕ) → Makes a x → (vs : Trees) × AreMembers vs a) where
  made_joined : (reading : Reading) (a b x y : List ℕ) → MakesOf reading Makes a x → MakesOf reading Makes b y → MakesOf reading Makes (a ++ b) (x ++ y)
  made_joined Exact a b x y m n =
      (a ++ b, refl, joins a b x y (subst (λ z. Makes z x) m.1 m.2) (subst (λ z. Makes z y) n.1 n.2))
  made_joined Lenient a b x y m n =
      let h = m.1 in
      let k = n.1 in (
        m.0 ++ n.0,
        (
          join_members h.0 k.0,
          conveying.members_joined h.0 k.0 a b h.1 k.1,
          ap₂ (λ v w. v ++ w) h.2 k.2 ∙ sym (encodings_joined h.0 k.0),
        ),
        joins m.0 n.0 x y m.2 n.2,
      )

  made_whole : (reading : Reading) (first x : List ℕ) → MakesOf reading Makes first x → AreWhole first
  made_whole Exact first x m = let vs = members first x (subst (λ z. Makes z x) m.1 m.2) in accepted_whole vs.0 first vs.1
  made_whole Lenient first x m = conveyed_whole m.1.0 first m.1.1

  -- what is made of all of a first part, and of what follows it
  made_before : (o : Overlap) (count place all next : ℕ) (a b x y : List ℕ) (qs : List RefusedPod) → all ≡ count + length (walk a) →
      next ≡ place + length a → MakesOf reading Makes a x → GoesOnFrom name reading refused Makes o all next b y qs →
      GoesOnFrom name reading refused Makes o count place (a ++ b) (x ++ y) qs
  made_before o count place all next a b x y qs c e m (ends _ _ p i out n) = ends o count place (a ++ b) (x ++ y) (made_joined reading a b x y m n)
  made_before o count place all next a b x y qs c e m (passes _ these _ p n first left made others pod pods k its on) =
      let l = length-append a first in
      let j = count_joined a first (made_whole reading a x m) in
      let number = its.its_number in
      let is = its.its_place in
      subst (λ z. GoesOnFrom name reading refused Makes o count place z (x ++ y) qs) (append_assoc a first left)
      (subst (λ z. GoesOnFrom name reading refused Makes o count place ((a ++ first) ++ left) z qs)
      (append_assoc x made (kept_of refused (take n left) ++ others))
      (passes o these count place n (a ++ first) left (x ++ made) others pod pods (made_joined reading a first x made m k)
      (record {
        some = its.some;
        nothing = its.nothing;
        passed = its.passed;
        its_name = its.its_name;
        its_number = omega (arith, number, c, j);
        its_place = omega (arith, is, e, l);
        left_out = its.left_out;
      })
      on))

  module _ (sized : EndsBySize refused) where
    -- the refused pod of a first part, in all
    passes_longer : (o these : Overlap) (count place n : ℕ) (first left b : List ℕ) (pod : RefusedPod) → HasFront left →
        PassesPod name reading refused o count place first left n these pod → PassesPod name reading refused o count place first (left ++ b) n these pod
    passes_longer o these count place n first left b pod f its =
        let size = by_size refused reading pod.place left o these n sized its.passed in
        record {
          some = some_joined left b its.some;
          nothing = no_pod_longer left b f reading pod.kind.now its.nothing;
          passed =
              goes_on_by_size refused reading pod.place (left ++ b) o these n sized (size.0 ∙ ap length (sym (front_same left b f))) size.1;
          its_name = its.its_name;
          its_number = its.its_number;
          its_place = its.its_place;
          left_out = its.left_out;
        }

    -- where it ends, so many pods and bytes stand before what follows it
    behind_it : (o these : Overlap) (count place n : ℕ) (first left x : List ℕ) (pod : RefusedPod) → MakesOf reading Makes first x → HasFront left →
        PassesPod name reading refused o count place first left n these pod →
        (pod.number + length (walk (rest_of left)) ≡ count + length (walk (first ++ left)))
        × ((pod.place + n) + length (rest_of left) ≡ place + length (first ++ left))
    behind_it o these count place n first left x pod m f its =
        let size = (by_size refused reading pod.place left o these n sized its.passed).0 in
        let number = its.its_number in
        let is = its.its_place in
        let j = count_joined first left (made_whole reading first x m) in
        let t = ap length (walk-there left f) in
        let l = length-append first left in
        let fr = ap length (front_and_rest left) ∙ length-append (front_of left) (rest_of left) in
        (omega (arith, number, j, t), omega (arith, is, l, fr, size))

    pub joined : (o : Overlap) (count place all next : ℕ) (a b x y : List ℕ) (ps qs : List RefusedPod) → AreWhole a → all ≡ count + length (walk a) →
        next ≡ place + length a → GoesOnFrom name reading refused Makes o count place a x ps → GoesOnFrom name reading refused Makes o all next b y qs →
        GoesOnFrom name reading refused Makes o count place (a ++ b) (x ++ y) (ps ++ qs)
    joined o count place all next a b x y ps qs w c e (ends _ _ p i out m) g = made_before o count place all next a b x y qs c e m g
    joined o count place all next a b x y ps qs w c e (passes _ these _ p n first left made others pod pods m its on) g =
        let wl = whole_behind first left (made_whole reading first made m) w in
        let f = whole_front left wl its.some in
        let size = by_size refused reading pod.place left o these n sized its.passed in
        let alone = front_alone left n size.0 in
        let both = front_taken left b n size.0 in
        let behind = behind_it o these count place n first left made pod m f its in
        let counted = behind.0 in
        let placed = behind.1 in
        let pods_left = ap (λ z. length (walk z)) alone.1 in
        let bytes_left = ap length alone.1 in
        let more : GoesOnFrom name reading refused Makes these pod.number (pod.place + n) (drop n left ++ b) (others ++ y) (pods ++ qs) =
        joined these pod.number (pod.place + n) all next (drop n left) b others y pods qs (subst AreWhole (sym alone.1) (whole_rest left wl f))
        (omega (arith, c, counted, pods_left)) (omega (arith, e, placed, bytes_left)) on
        (subst (λ z. GoesOnFrom name reading refused Makes z all next b y qs) (sym size.1) g) in
        let out : made ++ (kept_of refused (take n (left ++ b)) ++ (others ++ y)) ≡ (made ++ (kept_of refused (take n left) ++ others)) ++ y =
        ap (λ z. made ++ (kept_of refused z ++ (others ++ y))) (both.0 ∙ sym alone.0)
        ∙ ap (λ z. made ++ z) (sym (append_assoc (kept_of refused (take n left)) others y))
        ∙ sym (append_assoc made (kept_of refused (take n left) ++ others) y) in
        subst
        (λ z. GoesOnFrom name reading refused Makes o count place z ((made ++ (kept_of refused (take n left) ++ others)) ++ y) (pod ∷ (pods ++ qs)))
        (sym (append_assoc first left b))
        (subst (λ z. GoesOnFrom name reading refused Makes o count place (first ++ (left ++ b)) z (pod ∷ (pods ++ qs))) out
        (passes o these count place n first (left ++ b) made (others ++ y) pod (pods ++ qs) m
        (passes_longer o these count place n first left b pod f its)
        (subst (λ z. GoesOnFrom name reading refused Makes these pod.number (pod.place + n) z (others ++ y) (pods ++ qs))
        (ap (λ z. z ++ b) alone.1 ∙ sym both.1) more)))

    -- the refused pods of whole ones are whole
    pub fronts : (o : Overlap) (a left x : List ℕ) (count place : ℕ) (ps : List RefusedPod) → AreWhole left → drop place a ≡ left →
        place + length left ≡ length a → GoesOnFrom name reading refused Makes o count place left x ps → AreFronts a ps
    fronts o a left x count place ps w e l (ends _ _ p i out m) = tt
    fronts o a left x count place ps w e l (passes _ these _ p n first at made others pod pods m its on) =
        let wl = whole_behind first at (made_whole reading first made m) w in
        let f = whole_front at wl its.some in
        let alone = front_alone at n (by_size refused reading pod.place at o these n sized its.passed).0 in
        let placed = (behind_it o these count place n first at made pod m f its).1 in
        let is = its.its_place in
        let len = length-append first at in
        let here : drop pod.place a ≡ at =
        ap (λ z. drop z a) is ∙ sym (drop-drop (length first) place a) ∙ ap (drop (length first)) e ∙ drop_at first at (length first) refl in
        let bytes_left = ap length alone.1 in
        let after : drop (pod.place + n) a ≡ drop n at = sym (drop-drop n pod.place a) ∙ ap (drop n) here in (
          omega (arith, is, l, len),
          subst HasFront (sym here) f,
          fronts these a (drop n at) others pod.number (pod.place + n) pods (subst AreWhole (sym alone.1) (whole_rest at wl f)) after
              (omega (arith, placed, l, bytes_left)) on,
        )

-- ---- What is said of refused pods

said_longer : (reading : Reading) (a b : List ℕ) (ps : List RefusedPod) (said : List NamedRefusal) → AreFronts a ps → AreSaid reading 0 a ps said →
    AreSaid reading 0 (a ++ b) ps said
said_longer reading a b [] said f h = h
said_longer reading a b (pod ∷ ps) [] f h = absurd h
said_longer reading a b (pod ∷ ps) (s ∷ said) f h =
    let is = h.0 in
    let within = is.within in
    let l = length-append a b in
    let place = is.its_place in
    let there : HasFront (drop is.at a) = subst (λ z. HasFront (drop z a)) (let e : pod.place ≡ is.at = omega (arith, place) in e) f.1 in (
      record {
        name = is.name;
        number = is.number;
        place = is.place;
        left_out = is.left_out;
        at = is.at;
        its_place = is.its_place;
        within = omega (arith, within, l);
        refusal =
            subst (λ z. IsRefusalOf reading z s.refusal) (sym (drop-append-le is.at a b within))
            (refusal_longer (drop is.at a) b there reading s.refusal is.refusal);
      },
      said_longer reading a b ps said f.2 h.1,
    )

-- what is said of pods of a part is said of those of the input
said_behind : (reading : Reading) (a b : List ℕ) (place : ℕ) (ps : List RefusedPod) (said : List NamedRefusal) → place ≡ length a →
    AreSaid reading place b ps said → AreSaid reading 0 (a ++ b) ps said
said_behind reading a b place [] said p h = h
said_behind reading a b place (pod ∷ ps) [] p h = absurd h
said_behind reading a b place (pod ∷ ps) (s ∷ said) p h =
    let is = h.0 in
    let at = is.its_place in
    let within = is.within in
    let l = length-append a b in (
      record {
        name = is.name;
        number = is.number;
        place = is.place;
        left_out = is.left_out;
        at = length a + is.at;
        its_place = omega (arith, at, p);
        within = omega (arith, within, l);
        refusal =
            subst (λ z. IsRefusalOf reading z s.refusal)
            (sym (sym (drop-drop is.at (length a) (a ++ b)) ∙ ap (drop is.at) (drop_at a b (length a) refl))) is.refusal;
      },
      said_behind reading a b place ps said p h.1,
    )

said_both : (reading : Reading) (input : List ℕ) (ps qs : List RefusedPod) (s t : List NamedRefusal) → AreSaid reading 0 input ps s →
    AreSaid reading 0 input qs t → AreSaid reading 0 input (ps ++ qs) (s ++ t)
said_both reading input [] qs s t h k = subst (λ z. AreSaid reading 0 input qs (z ++ t)) (sym h) k
said_both reading input (p ∷ ps) qs [] t h k = absurd h
said_both reading input (p ∷ ps) qs (x ∷ s) t h k = (h.0, said_both reading input ps qs s t h.1 k)

-- what is said of the pods of some whole ones and of those behind them
pub said_joined : (reading : Reading) (a b : List ℕ) (place : ℕ) (ps qs : List RefusedPod) (s t : List NamedRefusal) → place ≡ length a →
    AreFronts a ps → AreSaid reading 0 a ps s → AreSaid reading place b qs t → AreSaid reading 0 (a ++ b) (ps ++ qs) (s ++ t)
said_joined reading a b place ps qs s t p f h k =
    said_both reading (a ++ b) ps qs s t (said_longer reading a b ps s f h) (said_behind reading a b place qs t p k)
