-- The steps of fixating in place each pod that an input consists of.
use Rattle.std.proofs.Common.{◌≡◌, ◌≤◌, ℕ, ◌+◌, ◌-◌, List, [], ◌∷◌, ◌++◌, refl, sym, inl, inr, arith, take, drop, length, ◌∙◌, ap, subst, length-append, length-drop, length-take, append_assoc}
use Rattle.std.specs.Prelude.{Result, Ok, Err, OnOk, IfErr, OnErr}
use Rattle.std.proofs.lemmas.List.{drop-drop, length-take-le, nil_from_length, take-append-drop, take_rest}
use Rattle.std.proofs.lemmas.Slice.{take-put_mid, drop-put_mid}
use borrow.Rule.Slice.PartMut.{put_mid}
use Rattle.spa_format.specs.Words.{extent, word_at}
use Rattle.spa_format.specs.Front.{HasFront, front_of, rest_of}
use Rattle.spa_format.specs.Tree.{Trees, no_trees, member}
use Rattle.spa_format.specs.Pod.{AreMembers}
use Rattle.spa_format.specs.Walk.{HasObject, walk}
use Rattle.spa_format.specs.Fixation.{fixated_bytes, walk_size}
use Rattle.spa_format.proofs.Fronts.{front_of_whole}
use Rattle.spa_format.proofs.WalkLemmas.{walk-end, walk-there}
use Rattle.spa_pod_commands.specs.Answers.{AreFixated, IsFixatedPod}

-- the walk over pods that stand one after another without remainder takes all bytes
pub walked_size : (vs : Trees) (b : List ℕ) → AreMembers vs b → walk_size (walk b) ≡ length b
walked_size no_trees b h =
    let l = ap length h in
    ap walk_size (walk-end b (λ f. let x = f.header in absurd (omega arith))) ∙ sym l
walked_size (member v vs) b h =
    let f = front_of_whole b h.0 h.1 _ _ h.2 h.3 in
    let r = walked_size vs h.1 h.4 in
    let l = ap length f.1 in
    let a = ap length h.2 in
    let q = length-append h.0 h.1 in
    ap walk_size (walk-there b f.0)
    ∙ ap (λ z. length (front_of b) + walk_size (walk z)) (sym f.2)
    ∙ omega (arith, r, l, a, q)

-- what a call of fixation did to a pod
pub fixated_either : {A E : Type 0} (P : E → Type 0) (r : Result A E) (b out : List ℕ) → OnOk r (HasObject b) → OnOk r (out ≡ fixated_bytes b) →
    IfErr r (λ e. (¬ (HasObject b)) × P e) → OnErr r (out ≡ b) → IsFixatedPod b out
fixated_either P (Ok x) b out has is absent same = inl (has, is)
fixated_either P (Err e) b out has is absent same = inr (absent.0, same)

-- how far the loop is: so much of the walk is left, and whatever its pods become, what is there and that are the pods of the input after fixation
pub record FixatedSoFar (all : List ℕ) (at : ℕ) (xs : List ℕ) : Type 0 where
  pub size : at + walk_size (walk (drop at xs)) ≡ walk_size (walk all)
  pub left : (rest : List ℕ) → AreFixated (walk (drop at xs)) rest → AreFixated (walk all) (take at xs ++ rest)

pub begins : (all : List ℕ) → FixatedSoFar all 0 all
begins all = let e : 0 + walk_size (walk all) ≡ walk_size (walk all) = omega arith in record { size = e; left = λ rest h. h }

-- one turn of the loop
pub turn : (all xs ys : List ℕ) (at n k : ℕ) → at ≤ length xs → HasFront (drop at xs) → n ≡ extent (word_at (drop at xs) 0) → k ≡ n →
    IsFixatedPod (take k (drop at xs)) ys → length ys ≡ length (take k (drop at xs)) → FixatedSoFar all at xs →
    FixatedSoFar all (at + n) (put_mid at k xs ys)
turn all xs ys at n k la hf en ek fp ly inv =
    let b = drop at xs in
    let w = hf.whole in
    let lt : length (take k b) ≡ n = ap (λ m. length (take m b)) ek ∙ length-take-le n b (omega arith) in
    let t : take (at + n) (put_mid at k xs ys) ≡ take at xs ++ ys = take-put_mid at k xs ys (at + n) (omega arith) la in
    let d : drop (at + n) (put_mid at k xs ys) ≡ drop n b = drop-put_mid at k xs ys (at + n) (omega arith) la (omega arith) ∙ sym (drop-drop n at xs) in
    let there : walk b ≡ take k b ∷ walk (drop n b) = walk-there b hf ∙ ap (λ m. take m b ∷ walk (drop m b)) (sym en) ∙ ap (λ m. take m b ∷ walk (drop n b)) (sym ek) in
    let s : walk_size (walk b) ≡ length (take k b) + walk_size (walk (drop n b)) = ap walk_size there in
    let ds = ap (λ z. walk_size (walk z)) d in
    let before = inv.size in
    record {
      size = omega (arith, s, ds, before, lt);
      left = λ rest h.
          subst (AreFixated (walk all)) (sym (append_assoc (take at xs) ys rest) ∙ ap (λ z. z ++ rest) (sym t))
          (inv.left (ys ++ rest)
          (subst (λ z. AreFixated z (ys ++ rest)) (sym there) (ys, rest, refl, fp, subst (λ z. AreFixated (walk z) rest) d h)));
    }

-- the end of the loop
pub ends : (all xs : List ℕ) (at : ℕ) (vs : Trees) → length xs ≡ length all → ¬ (HasFront (drop at xs)) → FixatedSoFar all at xs → AreMembers vs all →
    AreFixated (walk all) xs
ends all xs at vs same absent inv accepted =
    let e = walk-end (drop at xs) absent in
    let s = ap walk_size e in
    let before = inv.size in
    let size = walked_size vs all accepted in
    let l = length-drop at xs in
    let nil : drop at xs ≡ [] = nil_from_length (drop at xs) (omega (arith, s, before, size, l, same)) in
    subst (AreFixated (walk all)) (ap (λ z. take at xs ++ z) (sym nil) ∙ take-append-drop at xs)
    (inv.left [] (subst (λ z. AreFixated z []) (sym e) refl))

-- the same, by its sizes
pub walked_next : (b : List ℕ) (n : ℕ) → HasFront b → n ≡ extent (word_at b 0) → walk_size (walk b) ≡ n + walk_size (walk (drop n b))
walked_next b n h en =
    let w = h.whole in
    let l : length (front_of b) ≡ n = length-take-le (extent (word_at b 0)) b w ∙ sym en in
    ap walk_size (walk-there b h) ∙ ap (λ m. m + walk_size (walk (rest_of b))) l ∙ ap (λ m. n + walk_size (walk (drop m b))) (sym en)

-- one turn of the loop that looks for a remainder
pub short_turn : (bytes xs : List ℕ) (n : ℕ) → HasFront xs → n ≡ extent (word_at xs 0) → length xs ≤ length bytes →
    (length bytes - length xs) + walk_size (walk xs) ≡ walk_size (walk bytes) → (m : ℕ) → m ≡ length xs - n →
    (length (take m (drop n xs)) ≤ length bytes) ×
    ((length bytes - length (take m (drop n xs))) + walk_size (walk (take m (drop n xs))) ≡ walk_size (walk bytes))
short_turn bytes xs n h en le inv m em =
    let whole : take m (drop n xs) ≡ drop n xs = ap (λ k. take k (drop n xs)) em ∙ take_rest xs n in
    let w = walked_next xs n h en in
    let x = h.whole in
    let d = length-drop n xs in
    subst (λ z. (length z ≤ length bytes) × ((length bytes - length z) + walk_size (walk z) ≡ walk_size (walk bytes))) (sym whole)
    (omega (arith, d, le), omega (arith, w, x, d, le, inv, en))

pub walked_end : (b : List ℕ) → ¬ (HasFront b) → walk_size (walk b) ≡ 0
walked_end b absent = ap walk_size (walk-end b absent)

-- a part that keeps its length keeps the whole's
pub length_turn : (xs ys : List ℕ) (at k : ℕ) → at ≤ length xs → at + k ≤ length xs → length ys ≡ length (take k (drop at xs)) →
    length (put_mid at k xs ys) ≡ length xs
length_turn xs ys at k la lk ly =
    let e0 = length-append (take at xs) (ys ++ drop k (drop at xs)) in
    let e1 = length-append ys (drop k (drop at xs)) in
    let e2 = length-take at xs in
    let e3 = length-drop at xs in
    let e4 = length-drop k (drop at xs) in
    let e5 = length-take k (drop at xs) in
    omega arith
