-- The steps of fixation in place: a part of a slice is written over by what it becomes.
use Rattle.std.proofs.Common.{◌≡◌, ℕ, ◌+◌, ◌-◌, ◌≤◌, List, ◌++◌, length, take, drop, sym, ap, ◌∙◌, arith, length-append, length-drop, length-take, append_assoc}
use Rattle.std.proofs.lemmas.List.{drop-drop}
use Rattle.std.proofs.lemmas.Slice.{take-put_mid, drop-put_mid}
use borrow.Rule.Slice.PartMut.{put_mid}
use Rattle.spa_format.specs.Words.{word_at, extent}
use Rattle.spa_format.specs.Front.{HasFront, front_of}
use Rattle.spa_format.specs.Walk.{extent_behind, properties_of, HasObject}
use Rattle.spa_format.specs.Fixation.{fixated_property, fixated_properties, fixated_bytes}
use Rattle.spa_format.proofs.WordLemmas.{word_at-take}
use Rattle.spa_format.proofs.Fronts.{size_of_front, type_of_front}
use Rattle.spa_view.specs.Tests.{IsObjectPod}
use Rattle.spa_format.proofs.FixationLemmas.{fixated_properties-next, length-first_fixated}
use Rattle.spa_format.proofs.FixatedObjects.{properties_of-is}

-- one turn of the loop: n bytes at this place were a property, and are that property after fixation
pub properties_step : (xs ys : List ℕ) (at n k : ℕ) (all : List ℕ) →
    at ≤ length xs → n ≡ extent_behind 8 (drop at xs) → n ≤ length (drop at xs) → k ≡ n → ys ≡ fixated_property (take n (drop at xs)) →
    take at xs ++ fixated_properties (drop at xs) ≡ all →
    take (at + n) (put_mid at k xs ys) ++ fixated_properties (drop (at + n) (put_mid at k xs ys)) ≡ all
properties_step xs ys at n k all la en ln ek ey inv =
    let b = drop at xs in
    let l0 = length-first_fixated n b en ln in
    let l1 = ap length ey in
    let t = take-put_mid at k xs ys (at + n) (omega arith) la in
    let d = drop-put_mid at k xs ys (at + n) (omega arith) la (omega arith) ∙ sym (drop-drop n at xs) in
    ap (λ z. z ++ fixated_properties (drop (at + n) (put_mid at k xs ys))) t
    ∙ ap (λ z. (take at xs ++ ys) ++ fixated_properties z) d
    ∙ append_assoc (take at xs) ys (fixated_properties (drop n b))
    ∙ ap (λ z. take at xs ++ (z ++ fixated_properties (drop n b))) ey
    ∙ ap (λ z. take at xs ++ z) (sym (fixated_properties-next n b en ln))
    ∙ inv

pub length-step : (xs ys : List ℕ) (at n k : ℕ) →
    at ≤ length xs → n ≡ extent_behind 8 (drop at xs) → n ≤ length (drop at xs) → k ≡ n → ys ≡ fixated_property (take n (drop at xs)) →
    length (put_mid at k xs ys) ≡ length xs
length-step xs ys at n k la en ln ek ey =
    let b = drop at xs in
    let l0 = length-first_fixated n b en ln in
    let l1 = ap length ey in
    let e0 = length-append (take at xs) (ys ++ drop k (drop at xs)) in
    let e1 = length-append ys (drop k (drop at xs)) in
    let e2 = length-take at xs in
    let e3 = length-drop at xs in
    let e4 = length-drop k (drop at xs) in
    omega arith

-- an object written over from its properties on
pub put_fixated : (xs p ys : List ℕ) (s : ℕ) → HasFront xs → p ≡ front_of xs → s ≡ word_at p 0 → 8 ≤ word_at p 0 →
    ys ≡ fixated_properties (take (8 + s - 16) (drop 16 xs)) → put_mid 16 (8 + s - 16) xs ys ≡ fixated_bytes xs
put_fixated xs p ys s h e es l ey =
    let x = h.whole in
    let w : word_at p 0 ≡ word_at xs 0 =
    ap (λ z. word_at z 0) e
    ∙ word_at-take (extent (word_at xs 0)) 0 xs (omega arith) in
    let k : 8 + s - 16 ≡ word_at xs 0 - 8 = omega arith in
    let d : 16 + (word_at xs 0 - 8) ≡ 8 + word_at xs 0 = omega arith in
    ap (λ z. take 16 xs ++ (z ++ drop (8 + s - 16) (drop 16 xs))) ey
    ∙ ap (λ m. take 16 xs ++ (fixated_properties (take m (drop 16 xs)) ++ drop m (drop 16 xs))) k
    ∙ ap (λ z. take 16 xs ++ (fixated_properties z ++ drop (word_at xs 0 - 8) (drop 16 xs))) (sym (properties_of-is xs (omega arith)))
    ∙ ap (λ z. take 16 xs ++ (fixated_properties (properties_of xs) ++ z)) (drop-drop (word_at xs 0 - 8) 16 xs ∙ ap (λ m. drop m xs) d)

-- an object at the front of an input, and its view
pub object_there : (b p : List ℕ) → HasFront b → p ≡ front_of b → IsObjectPod p → HasObject b
object_there b p h e o =
    let s = ap (λ z. word_at z 0) e ∙ size_of_front b in
    let t = ap (λ z. word_at z 4) e ∙ type_of_front b in
    let l = o.1 in
    record { front = h; its_type = sym t ∙ o.0; parts = omega arith }

pub object_at_front : (b p : List ℕ) → p ≡ front_of b → HasObject b → IsObjectPod p
object_at_front b p e h =
    let s = ap (λ z. word_at z 0) e ∙ size_of_front b in
    let t = ap (λ z. word_at z 4) e ∙ type_of_front b in
    let l = h.parts in
    (t ∙ h.its_type, omega arith)
