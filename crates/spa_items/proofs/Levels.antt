-- Pods that nest in few levels have the same items, however many more levels are listed.
use Rattle.std.proofs.Common.{◌≡◌, ◌≢◌, ℕ, zero, suc, ◌+◌, ◌<◌, ◌≤◌, inl, inr, List, [], ◌∷◌, ◌++◌, length, take, drop, refl, sym, ap, subst, ◌∙◌, arith, true≢false, length-drop}
use Rattle.std.specs.Prelude.{Bool, true, false, cond, if◌then◌else◌, min, nat_le}
use Rattle.std.proofs.lemmas.Bool.{cases_lt}
use Rattle.std.proofs.lemmas.Bool.Decides.{eqb_tells, leb_tells}
use Rattle.spa_events.specs.Inside.{key_size}
use Rattle.spa_events.specs.Events.{is_object}
use Rattle.spa_events.proofs.Places.{not_object, object_room}
use Rattle.spa_format.specs.Front.{HasFront}
use Rattle.spa_format.specs.Tree.{object_type}
use Rattle.spa_format.specs.Walk.{extent_behind, walk, walk_at_most, walk_behind}
use Rattle.spa_format.specs.Words.{body_of, word_at}
use Rattle.spa_format.proofs.WalkLemmas.{length-take_extent}
use Rattle.spa_format.proofs.WordLemmas.{word_at-drop}
use Rattle.spa_canonical.specs.Depth.{IsDeepBody, NestsDeeper, SomeOf}
use Rattle.spa_canonical.proofs.Deeper.{of_body}
use Rattle.spa_items.specs.Items.{head, items_along, items_in, items_inside, items_of, items_within, overlaid}
use Rattle.spa_items.specs.Puts.{ArePut}
use Rattle.spa_items.specs.declared.item.Item.{Item}
use Rattle.spa_items.proofs.Listed.{in_object, in_other, in_struct, one_within}

-- each of these bytes is so
abbrev pub EachOf : (List ℕ → Type 0) → List (List ℕ) → Type 0
EachOf P [] = Unit {0}
EachOf P (b ∷ bs) = P b × EachOf P bs

-- two readings that agree on each pod agree on all
along_alike : (R S : ℕ → List ℕ → List Item) (P Q : List ℕ → Type 0) → ((at : ℕ) (p : List ℕ) → P p → ¬ (Q p) → R at p ≡ S at p) →
    (ps : List (List ℕ)) (at : ℕ) → EachOf P ps → ¬ (SomeOf Q ps) → items_along R at ps ≡ items_along S at ps
along_alike R S P Q f [] at e n = refl
along_alike R S P Q f (p ∷ ps) at e n =
    ap (λ xs. xs ++ items_along R (at + length p) ps) (f at p e.0 (λ q. n (inl q)))
    ∙ ap (λ xs. S at p ++ xs) (along_alike R S P Q f ps (at + length p) e.1 (λ s. n (inr s)))

-- each pod of a walk is whole
whole_behind : (k : ℕ) (b : List ℕ) → extent_behind k b ≤ length b → HasFront (drop k (take (extent_behind k b) b))
whole_behind k b h =
    let p = take (extent_behind k b) b in
    let l = length-take_extent k (extent_behind k b) b refl h in
    let d = length-drop k p in
    let e : word_at (drop k p) 0 ≡ word_at p (k + 0) = word_at-drop k 0 p in
    let z : k + 0 ≡ k = omega arith in
    let w = e ∙ ap (word_at p) z in
    record { header = omega arith; whole = omega arith }

each_whole : (n k : ℕ) (b : List ℕ) → EachOf (λ p. HasFront (drop k p)) (walk_at_most n k b)
each_whole zero k b = tt
each_whole (suc n) k b =
    elim (leb_tells (extent_behind k b) (length b)) [
      | inl p ↦
          let s : EachOf (λ p. HasFront (drop k p)) (take (extent_behind k b) b ∷ walk_at_most n k (drop (extent_behind k b) b)) =
          (whole_behind k b p.1, each_whole n k (drop (extent_behind k b) b)) in
          subst (EachOf (λ p. HasFront (drop k p)))
          (sym (ap (λ t. if t then take (extent_behind k b) b ∷ walk_at_most n k (drop (extent_behind k b) b) else []) p.0)) s
      | inr p ↦ subst (EachOf (λ p. HasFront (drop k p))) (sym (ap (λ t. if t then take (extent_behind k b) b ∷ walk_at_most n k (drop (extent_behind k b) b) else []) p.0)) tt
    ]

unfolded : (k : ℕ) (b : List ℕ) → EachOf (λ p. HasFront (drop k p)) (walk_behind k b)
unfolding walk_behind
unfolded k b = each_whole (length b) k b

object_there : (type size : ℕ) → is_object type size ≡ true → type ≡ object_type
object_there type size e =
    elim (eqb_tells type 15) [
      | inl p ↦ p.1
      | inr p ↦ absurd (true≢false (sym e ∙ ap (λ x. cond x (nat_le 8 size) false) p.0))
    ]

-- the items inside a body, where those of what it holds are the same
abbrev pub Alike : (n m j depth : ℕ) → Type 0
Alike n m j depth = (keyed : Bool) (at : ℕ) (b : List ℕ) → ¬ (SomeOf (λ p. NestsDeeper n (drop (key_size keyed) p)) (walk_behind (key_size keyed) b)) →
    items_in m depth keyed at b ≡ items_in j depth keyed at b

inside_leaf : (m j depth type at : ℕ) (b : List ℕ) → ¬ (IsDeepBody zero type b) →
    items_inside (items_within m depth) type depth at b ≡ items_inside (items_within j depth) type depth at b
inside_leaf m j depth type at b n =
    let s : type ≢ 14 = λ e. n (inl e) in
    let o = not_object type (length b) (λ e. absurd (n (inr e))) in
    sym (in_other m depth at type b s o) ∙ in_other j depth at type b s o

inside_others : (n m j depth type at : ℕ) (b : List ℕ) → Alike n m j depth → ¬ (IsDeepBody (suc n) type b) →
    items_inside (items_within m depth) type depth at b ≡ items_inside (items_within j depth) type depth at b
inside_others n m j depth type at b a d =
    elim (eqb_tells type 14) [
      | inl p ↦ sym (in_struct m depth at type b p.1) ∙ a false at b (λ s. d (false, b, (p.1, refl), s)) ∙ in_struct j depth at type b p.1
      | inr p ↦ by_object (is_object type (length b)) refl p.1
    ]
  where
    by_object : (x : Bool) → is_object type (length b) ≡ x → type ≢ 14 →
        items_inside (items_within m depth) type depth at b ≡ items_inside (items_within j depth) type depth at b
    by_object true e s =
        let o = object_there type (length b) e in
        sym (in_object m depth at type b (drop 8 b) s e refl) ∙ a true (at + 8) (drop 8 b) (λ q. d (true, drop 8 b, (o, object_room type (length b) e, refl), q)) ∙ in_object j depth at type b (drop 8 b) s e refl
    by_object false e s = sym (in_other m depth at type b s e) ∙ in_other j depth at type b s e

-- the items of a pod
pod_alike : (m j depth : ℕ) (keyed : Bool) (at : ℕ) (p : List ℕ) →
    (let pod = drop (key_size keyed) p in
    items_inside (items_within m (depth + 1)) (word_at pod 4) (depth + 1) (at + key_size keyed + 8) (body_of pod)
    ≡ items_inside (items_within j (depth + 1)) (word_at pod 4) (depth + 1) (at + key_size keyed + 8) (body_of pod)) →
    items_within (suc m) depth keyed at p ≡ items_within (suc j) depth keyed at p
pod_alike m j depth keyed at p e =
    one_within m depth keyed at p ∙ ap (λ xs. head keyed depth at p ∷ xs) e ∙ sym (one_within j depth keyed at p)

-- so many levels are enough
pub enough_levels : (n m j depth : ℕ) → n < m → n < j → Alike n m j depth
enough_levels n zero j depth l r = absurd (omega arith)
enough_levels n (suc m) zero depth l r = absurd (omega arith)
enough_levels zero (suc m) (suc j) depth l r = λ keyed at b s.
    along_alike (items_within (suc m) depth keyed) (items_within (suc j) depth keyed) (λ p. HasFront (drop (key_size keyed) p)) (λ p. NestsDeeper zero (drop (key_size keyed) p))
    (λ x p f d.
    let pod = drop (key_size keyed) p in
    pod_alike m j depth keyed x p (inside_leaf m j (depth + 1) (word_at pod 4) (x + key_size keyed + 8) (body_of pod) (λ i. d (of_body zero pod f i))))
    (walk_behind (key_size keyed) b) at (unfolded (key_size keyed) b) s
enough_levels (suc n) (suc m) (suc j) depth l r = λ keyed at b s.
    along_alike (items_within (suc m) depth keyed) (items_within (suc j) depth keyed) (λ p. HasFront (drop (key_size keyed) p)) (λ p. NestsDeeper (suc n) (drop (key_size keyed) p))
    (λ x p f d.
    let pod = drop (key_size keyed) p in
    pod_alike m j depth keyed x p
    (inside_others n m j (depth + 1) (word_at pod 4) (x + key_size keyed + 8) (body_of pod) (enough_levels n m j (depth + 1) (omega arith) (omega arith))
    (λ i. d (of_body (suc n) pod f i))))
    (walk_behind (key_size keyed) b) at (unfolded (key_size keyed) b) s

-- the items of an input, no pod of which nests deeper
listed_levels : (n : ℕ) (b : List ℕ) (k : ℕ) → k ≡ min (length b) (n + 1) → ¬ (SomeOf (NestsDeeper n) (walk b)) →
    items_in k 0 false 0 b ≡ items_in (length b) 0 false 0 b
listed_levels n b k e s =
    elim (cases_lt n (length b)) [
      | inl l ↦ enough_levels n k (length b) 0 (omega arith) l false 0 b s
      | inr l ↦ (let same : k ≡ length b = omega arith in ap (λ i. items_in i 0 false 0 b) same)
    ]

pub all_listed : (n : ℕ) (input : List ℕ) (levels : ℕ) (old new : List Item) (m : ℕ) → levels ≡ min (length input) (n + 1) →
    ¬ (SomeOf (NestsDeeper n) (walk input)) → ArePut 0 (items_in levels 0 false 0 input) old m new →
    (m ≡ length (items_of input)) × (new ≡ overlaid (items_of input) old)
unfolding items_of
all_listed n input levels old new m e s a =
    let same = listed_levels n input levels e s in
    let l = ap length same in
    let c = a.counted in
    (omega arith, a.written ∙ ap (λ xs. overlaid xs old) same)
