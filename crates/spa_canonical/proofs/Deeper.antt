-- Structs and objects that stand too deep in one another, on any bytes.
use Rattle.std.proofs.Common.{◌≡◌, ◌≢◌, ℕ, suc, zero, ◌<◌, ◌≤◌, ◌-◌, inl, inr, List, [], ◌∷◌, length, drop, sym, ap, ◌∙◌, subst, arith}
use Rattle.std.specs.Prelude.{◌⊎◌, ◌↔◌, Bool, false, true}
use Rattle.std.proofs.lemmas.List.{length-take-le}
use Rattle.spa_format.specs.Words.{body_of, extent, header_size, word_at}
use Rattle.spa_format.specs.Tree.{object_type, struct_type}
use Rattle.spa_format.specs.Front.{HasFront, front_of, rest_of}
use Rattle.spa_format.specs.Walk.{extent_behind, walk_behind}
use Rattle.spa_format.proofs.Fronts.{body_of_front, type_of_front, size_of_front}
use Rattle.spa_format.proofs.WalkLemmas.{walk_behind-end}
use Rattle.spa_events.specs.Inside.{IsContainer, IsInside, OpensFirst, key_size}
use Rattle.spa_bytes.specs.Opening.{Opens}
use Rattle.spa_events.proofs.Firsts.{pod_behind, walk_first}
use Rattle.spa_canonical.specs.Depth.{IsDeepBody, NestsDeeper, NestsDeeperInside, SomeOf}

-- the front of an input that is opened
to_body : (n : ℕ) (b : List ℕ) → NestsDeeper n b → IsDeepBody n (word_at b 4) (body_of b)
unfolding NestsDeeper
to_body zero b d = d.1
to_body (suc n) b d = (d.1, d.2, d.3, d.4)

pub of_body : (n : ℕ) (b : List ℕ) → HasFront b → IsDeepBody n (word_at b 4) (body_of b) → NestsDeeper n b
unfolding NestsDeeper
of_body zero b h d = (h, d)
of_body (suc n) b h d = (h, d.0, d.1, d.2, d.3)

pub its_front : (n : ℕ) (b : List ℕ) → NestsDeeper n b → HasFront b
unfolding NestsDeeper
its_front zero b d = d.0
its_front (suc n) b d = d.0

front_there : (b : List ℕ) → HasFront b → HasFront (front_of b)
front_there b h =
    let s = size_of_front b in
    let l = length-take-le (extent (word_at b 0)) b h.whole in
    let e = ap extent s in
    record { header = omega arith; whole = omega arith }

pub deep_input : (n : ℕ) (input body rest : List ℕ) (type : ℕ) → Opens input type body rest → IsDeepBody n type body → NestsDeeper n input
deep_input n input body rest type o d = of_body n input o.there (rw (o.its_type, o.its_body) at d)

pub input_deep : (n : ℕ) (input body rest : List ℕ) (type : ℕ) → Opens input type body rest → NestsDeeper n input → IsDeepBody n type body
input_deep n input body rest type o d = rw (o.its_type, o.its_body) (to_body n input d)

-- an input nests as its front does
pub of_front : (n : ℕ) (b : List ℕ) → HasFront b → NestsDeeper n (front_of b) → NestsDeeper n b
of_front n b h d = of_body n b h (rw (type_of_front b, body_of_front b) at (to_body n (front_of b) d))

to_front : (n : ℕ) (b : List ℕ) → NestsDeeper n b → NestsDeeper n (front_of b)
to_front n b d = of_body n (front_of b) (front_there b (its_front n b d)) (rw (type_of_front b, body_of_front b) (to_body n b d))

-- one of the pods inside a container is the first, or one behind it
pub first_or_behind : (n k : ℕ) (left : List ℕ) → k ≤ length left → HasFront (drop k left) →
    SomeOf (λ p. NestsDeeper n (drop k p)) (walk_behind k left)
    ↔ (NestsDeeper n (drop k left) ⊎ SomeOf (λ p. NestsDeeper n (drop k p)) (walk_behind k (rest_of (drop k left))))
first_or_behind n k left l h =
    rw (walk_first k left l h, pod_behind k left) (
      λ s. elim s [ inl d ↦ inl (of_front n (drop k left) h d) | inr r ↦ inr r ],
      λ s. elim s [ inl d ↦ inl (to_front n (drop k left) d) | inr r ↦ inr r ],
    )

pub opened_first : (n : ℕ) (keyed : Bool) (left : List ℕ) (type : ℕ) (body rest : List ℕ) → OpensFirst keyed left type body rest →
    NestsDeeperInside n keyed left ↔ (IsDeepBody n type body ⊎ NestsDeeperInside n keyed rest)
opened_first n keyed left type body rest o =
    let f = first_or_behind n (key_size keyed) left o.key o.opens.there in
    let here = drop (key_size keyed) left in
    rw o.opens.its_rest (
      λ s. elim (f.0 s) [ inl d ↦ inl (input_deep n here body rest type o.opens d) | inr r ↦ inr r ],
      λ s. f.1 (elim s [ inl d ↦ inl (deep_input n here body rest type o.opens d) | inr r ↦ inr r ]),
    )

pub none_inside : (n : ℕ) (keyed : Bool) (left : List ℕ) → length left < extent_behind (key_size keyed) left → ¬ (NestsDeeperInside n keyed left)
none_inside n keyed left l s = subst (SomeOf (λ p. NestsDeeper n (drop (key_size keyed) p))) (walk_behind-end (key_size keyed) left l) s

-- one more of the pods is looked into: what is left and the longest so far are one of them less and the longer of two
pub looked_into : (Left Deep Rest Longest Longer All : Type 0) → Left ↔ (Deep ⊎ Rest) → Longer ↔ (Longest ⊎ Deep) →
    (Left ⊎ Longest) ↔ All → (Rest ⊎ Longer) ↔ All
looked_into Left Deep Rest Longest Longer All first longer all = (
  λ s. elim s [
    | inl rest ↦ all.0 (inl (first.1 (inr rest)))
    | inr h ↦ elim (longer.0 h) [
      | inl l ↦ all.0 (inr l)
      | inr deep ↦ all.0 (inl (first.1 (inl deep)))
    ]
  ],
  λ a. elim (all.1 a) [
    | inl left ↦ elim (first.0 left) [
      | inl deep ↦ inr (longer.1 (inr deep))
      | inr rest ↦ inl rest
    ]
    | inr l ↦ inr (longer.1 (inl l))
  ],
)

-- the pods inside nest in one level less than the container
same_inside : (P : Bool → List ℕ → Type 0) (type : ℕ) (body a b : List ℕ) (k l : Bool) → IsInside type body k a → IsInside type body l b → P k a → P l b
same_inside P type body a b true true i j p = subst (P true) (i.2 ∙ sym j.2) p
same_inside P type body a b false false i j p = subst (P false) (i.1 ∙ sym j.1) p
same_inside P type body a b true false i j p = absurd (let o = i.0 in let s = j.0 in omega arith)
same_inside P type body a b false true i j p = absurd (let s = i.0 in let o = j.0 in omega arith)

pub one_level_less : (n type : ℕ) (body inside : List ℕ) (keyed : Bool) → 0 < n → IsInside type body keyed inside →
    IsDeepBody n type body ↔ NestsDeeperInside (n - 1) keyed inside
one_level_less zero type body inside keyed p i = absurd (omega arith)
one_level_less (suc m) type body inside keyed p i =
    let e : suc m - 1 ≡ m = omega arith in (
      λ d. subst (λ n. NestsDeeperInside n keyed inside) (sym e) (same_inside (NestsDeeperInside m) type body d.1 inside d.0 keyed d.2 i d.3),
      λ d. (keyed, inside, i, subst (λ n. NestsDeeperInside n keyed inside) e d),
    )

pub holds_none : (n type : ℕ) (body : List ℕ) → 0 < n → type ≢ struct_type → (type ≡ object_type → length body < header_size) → ¬ (IsDeepBody n type body)
holds_none zero type body p s o d = absurd (omega arith)
holds_none (suc m) type body p s o d = nothing d.0 d.1 d.2
  where
    nothing : (keyed : Bool) (inside : List ℕ) → IsInside type body keyed inside → ⊥
    nothing true inside i = let l = o i.0 in let h = i.1 in omega arith
    nothing false inside i = s i.0

-- more levels are also fewer
some_weaker : (P Q : List ℕ → Type 0) → ((b : List ℕ) → P b → Q b) → (bs : List (List ℕ)) → SomeOf P bs → SomeOf Q bs
some_weaker P Q f [] s = s
some_weaker P Q f (b ∷ bs) s = elim s [
  | inl p ↦ inl (f b p)
  | inr q ↦ inr (some_weaker P Q f bs q)
]

pub container : (type : ℕ) (body inside : List ℕ) (keyed : Bool) → IsInside type body keyed inside → IsDeepBody zero type body
container type body inside true i = inr i.0
container type body inside false i = inl i.0

pub its_container : (n : ℕ) (b : List ℕ) → NestsDeeper n b → IsContainer (word_at b 4)
unfolding NestsDeeper
its_container zero b d = d.1
its_container (suc n) b d = container (word_at b 4) (body_of b) d.2 d.1 d.3

pub deeper_than_fewer : (m n : ℕ) (b : List ℕ) → m ≤ n → NestsDeeper n b → NestsDeeper m b
unfolding NestsDeeper
deeper_than_fewer zero n b l d = (its_front n b d, its_container n b d)
deeper_than_fewer (suc m) zero b l d = absurd (omega arith)
deeper_than_fewer (suc m) (suc n) b l d =
    (d.0, d.1, d.2, d.3, some_weaker _ _ (λ (p : List ℕ). deeper_than_fewer m n (drop (key_size d.1) p) (omega arith)) (walk_behind (key_size d.1) d.2) d.4)

pub inside_deeper_than_fewer : (m n : ℕ) (keyed : Bool) (inside : List ℕ) → m ≤ n → NestsDeeperInside n keyed inside → NestsDeeperInside m keyed inside
inside_deeper_than_fewer m n keyed inside l d =
    some_weaker _ _ (λ (p : List ℕ). deeper_than_fewer m n (drop (key_size keyed) p) l) (walk_behind (key_size keyed) inside) d
