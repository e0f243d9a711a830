-- Pods that are ended where their bytes end.
use Rattle.std.proofs.Common.{◌≡◌, ◌∙◌, ◌+◌, ◌-◌, ◌%◌, ◌<◌, ◌≤◌, ◌^◌, min, suc, zero, ℕ, Bool, true, false, List, [], ◌∷◌, ◌++◌, ap, append_assoc, arith, drop, inl, inr, length, length-append, length-drop, refl, replicate, subst, sym, take}
use Rattle.std.specs.Prelude.{if◌then◌else◌, nat_eq}
use Rattle.std.proofs.lemmas.Bool.{cases_lt}
use Rattle.std.proofs.lemmas.Bool.Decides.{leb_tells}
use Rattle.std.proofs.lemmas.List.{drop-append-le, drop-drop, drop-take, drop_at, drop_all, length-take-le, take-append-drop, take-append-le, take_all, take_at}
use Rattle.spa_events.specs.Inside.{OpensFirst, key_size}
use Rattle.spa_events.proofs.Firsts.{behind_word}
use Rattle.spa_format.specs.Fixation.{walk_size}
use Rattle.spa_format.specs.Front.{HasFront, rest_of}
use Rattle.spa_format.specs.Tree.{object_type, struct_type}
use Rattle.spa_format.specs.Walk.{extent_behind, walk, walk_at_most, walk_behind}
use Rattle.spa_format.specs.Words.{extent, padded_size, padding, word_at, word_bytes}
use Rattle.spa_format.proofs.Encodings.{length-padding}
use Rattle.spa_format.proofs.WalkLemmas.{walk-end, walk-there, walk_behind-end, walk_behind-there}
use Rattle.spa_format.proofs.WordLemmas.{length-word_bytes, word_at-append, word_at-take, word_at-word_bytes}
use Rattle.spa_recordings.specs.Cut.{IsEnded, behind_whole, cut_inside, innermost, outer, sized}

-- ---- Behind whole pods

pub behind_next : (k : ℕ) (b : List ℕ) → extent_behind k b ≤ length b → behind_whole k b ≡ behind_whole k (drop (extent_behind k b) b)
behind_next k b h =
    let n = extent_behind k b in
    let t = length-take-le n b h in
    ap (λ ps. drop (walk_size ps) b) (walk_behind-there k b h)
    ∙ ap (λ m. drop (m + walk_size (walk_behind k (drop n b))) b) t
    ∙ sym (drop-drop (walk_size (walk_behind k (drop n b))) n b)

-- the first pod is there, and is passed
pub first_passed : (keyed : Bool) (b body rest : List ℕ) (type : ℕ) → OpensFirst keyed b type body rest →
    let k = key_size keyed in (extent_behind k b ≤ length b) × (rest ≡ drop (extent_behind k b) b)
first_passed keyed b body rest type o =
    let k = key_size keyed in
    let key = o.key in
    let whole = o.opens.there.whole in
    let d = length-drop k b in
    let s = ap extent (behind_word k b) in (
      omega (arith, key, whole, d, s),
      o.opens.its_rest ∙ drop-drop (extent (word_at (drop k b) 0)) k b ∙ ap (λ n. drop (k + n) b) s,
    )

pub behind_last : (k : ℕ) (b : List ℕ) → length b < extent_behind k b → behind_whole k b ≡ b
behind_last k b h = ap (λ ps. drop (walk_size ps) b) (walk_behind-end k b h)

aligned_at_most : (n k : ℕ) (b : List ℕ) → k % 8 ≡ 0 → walk_size (walk_at_most n k b) % 8 ≡ 0
aligned_at_most zero k b e = refl
aligned_at_most (suc n) k b e =
    let x = extent_behind k b in
    elim (leb_tells x (length b)) [
      | inl p ↦
          let t = length-take-le x b p.1 in
          let w = ap (λ c. walk_size (if c then take x b ∷ walk_at_most n k (drop x b) else [])) p.0 in
          let r = aligned_at_most n k (drop x b) e in
          omega (arith, t, w, r, e)
      | inr p ↦ let w = ap (λ c. walk_size (if c then take x b ∷ walk_at_most n k (drop x b) else [])) p.0 in omega (arith, w)
    ]

-- whole pods end at a multiple of 8
aligned : (k : ℕ) (b : List ℕ) → k % 8 ≡ 0 → walk_size (walk_behind k b) % 8 ≡ 0
unfolding walk_behind
aligned k b e = aligned_at_most (length b) k b e

-- ---- The pod inside in which the bytes end

-- it begins at this byte
pub record BeginsAt (b inner : List ℕ) (n : ℕ) : Type 0 where
  pub same : drop n b ≡ inner
  pub its : n + length inner ≡ length b
  pub behind : 8 ≤ n
  pub aligned : n % 8 ≡ 0

begins_by : (b inner : List ℕ) (n : ℕ) → inner ≡ drop n b → 8 ≤ length inner → 8 ≤ n → n % 8 ≡ 0 → BeginsAt b inner n
begins_by b inner n e long l a =
    let d = ap length e ∙ length-drop n b in record { same = sym e; its = omega (arith, d, long); behind = l; aligned = a }

pub begins_at : (b inner : List ℕ) → inner ≡ cut_inside b → 8 ≤ length inner → BeginsAt b inner (length b - length inner)
begins_at b inner e long = by (nat_eq (word_at b 4) struct_type) (nat_eq (word_at b 4) object_type) e
  where
    with_place : (n : ℕ) → BeginsAt b inner n → BeginsAt b inner (length b - length inner)
    with_place n h = let i = h.its in subst (BeginsAt b inner) (let q : n ≡ length b - length inner = omega (arith, i) in q) h

    in_struct : inner ≡ behind_whole 0 (drop 8 b) → BeginsAt b inner (length b - length inner)
    in_struct e =
        let s = walk_size (walk_behind 0 (drop 8 b)) in
        let a = aligned 0 (drop 8 b) refl in
        with_place (8 + s) (begins_by b inner (8 + s) (e ∙ drop-drop s 8 b) long (omega arith) (omega (arith, a)))

    in_object : inner ≡ drop 8 (behind_whole 8 (drop 8 (drop 8 b))) → BeginsAt b inner (length b - length inner)
    in_object e =
        let s = walk_size (walk_behind 8 (drop 8 (drop 8 b))) in
        let a = aligned 8 (drop 8 (drop 8 b)) refl in
        let one = ap (λ z. drop 8 (drop s z)) (drop-drop 8 8 b) in
        let two = ap (drop 8) (drop-drop s 16 b) in
        let three = drop-drop 8 (16 + s) b in
        with_place (16 + s + 8) (begins_by b inner (16 + s + 8) (e ∙ one ∙ two ∙ three) long (omega arith) (omega (arith, a)))

    by : (is_struct is_object : Bool) →
        inner ≡ (if is_struct then behind_whole 0 (drop 8 b) else (if is_object then drop 8 (behind_whole 8 (drop 8 (drop 8 b))) else [])) →
        BeginsAt b inner (length b - length inner)
    by true o e = in_struct e
    by false true e = in_object e
    by false false e = let l = ap length e in absurd (omega (arith, l, long))

-- ---- Size words

take-append-ge : (k : ℕ) (xs ys : List ℕ) (i j : ℕ) → length xs ≡ i → k ≡ i + j → take k (xs ++ ys) ≡ xs ++ take j ys
take-append-ge k [] ys i j l e = ap (λ m. take m ys) (let z : k ≡ j = omega (arith, l, e) in z)
take-append-ge zero (x ∷ xs) ys i j l e = absurd (omega (arith, l, e))
take-append-ge (suc k) (x ∷ xs) ys zero j l e = absurd (omega (arith, l))
take-append-ge (suc k) (x ∷ xs) ys (suc i) j l e =
    ap (λ l. x ∷ l) (take-append-ge k xs ys i j (omega (arith, l)) (omega (arith, e)))

pub length-sized : (n : ℕ) (b : List ℕ) → 4 ≤ length b → length (sized n b) ≡ length b
length-sized n b h =
    let m = min (word_at b 0) (n - 8) in
    let l = length-append (word_bytes m) (drop 4 b) in
    let w = length-word_bytes m in
    let d = length-drop 4 b in
    omega (arith, l, w, d, h)

sized-take : (n k : ℕ) (b : List ℕ) → 4 ≤ k → k ≤ length b → take k (sized n b) ≡ sized n (take k b)
sized-take n k b h i =
    let m = min (word_at b 0) (n - 8) in
    let w = length-word_bytes m in
    let size : word_at (take k b) 0 ≡ word_at b 0 = word_at-take k 0 b h in
    let z : 4 + (k - 4) ≡ k = omega (arith, h) in
    take-append-ge k (word_bytes m) (drop 4 b) 4 (k - 4) w (sym z)
    ∙ ap (λ l. word_bytes m ++ l) (sym (drop-take 4 (k - 4) b) ∙ ap (λ j. drop 4 (take j b)) z)
    ∙ ap (λ s. word_bytes (min s (n - 8)) ++ drop 4 (take k b)) (sym size)

sized-drop : (n k : ℕ) (b : List ℕ) → 4 ≤ k → drop k (sized n b) ≡ drop k b
sized-drop n k b h =
    let m = min (word_at b 0) (n - 8) in
    let z : 4 + (k - 4) ≡ k = omega (arith, h) in
    ap (λ j. drop j (sized n b)) (sym z) ∙ sym (drop-drop (k - 4) 4 (sized n b))
    ∙ ap (drop (k - 4)) (drop_at (word_bytes m) (drop 4 b) 4 (length-word_bytes m)) ∙ drop-drop (k - 4) 4 b ∙ ap (λ j. drop j b) z

-- ---- The loop

-- so far the pods around the one at this byte are ended, if that one is
pub record EndsSoFar (b now : List ℕ) (at : ℕ) : Type 0 where
  pub within : at + 8 ≤ length b
  pub aligned : at % 8 ≡ 0
  pub long : length now ≡ padded_size (length b)
  pub same : drop at now ≡ drop at b ++ padding (length b)
  pub back : (pod : List ℕ) → IsEnded (drop at b) pod → IsEnded b (take at now ++ pod)

pub ends_begin : (bytes : List ℕ) (there : ℕ) → 8 ≤ there → there ≤ length bytes → drop there bytes ≡ padding there →
    EndsSoFar (take there bytes) bytes 0
ends_begin bytes there h i e =
    let t = length-take-le there bytes i in
    let d = length-drop there bytes in
    let p = ap length e ∙ length-padding there in
    record {
      within = omega (arith, t, h);
      aligned = refl;
      long = (let l : length bytes ≡ padded_size there = omega (arith, d, p, i) in l) ∙ ap padded_size (sym t);
      same = sym (take-append-drop there bytes) ∙ ap (λ z. take there bytes ++ z) (e ∙ ap padding (sym t));
      back = λ pod e. e;
    }

-- what is there of the pod at this byte
pub there_at : (b now : List ℕ) (at there : ℕ) → there ≡ length b → EndsSoFar b now at → take (there - at) (drop at now) ≡ drop at b
there_at b now at there e so =
    let w = so.within in
    let d = length-drop at b in
    let n : length (drop at b) ≡ there - at = omega (arith, d, e, w) in
    ap (take (there - at)) so.same ∙ take_at (drop at b) (padding (length b)) (there - at) n

same_padding : (n at : ℕ) → at % 8 ≡ 0 → at ≤ n → padding (n - at) ≡ padding n
same_padding n at a l =
    ap (λ k. padding_of k) (let e : padded_size (n - at) - (n - at) ≡ padded_size n - n = omega (arith, a, l) in e)
  where
    padding_of : ℕ → List ℕ
    padding_of k = replicate k 0

pub ends_next : (b now new : List ℕ) (at inner n : ℕ) → inner + 8 ≤ length (drop at b) → 8 ≤ inner → inner % 8 ≡ 0 →
    drop inner (drop at b) ≡ cut_inside (drop at b) → n ≡ length (drop at now) → new ≡ take at now ++ sized n (drop at now) → EndsSoFar b now at →
    EndsSoFar b new (at + inner)
ends_next b now new at inner n within behind aligned its len e so =
    let a = so.aligned in
    let w = so.within in
    let s = so.same in
    let lb = length-drop at b in
    let ln = so.long in
    let ld = length-drop at now in
    let fits : at ≤ length now = omega (arith, ln, w) in
    let lt = length-take-le at now fits in
    let four : 4 ≤ length (drop at now) = omega (arith, ld, ln, w) in
    let ls = length-sized n (drop at now) four in
    let la = length-append (take at now) (sized n (drop at now)) in
    let le = ap length e in
    let tail : drop (at + inner) new ≡ drop inner (drop at now) =
    ap (drop (at + inner)) e ∙ sym (drop-drop inner at (take at now ++ sized n (drop at now)))
    ∙ ap (drop inner) (drop_at (take at now) (sized n (drop at now)) at lt) ∙ sized-drop n inner (drop at now) (omega (arith, behind)) in
    let head : take (at + inner) new ≡ take at now ++ sized n (take inner (drop at b)) =
    ap (take (at + inner)) e ∙ take-append-ge (at + inner) (take at now) (sized n (drop at now)) at inner lt refl
    ∙ ap (λ z. take at now ++ z) (sized-take n inner (drop at now) (omega (arith, behind)) (omega (arith, ld, ln, lb, within))
    ∙ ap (λ z. sized n (take inner z)) s
    ∙ ap (sized n) (take-append-le inner (drop at b) (padding (length b)) (omega (arith, within)))) in
    let size : padded_size (length (drop at b)) ≡ n = omega (arith, len, ld, ln, lb, a, w) in
    let long_inner = length-drop inner (drop at b) in
    record {
      within = omega (arith, within, lb, w);
      aligned = omega (arith, a, aligned);
      long = omega (arith, le, la, lt, ls, ld, ln, fits);
      same = tail ∙ ap (drop inner) s ∙ drop-append-le inner (drop at b) (padding (length b)) (omega (arith, within))
          ∙ ap (λ z. z ++ padding (length b)) (drop-drop inner at b);
      back = λ pod h.
          let one = outer (drop at b) (take inner (drop at b)) (drop inner (drop at b)) pod (sym (take-append-drop inner (drop at b))) its
          (omega (arith, long_inner, within)) (subst (λ z. IsEnded z pod) (sym (drop-drop inner at b)) h) in
          let two = so.back _ (subst (λ m. IsEnded (drop at b) (sized m (take inner (drop at b)) ++ pod)) size one) in
          subst (IsEnded b) (sym (append_assoc (take at now) (sized n (take inner (drop at b))) pod) ∙ ap (λ z. z ++ pod) (sym head)) two;
    }

pub ends_last : (b now last : List ℕ) (at there : ℕ) → there ≡ length b → length (cut_inside (drop at b)) < 8 →
    last ≡ sized (length (drop at b)) (drop at b) → EndsSoFar b now at → IsEnded b (take at now ++ (last ++ drop there now))
ends_last b now last at there e none l so =
    let w = so.within in
    let lb = length-drop at b in
    let len : there ≡ at + length (drop at b) = omega (arith, e, lb, w) in
    let tail : drop there now ≡ padding (length b) =
    ap (λ m. drop m now) len ∙ sym (drop-drop (length (drop at b)) at now) ∙ ap (drop (length (drop at b))) so.same
    ∙ drop_at (drop at b) (padding (length b)) (length (drop at b)) refl in
    let pad : padding (length (drop at b)) ≡ padding (length b) =
    ap padding lb ∙ same_padding (length b) at so.aligned (omega (arith, w)) in
    subst (λ z. IsEnded b (take at now ++ z)) (ap (λ z. sized (length (drop at b)) (drop at b) ++ z) (pad ∙ sym tail) ∙ ap (λ z. z ++ drop there now) (sym l))
    (so.back _ (innermost (drop at b) none))

-- ---- The whole pod

front_alone : (p : List ℕ) → 8 ≤ length p → extent (word_at p 0) ≡ length p → walk p ≡ p ∷ []
front_alone p h e =
    let there : HasFront p = record { header = h; whole = omega (arith, e) } in
    walk-there p there ∙ ap (λ z. z ∷ walk (rest_of p)) (take_all (extent (word_at p 0)) p (omega (arith, e)))
    ∙ ap (λ z. p ∷ z) (ap walk (drop_all (extent (word_at p 0)) p (omega (arith, e))) ∙ walk-end [] none_there)
  where
    none_there : ¬ (HasFront [])
    none_there f = let h = f.header in omega (arith, h)

size_of_sized : (n : ℕ) (first rest : List ℕ) → word_at first 0 < 2 ^ 32 → word_at (sized n first ++ rest) 0 ≡ min (word_at first 0) (n - 8)
size_of_sized n first rest fits =
    let m = min (word_at first 0) (n - 8) in
    ap (λ z. word_at z 0) (append_assoc (word_bytes m) (drop 4 first) rest)
    ∙ word_at-append (word_bytes m) (drop 4 first ++ rest) 0 (let l = length-word_bytes m in omega (arith, l))
    ∙ word_at-word_bytes m (omega (arith, fits))

whole_by : (b p : List ℕ) (n : ℕ) → 8 ≤ length b → length b < extent (word_at b 0) → length p ≡ padded_size (length b) → length b ≤ n →
    n ≤ padded_size (length b) → word_at p 0 ≡ min (word_at b 0) (n - 8) → walk p ≡ p ∷ []
whole_by b p n h cut long l m e = front_alone p (omega (arith, long, h)) (omega (arith, e, cut, long, h, l, m))

pub whole_ended : (b p : List ℕ) → 8 ≤ length b → ¬ (HasFront b) → word_at b 0 < 2 ^ 32 → length p ≡ padded_size (length b) → IsEnded b p → walk p ≡ p ∷ []
whole_ended b p h none fits long ended = by p ended long
  where
    cut : length b < extent (word_at b 0)
    cut = elim (cases_lt (length b) (extent (word_at b 0))) [
      | inl l ↦ l
      | inr l ↦ absurd (none (record { header = h; whole = l }))
    ]

    by : (p : List ℕ) → IsEnded b p → length p ≡ padded_size (length b) → walk p ≡ p ∷ []
    by _ (innermost b none_inside) long =
        whole_by b (sized (length b) b ++ padding (length b)) (length b) h cut long (omega arith) (omega arith) (size_of_sized (length b) b (padding (length b)) fits)
    by _ (outer b first inner ended parts its long_inner so) long =
        let at = begins_at b inner its long_inner in
        let i = at.its in
        let j = at.behind in
        let l = ap length parts ∙ length-append first inner in
        let size : word_at first 0 ≡ word_at b 0 = sym (word_at-append first inner 0 (omega (arith, i, j, l))) ∙ ap (λ z. word_at z 0) (sym parts) in
        let n = padded_size (length b) in
        whole_by b (sized n first ++ ended) n h cut long (omega arith) (omega arith)
        (size_of_sized n first ended (subst (λ z. z < 2 ^ 32) (sym size) fits) ∙ ap (λ z. min z (n - 8)) size)
