-- The items of a pod, and of those that stand one after another.
use Rattle.std.proofs.Common.{◌≡◌, ◌≢◌, ℕ, suc, ◌+◌, ◌-◌, ◌*◌, ◌<◌, ◌≤◌, List, [], ◌∷◌, ◌++◌, length, take, drop, refl, sym, ap, subst, ◌∙◌, arith, length-take, length-drop, true≢false}
use Rattle.std.specs.Prelude.{Bool, true, false, if◌then◌else◌, nat_eq}
use Rattle.std.specs.Simd.{first_chunks}
use Rattle.std.proofs.lemmas.Bool.{le-leb, ne_eqb}
use Rattle.spa_events.specs.Inside.{IsInside, key_size}
use Rattle.spa_events.specs.Events.{is_object, is_struct}
use Rattle.spa_format.specs.Front.{HasFront, front_of}
use Rattle.spa_format.specs.Walk.{extent_behind, walk_behind}
use Rattle.spa_format.specs.Tree.{object_type, struct_type}
use Rattle.spa_format.specs.Words.{body_of, extent, header_size, word_at}
use Rattle.spa_format.proofs.WalkLemmas.{walk_behind-end, walk_behind-there}
use Rattle.spa_items.specs.Contents.{before_values, element, element_count, elements, elements_along, pod_item, values_behind, values_of, values_taken, word_or}
use Rattle.spa_items.specs.Items.{head, items_along, items_in, items_inside, items_within}
use Rattle.spa_items.specs.Puts.{AreElements, ArePut, IsFirst, first_of, item_of}
use Rattle.spa_items.specs.declared.elements.Elements.{Elements}
use Rattle.spa_items.specs.declared.item.Item.{Item}
use Rattle.spa_items.specs.declared.listing.First.{First}
use Rattle.spa_events.proofs.Places.{not_object}
use Rattle.spa_items.proofs.Overlays.{ArePutOf, all_put, begun, more_put, none_put, renamed}

none_within : (depth : ℕ) (keyed : Bool) (at : ℕ) (p : List ℕ) → items_within 0 depth keyed at p ≡ []
unfolding items_within
none_within depth keyed at p = refl

pub one_within : (n depth : ℕ) (keyed : Bool) (at : ℕ) (p : List ℕ) → let pod = drop (key_size keyed) p in
    items_within (suc n) depth keyed at p
    ≡ head keyed depth at p ∷ items_inside (items_within n (depth + 1)) (word_at pod 4) (depth + 1) (at + key_size keyed + 8) (body_of pod)
unfolding items_within
one_within n depth keyed at p = refl

-- no levels are left
no_items_along : (depth : ℕ) (keyed : Bool) (at : ℕ) (ps : List (List ℕ)) → items_along (items_within 0 depth keyed) at ps ≡ []
no_items_along depth keyed at [] = refl
no_items_along depth keyed at (p ∷ ps) =
    ap (λ xs. xs ++ items_along (items_within 0 depth keyed) (at + length p) ps) (none_within depth keyed at p) ∙ no_items_along depth keyed (at + length p) ps

pub no_levels : (levels depth : ℕ) (keyed : Bool) (at : ℕ) (b : List ℕ) → levels ≡ 0 → items_in levels depth keyed at b ≡ []
no_levels levels depth keyed at b e =
    ap (λ n. items_in n depth keyed at b) e ∙ no_items_along depth keyed at (walk_behind (key_size keyed) b)

-- the item of the first pod is that of its parts
its_head : (keyed : Bool) (depth at body_at : ℕ) (b : List ℕ) (f : First) → IsFirst keyed b f → body_at ≡ at + key_size keyed + 8 →
    item_of depth body_at f ≡ head keyed depth at (first_of keyed b)
its_head keyed depth at body_at b f i e =
    let p = first_of keyed b in
    let pod = drop (key_size keyed) p in
    let k = if keyed then word_at p 0 else 0 in
    let l = if keyed then word_at p 4 else 0 in
    let t = word_at pod 4 in
    let start = at + key_size keyed in
    let begins : start + 8 - 8 ≡ start = omega arith in
    ap (λ n. pod_item n f.flags f.type_ depth (body_at - 8) body_at f.body.now) i.its_key
    ∙ ap (λ n. pod_item k n f.type_ depth (body_at - 8) body_at f.body.now) i.its_flags
    ∙ ap (λ n. pod_item k l n depth (body_at - 8) body_at f.body.now) i.its_type
    ∙ ap (λ n. pod_item k l t depth (n - 8) n f.body.now) e
    ∙ ap (λ c. pod_item k l t depth (start + 8 - 8) (start + 8) c) i.its_body
    ∙ ap (λ n. pod_item k l t depth n (start + 8) (body_of pod)) begins

-- the item of the pod at the front
pub front_head : (at : ℕ) (b : List ℕ) (f : First) → IsFirst false b f → item_of 0 (at + 8) f ≡ head false 0 at (front_of b)
front_head at b f i =
    let e : at + 8 ≡ at + 0 + 8 = omega arith in
    let n : 0 + extent (word_at b 0) ≡ extent (word_at b 0) = omega arith in
    its_head false 0 at (at + 8) b f i e ∙ ap (λ k. head false 0 at (take k b)) n

pub has_first : (b : List ℕ) (f : First) → IsFirst false b f → HasFront b
has_first b f i = let t = i.there in record { header = omega arith; whole = omega arith }

pub none_there : (b : List ℕ) → length b < extent_behind 0 b → ¬ (HasFront b)
none_there b h f = let w = f.whole in absurd (omega arith)

-- the items of the first pod are its own, and those inside it
pub their_items : (levels n depth : ℕ) (keyed : Bool) (at k body_at : ℕ) (b : List ℕ) (f : First) (x : Item) (xs : List Item) → levels ≡ suc n → IsFirst keyed b f →
    k ≡ key_size keyed → body_at ≡ at + k + 8 → x ≡ item_of depth body_at f → xs ≡ items_inside (items_within n (depth + 1)) f.type_ (depth + 1) body_at f.body.now →
    x ∷ xs ≡ items_within levels depth keyed at (first_of keyed b)
their_items levels n depth keyed at k body_at b f x xs el i ek eb ex exs =
    let e : body_at ≡ at + key_size keyed + 8 = eb ∙ ap (λ j. at + j + 8) ek in
    let inside : ℕ → ℕ → List ℕ → List Item = λ t x y. items_inside (items_within n (depth + 1)) t (depth + 1) x y in
    ap (λ y. y ∷ xs) (ex ∙ its_head keyed depth at body_at b f i e)
    ∙ ap (λ ys. head keyed depth at (first_of keyed b) ∷ ys) exs
    ∙ ap (λ t. head keyed depth at (first_of keyed b) ∷ inside t body_at f.body.now) i.its_type
    ∙ ap (λ x. head keyed depth at (first_of keyed b) ∷ inside (word_at (drop (key_size keyed) (first_of keyed b)) 4) x f.body.now) e
    ∙ ap (λ y. head keyed depth at (first_of keyed b) ∷ inside (word_at (drop (key_size keyed) (first_of keyed b)) 4) (at + key_size keyed + 8) y) i.its_body
    ∙ sym (one_within n depth keyed at (first_of keyed b))
    ∙ ap (λ l. items_within l depth keyed at (first_of keyed b)) (sym el)

-- the items of pods are those of the first, and then those of the others
pub next_listed : (levels depth : ℕ) (keyed : Bool) (at : ℕ) (b : List ℕ) (f : First) → IsFirst keyed b f →
    items_in levels depth keyed at b
    ≡ items_within levels depth keyed at (first_of keyed b) ++ items_in levels depth keyed (at + (length b - length f.rest.now)) f.rest.now
next_listed levels depth keyed at b f i =
    let n = extent_behind (key_size keyed) b in
    let read = items_within levels depth keyed in
    let h = i.there in
    let lt = length-take n b in
    let ld = length-drop n b in
    let lr = ap length i.its_rest in
    let e : at + length (take n b) ≡ at + (length b - length f.rest.now) = omega arith in
    ap (items_along read at) (walk_behind-there (key_size keyed) b h)
    ∙ ap (λ x. read at (take n b) ++ items_along read x (walk_behind (key_size keyed) (drop n b))) e
    ∙ ap (λ r. read at (take n b) ++ items_along read (at + (length b - length f.rest.now)) (walk_behind (key_size keyed) r)) (sym i.its_rest)

pub none_listed : (levels depth : ℕ) (keyed : Bool) (at : ℕ) (b : List ℕ) → length b < extent_behind (key_size keyed) b → items_in levels depth keyed at b ≡ []
none_listed levels depth keyed at b h = ap (items_along (items_within levels depth keyed) at) (walk_behind-end (key_size keyed) b h)

-- The elements that are still to be listed.

pub elements_begun : (place type depth size count at : ℕ) (bytes : List ℕ) (old : List Item) → let all = elements_along type depth size at (first_chunks size count bytes) in
    ArePutOf place all (elements_along type depth size at (first_chunks size (count - 0) bytes)) old (place + 0) old
elements_begun place type depth size count at bytes old =
    let all = elements_along type depth size at (first_chunks size count bytes) in
    let e : count ≡ count - 0 = omega arith in
    let p : place ≡ place + 0 = omega arith in
    subst (λ n. ArePutOf place all (elements_along type depth size at (first_chunks size n bytes)) old (place + 0) old) e
    (subst (λ k. ArePutOf place all all old k old) p (begun place all old))

room_left : (n size l : ℕ) → suc n * size ≤ l → (size ≤ l) × (n * size ≤ l - size)
room_left n size l h = let e : suc n * size ≡ size + n * size = grind arith in (omega arith, omega arith)

pub element_room : (count done size l : ℕ) → done < count → (count - done) * size ≤ l → (size ≤ l) × ((count - (done + 1)) * size ≤ l - size)
element_room count done size l h r =
    let e : count - done ≡ suc (count - (done + 1)) = omega arith in
    room_left (count - (done + 1)) size l (subst (λ n. n * size ≤ l) e r)

pub element_listed : (place type depth size count done begins : ℕ) (left first others : List ℕ) (x : Item) (all old mid new : List Item) → done < count →
    x ≡ element type depth begins first → first ≡ take size left → others ≡ drop size left →
    ArePutOf place all (elements_along type depth size begins (first_chunks size (count - done) left)) old (place + done) mid →
    ArePut (place + done) (x ∷ []) mid (place + done + 1) new →
    ArePutOf place all (elements_along type depth size (begins + size) (first_chunks size (count - (done + 1)) others)) old (place + (done + 1)) new
element_listed place type depth size count done begins left first others x all old mid new h ex ef eo a p =
    let m = count - (done + 1) in
    let e : count - done ≡ suc m = omega arith in
    let k : place + done + 1 ≡ place + (done + 1) = omega arith in
    let behind : List ℕ → List Item = λ b. elements_along type depth size (begins + size) (first_chunks size m b) in
    let b = subst (λ n. ArePutOf place all (elements_along type depth size begins (first_chunks size n left)) old (place + done) mid) e a in
    let q = subst (λ y. ArePut (place + done) (y ∷ []) mid (place + done + 1) new) (ex ∙ ap (element type depth begins) ef) p in
    subst (λ x. ArePutOf place all (behind x) old (place + (done + 1)) new) (sym eo)
    (subst (λ x. ArePutOf place all (behind (drop size left)) old x new) k
    (more_put place (place + done) (place + done + 1) all (element type depth begins (take size left) ∷ []) (behind (drop size left)) old mid new b q))

pub elements_listed : (place type depth size count done begins at : ℕ) (bytes left : List ℕ) (old new : List Item) → count ≤ done →
    ArePutOf place (elements_along type depth size at (first_chunks size count bytes)) (elements_along type depth size begins (first_chunks size (count - done) left)) old (place + done) new →
    ArePut place (elements_along type depth size at (first_chunks size count bytes)) old (place + done) new
elements_listed place type depth size count done begins at bytes left old new h a =
    let e : count - done ≡ 0 = omega arith in
    all_put place (place + done) (elements_along type depth size at (first_chunks size count bytes))
    (elements_along type depth size begins (first_chunks size (count - done) left)) old new a
    (ap (λ k. elements_along type depth size begins (first_chunks size k left)) e)

-- the elements of a body, by their parts
pub their_parts : (type depth at : ℕ) (b : List ℕ) (them : Elements) → AreElements type at b them →
    elements_along them.type_ depth them.size them.at (first_chunks them.size them.count them.bytes.now) ≡ elements type depth at b
their_parts type depth at b them a =
    let v = values_of type b in
    let make : ℕ → ℕ → ℕ → ℕ → List ℕ → List Item = λ t s x n d. elements_along t depth s x (first_chunks s n d) in
    ap (λ t. make t them.size them.at them.count them.bytes.now) a.its_type
    ∙ ap (λ s. make (word_or v 4) s them.at them.count them.bytes.now) a.its_size
    ∙ ap (λ x. make (word_or v 4) (word_or v 0) x them.count them.bytes.now) a.its_at
    ∙ ap (λ n. make (word_or v 4) (word_or v 0) (at + before_values type) n them.bytes.now) a.its_count
    ∙ ap (λ d. make (word_or v 4) (word_or v 0) (at + before_values type) (element_count type b) d) a.its_bytes

-- only an array and a choice have elements
none_of : (x y : Bool) (depth at : ℕ) (b : List ℕ) → x ≡ false → y ≡ false →
    let c = if x then b else (if y then drop 8 b else []) in
    elements_along (word_or c 4) depth (word_or c 0) (at + (if y then 8 + 8 else 8))
    (first_chunks (word_or c 0) (if y then values_taken (word_or b 0) (values_behind c) else values_behind c) (drop 8 c)) ≡ []
none_of true y depth at b p q = absurd (true≢false p)
none_of false true depth at b p q = absurd (true≢false q)
none_of false false depth at b p q = refl

pub no_elements : (place type depth at : ℕ) (b : List ℕ) (out : List Item) → type ≢ 13 → type ≢ 19 → ArePut place (elements type depth at b) out place out
no_elements place type depth at b out n m =
    renamed place place [] (elements type depth at b) out out
    (sym (none_of (nat_eq type 13) (nat_eq type 19) depth at b (ne_eqb type 13 n) (ne_eqb type 19 m))) (none_put place out)

-- what is inside a struct, an object, or another pod
pub in_struct : (n depth at type : ℕ) (b : List ℕ) → type ≡ 14 → items_in n depth false at b ≡ items_inside (items_within n depth) type depth at b
in_struct n depth at type b e = ap (λ t. items_inside (items_within n depth) t depth at b) (sym e)

struct_or : (x y : Bool) (xs ys zs : List Item) → x ≡ false → y ≡ true → ys ≡ (if x then xs else (if y then ys else zs))
struct_or true y xs ys zs h i = absurd (let f = h in cc)
struct_or false true xs ys zs h i = refl
struct_or false false xs ys zs h i = absurd (let f = i in cc)

neither : (x y : Bool) (xs ys zs : List Item) → x ≡ false → y ≡ false → zs ≡ (if x then xs else (if y then ys else zs))
neither true y xs ys zs h i = absurd (let f = h in cc)
neither false true xs ys zs h i = absurd (let f = i in cc)
neither false false xs ys zs h i = refl

pub in_object : (n depth at type : ℕ) (b ps : List ℕ) → type ≢ 14 → is_object type (length b) ≡ true → ps ≡ drop 8 b →
    items_in n depth true (at + 8) ps ≡ items_inside (items_within n depth) type depth at b
in_object n depth at type b ps ne e ep =
    ap (items_in n depth true (at + 8)) ep
    ∙ struct_or (is_struct type) (is_object type (length b)) (items_in n depth false at b) (items_in n depth true (at + 8) (drop 8 b)) (elements type depth at b) (ne_eqb type 14 ne) e

pub in_other : (n depth at type : ℕ) (b : List ℕ) → type ≢ 14 → is_object type (length b) ≡ false →
    elements type depth at b ≡ items_inside (items_within n depth) type depth at b
in_other n depth at type b ne e =
    neither (is_struct type) (is_object type (length b)) (items_in n depth false at b) (items_in n depth true (at + 8) (drop 8 b)) (elements type depth at b) (ne_eqb type 14 ne) e

pub in_pods : (n depth at type : ℕ) (b pods : List ℕ) (keyed : Bool) → IsInside type b keyed pods →
    items_in n depth keyed (at + key_size keyed) pods ≡ items_inside (items_within n depth) type depth at b
in_pods n depth at type b pods false i =
    let e : at + 0 ≡ at = omega arith in
    ap (λ x. items_in n depth false x pods) e ∙ ap (items_in n depth false at) i.1 ∙ in_struct n depth at type b i.0
in_pods n depth at type b pods true i =
    let ne : type ≢ 14 = λ s. let o = i.0 in absurd (omega arith) in
    in_object n depth at type b pods ne (subst (λ t. is_object t (length b) ≡ true) (sym i.0) (le-leb 8 (length b) i.1)) i.2

pub in_none : (n depth at type : ℕ) (b : List ℕ) → type ≢ struct_type → (type ≡ object_type → length b < header_size) →
    elements type depth at b ≡ items_inside (items_within n depth) type depth at b
in_none n depth at type b s o = in_other n depth at type b s (not_object type (length b) o)
