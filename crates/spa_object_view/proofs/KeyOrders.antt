-- A key that is found by binary search, and properties that were passed.
use Rattle.std.proofs.Common.{◌≡◌, ◌⊎◌, inl, inr, ℕ, zero, suc, ◌+◌, ◌-◌, ◌*◌, ◌<◌, ◌≤◌, ◌==◌, List, [], ◌∷◌, ◌++◌, length, drop, get_or, refl, sym, ap, ◌∙◌, subst, arith, append_assoc, length-drop, Bool, true, false, true≢false, if◌then◌else◌, Option, Some, None, Err}
use Rattle.std.specs.Prelude.{Contains, IfNone, IfSome, MatchOption}
use Rattle.std.specs.List.Sorted.{IsBinarySearchResult, IsNonDecreasingBy}
use Rattle.std.specs.Ordering.{nat_cmp}
use Rattle.std.specs.Cmp.{unsigned_Decides}
use Rattle.std.proofs.lemmas.List.{append-nil, drop-drop, get_or_default}
use Rattle.std.proofs.lemmas.Bool.{cases_lt}
use Rattle.std.proofs.lemmas.List.Elements.{Contains-get_or}
use Rattle.std.proofs.lemmas.List.Sorted.{Contains-permutation, IsPermutation-sym, searched}
use Rattle.spa_format.specs.Words.{word_at, extent, header_size, size_limit}
use Rattle.spa_format.specs.Tree.{Tree, Properties, no_properties, property}
use Rattle.spa_format.specs.Front.{HasFront, rest_of}
use Rattle.spa_object_view.specs.Written.{AreWritten, IsFound, HasFirst}
use Rattle.spa_object_view.specs.KeyOrder.{HasNoWord, IsFirstFrom, IsLeastWord, IsOrder, length_behind, place_word, place_words}
use Rattle.spa_object_view.specs.declared.object_view.PropertyView.{PropertyView}
use Rattle.spa_object_view.proofs.Listed.{AreListed, IsFirst}
use Rattle.spa_keyed_objects.specs.Keys.{offered_at}
use Rattle.spa_keyed_objects.specs.CanonicalPods.{IsCanonicalPod}

-- what is behind a property is shorter
pub rest_short : (b : List ℕ) → header_size ≤ length b → HasFront (drop header_size b) → length (rest_of (drop header_size b)) + 16 ≤ length b
rest_short b h f =
    let x = drop header_size b in
    let e0 = length-drop header_size b in
    let e1 = length-drop (extent (word_at x 0)) x in
    let w = f.whole in
    omega arith

contains_cases : (y x : ℕ) (ys : List ℕ) → Contains (y ∷ ys) x → (y ≡ x) ⊎ Contains ys x
contains_cases y x ys h = of_index h.0 h.1 h.2
  where
    of_index : (k : ℕ) → k < length (y ∷ ys) → get_or (y ∷ ys) k x ≡ x → (y ≡ x) ⊎ Contains ys x
    of_index zero l e = inl e
    of_index (suc k) l e = inr (k, omega arith, e)

contains_first : (y : ℕ) (ys : List ℕ) → Contains (y ∷ ys) y
contains_first y ys = (zero, omega arith, refl)

pub contains_later : {X : Type 0} (y x : X) (ys : List X) → Contains ys x → Contains (y ∷ ys) x
contains_later y x ys h = let l = h.1 in (suc h.0, omega arith, h.2)

-- a number among those of properties has a place no sooner than these begin
record IsPlaceWord (n : ℕ) (b : List ℕ) (w : ℕ) : Type 0 where
  pub key : ℕ
  pub place : ℕ
  pub is : w ≡ place_word key place
  pub late : n - length b ≤ place
  pub short : place ≤ n

place_word_of : (n : ℕ) (ps : Properties) (b : List ℕ) → AreListed ps b → (w : ℕ) → Contains (place_words n ps b) w → IsPlaceWord n b w
place_word_of n no_properties b m w h = absurd (let l = h.1 in omega arith)
place_word_of n (property k f v ps) b m w h =
    let r = rest_of (drop header_size b) in
    elim (contains_cases (place_word k (n - length b)) w (place_words n ps r) h) [
      | inl e ↦ record { key = k; place = n - length b; is = sym e; late = omega arith; short = omega arith }
      | inr later ↦
          let p = place_word_of n ps r m.1 w later in
          let shorter = rest_short b m.0.header m.0.there in
          let late = p.late in
          record { key = p.key; place = p.place; is = p.is; late = omega arith; short = p.short }
    ]

-- no property has a key that no number has
pub none_by_words : (n key : ℕ) (ps : Properties) (b : List ℕ) → n < size_limit → HasNoWord key (place_words n ps b) → offered_at key ps ≡ None
none_by_words n key no_properties b l h = refl
none_by_words n key (property k f v ps) b l h =
    let r = rest_of (drop header_size b) in
    let w = place_word k (n - length b) in
    let rest = none_by_words n key ps r l (λ u c g. h u (contains_later w u (place_words n ps r) c) g) in
    of_key (k == key) refl rest (h w (contains_first w (place_words n ps r)))
  where
    of_key : (b' : Bool) → (k == key) ≡ b' → offered_at key ps ≡ None →
        (key * size_limit ≤ place_word k (n - length b) → (key + 1) * size_limit ≤ place_word k (n - length b)) →
        (if b' then Some (record { flags = f; value = v }) else offered_at key ps) ≡ None
    of_key true e rest g =
        let same : k ≡ key = (unsigned_Decides k key).0 e in
        let far = g (omega arith) in
        absurd (omega arith)
    of_key false e rest g = rest

-- the first property with a key begins here
pub record IsFirstAt (key : ℕ) (ps : Properties) (b left : List ℕ) : Type 0 where
  pub flags : ℕ
  pub value : Tree
  pub found : offered_at key ps ≡ Some (record { flags = flags; value = value })
  pub first : IsFirst key flags value left
  pub behind : length_behind key ps b ≡ length (rest_of (drop header_size left))

rest_at : (n : ℕ) (all b : List ℕ) → header_size ≤ length b → HasFront (drop header_size b) → length b ≤ n → b ≡ drop (n - length b) all →
    rest_of (drop header_size b) ≡ drop (n - length (rest_of (drop header_size b))) all
rest_at n all b h f l d =
    let x = drop header_size b in
    let e = extent (word_at x 0) in
    let e0 = length-drop header_size b in
    let e1 = length-drop e x in
    let w = f.whole in
    let at : (n - length b) + (header_size + e) ≡ n - length (drop e x) = omega arith in
    drop-drop e header_size b ∙ ap (drop (header_size + e)) d ∙ drop-drop (header_size + e) (n - length b) all ∙ ap (λ i. drop i all) at

first_by_key : (n key place k f : ℕ) (v : Tree) (ps : Properties) (all b : List ℕ) → n < size_limit → length b ≤ n → b ≡ drop (n - length b) all →
    IsFirst k f v b → AreListed ps (rest_of (drop header_size b)) → IsLeastWord key (place_words n (property k f v ps) b) place →
    (IsLeastWord key (place_words n ps (rest_of (drop header_size b))) place → IsFirstAt key ps (rest_of (drop header_size b)) (drop place all)) →
    (t : Bool) → (k == key) ≡ t → (place_word k (n - length b) ≡ place_word key place) ⊎ Contains (place_words n ps (rest_of (drop header_size b))) (place_word key place) →
    IsFirstAt key (property k f v ps) b (drop place all)
first_by_key n key place k f v ps all b l s d first m h more true e (inl here) =
    let same : k ≡ key = (unsigned_Decides k key).0 e in
    let at : n - length b ≡ place = let short = h.short in omega arith in
    let left : b ≡ drop place all = d ∙ ap (λ i. drop i all) at in
    record {
      flags = f;
      value = v;
      found = ap (λ t. if t then Some (record { flags = f; value = v }) else offered_at key ps) e;
      first = subst (IsFirst key f v) left (subst (λ i. IsFirst i f v b) same first);
      behind = ap (λ t. if t then length (rest_of (drop header_size b)) else length_behind key ps (rest_of (drop header_size b))) e ∙ ap (λ x. length (rest_of (drop header_size x))) left;
    }
first_by_key n key place k f v ps all b l s d first m h more true e (inr later) =
    let same : k ≡ key = (unsigned_Decides k key).0 e in
    let p = place_word_of n ps (rest_of (drop header_size b)) m (place_word key place) later in
    let shorter = rest_short b first.header first.there in
    let before = h.least (place_word k (n - length b)) (contains_first (place_word k (n - length b)) (place_words n ps (rest_of (drop header_size b)))) (omega arith) in
    let late = p.late in
    let is = p.is in
    let short = p.short in
    let small = h.short in
    absurd (omega arith)
first_by_key n key place k f v ps all b l s d first m h more false e (inl here) =
    let short = h.short in
    let same : k ≡ key = omega arith in
    absurd (true≢false (sym ((unsigned_Decides k key).1 same) ∙ e))
first_by_key n key place k f v ps all b l s d first m h more false e (inr later) =
    let w = place_word k (n - length b) in
    let r = rest_of (drop header_size b) in
    let i = more (record { short = h.short; among = later; least = λ u c g. h.least u (contains_later w u (place_words n ps r) c) g }) in
    record {
      flags = i.flags;
      value = i.value;
      found = ap (λ t. if t then Some (record { flags = f; value = v }) else offered_at key ps) e ∙ i.found;
      first = i.first;
      behind = ap (λ t. if t then length r else length_behind key ps r) e ∙ i.behind;
    }

-- the property at the place of the least number with its key is the first one with the key
pub first_by_words : (n key place : ℕ) (ps : Properties) (all b : List ℕ) → n < size_limit → length b ≤ n → b ≡ drop (n - length b) all → AreListed ps b →
    IsLeastWord key (place_words n ps b) place → IsFirstAt key ps b (drop place all)
first_by_words n key place no_properties all b l s d m h = absurd (let c = h.among.1 in omega arith)
first_by_words n key place (property k f v ps) all b l s d m h =
    let r = rest_of (drop header_size b) in
    let shorter = rest_short b m.0.header m.0.there in
    let within : length r ≤ n = omega arith in
    let at = rest_at n all b m.0.header m.0.there s d in
    first_by_key n key place k f v ps all b l s d m.0 m.1 h (λ i. first_by_words n key place ps all r l within at m.1 i)
    (k == key) refl (contains_cases (place_word k (n - length b)) (place_word key place) (place_words n ps r) h.among)

-- no property has the key, by the index
pub none_by_order : (key : ℕ) (ps : Properties) (b order : List ℕ) → IsOrder ps b order → HasNoWord key order → offered_at key ps ≡ None
none_by_order key ps b order o h =
    none_by_words (length b) key ps b o.short (λ w c g. h w (Contains-permutation _ _ w o.same c) g)

pub first_by_order : (key place : ℕ) (ps : Properties) (b order : List ℕ) → AreListed ps b → IsOrder ps b order → IsLeastWord key order place →
    IsFirstAt key ps b (drop place b)
first_by_order key place ps b order m o h =
    let none : length b - length b ≡ 0 = omega arith in
    let whole : b ≡ drop (length b - length b) b = ap (λ i. drop i b) (sym none) in
    first_by_words (length b) key place ps b b o.short (omega arith) whole m
    (record {
      short = h.short;
      among = Contains-permutation _ _ (place_word key place) (IsPermutation-sym _ _ o.same) h.among;
      least = λ w c g. h.least w (Contains-permutation _ _ w o.same c) g;
    })

-- the numbers of the properties that were passed
pub record ArePlaced (ps : Properties) (b left words : List ℕ) : Type 0 where
  pub rest : Properties
  pub list : AreListed rest left
  pub parts : words ++ place_words (length b) rest left ≡ place_words (length b) ps b

pub placed_begun : (ps : Properties) (b : List ℕ) → AreListed ps b → ArePlaced ps b b []
placed_begun ps b m = record { rest = ps; list = m; parts = refl }

pub placed_on : (ps : Properties) (b left pod rest words : List ℕ) (k f word : ℕ) → HasFirst left k f pod rest → word ≡ place_word k (length b - length left) →
    ArePlaced ps b left words → ArePlaced ps b rest (words ++ word ∷ [])
placed_on ps b left pod rest words k f word h is p = of_rest p.rest p.list p.parts
  where
    of_rest : (rs : Properties) → AreListed rs left → words ++ place_words (length b) rs left ≡ place_words (length b) ps b → ArePlaced ps b rest (words ++ word ∷ [])
    of_rest no_properties m e = absurd (let z = ap length m in let l = h.header in omega arith)
    of_rest (property j g v rs) m e =
        let same : word ≡ place_word j (length b - length left) = is ∙ ap (λ n. place_word n (length b - length left)) (h.its_key ∙ sym m.0.key) in
        let behind : rest ≡ rest_of (drop header_size left) = h.its_rest in
        record {
          rest = rs;
          list = subst (AreListed rs) (sym behind) m.1;
          parts =
              append_assoc words (word ∷ []) (place_words (length b) rs rest)
              ∙ ap (λ n. words ++ n ∷ place_words (length b) rs rest) same
              ∙ ap (λ x. words ++ place_word j (length b - length left) ∷ place_words (length b) rs x) behind ∙ e;
        }

pub placed_all : (ps : Properties) (b left words : List ℕ) → (header_size ≤ length left → ¬ (HasFront (drop header_size left))) → ArePlaced ps b left words →
    words ≡ place_words (length b) ps b
placed_all ps b left words n p = of_rest p.rest p.list p.parts
  where
    of_rest : (rs : Properties) → AreListed rs left → words ++ place_words (length b) rs left ≡ place_words (length b) ps b → words ≡ place_words (length b) ps b
    of_rest no_properties m e = sym (append-nil words) ∙ e
    of_rest (property j g v rs) m e = absurd (n m.0.header m.0.there)

-- what a binary search found
pub first_after : (xs : List ℕ) (x at : ℕ) → IsBinarySearchResult (λ y. nat_cmp y x) xs (Err at) → IsNonDecreasingBy (λ y. y) xs → IsFirstFrom xs x at
first_after xs x at h a =
    let s = searched xs x (Err at) h (λ i j. a i j 0) in
    record {
      above = λ l. let g = s.2 at (omega arith) l in omega arith;
      first = λ w c g. of_index s w c.0 c.1 c.2 g;
    }
  where
    of_index : (at ≤ length xs) × ((k : ℕ) → k < at → get_or xs k 0 < x) × ((k : ℕ) → at ≤ k → k < length xs → x < get_or xs k 0) →
        (w k : ℕ) → k < length xs → get_or xs k w ≡ w → x ≤ w → (at < length xs) × (get_or xs at 0 ≤ w)
    of_index s w k l e g =
        let same : get_or xs k 0 ≡ w = get_or_default xs k 0 w l ∙ e in
        elim (cases_lt k at) [
          | inl before ↦ absurd (let less = s.1 k before in omega arith)
          | inr from ↦ let rises = a at k 0 from l in (omega arith, omega arith)
        ]

pub no_word_past : (key least at : ℕ) (order : List ℕ) → least ≡ key * size_limit → IsFirstFrom order least at → length order ≤ at → HasNoWord key order
no_word_past key least at order e f l = λ w c g. absurd (let t = (f.first w c (omega arith)).0 in omega arith)

pub no_word_far : (key least at : ℕ) (order : List ℕ) → least ≡ key * size_limit → IsFirstFrom order least at → at < length order →
    size_limit ≤ get_or order at 0 - least → HasNoWord key order
no_word_far key least at order e f l far = λ w c g. let t = (f.first w c (omega arith)).1 in omega arith

pub least_word : (key least at : ℕ) (order : List ℕ) → least ≡ key * size_limit → IsFirstFrom order least at → at < length order →
    get_or order at 0 - least < size_limit → IsLeastWord key order (get_or order at 0 - least)
least_word key least at order e f l near =
    let above = f.above l in
    let same : get_or order at 0 ≡ place_word key (get_or order at 0 - least) = omega arith in
    record {
      short = near;
      among = subst (Contains order) same (Contains-get_or order at 0 l);
      least = λ w c g. let t = (f.first w c (omega arith)).1 in omega arith;
    }

-- what the first property at the place is
pub found_there : (key : ℕ) (ps : Properties) (b left : List ℕ) (r : Option PropertyView) → IsFirstAt key ps b left →
    IfSome r (λ first. HasFirst left first.key first.flags first.pod.now first.rest.now) → IfNone r (header_size ≤ length left → ¬ (HasFront (drop header_size left))) →
    MatchOption r (offered_at key ps ≡ None) (λ first. IsFound (offered_at key ps) first.flags first.pod.now)
found_there key ps b left (Some first) i h n =
    let flags : i.flags ≡ first.flags = i.first.flags ∙ sym h.its_flags in
    record {
      value = i.value;
      is_found = i.found ∙ ap (λ f. Some (record { flags = f; value = i.value })) flags;
      written = subst (IsCanonicalPod i.value) (sym h.its_pod) i.first.written;
    }
found_there key ps b left None i h n = absurd (n i.first.header i.first.there)

pub behind_there : (key : ℕ) (b left : List ℕ) (r : Option PropertyView) → ((ps : Properties) → AreWritten ps b → IsFirstAt key ps b left) →
    IfSome r (λ first. HasFirst left first.key first.flags first.pod.now first.rest.now) →
    IfSome r (λ first. (ps : Properties) → AreWritten ps b → length first.rest.now ≡ length_behind key ps b)
behind_there key b left (Some first) i h = λ ps w. ap length h.its_rest ∙ sym (i ps w).behind
behind_there key b left None i h = tt
