-- Fixation of the object at the front of an input.
use Rattle.std.proofs.Common.{◌≡◌, ℕ, ◌+◌, ◌-◌, ◌≤◌, List, ◌++◌, length, take, drop, sym, ap, ◌∙◌, subst, arith, length-append, length-drop}
use Rattle.std.proofs.lemmas.List.{take-append-drop, drop_at, take_at, append_assoc, length-take-le, drop-append-le, drop-drop, drop-take}
use Rattle.spa_format.specs.Words.{word_at, extent, padded_size, body_of}
use Rattle.spa_format.specs.Tree.{object, Properties}
use Rattle.spa_format.specs.Pod.{IsBody, AreProperties}
use Rattle.spa_format.specs.Front.{HasFront, rest_of, Begins}
use Rattle.spa_format.specs.Walk.{HasObject, properties_of}
use Rattle.spa_format.specs.Fixation.{fixated_properties, fixated_bytes, default_properties}
use Rattle.spa_format.proofs.Fronts.{whole_front, of_whole_front, length-body_of}
use Rattle.spa_format.proofs.WordLemmas.{word_at-append, word_at-take}
use Rattle.spa_format.proofs.FixationLemmas.{length-fixated_properties}
use Rattle.spa_format.proofs.FixatedValues.{properties_fixated}

-- the properties, said by places in the input
pub properties_of-is : (b : List ℕ) → 8 ≤ word_at b 0 → properties_of b ≡ take (word_at b 0 - 8) (drop 16 b)
properties_of-is b big =
    let m = word_at b 0 - 8 in
    let em : word_at b 0 ≡ 8 + m = omega arith in
    ap (λ n. drop 8 (take n (drop 8 b))) em ∙ drop-take 8 m (drop 8 b) ∙ ap (take m) (drop-drop 8 8 b)

-- an object's bytes after fixation, in parts
pub record AreParts (b : List ℕ) : Type 0 where
  pub beginning : length (take 16 b) ≡ 16
  pub properties : length (properties_of b) + 8 ≡ word_at b 0
  pub parts : b ≡ take 16 b ++ (properties_of b ++ drop (8 + word_at b 0) b)
  pub same_length : length (fixated_bytes b) ≡ length b
  pub same_size : word_at (fixated_bytes b) 0 ≡ word_at b 0
  pub same_type : word_at (fixated_bytes b) 4 ≡ word_at b 4
  pub new_body : body_of (fixated_bytes b) ≡ take 8 (drop 8 b) ++ fixated_properties (properties_of b)
  pub same_rest : rest_of (fixated_bytes b) ≡ rest_of b

pub object_parts : (b : List ℕ) → HasFront b → 8 ≤ word_at b 0 → AreParts b
object_parts b h big =
    let s = word_at b 0 in
    let x = h.whole in
    let a = take 16 b in
    let o = properties_of b in
    let f = fixated_properties o in
    let d = drop (8 + s) b in
    let na : length a ≡ 16 = length-take-le 16 b (omega arith) in
    let d16 = length-drop 16 b in
    let oi : o ≡ take (s - 8) (drop 16 b) = properties_of-is b big in
    let no : length o ≡ s - 8 = ap length oi ∙ length-take-le (s - 8) (drop 16 b) (omega arith) in
    let nf = length-fixated_properties o in
    let nd = length-drop (8 + s) b in
    let e0 = length-append a (f ++ d) in
    let e1 = length-append f d in
    let same_size : word_at (fixated_bytes b) 0 ≡ s =
    word_at-append a (f ++ d) 0 (omega arith)
    ∙ word_at-take 16 0 b (omega arith) in
    let a8 : drop 8 a ≡ take 8 (drop 8 b) = drop-take 8 8 b in
    let g = take 8 (drop 8 b) in
    let n8 = length-drop 8 b in
    let ng : length g ≡ 8 = length-take-le 8 (drop 8 b) (omega arith) in
    let e2 = length-append g f in
    let e3 = length-append a f in
    let behind : drop 8 (fixated_bytes b) ≡ (g ++ f) ++ d =
    drop-append-le 8 a (f ++ d) (omega arith)
    ∙ ap (λ z. z ++ (f ++ d)) a8
    ∙ sym (append_assoc g f d) in
    let body_is : body_of (fixated_bytes b) ≡ g ++ f =
    ap (λ n. take n (drop 8 (fixated_bytes b))) same_size
    ∙ ap (take s) behind
    ∙ take_at (g ++ f) d s (omega arith) in
    let d_is : drop (8 + s) (fixated_bytes b) ≡ d =
    ap (drop (8 + s)) (sym (append_assoc a f d))
    ∙ drop_at (a ++ f) d (8 + s) (omega arith) in
    let r = padded_size s - s in
    let er : (8 + s) + r ≡ extent s = omega arith in
    let same : rest_of (fixated_bytes b) ≡ rest_of b =
    ap (λ n. drop (extent n) (fixated_bytes b)) same_size
    ∙ ap (λ n. drop n (fixated_bytes b)) (sym er)
    ∙ sym (drop-drop r (8 + s) (fixated_bytes b))
    ∙ ap (drop r) d_is
    ∙ drop-drop r (8 + s) b
    ∙ ap (λ n. drop n b) er in
    let e16 : 16 + (s - 8) ≡ 8 + s = omega arith in
    let split : b ≡ a ++ (o ++ d) =
    sym (take-append-drop 16 b)
    ∙ ap (λ z. a ++ z) (sym (take-append-drop (s - 8) (drop 16 b)))
    ∙ ap (λ z. a ++ (z ++ drop (s - 8) (drop 16 b))) (sym oi)
    ∙ ap (λ z. a ++ (o ++ z)) (drop-drop (s - 8) 16 b ∙ ap (λ n. drop n b) e16) in
    record {
      beginning = na;
      properties = omega arith;
      parts = split;
      same_length = omega arith;
      same_size = same_size;
      same_type = word_at-append a (f ++ d) 4 (omega arith) ∙ word_at-take 16 4 b (omega arith);
      new_body = body_is;
      same_rest = same;
    }

pub length-fixated_bytes : (b : List ℕ) → HasObject b → length (fixated_bytes b) ≡ length b
length-fixated_bytes b h = (object_parts b h.front h.parts).same_length

pub rest_of-fixated_bytes : (b : List ℕ) → HasObject b → rest_of (fixated_bytes b) ≡ rest_of b
rest_of-fixated_bytes b h = (object_parts b h.front h.parts).same_rest

pub object_fixated : (t i : ℕ) (ps : Properties) (b : List ℕ) → Begins b (object t i ps) →
    Begins (fixated_bytes b) (object t i (default_properties ps))
object_fixated t i ps b h =
    let w = of_whole_front b 15 (IsBody (object t i ps)) h.pod in
    let c = w.1 in
    let lb = length-body_of b h.there in
    let x = h.there.whole in
    let c0 = c.0 in
    let big : 8 ≤ word_at b 0 = omega arith in
    let k = object_parts b h.there big in
    let f = fixated_properties (properties_of b) in
    let g = take 8 (drop 8 b) in
    let n8 = length-drop 8 b in
    let ng : length g ≡ 8 = length-take-le 8 (drop 8 b) (omega arith) in
    let e = length-append g f in
    let props : AreProperties (default_properties ps) f = properties_fixated ps (properties_of b) c.3 in
    let kl = k.same_length in
    let ks = k.same_size in
    let there : HasFront (fixated_bytes b) = record { header = omega arith; whole = subst (λ n. extent n ≤ length (fixated_bytes b)) (sym ks) (omega arith) } in
    let w0 : word_at (body_of b) 0 ≡ word_at (drop 8 b) 0 = word_at-take (word_at b 0) 0 (drop 8 b) (omega arith) in
    let w4 : word_at (body_of b) 4 ≡ word_at (drop 8 b) 4 = word_at-take (word_at b 0) 4 (drop 8 b) (omega arith) in
    let inside : IsBody (object t i (default_properties ps)) (g ++ f) = (
      omega arith,
      c.1 ∙ w0 ∙ sym (word_at-append g f 0 (omega arith) ∙ word_at-take 8 0 (drop 8 b) (omega arith)),
      c.2 ∙ w4 ∙ sym (word_at-append g f 4 (omega arith) ∙ word_at-take 8 4 (drop 8 b) (omega arith)),
      subst (AreProperties (default_properties ps)) (sym (drop_at g f 8 ng)) props,
    ) in
    record {
      there = there;
      pod = whole_front (fixated_bytes b) 15 (IsBody (object t i (default_properties ps))) there (k.same_type ∙ w.0) (subst (IsBody (object t i (default_properties ps))) (sym k.new_body) inside);
    }
