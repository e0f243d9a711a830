-- The first pod of those that stand one after another, opened.
use Rattle.std.proofs.Common.{◌≡◌, ℕ, ◌+◌, ◌-◌, ◌≤◌, List, length, drop, refl, sym, ap, ◌∙◌, arith, length-drop, length-take}
use Rattle.std.specs.Prelude.{Bool, true, false, if◌then◌else◌}
use Rattle.std.proofs.lemmas.List.{drop-drop}
use Rattle.spa_events.specs.Inside.{OpensFirst, key_size}
use Rattle.spa_events.proofs.Firsts.{behind_word, pod_behind}
use Rattle.spa_format.specs.Front.{front_of}
use Rattle.spa_format.specs.Walk.{extent_behind}
use Rattle.spa_format.specs.Words.{body_of, extent, padded_size, word_at}
use Rattle.spa_format.proofs.WordLemmas.{word_at-take}
use Rattle.spa_format.proofs.Fronts.{body_of_front}
use Rattle.spa_items.specs.Puts.{IsFirst, first_of}
use Rattle.spa_items.specs.declared.listing.First.{First}

front_word : (b : List ℕ) (i : ℕ) → i ≤ 4 → word_at (front_of b) i ≡ word_at b i
front_word b i h = word_at-take (extent (word_at b 0)) i b (omega arith)

key_word : (keyed : Bool) (b : List ℕ) (i : ℕ) → i ≤ 4 → (if keyed then word_at b i else 0) ≡ (if keyed then word_at (first_of keyed b) i else 0)
key_word false b i h = refl
key_word true b i h = sym (word_at-take (extent_behind 8 b) i b (omega arith))

pub stands_first : (keyed : Bool) (b : List ℕ) (f : First) → OpensFirst keyed b f.type_ f.body.now f.rest.now →
    f.key ≡ (if keyed then word_at b 0 else 0) → f.flags ≡ (if keyed then word_at b 4 else 0) → IsFirst keyed b f
stands_first keyed b f i ek ef =
    let k = key_size keyed in
    let o = i.opens in
    let l = i.key in
    let d = length-drop k b in
    let w = o.there.whole in
    let z = behind_word k b in
    let es = ap extent z in
    let lb = ap length o.its_body in
    let lt = length-take (word_at (drop k b) 0) (drop 8 (drop k b)) in
    let lr = ap length o.its_rest in
    let ld = length-drop (extent (word_at (drop k b) 0)) (drop k b) in
    record {
      there = omega arith;
      its_key = ek ∙ key_word keyed b 0 (omega arith);
      its_flags = ef ∙ key_word keyed b 4 (omega arith);
      its_type = o.its_type ∙ sym (front_word (drop k b) 4 (omega arith)) ∙ ap (λ q. word_at q 4) (sym (pod_behind k b));
      its_body = o.its_body ∙ sym (body_of_front (drop k b)) ∙ ap body_of (sym (pod_behind k b));
      its_rest = o.its_rest ∙ ap (λ n. drop (extent n) (drop k b)) z ∙ drop-drop (extent (word_at b k)) k b;
      fits = omega arith;
    }

-- pods begin at bytes that are multiples of 8

pub whole_key : (keyed : Bool) → padded_size (key_size keyed) ≡ key_size keyed
whole_key false = refl
whole_key true = refl

pub whole_behind_first : (keyed : Bool) (at : ℕ) (b : List ℕ) (f : First) → padded_size at ≡ at → IsFirst keyed b f →
    (let next = at + (length b - length f.rest.now) in padded_size next ≡ next)
whole_behind_first keyed at b f w i =
    let ld = length-drop (extent_behind (key_size keyed) b) b in
    let lr = ap length i.its_rest in
    let h = i.there in
    let k = whole_key keyed in
    omega arith

-- the padding of a container's body ends where the pods behind it begin
pub first_ends : (keyed : Bool) (at inner_at : ℕ) (b : List ℕ) (inner : List ℕ) (f : First) (inner_key : ℕ) → padded_size at ≡ at → IsFirst keyed b f →
    inner_at ≡ at + key_size keyed + 8 + inner_key → inner_key + length inner ≡ length f.body.now →
    padded_size (inner_at + length inner) ≡ at + (length b - length f.rest.now)
first_ends keyed at inner_at b inner f inner_key w i ea el =
    let n = extent_behind (key_size keyed) b in
    let ld = length-drop n b in
    let lr = ap length i.its_rest in
    let h = i.there in
    let k = whole_key keyed in
    let p = drop (key_size keyed) (first_of keyed b) in
    let lb = ap length i.its_body in
    let lt = length-take (word_at p 0) (drop 8 p) in
    let lp = length-drop (key_size keyed) (first_of keyed b) in
    let l8 = length-drop 8 p in
    let lf = length-take n b in
    let size : word_at p 0 ≡ word_at b (key_size keyed) =
    ap (λ q. word_at q 0) (pod_behind (key_size keyed) b) ∙ front_word (drop (key_size keyed) b) 0 (omega arith) ∙ behind_word (key_size keyed) b in
    omega arith
