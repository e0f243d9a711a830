-- Walks over the bodies of accepted structs and objects.
use Rattle.std.proofs.Common.{◌≡◌, ℕ, ◌+◌, ◌≤◌, List, [], ◌++◌, length, take, drop, sym, ap, ◌∙◌, subst, arith, length-append, length-drop}
use Rattle.std.proofs.lemmas.List.{take-append-drop, drop_at, take_at, append_assoc, length-take-le}
use Rattle.spa_format.specs.Words.{word_at, body_of}
use Rattle.spa_format.specs.Tree.{Trees, no_trees, member, struct, object, Properties, no_properties, property}
use Rattle.spa_format.specs.Pod.{IsWhole, AreMembers, AreProperties, IsPod}
use Rattle.spa_format.proofs.Fronts.{front_of_whole}
use Rattle.spa_format.proofs.WordLemmas.{word_at-append, word_at-take, word_at-drop}
use Rattle.spa_format.specs.Walk.{extent_behind, walk, property_walk, walk_behind, properties_of, ArePodsOf, ArePropertiesOf}
use Rattle.spa_format.proofs.WalkLemmas.{walk-there, walk_behind-end, walk_behind-next}

walk_empty : (k : ℕ) (b : List ℕ) → b ≡ [] → walk_behind k b ≡ []
walk_empty k b e = let l = ap length e in walk_behind-end k b (omega arith)

pub members_walked : (vs : Trees) (b : List ℕ) → AreMembers vs b → ArePodsOf vs (walk b)
members_walked no_trees b h = walk_empty 0 b h
members_walked (member v vs) b h =
    let f = front_of_whole b h.0 h.1 _ _ h.2 h.3 in
    let e = walk-there b f.0 in
    subst (ArePodsOf (member v vs)) (sym e) (subst (λ z. IsPod z v) f.1 h.3, subst (λ z. ArePodsOf vs (walk z)) f.2 (members_walked vs h.1 h.4))

-- the parts of bytes that begin with a property, whose pod is `first`
pub record IsPropertyOf (b first others : List ℕ) : Type 0 where
  pub here : extent_behind 8 b ≡ 8 + length first
  pub fits : 8 + length first ≤ length b
  pub taken : take (8 + length first) b ≡ take 8 b ++ first
  pub left : drop (8 + length first) b ≡ others

pub property_parts : (b first others : List ℕ) (t : ℕ) (P : List ℕ → Type 0) → 8 ≤ length b →
    drop 8 b ≡ first ++ others → IsWhole first t P → IsPropertyOf b first others
property_parts b first others t P l e w =
    let n8 : length (take 8 b) ≡ 8 = length-take-le 8 b l in
    let d = length-drop 8 b in
    let q = ap length e in
    let a = length-append first others in
    let x = w.whole in
    let joined : b ≡ (take 8 b ++ first) ++ others =
    sym (take-append-drop 8 b)
    ∙ ap (λ z. take 8 b ++ z) e
    ∙ sym (append_assoc (take 8 b) first others) in
    let n : length (take 8 b ++ first) ≡ 8 + length first =
    length-append (take 8 b) first
    ∙ ap (λ m. m + length first) n8 in
    let same_size : word_at b 8 ≡ word_at first 0 =
    (let z : 8 + 0 ≡ 8 = omega arith in sym (ap (word_at b) z))
    ∙ sym (word_at-drop 8 0 b)
    ∙ ap (λ z. word_at z 0) e
    ∙ word_at-append first others 0 (omega arith) in
    record {
      here = omega arith;
      fits = omega arith;
      taken = ap (take (8 + length first)) joined ∙ take_at (take 8 b ++ first) others (8 + length first) n;
      left = ap (drop (8 + length first)) joined ∙ drop_at (take 8 b ++ first) others (8 + length first) n;
    }

pub properties_walked : (ps : Properties) (b : List ℕ) → AreProperties ps b → ArePropertiesOf ps (property_walk b)
properties_walked no_properties b h = walk_empty 8 b h
properties_walked (property key flags v ps) b h =
    let s = property_parts b h.3 h.4 _ _ h.0 h.5 h.6 in
    let n = 8 + length h.3 in
    let e = walk_behind-next 8 n b (sym s.here) s.fits in
    let n8 : length (take 8 b) ≡ 8 = length-take-le 8 b h.0 in
    let p = ap (drop 8) s.taken ∙ drop_at (take 8 b) h.3 8 n8 in
    subst (ArePropertiesOf (property key flags v ps)) (sym e) (
      h.1 ∙ sym (word_at-take n 0 b (omega arith)),
      h.2 ∙ sym (word_at-take n 4 b (omega arith)),
      subst (λ z. IsPod z v) (sym p) h.6,
      subst (λ z. ArePropertiesOf ps (property_walk z)) (sym s.left) (properties_walked ps h.4 h.7),
    )

pub struct_walked : (vs : Trees) (b : List ℕ) → IsPod b (struct vs) → ArePodsOf vs (walk (body_of b))
struct_walked vs b h = members_walked vs (body_of b) h.content

pub object_walked : (t i : ℕ) (ps : Properties) (b : List ℕ) → IsPod b (object t i ps) →
    ArePropertiesOf ps (property_walk (properties_of b))
object_walked t i ps b h = properties_walked ps (properties_of b) h.content.3
