-- What is appended for accepted pods.
use Rattle.std.proofs.Common.{◌≡◌, ℕ, ◌-◌, List, [], ◌++◌, length, drop, take, refl, sym, ap, ◌∙◌, subst, arith, append_assoc, length-append}
use Rattle.std.proofs.lemmas.List.{append-nil, drop_all, take-append-drop, take_all, take_at}
use Rattle.spa_format.specs.Tree.{Tree, no_trees, member}
use Rattle.spa_format.specs.Pod.{AreMembers}
use Rattle.spa_format.specs.Encoding.{encoding_of, member_encodings}
use Rattle.spa_format.specs.Front.{front_of}
use Rattle.spa_format.proofs.Unique.{same_members}
use Rattle.spa_bodies.specs.Reading.{BeginsWith}
use Rattle.spa_canonical.specs.Canonical.{AreCanonical, BeginsCanonical}
use Rattle.spa_canonical.specs.Look.{AreChanged}
use Rattle.spa_canonical.specs.Rewriting.{AppendsFront, AreRewritten}
use Rattle.spa_canonical.proofs.Rewritten.{alone}
use Rattle.spa_canonical.proofs.Stretches.{both_rewritten, canonical_rewritten}
use Rattle.spa_bodies.proofs.Steps.{parted}

-- canonical pods are copied, and others replaced behind them
pub appended_behind : (pods old over new : List ℕ) (canonical len : ℕ) → AreCanonical (take canonical pods) →
    AreRewritten (drop canonical pods) [] (take len over) → new ≡ (old ++ take canonical pods) ++ take len over → AreRewritten pods old new
appended_behind pods old over new canonical len k r n =
    let first = take canonical pods in
    let out = take len over in
    let b = both_rewritten pods first (drop canonical pods) first out (sym (take-append-drop canonical pods)) (canonical_rewritten first k) r in
    (b.0, b.1, n ∙ append_assoc old first out ∙ ap (λ l. old ++ l) b.2)

-- A pod at the front, as a list.

pub before_rest : (input rest : List ℕ) (v : Tree) → BeginsWith input v rest → take (length input - length rest) input ≡ front_of input
before_rest input rest v b =
    let p = parted input v rest b in
    let l = ap length p ∙ length-append (front_of input) rest in
    ap (λ i. take i input) (omega arith) ∙ ap (take (length (front_of input))) p ∙ take_at (front_of input) rest (length (front_of input)) refl

-- it is appended as it is,
pub front_copied : (input rest front old new : List ℕ) → BeginsCanonical input rest → front ≡ take (length input - length rest) input → new ≡ old ++ front →
    AppendsFront input rest old new
front_copied input rest front old new c e n = (c.value, c.begins, n ∙ ap (λ l. old ++ l) (e ∙ before_rest input rest c.value c.begins ∙ c.same))

-- or as it is rewritten
pub front_written : (input rest front old new : List ℕ) (v : Tree) → BeginsWith input v rest → front ≡ take (length input - length rest) input →
    AreRewritten front old new → AppendsFront input rest old new
front_written input rest front old new v b e r =
    let same : front ≡ front_of input = e ∙ before_rest input rest v b in
    let m = subst (AreMembers (member v no_trees)) (sym same) (alone (front_of input) v b.begins.pod) in
    let one : r.0 ≡ member v no_trees = same_members r.0 (member v no_trees) front r.1 m in
    (v, b, r.2 ∙ ap (λ vs. old ++ member_encodings vs) one ∙ ap (λ l. old ++ l) (append-nil (encoding_of v)))

pub none_canonical : AreCanonical []
none_canonical = record { values = no_trees; members = refl; same = refl }

pub one_changed : (input rest front : List ℕ) (v : Tree) → BeginsWith input v rest → front ≡ take (length input - length rest) input →
    AreChanged front (length front)
one_changed input rest front v b e =
    let same : front ≡ front_of input = e ∙ before_rest input rest v b in
    let m = subst (AreMembers (member v no_trees)) (sym same) (alone (front_of input) v b.begins.pod) in
    record {
      within = omega arith;
      first = (member v no_trees, subst (AreMembers (member v no_trees)) (sym (take_all (length front) front (omega arith))) m);
      canonical = subst AreCanonical (sym (drop_all (length front) front (omega arith))) none_canonical;
    }
