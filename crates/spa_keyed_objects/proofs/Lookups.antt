-- What is found under a key, as properties grow.
use Rattle.std.proofs.Common.{◌≡◌, ◌≢◌, ℕ, Bool, true, false, ◌==◌, if◌then◌else◌, refl, ap, ◌∙◌, true≢false, Some, None}
use Rattle.spa_format.specs.Tree.{Tree, Properties, no_properties, property, join_properties}
use Rattle.spa_keyed_objects.specs.Keys.{contains, key_list, offered, offered_at}
use Rattle.spa_keyed_objects.proofs.KeyLists.{test-self}

offered_at-absent_by : (k f : ℕ) (v : Tree) (ps : Properties) (b : Bool) →
    (contains k (key_list ps) ≡ false → offered_at k ps ≡ None) →
    (if b then true else contains k (key_list ps)) ≡ false →
    (if b then Some (offered f v) else offered_at k ps) ≡ None
offered_at-absent_by k f v ps true more h = absurd (true≢false h)
offered_at-absent_by k f v ps false more h = more h

-- a key that isn't among those of the properties is not found
pub offered_at-absent : (k : ℕ) (ps : Properties) → contains k (key_list ps) ≡ false → offered_at k ps ≡ None
offered_at-absent k no_properties h = refl
offered_at-absent k (property j f v ps) h =
    offered_at-absent_by k f v ps (j == k) (offered_at-absent k ps) h

offered_at-behind_by : (k f : ℕ) (v : Tree) (ps qs : Properties) (b : Bool) →
    (offered_at k ps ≡ None → offered_at k (join_properties ps qs) ≡ offered_at k qs) →
    (if b then Some (offered f v) else offered_at k ps) ≡ None →
    (if b then Some (offered f v) else offered_at k (join_properties ps qs)) ≡ offered_at k qs
offered_at-behind_by k f v ps qs true more h = cc
offered_at-behind_by k f v ps qs false more h = more h

-- behind properties without the key, that of the others is found
pub offered_at-behind : (k : ℕ) (ps qs : Properties) → offered_at k ps ≡ None →
    offered_at k (join_properties ps qs) ≡ offered_at k qs
offered_at-behind k no_properties qs h = refl
offered_at-behind k (property j f v ps) qs h =
    offered_at-behind_by k f v ps qs (j == k) (offered_at-behind k ps qs) h

offered_at-before_by : (k f : ℕ) (v : Tree) (ps qs : Properties) (b : Bool) →
    (offered_at k (join_properties ps qs) ≡ None → offered_at k ps ≡ None) →
    (if b then Some (offered f v) else offered_at k (join_properties ps qs)) ≡ None →
    (if b then Some (offered f v) else offered_at k ps) ≡ None
offered_at-before_by k f v ps qs true more h = h
offered_at-before_by k f v ps qs false more h = more h

-- a key that the whole lacks is lacking in its first part
pub offered_at-before : (k : ℕ) (ps qs : Properties) → offered_at k (join_properties ps qs) ≡ None →
    offered_at k ps ≡ None
offered_at-before k no_properties qs h = refl
offered_at-before k (property j f v ps) qs h =
    offered_at-before_by k f v ps qs (j == k) (offered_at-before k ps qs) h

-- what the first property offers under its key
offered_at-first : (k f : ℕ) (v : Tree) (ps : Properties) → offered_at k (property k f v ps) ≡ Some (offered f v)
offered_at-first k f v ps = ap (λ b. if b then Some (offered f v) else offered_at k ps) (test-self k)

-- what is found under a key that no property before has
pub offered_at-joined : (k f : ℕ) (v : Tree) (ss ts ps : Properties) → ps ≡ join_properties ss (property k f v ts) →
    offered_at k ss ≡ None → offered_at k ps ≡ Some (offered f v)
offered_at-joined k f v ss ts ps at gone =
    ap (offered_at k) at ∙ offered_at-behind k ss (property k f v ts) gone ∙ offered_at-first k f v ts

-- a key that two parts lack is lacking in the whole
pub offered_at-none : (k : ℕ) (ps qs : Properties) → offered_at k ps ≡ None → offered_at k qs ≡ None →
    offered_at k (join_properties ps qs) ≡ None
offered_at-none k ps qs h n = offered_at-behind k ps qs h ∙ n

-- a key of either side is found on one of them
pub offered_at-either : (ps qs ss ts : Properties) (k f : ℕ) (v : Tree) →
    join_properties ps qs ≡ join_properties ss (property k f v ts) → contains k (key_list ss) ≡ false →
    offered_at k ps ≡ None → offered_at k qs ≢ None
offered_at-either ps qs ss ts k f v at n gone none =
    let there = offered_at-joined k f v ss ts (join_properties ps qs) at (offered_at-absent k ss n) in
    let absent = offered_at-none k ps qs gone none in
    cc (there, absent)
