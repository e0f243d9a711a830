-- Pods, one after another, whose values are made plain.
use Rattle.std.proofs.Common.{◌≡◌, ◌≢◌, ℕ, List, [], ◌++◌, refl, sym, ap, ◌∙◌, subst, arith, length, append_assoc, append-nil, Vec, Global}
use Rattle.std.specs.Prelude.{if◌then◌else◌}
use Rattle.spa_format.specs.Encoding.{encoding_of, member_encodings}
use Rattle.spa_format.specs.Fixation.{may_fixate}
use Rattle.spa_format.specs.Front.{Begins, front_of, rest_of}
use Rattle.spa_format.specs.Pod.{AreMembers}
use Rattle.spa_format.specs.Tree.{Tree, object, Trees, no_trees, member, Properties, no_properties, property, join_properties}
use Rattle.spa_format.specs.Typed.{IsBytes}
use Rattle.spa_format.specs.Words.{extent, word_at}
use Rattle.spa_format.specs.Writable.{IsWritable}
use Rattle.spa_format.proofs.Origin.{writable}
use Rattle.spa_format.proofs.Unique.{one_value}
use Rattle.spa_format.proofs.WordLemmas.{IsBytes-take}
use Rattle.spa_typed_read.proofs.Visits.{member_parts}
use Rattle.spa_filter_offers.specs.Admits.{plain_of}
use Rattle.spa_value.specs.ObjectLaws.{ObjectsHaveTheirFields, ObjectsAreMadeOfFields}
use Rattle.spa_value.specs.declared.object.Object.{Object, out-Object, roll-Object}
use Rattle.spa_value.specs.declared.object.Property.{Property}
use Rattle.spa_value.specs.View.{object_view}
use Rattle.spa_value.specs.Views.{property_views}
use Rattle.spa_meet_commands.specs.Settling.{AddsPlain, SettlesAll, plain_object, plain_objects, plain_properties}

-- ---- Properties and objects

-- plain properties behind one another
pub plain_join : (ps qs : Properties) → plain_properties (join_properties ps qs) ≡ join_properties (plain_properties ps) (plain_properties qs)
plain_join no_properties qs = refl
plain_join (property k f v ps) qs = ap (property k f (if may_fixate f then plain_of v else v)) (plain_join ps qs)

-- an object that is made of another's plain properties
pub plain_made : ObjectsHaveTheirFields → ObjectsAreMadeOfFields → (o : Object) (xs : List Property) → xs ≡ (out-Object o).properties.items →
    (rs : Vec Property Global) → property_views rs.items ≡ plain_properties (property_views xs) →
    object_view (roll-Object (record { type_ = (out-Object o).type_; id = (out-Object o).id; properties = rs })) ≡ plain_object (object_view o)
plain_made fields made o xs ours rs h =
    let f = out-Object o in
    let same = ap (λ ps. plain_properties (property_views ps)) ours in
    made f.type_ f.id rs ∙ ap (object f.type_ f.id) (h ∙ same) ∙ sym (ap plain_object (fields o))

-- ---- Pods one after another

-- the value at the front of bytes can be written
pub front_writable : (input : List ℕ) (v : Tree) → IsBytes input → Begins input v → IsWritable v
front_writable input v bytes h = writable (front_of input) v (IsBytes-take (extent (word_at input 0)) input bytes) h.pod

-- nothing begins with a pod
nothing_begins : (input : List ℕ) (v : Tree) → input ≡ [] → Begins input v → ⊥
nothing_begins input v e h = let header = h.there.header in let l = ap length e in omega (arith, header, l)

-- of the pods of `input` those before `left` were passed, and `out` is of their values
pub record SettledSoFar (input left out : List ℕ) : Type 0 where
  pub all : Trees
  pub members : AreMembers all input
  pub behind : Trees
  pub others : AreMembers behind left
  pub encoded : out ++ member_encodings (plain_objects behind) ≡ member_encodings (plain_objects all)

first_of : (vs : Trees) (left : List ℕ) → AreMembers vs left → left ≢ [] → (v : Tree) × Begins left v
first_of no_trees left h n = absurd (n h)
first_of (member v vs) left h n = (v, (member_parts left v vs h).0)

pub next_begins : (input left out : List ℕ) → SettledSoFar input left out → left ≢ [] → (v : Tree) × Begins left v
next_begins input left out so n = first_of so.behind left so.others n

pub one_more : (input left rest old new : List ℕ) → SettledSoFar input left old → AddsPlain left old new → rest ≡ rest_of left →
    SettledSoFar input rest new
one_more input left rest old new so adds follows =
    let its = after so.behind so.others in
    record { all = so.all; members = so.members; behind = its.0; others = its.1; encoded = its.2 ∙ so.encoded }
  where
    after : (vs : Trees) → AreMembers vs left →
        (ws : Trees) × AreMembers ws rest × (new ++ member_encodings (plain_objects ws) ≡ old ++ member_encodings (plain_objects vs))
    after no_trees h = absurd (nothing_begins left adds.0 h adds.1)
    after (member v vs) h =
        let parts = member_parts left v vs h in
        let same : adds.0 ≡ v = one_value (front_of left) adds.0 v adds.1.pod parts.0.pod in
        let others = member_encodings (plain_objects vs) in
        let added = adds.2 ∙ ap (λ w. old ++ encoding_of (plain_object w)) same in
        (vs, subst (AreMembers vs) (sym follows) parts.1, ap (λ z. z ++ others) added ∙ append_assoc old (encoding_of (plain_object v)) others)

pub all_settled : (input left out : List ℕ) → SettledSoFar input left out → left ≡ [] → SettlesAll input out
all_settled input left out so none = (so.all, so.members, ended so.behind so.others so.encoded)
  where
    ended : (vs : Trees) → AreMembers vs left → out ++ member_encodings (plain_objects vs) ≡ member_encodings (plain_objects so.all) →
        out ≡ member_encodings (plain_objects so.all)
    ended no_trees h e = sym (append-nil out) ∙ e
    ended (member v vs) h e = absurd (nothing_begins left v none (member_parts left v vs h).0)
