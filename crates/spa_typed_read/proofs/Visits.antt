-- Visitors that state exactly what they decline and how they leave their readers.
use Rattle.std.proofs.Common.{◌≡◌, ℕ, ◌≤◌, List, drop, length, map, refl, sym, subst}
use Rattle.std.specs.Prelude.{⊤, Vec}
use Rattle.std.specs.Global.{Global}
use Rattle.std.specs.Borrow.{Bor}
use Rattle.spa_format.specs.Words.{header_size, word_at}
use Rattle.spa_format.specs.Kind.{Fixed, Kind}
use Rattle.spa_format.specs.Tree.{Tree, Trees, Properties, array, choice_type, member, object, property, type_of}
use Rattle.spa_format.specs.Pod.{AreMembers, AreProperties, IsPod}
use Rattle.spa_format.specs.Front.{HasFront, Begins, front_of, rest_of}
use Rattle.spa_format.proofs.Fronts.{front_of_whole}
use Rattle.spa_format.proofs.Unique.{one_value}
use Rattle.spa_fixed_sized.specs.declared.fault.DeserializeError.{DeserializeError}
use Rattle.spa_bodies.specs.Reading.{OnFault, OnMemory}
use Rattle.spa_bodies.proofs.Steps.{parted}
use Rattle.spa_typed_read.specs.Asking.{IsAsked, LacksObject, array_of}
use Rattle.spa_typed_read.specs.Exactly.{AreUnread, IsUnread, ReadsStruct, RefusesExactly}
use Rattle.spa_typed_read.specs.ExactlyLaws.{asked_exactly, fault_there, fault_to, memory_to}
use Rattle.spa_typed_read.specs.Lookup.{NoneRead, ReadsObjectBy}
use Rattle.spa_typed_read.specs.Members.{ObjectReader, OpensObject, Reader}
use Rattle.spa_typed_read.specs.Visiting.{DeclinesExactly, DeclinesExactlyIn, DeclinesExactlyOf, LeavesExactly, LeavesExactlyIn, RefusesArrayVisit, RefusesObject, RefusesStruct, RefusesVisit, SaysValue, declined, declined_array, declined_object, declined_struct, failed_object, failed_struct, no_array, no_object, no_struct, unread, unread_object, unread_struct}
use Rattle.spa_typed_read.specs.declared.visitor.Visit.{Visit}
use Rattle.spa_typed_read.specs.declared.visitor.Visit.TheVariants as visit
use Rattle.spa_typed_read.proofs.Exactly.{lacks_memory, lacks_short, none_opened, opened_object, struct_unopened, struct_unread}

-- Members and properties as fronts.

pub member_parts : (b : List ℕ) (v : Tree) (vs : Trees) → AreMembers (member v vs) b → Begins b v × AreMembers vs (rest_of b)
member_parts b v vs m =
    let a = front_of_whole b m.0 m.1 _ _ m.2 m.3 in
    (record { there = a.0; pod = subst (λ l. IsPod l v) a.1 m.3 }, subst (AreMembers vs) a.2 m.4)

pub member_whole : (b : List ℕ) (v : Tree) (vs : Trees) → Begins b v → AreMembers vs (rest_of b) → AreMembers (member v vs) b
member_whole b v vs g m = (front_of b, rest_of b, parted b v (rest_of b) (record { begins = g; follows = refl }), g.pod, m)

pub property_parts : (b : List ℕ) (k f : ℕ) (v : Tree) (ps : Properties) → AreProperties (property k f v ps) b →
    (header_size ≤ length b) × (k ≡ word_at b 0) × (f ≡ word_at b 4) × Begins (drop header_size b) v
    × AreProperties ps (rest_of (drop header_size b))
property_parts b k f v ps m =
    let a = front_of_whole (drop header_size b) m.3 m.4 _ _ m.5 m.6 in
    (m.0, m.1, m.2, record { there = a.0; pod = subst (λ l. IsPod l v) a.1 m.6 }, subst (AreProperties ps) a.2 m.7)

pub property_whole : (b : List ℕ) (k f : ℕ) (v : Tree) (ps : Properties) → header_size ≤ length b → k ≡ word_at b 0 → f ≡ word_at b 4 →
    Begins (drop header_size b) v → AreProperties ps (rest_of (drop header_size b)) → AreProperties (property k f v ps) b
property_whole b k f v ps l x y g m =
    let here = drop header_size b in
    (l, x, y, front_of here, rest_of here, parted here v (rest_of here) (record { begins = g; follows = refl }), g.pod, m)

-- Exactly.

-- what isn't read so isn't read as something that says more
pub exactly_as : {X : Type 0} (reads others : Tree → X → Type 0) (m : Type 0) (b : List ℕ) (e : DeserializeError (Bor (List ℕ))) →
    ((v : Tree) (x : X) → others v x → reads v x) → RefusesExactly reads m b e → RefusesExactly others m b e
exactly_as reads others m b e to r = record {
  unread = fault_to (IsUnread reads b) (IsUnread others b) e (λ n v x g h. n v x g (to v x h)) r.unread;
  short_first = r.short_first;
  memory = r.memory;
}

-- A visitor that declines a struct, and leaves members unread, only where its members aren't read so makes a read that is refused
-- exactly.
pub struct_exactly : {X : Type 0} (reads : Tree → X → Type 0) (members : Trees → X → Type 0) (m : Type 0)
    (declines : Reader → Reader → DeserializeError (Bor (List ℕ)) → Type 0) (leaves : Reader → Reader → Type 0) (b : List ℕ)
    (e : DeserializeError (Bor (List ℕ))) → ((v : Tree) (x : X) → reads v x → ReadsStruct members v x) →
    ((lent now : Reader) → declines lent now e → DeclinesExactly members m lent now e) →
    ((lent now : Reader) → leaves lent now → LeavesExactly members lent now) → RefusesStruct declines leaves b e →
    RefusesExactly reads m b e
struct_exactly {X = X} reads members m declines leaves b e to d l r = exactly_as (λ v (x : X). ReadsStruct members v x) reads m b e to (by r)
  where
    by : RefusesStruct declines leaves b e → RefusesExactly (λ v (x : X). ReadsStruct members v x) m b e
    by (no_struct h) = struct_unopened members b e m h
    by (declined_struct lent now o f h) =
        let k = d lent now h in
        struct_unread members b e lent m o (k.unread o.good) (k.memory o.good)
    by (failed_struct lent now o h f i) = absurd (cc ((l lent now h).good o.good, f))
    by (unread_struct lent now o a h n i) =
        struct_unread members b e lent m o (fault_there (AreUnread members lent.left) e ((l lent now h).unread o.good n))
        (subst (OnMemory m) (sym i) tt)

-- what was declined is the value at the front
value_declined : {X : Type 0} (reads : Tree → X → Type 0) (m : Type 0) (b : List ℕ) (e : DeserializeError (Bor (List ℕ))) (v : Tree) →
    Begins b v → DeclinesExactlyOf reads m v e → RefusesExactly reads m b e
value_declined {X = X} reads m b e v g d = record {
  unread =
      fault_to ((x : X) → ¬ (reads v x)) (IsUnread reads b) e
      (λ n w x h r. n x (subst (λ u. reads u x) (one_value (front_of b) w v h.pod g.pod) r)) d.unread;
  short_first = λ n. absurd (n g.there);
  memory = memory_to m (m × HasFront b) e (λ t. (t, g.there)) d.memory;
}

-- A visitor that declines the content of a pod of one type only where its value isn't read so makes a read that is refused exactly. The read
-- of a choice takes memory.
pub visit_exactly : {E X : Type 0} (type : ℕ) (reads : Tree → X → Type 0) (m : Type 0)
    (declines : Visit E → DeserializeError (Bor (List ℕ)) → Type 0) (b : List ℕ) (e : DeserializeError (Bor (List ℕ))) →
    ((v : Tree) (x : X) → reads v x → type_of v ≡ type) → (type ≡ choice_type → m) →
    ((given : Visit E) (v : Tree) → SaysValue given v → declines given e → DeclinesExactlyOf reads m v e) → RefusesVisit type declines b e →
    RefusesExactly reads m b e
visit_exactly {E = E} {X = X} type reads m declines b e of_its_type memory d r = by r
  where
    by : RefusesVisit type declines b e → RefusesExactly reads m b e
    by (unread h) = record {
      unread = fault_to _ (IsUnread reads b) e (λ n v x g s. n v g (of_its_type v x s)) h.refused;
      short_first = h.short_first;
      memory = memory_to _ (m × HasFront b) e (λ k. (memory k.0, k.1)) h.memory;
    }
    by (declined given handed h) = value_declined reads m b e handed.value handed.begins (d given handed.value handed.says h)

-- A visitor that declines the elements of an array only where the array isn't read so makes a read that is refused exactly. It takes memory.
pub array_exactly : {E X : Type 0} (k : Kind) (fixed : E → Fixed) (reads : Tree → X → Type 0)
    (declines : Visit E → DeserializeError (Bor (List ℕ)) → Type 0) (b : List ℕ) (e : DeserializeError (Bor (List ℕ))) →
    ((v : Tree) (x : X) → reads v x → IsAsked (array_of k) v) →
    ((xs : Vec E Global) → declines (visit.Array xs) e → DeclinesExactlyOf reads ⊤ (array k (map fixed xs.items)) e) →
    RefusesArrayVisit k fixed declines b e → RefusesExactly reads ⊤ b e
array_exactly {E = E} {X = X} k fixed reads declines b e asked d r = by r
  where
    by : RefusesArrayVisit k fixed declines b e → RefusesExactly reads ⊤ b e
    by (no_array h) = asked_exactly (array_of k) ⊤ reads asked b e h
    by (declined_array xs g h) = value_declined reads ⊤ b e (array k (map fixed xs.items)) g (d xs h)

object_unopened_by : {X : Type 0} (reads : ℕ → ℕ → Properties → X → Type 0) (m : Type 0) (b : List ℕ)
    (e : DeserializeError (Bor (List ℕ))) → LacksObject b e → RefusesExactly (λ v (x : X). ReadsObjectBy reads v x) m b e
object_unopened_by {X = X} reads m b e h = record {
  unread =
      fault_to ((t i : ℕ) (ps : Properties) → ¬ (Begins b (object t i ps))) (IsUnread (λ v (x : X). ReadsObjectBy reads v x) b) e
      (λ n v x g s. n s.type s.id s.properties (subst (Begins b) s.is g)) (none_opened b e h);
  short_first = lacks_short b e h;
  memory = memory_to (⊥ × HasFront b) (m × HasFront b) e (λ k. absurd k.0) (lacks_memory b e h);
}

object_unread_by : {X : Type 0} (reads : ℕ → ℕ → Properties → X → Type 0) (m : Type 0) (b : List ℕ)
    (e : DeserializeError (Bor (List ℕ))) (r : ObjectReader) → OpensObject b r →
    OnFault (NoneRead (reads r.type r.id) r.reader.left) e → OnMemory m e → RefusesExactly (λ v (x : X). ReadsObjectBy reads v x) m b e
object_unread_by {X = X} reads m b e r o h w = record {
  unread =
      fault_to (NoneRead (reads r.type r.id) r.reader.left) (IsUnread (λ v (x : X). ReadsObjectBy reads v x) b) e
      (λ n v x g s.
      let opened = opened_object b r s.type s.id s.properties o (subst (Begins b) s.is g) in
      n s.properties x opened.2
      (subst (λ t. reads t r.id s.properties x) opened.0 (subst (λ i. reads s.type i s.properties x) opened.1 s.are))) h;
  short_first = λ n. absurd (n o.opens.there);
  memory = memory_to m (m × HasFront b) e (λ t. (t, o.opens.there)) w;
}

-- A visitor that declines an object, and leaves properties unread, only where by type, id and properties it isn't read so makes a read
-- that is refused exactly.
pub object_exactly : {X : Type 0} (reads : Tree → X → Type 0) (by : ℕ → ℕ → Properties → X → Type 0) (m : Type 0)
    (declines : ObjectReader → ObjectReader → DeserializeError (Bor (List ℕ)) → Type 0) (leaves : ObjectReader → ObjectReader → Type 0)
    (b : List ℕ) (e : DeserializeError (Bor (List ℕ))) → ((v : Tree) (x : X) → reads v x → ReadsObjectBy by v x) →
    ((lent now : ObjectReader) → declines lent now e → DeclinesExactlyIn by m lent now e) →
    ((lent now : ObjectReader) → leaves lent now → LeavesExactlyIn by lent now) → RefusesObject declines leaves b e →
    RefusesExactly reads m b e
object_exactly {X = X} reads by m declines leaves b e to d l r = exactly_as (λ v (x : X). ReadsObjectBy by v x) reads m b e to (refused r)
  where
    refused : RefusesObject declines leaves b e → RefusesExactly (λ v (x : X). ReadsObjectBy by v x) m b e
    refused (no_object h) = object_unopened_by by m b e h
    refused (declined_object lent now o f h) =
        let k = d lent now h in
        object_unread_by by m b e lent o (k.unread o.good) (k.memory o.good)
    refused (failed_object lent now o h f i) = absurd (cc ((l lent now h).good o.good, f))
    refused (unread_object lent now o a h n i) =
        object_unread_by by m b e lent o
        (fault_there (NoneRead (by lent.type lent.id) lent.reader.left) e ((l lent now h).unread o.good n)) (subst (OnMemory m) (sym i) tt)
