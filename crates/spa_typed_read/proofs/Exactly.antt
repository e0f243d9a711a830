-- Structs that are read member by member, and what is refused of them.
use Rattle.std.proofs.Common.{◌≡◌, ◌≢◌, ℕ, List, drop, refl, sym, ap, ◌∙◌, subst, arith, inl, inr}
use Rattle.std.specs.Borrow.{Bor}
use Rattle.spa_format.specs.Words.{body_of, header_size, word_at}
use Rattle.spa_format.specs.Tree.{Tree, Trees, Properties, object, object_type, struct_type, type_of}
use Rattle.spa_format.specs.Pod.{AreMembers, AreProperties, IsBody, IsPod}
use Rattle.spa_format.specs.Front.{HasFront, Begins, rest_of}
use Rattle.spa_format.proofs.Refused as format
use Rattle.spa_fixed_sized.specs.declared.fault.FaultKind.{FaultKind}
use Rattle.spa_fixed_sized.specs.declared.fault.FaultKind.TheVariants as fault_kind
use Rattle.spa_fixed_sized.specs.declared.fault.DeserializeError.{DeserializeError}
use Rattle.spa_fixed_sized.specs.declared.fault.DeserializeError.TheVariants as error
use Rattle.spa_format.proofs.Fronts.{front_of_whole}
use Rattle.spa_typed_read.specs.Asking.{LacksBytes, LacksFront, LacksObject, of_type}
use Rattle.spa_typed_read.specs.Exactly.{AreUnread, IsUnread, ReadsFirst, ReadsStruct, RefusesExactly, RefusesStructOf, its_members}
use Rattle.spa_typed_read.specs.ExactlyLaws.{asked_exactly, fault_to, memory_to}
use Rattle.spa_typed_read.specs.Lookup.{HoldsDeep, ReadsObject, TakesIn}
use Rattle.spa_typed_read.specs.Members.{ObjectReader, OpensObject, OpensStruct, Reader}
use Rattle.spa_bodies.specs.Reading.{IsShortAt, OnFault, OnMemory}
use Rattle.spa_typed_read.proofs.Asking.{front_refused}

-- the first one isn't read
pub first_unread : {A R : Type 0} (reads : Tree → A → Type 0) (others : Trees → R → Type 0) (b : List ℕ) → IsUnread reads b →
    AreUnread (λ vs (x : A × R). ReadsFirst reads others vs x.0 x.1) b
first_unread reads others b u vs x m r =
    let k = subst (λ ws. AreMembers ws b) r.is m in
    let a = front_of_whole b k.0 k.1 _ _ k.2 k.3 in
    u r.first x.0 (record { there = a.0; pod = subst (λ l. IsPod l r.first) a.1 k.3 }) r.first_is

-- those behind it aren't
pub behind_unread : {A R : Type 0} (reads : Tree → A → Type 0) (others : Trees → R → Type 0) (b c : List ℕ) → c ≡ rest_of b →
    AreUnread others c → AreUnread (λ vs (x : A × R). ReadsFirst reads others vs x.0 x.1) b
behind_unread reads others b c e u vs x m r =
    let k = subst (λ ws. AreMembers ws b) r.is m in
    let a = front_of_whole b k.0 k.1 _ _ k.2 k.3 in
    u r.behind x.1 (subst (AreMembers r.behind) (a.2 ∙ sym e) k.4) r.behind_are

-- Structs.

-- the front is no struct
pub struct_unopened : {X : Type 0} (reads : Trees → X → Type 0) (b : List ℕ) (e : DeserializeError (Bor (List ℕ))) →
    (takes : Type 0) → LacksFront struct_type b e → RefusesExactly (λ v (x : X). ReadsStruct reads v x) takes b e
struct_unopened {X = X} reads b e takes h =
    let all : RefusesExactly (λ v (x : X). ReadsStruct reads v x) ⊥ b e =
    asked_exactly (of_type struct_type) ⊥ _ (λ v x r. ap type_of r.is) b e (front_refused (of_type struct_type) ⊥ b e h) in
    record {
      unread = all.unread;
      short_first = all.short_first;
      memory = memory_to (⊥ × HasFront b) (takes × HasFront b) e (λ k. absurd k.0) all.memory;
    }

-- its members aren't read
pub struct_unread : {X : Type 0} (reads : Trees → X → Type 0) (b : List ℕ) (e : DeserializeError (Bor (List ℕ))) (r : Reader)
    (takes : Type 0) → OpensStruct b r → OnFault (AreUnread reads r.left) e → OnMemory takes e →
    RefusesExactly (λ v (x : X). ReadsStruct reads v x) takes b e
struct_unread {X = X} reads b e r takes o h m = record {
  unread =
      fault_to (AreUnread reads r.left) (IsUnread (λ v (x : X). ReadsStruct reads v x) b) e
      (λ n v x g s.
      let body = subst (λ w. IsBody w (body_of b)) s.is (format.begun b v g).1 in
      n s.members x (subst (AreMembers s.members) (sym o.opens.its_body) body) s.are) h;
  short_first = λ n. absurd (n o.opens.there);
  memory = memory_to takes (takes × HasFront b) e (λ t. (t, o.opens.there)) m;
}

-- its members are refused
pub members_of : (refuses : List ℕ → DeserializeError (Bor (List ℕ)) → Type 0) (b : List ℕ) (e : DeserializeError (Bor (List ℕ)))
    (r : Reader) → OpensStruct b r → refuses r.left e → RefusesStructOf refuses b e
members_of refuses b e r o h =
    its_members o.opens.there (sym o.opens.its_type) (subst (λ l. refuses l e) o.opens.its_body h)

-- Objects.

lacks_type : (b : List ℕ) (k : FaultKind) → LacksBytes object_type b k → (v : Tree) → Begins b v → type_of v ≢ object_type
lacks_type b fault_kind.Short s v g t = s g.there
lacks_type b fault_kind.Tag s v g t = s.1 ((format.begun b v g).0 ∙ t)
lacks_type b fault_kind.Text s v g t = s

-- no object begins where none is opened
pub none_opened : (b : List ℕ) (e : DeserializeError (Bor (List ℕ))) → LacksObject b e →
    OnFault ((type id : ℕ) (ps : Properties) → ¬ (Begins b (object type id ps))) e
none_opened b (error.Nom f) h = λ t i ps g. lacks_type b f.kind h.1 (object t i ps) g refl
none_opened b error.WrongSize h = λ t i ps g.
    let body = (format.begun b (object t i ps) g).1 in
    let long = body.0 in
    let short = h.2 in
    absurd (omega (arith, long, short))
none_opened b _ h = absurd h

lacks_object : {X : Type 0} (type id : ℕ) (reads : Properties → X → Type 0) (b : List ℕ) (e : DeserializeError (Bor (List ℕ))) →
    LacksObject b e → OnFault (IsUnread (λ v (x : X). ReadsObject type id reads v x) b) e
lacks_object {X = X} type id reads b e h =
    fault_to ((t i : ℕ) (ps : Properties) → ¬ (Begins b (object t i ps))) (IsUnread (λ v (x : X). ReadsObject type id reads v x) b) e
    (λ n v x g s. n type id s.properties (subst (Begins b) s.is g)) (none_opened b e h)

-- the object that begins where one is opened has the reader's type and id, and its properties are what is left
pub opened_object : (b : List ℕ) (r : ObjectReader) (type id : ℕ) (ps : Properties) → OpensObject b r → Begins b (object type id ps) →
    (type ≡ r.type) × (id ≡ r.id) × AreProperties ps r.reader.left
opened_object b r type id ps o g =
    let whole = (format.begun b (object type id ps) g).1 in
    let same = o.opens.its_body in (
      whole.1 ∙ ap (λ l. word_at l 0) (sym same) ∙ sym o.its_type,
      whole.2 ∙ ap (λ l. word_at l 4) (sym same) ∙ sym o.its_id,
      subst (AreProperties ps) (ap (drop header_size) (sym same) ∙ sym o.left) whole.3,
    )

bytes_short : (b : List ℕ) (k : FaultKind) → LacksBytes object_type b k → ¬ (HasFront b) → k ≡ fault_kind.Short
bytes_short b fault_kind.Short s n = refl
bytes_short b fault_kind.Tag s n = absurd (n s.0)
bytes_short b fault_kind.Text s n = absurd s

pub lacks_short : (b : List ℕ) (e : DeserializeError (Bor (List ℕ))) → LacksObject b e → ¬ (HasFront b) → IsShortAt b e
lacks_short b (error.Nom f) h n = (bytes_short b f.kind h.1 n, h.0)
lacks_short b error.WrongSize h n = absurd (n h.0)
lacks_short b _ h n = absurd h

pub lacks_memory : (b : List ℕ) (e : DeserializeError (Bor (List ℕ))) → LacksObject b e → OnMemory (⊥ × HasFront b) e
lacks_memory b error.OutOfMemory h = absurd h
lacks_memory b _ h = tt

-- the front is no object, or lacks its type or its id
pub object_unopened : {X : Type 0} (type id : ℕ) (reads : Properties → X → Type 0) (b : List ℕ) (e : DeserializeError (Bor (List ℕ))) →
    (takes : Type 0) → LacksObject b e → RefusesExactly (λ v (x : X). ReadsObject type id reads v x) takes b e
object_unopened type id reads b e takes h = record {
  unread = lacks_object type id reads b e h;
  short_first = lacks_short b e h;
  memory = memory_to (⊥ × HasFront b) (takes × HasFront b) e (λ k. absurd k.0) (lacks_memory b e h);
}

-- its type, its id or its properties aren't those that are read
pub object_unread : {X : Type 0} (type id : ℕ) (reads : Properties → X → Type 0) (b : List ℕ) (e : DeserializeError (Bor (List ℕ)))
    (r : ObjectReader) (takes : Type 0) → OpensObject b r →
    OnFault ((ps : Properties) (x : X) → type ≡ r.type → id ≡ r.id → AreProperties ps r.reader.left → ¬ (reads ps x)) e →
    OnMemory takes e → RefusesExactly (λ v (x : X). ReadsObject type id reads v x) takes b e
object_unread {X = X} type id reads b e r takes o h m = record {
  unread =
      fault_to ((ps : Properties) (x : X) → type ≡ r.type → id ≡ r.id → AreProperties ps r.reader.left → ¬ (reads ps x))
      (IsUnread (λ v (x : X). ReadsObject type id reads v x) b) e
      (λ n v x g s.
      let opened = opened_object b r type id s.properties o (subst (Begins b) s.is g) in
      n s.properties x opened.0 opened.1 opened.2 s.are) h;
  short_first = λ n. absurd (n o.opens.there);
  memory = memory_to takes (takes × HasFront b) e (λ t. (t, o.opens.there)) m;
}

-- what is asked for takes memory, or what is passed does
its_left : (b : List ℕ) (r : ObjectReader) → OpensObject b r → r.reader.left ≡ drop header_size (body_of b)
its_left b r o = o.left ∙ ap (drop header_size) o.opens.its_body

pub asked_takes : (takes : List ℕ → Type 0) (b : List ℕ) (r : ObjectReader) (e : DeserializeError (Bor (List ℕ))) → OpensObject b r →
    OnMemory (takes r.reader.left) e → OnMemory (TakesIn takes b) e
asked_takes takes b r e o m = memory_to (takes r.reader.left) (TakesIn takes b) e (λ t. inl (subst takes (its_left b r o) t)) m

pub passed_takes : (takes : List ℕ → Type 0) (b : List ℕ) (r : ObjectReader) (e : DeserializeError (Bor (List ℕ))) → OpensObject b r →
    OnMemory (HoldsDeep r.reader.left) e → OnMemory (TakesIn takes b) e
passed_takes takes b r e o m = memory_to (HoldsDeep r.reader.left) (TakesIn takes b) e (λ t. inr (subst HoldsDeep (its_left b r o) t)) m
