-- Whole pods of one type: what is read of an opened front, and what is refused of it.
use Rattle.std.proofs.Common.{◌≡◌, ◌≢◌, ℕ, ◌<◌, ◌≤◌, List, length, refl, sym, ap, ◌∙◌, subst, inl, inr}
use Rattle.std.specs.Borrow.{Bor}
use Rattle.spa_format.specs.Words.{word_at, body_of, header_size}
use Rattle.spa_format.specs.Kind.{Kind, Fixed, type_number, kind_of, IsFixedBody}
use Rattle.spa_format.specs.Tree.{Tree, Trees, Properties, struct, object, choice, type_of, fixed, array_type, choice_type, struct_type, object_type}
use Rattle.spa_format.specs.Pod.{AreProperties, IsBody}
use Rattle.spa_format.specs.Faults.{short_array, short_choice, of_array, choice_header_size, IsWrongArray}
use Rattle.spa_format.proofs.WordLemmas.{word_at-drop}
use Rattle.spa_fixed_sized.specs.declared.fault.FaultKind.TheVariants as fault_kind
use Rattle.spa_fixed_sized.specs.declared.fault.DeserializeError.{DeserializeError}
use Rattle.spa_fixed_sized.specs.declared.fault.DeserializeError.TheVariants as error
use Rattle.spa_bytes.specs.Opening.{Opens}
use Rattle.spa_bodies.specs.Reading.{IsRead}
use Rattle.spa_typed_read.specs.Asking.{array_of, choice_of, IsAsked, RefusesAsked}
use Rattle.spa_typed_read.specs.Members.{AllMembers, AllProperties, AtEnd, Further, FurtherIn, ObjectReader, OpensObject, OpensStruct, Reader, RefusesEnd}
use Rattle.spa_typed_read.specs.Visiting.{RefusesObject, RefusesStruct, failed_object, failed_struct, unread_object, unread_struct}
use Rattle.spa_typed_read.proofs.Asking.{asked_refused, size_refused}
use Rattle.spa_bodies.proofs.Steps.{pod_read}

-- the front and its body are read
pub read_as : (input body rest : List ℕ) (t : ℕ) (v : Tree) → Opens input t body rest → type_of v ≡ t → IsBody v body →
    IsRead input rest (λ w. w ≡ v)
read_as input body rest t v o e b =
    let r = pod_read input body rest t v o e b in
    record { value = v; begins = r.begins; follows = r.follows; holds = refl }

-- the front, of a kind of fixed size, and its body are read
pub fixed_read : (input body rest : List ℕ) (t : ℕ) (k : Kind) (x : Fixed) → Opens input t body rest → t ≡ type_number k →
    kind_of x ≡ k → IsFixedBody k body x → IsRead input rest (λ w. w ≡ fixed x)
fixed_read input body rest t k x o e f b =
    read_as input body rest t (fixed x) o (ap type_number f ∙ sym e) (subst (λ l. IsFixedBody l body x) (sym f) b)

-- all members of the struct at the front are read
pub struct_read : (input s : List ℕ) (lent now : Reader) (P : Trees → Type 0) → OpensStruct input lent → Further lent now →
    AtEnd now → s ≡ now.after → AllMembers lent P → IsRead input s (λ v. (vs : Trees) × (v ≡ struct vs) × P vs)
struct_read input s lent now P o f e i all =
    let r = pod_read input lent.left lent.after struct_type (struct all.members) o.opens refl all.are in
    record {
      value = struct all.members;
      begins = r.begins;
      follows = i ∙ (f.ahead e.good).after ∙ r.follows;
      holds = (all.members, refl, all.holds);
    }

-- its reader isn't ended
pub struct_unended : (declines : Reader → Reader → DeserializeError (Bor (List ℕ)) → Type 0) (leaves : Reader → Reader → Type 0)
    (input : List ℕ) (e : DeserializeError (Bor (List ℕ))) (lent now : Reader) → OpensStruct input lent → Further lent now →
    leaves lent now → RefusesEnd now e → RefusesStruct declines leaves input e
struct_unended declines leaves input e lent now o f l r =
    elim r [
      | inl h ↦ failed_struct lent now o l h.0 h.1
      | inr h ↦ unread_struct lent now o (f.ahead h.0) l h.1 h.2
    ]

-- all properties of the object at the front are read
pub object_read : (input s : List ℕ) (lent now : ObjectReader) (P : ℕ → ℕ → Properties → Type 0) →
    OpensObject input lent → FurtherIn lent now → AtEnd now.reader → s ≡ now.reader.after →
    AllProperties lent (P lent.type lent.id) →
    IsRead input s (λ v. (t : ℕ) × (i : ℕ) × (ps : Properties) × (v ≡ object t i ps) × P t i ps)
object_read input s lent now P o f e i all =
    let v = object lent.type lent.id all.properties in
    let r = pod_read input o.body lent.reader.after object_type v o.opens refl
    (o.header, o.its_type, o.its_id, subst (AreProperties all.properties) o.left all.are) in
    record {
      value = v;
      begins = r.begins;
      follows = i ∙ (f.ahead e.good).after ∙ r.follows;
      holds = (lent.type, lent.id, all.properties, refl, all.holds);
    }

-- its reader isn't ended
pub object_unended : (declines : ObjectReader → ObjectReader → DeserializeError (Bor (List ℕ)) → Type 0)
    (leaves : ObjectReader → ObjectReader → Type 0) (input : List ℕ) (e : DeserializeError (Bor (List ℕ)))
    (lent now : ObjectReader) → OpensObject input lent → FurtherIn lent now → leaves lent now → RefusesEnd now.reader e →
    RefusesObject declines leaves input e
object_unended declines leaves input e lent now o f l r =
    elim r [
      | inl h ↦ failed_object lent now o l h.0 h.1
      | inr h ↦ unread_object lent now o (f.ahead h.0) l h.1 h.2
    ]

-- an array's body lacks its child header
pub short_array_refused : (k : Kind) (m : Type 0) (b body rest : List ℕ) → Opens b array_type body rest →
    length body < header_size → RefusesAsked (array_of k) m b error.WrongSize
short_array_refused k m b body rest o l =
    size_refused (array_of k) m b body rest o (short_array refl l)

-- its sizes are wrong
pub wrong_array_refused : (k : Kind) (m : Type 0) (b body rest : List ℕ) → Opens b array_type body rest →
    IsWrongArray k body → RefusesAsked (array_of k) m b error.WrongSize
wrong_array_refused k m b body rest o w =
    size_refused (array_of k) m b body rest o (of_array k refl w)

-- its elements are of another type
pub other_array_refused : (k : Kind) (m : Type 0) (b body rest : List ℕ) (place : Bor (List ℕ)) → Opens b array_type body rest →
    header_size ≤ length body → word_at body 4 ≢ type_number k → place.now ≡ b →
    RefusesAsked (array_of k) m b (error.Nom (record { input = place; kind = fault_kind.Tag }))
other_array_refused k m b body rest place o h n p =
    let its_type : word_at b 4 ≡ array_type = sym o.its_type in
    let long : header_size ≤ length (body_of b) = subst (λ l. header_size ≤ length l) o.its_body h in
    let other : word_at (body_of b) 4 ≢ type_number k = subst (λ l. word_at l 4 ≢ type_number k) o.its_body n in
    asked_refused (array_of k) m b _ (p, (o.there, inr (its_type, long, other))) tt

-- a choice's body lacks its headers
pub short_choice_refused : (k : Kind) (m : Type 0) (b body rest : List ℕ) → Opens b choice_type body rest →
    length body < choice_header_size → RefusesAsked (choice_of k) m b error.WrongSize
short_choice_refused k m b body rest o l =
    size_refused (choice_of k) m b body rest o (short_choice refl l)

-- it is a choice over another kind
pub other_choice_refused : (k : Kind) (m : Type 0) (b body rest : List ℕ) (v : Tree) → Opens b choice_type body rest →
    type_of v ≡ choice_type → IsBody v body → word_at body 12 ≢ type_number k →
    RefusesAsked (choice_of k) m b error.UnsupportedType
other_choice_refused k m b body rest v o t r n =
    let over_another : ¬ (IsAsked (choice_of k) v) = λ i.
    let its_body : IsBody (choice i.0 i.1 k i.2 i.3) body = subst (λ w. IsBody w body) i.4 r in
    n (sym (word_at-drop 8 4 body) ∙ its_body.values.child_type) in
    asked_refused (choice_of k) m b error.UnsupportedType (v, (pod_read b body rest choice_type v o t r).begins, t, over_another) tt
