-- What the refusals of a typed read say.
use Rattle.std.proofs.Common.{◌≡◌, ◌≢◌, ℕ, List, refl, sym, ap, ◌∙◌, subst, inl, ⊎_elim}
use Rattle.std.specs.Prelude.{⊤}
use Rattle.std.specs.Borrow.{Bor}
use Rattle.spa_format.specs.Words.{word_at, body_of}
use Rattle.spa_format.specs.Tree.{Tree, array, type_of}
use Rattle.spa_format.specs.Pod.{IsBody}
use Rattle.spa_format.specs.Front.{HasFront, Begins, front_of}
use Rattle.spa_format.specs.Faults.{Fault, IsWrongSize, Text, InvalidType, InvalidChoiceType, MissingChoiceValues, WrongSize, at_front}
use Rattle.spa_format.proofs.Refused as format
use Rattle.spa_format.proofs.Unique.{one_value}
use Rattle.spa_fixed_sized.specs.declared.fault.FaultKind.{FaultKind}
use Rattle.spa_fixed_sized.specs.declared.fault.FaultKind.TheVariants as fault_kind
use Rattle.spa_fixed_sized.specs.declared.fault.DeserializeError.{DeserializeError}
use Rattle.spa_fixed_sized.specs.declared.fault.DeserializeError.TheVariants as error
use Rattle.spa_fixed_sized.specs.declared.fault.Refusal.{Refusal}
use Rattle.spa_fixed_sized.specs.declared.fault.Refusal.TheVariants as refusal
use Rattle.spa_bytes.specs.Opening.{Opens}
use Rattle.spa_bodies.specs.Reading.{IsRead, IsShortAt, OnFault, OnMemory}
use Rattle.spa_bodies.specs.Refusing.{RefusesBody, StandsInBody, error_of}
use Rattle.spa_typed_read.specs.Asking.{Asked, of_type, array_of, choice_of, asked_type, BeginsOther, HasOtherType, IsAsked, LacksBytes, LacksFront, NamesAsked, NamesBytes, RefusesAsked, StandsAsked}
use Rattle.spa_bodies.proofs.Refusals.{at_front_of}

-- what is asked for has the type that is asked for
type_asked : (a : Asked) (v : Tree) → IsAsked a v → type_of v ≡ asked_type a
type_asked (of_type t) v i = i
type_asked (array_of k) v i = ap type_of i.1
type_asked (choice_of k) v i = ap type_of i.4

type_begun : (b : List ℕ) (v : Tree) → Begins b v → word_at b 4 ≡ type_of v
type_begun b v g = (format.begun b v g).0

-- a fault at the front refuses any value
stands_refuses : (a : Asked) (k : Fault) (b : List ℕ) → StandsAsked a k b → (v : Tree) → Begins b v → ¬ (IsAsked a v)
stands_refuses a k b s v g i = format.refused k b b (at_front b refl s.1) v g

-- another type does
other_refuses : (a : Asked) (b : List ℕ) → HasOtherType a b → (v : Tree) → Begins b v → ¬ (IsAsked a v)
other_refuses (of_type t) b o v g i = o (type_begun b v g ∙ i)
other_refuses (choice_of k) b o v g i = o (type_begun b v g ∙ type_asked (choice_of k) v i)
other_refuses (array_of k) b o v g i =
    let its_body : IsBody (array k i.0) (body_of b) = subst (λ t. IsBody t (body_of b)) i.1 (format.begun b v g).1 in
    ⊎_elim (λ n. n (type_begun b v g ∙ type_asked (array_of k) v i)) (λ n. n.2 its_body.child_type) o

bytes_refuse : (a : Asked) (b : List ℕ) (k : FaultKind) → NamesBytes a b k → (v : Tree) → Begins b v → ¬ (IsAsked a v)
bytes_refuse a b fault_kind.Short s v g i = s g.there
bytes_refuse a b fault_kind.Tag s v g i = other_refuses a b s.1 v g i
bytes_refuse a b fault_kind.Text s v g i = stands_refuses a Text b s v g i

unsupported_refuses : (a : Asked) (b : List ℕ) → BeginsOther a b → (v : Tree) → Begins b v → ¬ (IsAsked a v)
unsupported_refuses (of_type t) b o v g i = absurd o
unsupported_refuses (array_of k) b o v g i = absurd o
unsupported_refuses (choice_of k) b o v g i =
    o.3 (subst (IsAsked (choice_of k)) (one_value (front_of b) v o.0 g.pod o.1.pod) i)

named_refuses : (a : Asked) (b : List ℕ) (e : DeserializeError (Bor (List ℕ))) → NamesAsked a b e →
    OnFault ((v : Tree) → Begins b v → ¬ (IsAsked a v)) e
named_refuses a b (error.Nom f) n = bytes_refuse a b f.kind n.1
named_refuses a b error.UnsupportedType n = unsupported_refuses a b n
named_refuses a b error.InvalidType n = stands_refuses a InvalidType b n
named_refuses a b error.InvalidChoiceType n = stands_refuses a InvalidChoiceType b n
named_refuses a b error.MissingChoiceValues n = stands_refuses a MissingChoiceValues b n
named_refuses a b error.WrongSize n = stands_refuses a WrongSize b n
named_refuses a b error.OutOfMemory n = tt
named_refuses a b _ n = absurd n

bytes_short : (a : Asked) (b : List ℕ) (k : FaultKind) → NamesBytes a b k → ¬ (HasFront b) → k ≡ fault_kind.Short
bytes_short a b fault_kind.Short s n = refl
bytes_short a b fault_kind.Tag s n = absurd (n s.0)
bytes_short a b fault_kind.Text s n = absurd (n s.1.0)

other_there : (a : Asked) (b : List ℕ) → BeginsOther a b → HasFront b
other_there (of_type t) b o = absurd o
other_there (array_of k) b o = absurd o
other_there (choice_of k) b o = o.1.there

named_short : (a : Asked) (m : Type 0) (b : List ℕ) (e : DeserializeError (Bor (List ℕ))) → NamesAsked a b e →
    OnMemory (m × HasFront b × (word_at b 4 ≡ asked_type a)) e → ¬ (HasFront b) → IsShortAt b e
named_short a m b (error.Nom f) n w s = (bytes_short a b f.kind n.1 s, n.0)
named_short a m b error.UnsupportedType n w s = absurd (s (other_there a b n))
named_short a m b error.InvalidType n w s = absurd (s n.1.0)
named_short a m b error.InvalidChoiceType n w s = absurd (s n.1.0)
named_short a m b error.MissingChoiceValues n w s = absurd (s n.1.0)
named_short a m b error.WrongSize n w s = absurd (s n.1.0)
named_short a m b error.OutOfMemory n w s = absurd (s w.1)
named_short a m b _ n w s = absurd n

-- where the refusal names a fault that stands, or is for lack of memory
pub asked_refused : (a : Asked) (m : Type 0) (b : List ℕ) (e : DeserializeError (Bor (List ℕ))) → NamesAsked a b e →
    OnMemory (m × HasFront b × (word_at b 4 ≡ asked_type a)) e → RefusesAsked a m b e
asked_refused a m b e n w = record {
  refused = named_refuses a b e n;
  named = n;
  memory = w;
  short_first = named_short a m b e n w;
}

other_type : (a : Asked) (b : List ℕ) → word_at b 4 ≢ asked_type a → HasOtherType a b
other_type (of_type t) b n = n
other_type (array_of k) b n = inl n
other_type (choice_of k) b n = n

lacks_bytes : (a : Asked) (b : List ℕ) (k : FaultKind) → LacksBytes (asked_type a) b k → NamesBytes a b k
lacks_bytes a b fault_kind.Short l = l
lacks_bytes a b fault_kind.Tag l = (l.0, other_type a b l.1)
lacks_bytes a b fault_kind.Text l = absurd l

-- where the front isn't there, or is of another type
pub front_refused : (a : Asked) (m : Type 0) (b : List ℕ) (e : DeserializeError (Bor (List ℕ))) →
    LacksFront (asked_type a) b e → RefusesAsked a m b e
front_refused a m b (error.Nom f) l = asked_refused a m b (error.Nom f) (l.0, lacks_bytes a b f.kind l.1) tt
front_refused a m b _ l = absurd l

stands_asked : (a : Asked) (k : Fault) (b body rest : List ℕ) → Opens b (asked_type a) body rest →
    StandsInBody (asked_type a) body k → StandsAsked a k b
stands_asked a k b body rest o s = (
  sym o.its_type,
  at_front_of b k o.there
      (subst (λ l. StandsInBody (word_at b 4) l k) o.its_body (subst (λ t. StandsInBody t body k) o.its_type s)),
)

-- where the body is refused
pub body_refused_as : (a : Asked) (m : Type 0) (b body rest : List ℕ) (place : Bor (List ℕ)) (why : Refusal) →
    Opens b (asked_type a) body rest → RefusesBody (asked_type a) body why → (why ≡ refusal.OutOfMemory → m) →
    place.now ≡ b → RefusesAsked a m b (error_of place why)
body_refused_as a m b body rest place refusal.Short o r w p = absurd r
body_refused_as a m b body rest place refusal.Text o r w p =
    asked_refused a m b _ (p, stands_asked a Text b body rest o r) tt
body_refused_as a m b body rest place refusal.InvalidType o r w p =
    asked_refused a m b _ (stands_asked a InvalidType b body rest o r) tt
body_refused_as a m b body rest place refusal.InvalidChoiceType o r w p =
    asked_refused a m b _ (stands_asked a InvalidChoiceType b body rest o r) tt
body_refused_as a m b body rest place refusal.MissingChoiceValues o r w p =
    asked_refused a m b _ (stands_asked a MissingChoiceValues b body rest o r) tt
body_refused_as a m b body rest place refusal.WrongSize o r w p =
    asked_refused a m b _ (stands_asked a WrongSize b body rest o r) tt
body_refused_as a m b body rest place refusal.OutOfMemory o r w p =
    asked_refused a m b _ tt (w refl, o.there, sym o.its_type)

-- where the body has a wrong size
pub size_refused : (a : Asked) (m : Type 0) (b body rest : List ℕ) → Opens b (asked_type a) body rest →
    IsWrongSize (asked_type a) body → RefusesAsked a m b error.WrongSize
size_refused a m b body rest o w =
    asked_refused a m b error.WrongSize (stands_asked a WrongSize b body rest o w) tt

-- where memory runs out for what is read of the front
pub lacks_memory : (a : Asked) (b rest : List ℕ) (v : Tree) → type_of v ≡ asked_type a → IsRead b rest (λ w. w ≡ v) →
    RefusesAsked a ⊤ b error.OutOfMemory
lacks_memory a b rest v t r =
    asked_refused a ⊤ b error.OutOfMemory tt
    (tt, r.begins.there, type_begun b r.value r.begins ∙ ap type_of r.holds ∙ t)
