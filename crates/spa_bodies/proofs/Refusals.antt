-- What a refusal of a part says of the whole, and what the public refusal says.
use Rattle.std.proofs.Common.{◌≡◌, ℕ, ◌<◌, ◌≤◌, List, length, refl, subst, inl, inr}
use Rattle.std.specs.Borrow.{Bor}
use Rattle.spa_format.specs.Words.{word_at, body_of, header_size}
use Rattle.spa_format.specs.Kind.{Kind, body_size}
use Rattle.spa_format.specs.Tree.{array_type, choice_type, object_type}
use Rattle.spa_format.specs.Front.{HasFront, IsRefused}
use Rattle.spa_format.specs.Faults.{Fault, Short, Text, InvalidType, InvalidChoiceType, MissingChoiceValues, WrongSize, of_array, of_choice, choice_header_size, short_object, IsWrongArray, StandsAtFront, Stands, at_front, in_member, in_key, in_property}
use Rattle.spa_format.proofs.Refused as format
use Rattle.spa_fixed_sized.specs.declared.fault.Refusal.{Refusal}
use Rattle.spa_fixed_sized.specs.declared.fault.Refusal.TheVariants as refusal
use Rattle.spa_fixed_sized.specs.Reading.{RefusesArray, RefusesChoice}
use Rattle.spa_bytes.specs.Opening.{Opens}
use Rattle.spa_bodies.specs.Reading.{TakesMemory, MayLackMemory, OnFault, OnMemory, IsShortAt, Names, RefusesInput}
use Rattle.spa_bodies.specs.Refusing.{Says, StandsInBody, RefusesBody, RefusesPod, error_of}

-- a refusal says of the whole what follows there
pub says_through : (stands stands' : Fault → Type 0) (memory memory' : Type 0) →
    ((k : Fault) → stands k → stands' k) → (memory → memory') →
    (why : Refusal) → Says stands memory why → Says stands' memory' why
says_through stands stands' memory memory' f g refusal.Short h = f Short h
says_through stands stands' memory memory' f g refusal.Text h = f Text h
says_through stands stands' memory memory' f g refusal.InvalidType h = f InvalidType h
says_through stands stands' memory memory' f g refusal.InvalidChoiceType h = f InvalidChoiceType h
says_through stands stands' memory memory' f g refusal.MissingChoiceValues h = f MissingChoiceValues h
says_through stands stands' memory memory' f g refusal.WrongSize h = f WrongSize h
says_through stands stands' memory memory' f g refusal.OutOfMemory h = g h

-- what a refusal says implies what each fault that stands does, and want of memory
pub said : (stands : Fault → Type 0) (memory fact : Type 0) → ((k : Fault) → stands k → fact) → (memory → fact) →
    (why : Refusal) → Says stands memory why → fact
said stands memory fact f g refusal.Short s = f Short s
said stands memory fact f g refusal.Text s = f Text s
said stands memory fact f g refusal.InvalidType s = f InvalidType s
said stands memory fact f g refusal.InvalidChoiceType s = f InvalidChoiceType s
said stands memory fact f g refusal.MissingChoiceValues s = f MissingChoiceValues s
said stands memory fact f g refusal.WrongSize s = f WrongSize s
said stands memory fact f g refusal.OutOfMemory s = g s

-- a fault of the body stands at the front
pub at_front_of : (b : List ℕ) (k : Fault) →
    HasFront b → StandsInBody (word_at b 4) (body_of b) k → StandsAtFront k b
at_front_of b Short h s = absurd s
at_front_of b Text h s = (h, s.0, s.1)
at_front_of b InvalidType h s = (h, s)
at_front_of b InvalidChoiceType h s = (h, s.0, s.1, s.2)
at_front_of b MissingChoiceValues h s = (h, s.0, s.1)
at_front_of b WrongSize h s = (h, s)

-- where the body is refused
pub body_refused : (input body rest : List ℕ) (type : ℕ) (why : Refusal) →
    Opens input type body rest → RefusesBody type body why → RefusesPod input input why
body_refused input body rest type why o s =
    let its_fault : (k : Fault) → StandsInBody type body k → StandsInBody (word_at input 4) (body_of input) k = λ k i.
    subst (λ b. StandsInBody (word_at input 4) b k) o.its_body (subst (λ t. StandsInBody t body k) o.its_type i) in
    let stands : (k : Fault) → StandsInBody type body k → Stands k input input = λ k i.
    at_front input refl (at_front_of input k o.there (its_fault k i)) in
    says_through _ _ _ _ stands (λ m. (o.there, subst TakesMemory o.its_type m)) why s

-- where an object lacks its type or its id
pub short_object_refused : (input body rest : List ℕ) (type : ℕ) →
    Opens input type body rest → type ≡ object_type → length body < header_size →
    RefusesPod input input refusal.WrongSize
short_object_refused input body rest type o t l =
    body_refused input body rest type refusal.WrongSize o (short_object t l)

-- the refusal of an array of elements of this kind
pub array_refused : (k : Kind) (b : List ℕ) (why : Refusal) →
    RefusesArray (IsWrongArray k b) why → RefusesBody array_type b why
array_refused k b refusal.Short r = absurd r
array_refused k b refusal.Text r = absurd r
array_refused k b refusal.InvalidType r = absurd r
array_refused k b refusal.InvalidChoiceType r = absurd r
array_refused k b refusal.MissingChoiceValues r = absurd r
array_refused k b refusal.WrongSize r = of_array k refl r
array_refused k b refusal.OutOfMemory r = inr (inr (inr (inl refl)))

-- the refusal of a choice over values of this kind
pub choice_refused : (k : Kind) (b : List ℕ) (why : Refusal) →
    choice_header_size ≤ length b → 0 < body_size k → RefusesChoice k b why → RefusesBody choice_type b why
choice_refused k b refusal.Short l p r = absurd r
choice_refused k b refusal.Text l p r = absurd r
choice_refused k b refusal.InvalidType l p r = absurd r
choice_refused k b refusal.InvalidChoiceType l p r = (refl, l, r)
choice_refused k b refusal.MissingChoiceValues l p r = (refl, r)
choice_refused k b refusal.WrongSize l p r = of_choice k refl p r
choice_refused k b refusal.OutOfMemory l p r = inr (inr (inr (inr (inr (inr refl)))))

-- What the public refusal says that is made of one at a place.
module _ (stands : Fault → List ℕ → Type 0) (memory : Type 0) (place : Bor (List ℕ)) where
  -- what each fault that stands implies
  pub said_so : (P : Type 0) → ((k : Fault) → stands k place.now → P) → (why : Refusal) →
      Says (λ k. stands k place.now) memory why → OnFault P (error_of place why)
  said_so P f refusal.Short s = f Short s
  said_so P f refusal.Text s = f Text s
  said_so P f refusal.InvalidType s = f InvalidType s
  said_so P f refusal.InvalidChoiceType s = f InvalidChoiceType s
  said_so P f refusal.MissingChoiceValues s = f MissingChoiceValues s
  said_so P f refusal.WrongSize s = f WrongSize s
  said_so P f refusal.OutOfMemory s = tt

  pub said_memory : (why : Refusal) → Says (λ k. stands k place.now) memory why → OnMemory memory (error_of place why)
  said_memory refusal.OutOfMemory s = s
  said_memory _ s = tt

  pub said_short : (input : List ℕ) → ((k : Fault) → stands k place.now → (k ≡ Short) × (place.now ≡ input)) → ¬ memory →
      (why : Refusal) → Says (λ k. stands k place.now) memory why → IsShortAt input (error_of place why)
  said_short input only n refusal.Short s = (refl, (only Short s).1)
  said_short input only n refusal.Text s = cc ((only Text s).0)
  said_short input only n refusal.InvalidType s = cc ((only InvalidType s).0)
  said_short input only n refusal.InvalidChoiceType s = cc ((only InvalidChoiceType s).0)
  said_short input only n refusal.MissingChoiceValues s = cc ((only MissingChoiceValues s).0)
  said_short input only n refusal.WrongSize s = cc ((only WrongSize s).0)
  said_short input only n refusal.OutOfMemory s = absurd (n s)

  pub said_fault : (why : Refusal) → Says (λ k. stands k place.now) memory why → Names stands (error_of place why)
  said_fault refusal.Short s = s
  said_fault refusal.Text s = s
  said_fault refusal.OutOfMemory s = tt
  said_fault _ s = (place.now, s)

-- where the front isn't there, no fault stands but that it is short
only_short : (k : Fault) (place input : List ℕ) → Stands k place input → ¬ (HasFront input) → (k ≡ Short) × (place ≡ input)
only_short Short place _ (at_front b e s) n = (refl, e)
only_short Text place _ (at_front b e s) n = absurd (n s.0)
only_short InvalidType place _ (at_front b e s) n = absurd (n s.0)
only_short InvalidChoiceType place _ (at_front b e s) n = absurd (n s.0)
only_short MissingChoiceValues place _ (at_front b e s) n = absurd (n s.0)
only_short WrongSize place _ (at_front b e s) n = absurd (n s.0)
only_short k place _ (in_member b vs first left h _ _ _ _ _) n = absurd (n h)
only_short k place _ (in_key b ps first h _ _ _ _ _ _ _) n = absurd (n h)
only_short k place _ (in_property b ps first left h _ _ _ _ _ _) n = absurd (n h)

pub refused_as : (input : List ℕ) (place : Bor (List ℕ)) (why : Refusal) →
    RefusesPod input place.now why → RefusesInput input (error_of place why)
refused_as input place why s =
    let stands : Fault → List ℕ → Type 0 = λ k at. Stands k at input in
    let lacks = MayLackMemory input in
    record {
      refused = said_so stands lacks place (IsRefused input) (λ k. format.refused k place.now input) why s;
      memory = said_memory stands lacks place why s;
      short_first = λ n. said_short stands lacks place input (λ k h. only_short k place.now input h n) (λ h. n h.0) why s;
      named = said_fault stands lacks place why s;
    }
