-- Why a list of pods isn't rewritten in place, and why an input that conveys no values isn't.
use Rattle.std.proofs.Common.{◌≡◌, ◌≢◌, ℕ, ◌-◌, ◌<◌, inl, inr, List, [], ◌++◌, length, take, drop, refl, sym, ap, subst, ◌∙◌, arith, length-append, length-drop}
use Rattle.std.specs.Prelude.{⊤, Option, codes}
use Rattle.std.specs.Borrow.{Bor}
use Rattle.std.proofs.lemmas.Bool.{cases_lt}
use Rattle.std.proofs.lemmas.List.{drop_at, nil_from_length, take_at}
use Rattle.spa_fixed_sized.specs.declared.fault.DeserializeError.{DeserializeError}
use Rattle.spa_fixed_sized.specs.declared.fault.DeserializeError.TheVariants as error
use Rattle.spa_fixed_sized.specs.Faults.{kind_text}
use Rattle.spa_format.specs.Front.{IsRefused}
use Rattle.spa_format.specs.Pod.{AreMembers}
use Rattle.spa_format.specs.Tree.{Trees}
use Rattle.spa_bodies.specs.Reading.{OnFault}
use Rattle.spa_rewrite.specs.Refusals.{RefusesListAt}
use Rattle.spa_format.specs.Lenient.{ConveyMembers}
use Rattle.spa_read.specs.Reading.{ConveysNothing}
use Rattle.spa_lenient.specs.Rewriting.{RefusesList}
use Rattle.spa_lenient.specs.Rewriting as lenient
use Rattle.spa_lenient.proofs.Causes.{named_memory}
use Rattle.spa_fixed_sized.specs.declared.fault.Refusal.{Refusal}
use Rattle.spa_fixed_sized.specs.declared.fault.Refusal.TheVariants as refusal
use Rattle.spa_format.specs.Faults.{Fault, Short, Text, InvalidType, InvalidChoiceType, MissingChoiceValues, WrongSize}
use Rattle.spa_bodies.specs.Refusing.{Says}
use Rattle.spa_read.specs.Reading.{StandsLeniently}
use Rattle.spav.specs.Faults.{fault_number}
use Rattle.spav.specs.Lenient.{FaultStandsLeniently}
use Rattle.spav.specs.Lists.{IsForBytes, ListIsRefused}

for_bytes : {I : Type 0} (e : DeserializeError I) → IsForBytes e → e ≡ error.OutOfMemory → ⊥
for_bytes e b o = subst IsForBytes o b

-- no refusal for what the bytes are has the name of the one for lack of memory
named : {I : Type 0} (e : DeserializeError I) → IsForBytes e → kind_text e ≡ codes "OutOfMemory" → ⊥
named e b k = for_bytes e b (named_memory e k)

-- what a refusal says that isn't for lack of memory
fact_of : {I : Type 0} (F : Type 0) (e : DeserializeError I) → (e ≡ error.OutOfMemory → ⊥) → OnFault F e → F
fact_of F (error.Nom f) n h = h
fact_of F error.UnsupportedType n h = h
fact_of F error.InvalidType n h = h
fact_of F error.PropertyMissing n h = h
fact_of F (error.PropertyWrongKey k) n h = h
fact_of F error.InvalidChoiceType n h = h
fact_of F error.MissingChoiceValues n h = h
fact_of F error.WrongSize n h = h
fact_of F error.UnreadMembers n h = h
fact_of F error.NoElementLeft n h = h
fact_of F error.FailedReader n h = h
fact_of F error.OutOfMemory n h = absurd (n refl)

-- where a list breaks off, what is left isn't empty,
module _ (AreOf : Trees → List ℕ → Type 0) (IsNone : List ℕ → Type 0) (input left : List ℕ)
    (l : (vs : Trees) × (first : List ℕ) × (input ≡ first ++ left) × AreOf vs first × (left ≢ [])) where
  pub some_left : 0 < length left
  some_left =
      elim (cases_lt 0 (length left)) [
        | inl i ↦ i
        | inr i ↦ absurd (l.4 (nil_from_length left (omega arith)))
      ]

  pub left_there : drop (length input - length left) input ≡ left
  left_there =
      let s = ap length l.2 ∙ length-append l.1 left in
      let long : length l.1 ≡ length input - length left = omega arith in
      ap (drop (length input - length left)) l.2 ∙ drop_at l.1 left (length input - length left) long

  -- and is refused
  pub broken_off : IsNone left → ((vs : Trees) → ¬ (AreOf vs input)) → ListIsRefused AreOf IsNone input (length input - length left)
  broken_off n w =
      let at = length input - length left in
      let s = ap length l.2 ∙ length-append l.1 left in
      let some = some_left in
      let long : length l.1 ≡ at = omega arith in
      let front : take at input ≡ l.1 = ap (take at) l.2 ∙ take_at l.1 left at long in
      record {
        first = l.0;
        before = subst (AreOf l.0) (sym front) l.3;
        inside = omega arith;
        refused = subst IsNone (sym left_there) n;
        whole = w;
      }

-- the offset is that of what is left behind it
offset_of : (input : List ℕ) (at : ℕ) → 0 < length (drop at input) → length input - length (drop at input) ≡ at
offset_of input at some = let d = length-drop at input in omega arith

pub list_refused : (input : List ℕ) (at : ℕ) (e : DeserializeError (Option ℕ)) → RefusesListAt input at e → IsForBytes e →
    ListIsRefused AreMembers IsRefused input at
list_refused input at e r b =
    subst (ListIsRefused AreMembers IsRefused input) (offset_of input at (some_left AreMembers IsRefused input (drop at input) r.behind))
    (broken_off AreMembers IsRefused input (drop at input) r.behind (fact_of _ r.placed (λ o. named e b (r.same ∙ ap kind_text o)) r.front.refused)
    (fact_of _ e (for_bytes e b) r.refused))

none_there : (input left : List ℕ) (e : DeserializeError (Bor (List ℕ))) → RefusesList input left e → (e ≡ error.OutOfMemory → ⊥) →
    ListIsRefused ConveyMembers ConveysNothing input (length input - length left)
none_there input left e r n =
    broken_off ConveyMembers ConveysNothing input left r.behind (fact_of _ e n r.front.refused) (fact_of _ e n r.refused)

pub none_conveyed : (input left : List ℕ) (e : DeserializeError (Bor (List ℕ))) → RefusesList input left e → IsForBytes e →
    ListIsRefused ConveyMembers ConveysNothing input (length input - length left)
none_conveyed input left e r b = none_there input left e r (for_bytes e b)

-- no value is conveyed at the byte at which a refusal of bytes in place stands
pub none_conveyed_at : (input : List ℕ) (at : ℕ) (e : DeserializeError ⊤) → lenient.RefusesListAt input at e → IsForBytes e →
    ListIsRefused ConveyMembers ConveysNothing input at
none_conveyed_at input at e r b =
    subst (ListIsRefused ConveyMembers ConveysNothing input)
    (offset_of input at (some_left ConveyMembers ConveysNothing input (drop at input) r.list.behind))
    (none_there input (drop at input) r.placed r.list (λ o. named e b (r.same ∙ ap kind_text o)))

-- the fault that a refusal of bytes names stands where no value is conveyed

-- the fault that a refusal of bytes names stands where no value is conveyed

-- the one fault of which a refusal says two facts
pub said_by_both : (P Q : Fault → Type 0) (M : Type 0) (why : Refusal) → Says P M why → Says Q ⊥ why → (k : Fault) × P k × Q k
said_by_both P Q M refusal.Short p q = (Short, p, q)
said_by_both P Q M refusal.Text p q = (Text, p, q)
said_by_both P Q M refusal.InvalidType p q = (InvalidType, p, q)
said_by_both P Q M refusal.InvalidChoiceType p q = (InvalidChoiceType, p, q)
said_by_both P Q M refusal.MissingChoiceValues p q = (MissingChoiceValues, p, q)
said_by_both P Q M refusal.WrongSize p q = (WrongSize, p, q)
said_by_both P Q M refusal.OutOfMemory p q = absurd q

stands_there : (input left : List ℕ) (e : DeserializeError (Bor (List ℕ))) (k : Fault) (kind : ℕ) → RefusesList input left e → IsForBytes e →
    (place : List ℕ) × StandsLeniently k place left → kind ≡ fault_number k → FaultStandsLeniently input kind (length input - length left)
stands_there input left e k kind r b s n = record {
  none = none_conveyed input left e r b;
  fault = k;
  its_kind = n;
  place = s.0;
  found = subst (StandsLeniently k s.0) (sym (left_there ConveyMembers ConveysNothing input left r.behind)) s.1;
}

pub fault_conveyed : (input left : List ℕ) (e : DeserializeError (Bor (List ℕ))) (why : Refusal) (kind : ℕ) → RefusesList input left e → IsForBytes e →
    Says (λ k. (place : List ℕ) × StandsLeniently k place left) ⊤ why → Says (λ k. kind ≡ fault_number k) ⊥ why →
    FaultStandsLeniently input kind (length input - length left)
fault_conveyed input left e why kind r b s n =
    let both =
    said_by_both (λ k. (place : List ℕ) × StandsLeniently k place left) (λ k. kind ≡ fault_number k) ⊤ why s n in
    stands_there input left e both.0 kind r b both.1 both.2
