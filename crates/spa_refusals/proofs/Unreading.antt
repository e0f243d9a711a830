-- Why a pod isn't read.
use Rattle.std.proofs.Common.{◌≡◌, ◌<◌, ◌^◌, ◌+◌, ◌-◌, ◌∙◌, ℕ, List, length, take, drop, ap, arith, inl, inr, length-append, refl, sym, subst}
use Rattle.std.proofs.lemmas.Bool.{cases_lt}
use Rattle.std.proofs.lemmas.List.{drop_at}
use Rattle.std.specs.Borrow.{Bor}
use Rattle.std.specs.Option.{SomeIff}
use Rattle.std.specs.Prelude.{Option, Some, None, codes}
use Rattle.spa_fixed_sized.specs.Faults.{fault_kind_text, kind_text}
use Rattle.spa_fixed_sized.specs.declared.fault.DeserializeError.{DeserializeError}
use Rattle.spa_fixed_sized.specs.declared.fault.DeserializeError.TheVariants as error
use Rattle.spa_format.specs.Front.{HasFront}
use Rattle.spa_bodies.specs.Reading.{IsShortAt}
use Rattle.spa_recordings.specs.Reading.{IsAccepted, IsLeftOf, IsNothing, IsUnreadAt}
use Rattle.spa_recordings.proofs.Streamed.{left_of, nothing_of}
use Rattle.spa_recordings.specs.declared.reading.Reading.{Reading}
use Rattle.spa_recordings.specs.declared.reading.Reading.TheVariants.{Exact, Lenient}
use Rattle.spa_refusals.specs.Paths.{LeadsTo, itself, further, member, property}
use Rattle.spa_format.specs.Walk.{walk}
use Rattle.spa_format.specs.Words.{header_size}
use Rattle.spa_recordings.specs.Plausible.{IsNextPlausible}
use Rattle.spa_refusals.specs.Refusals.{IsFirstRefusal, IsNextOf, IsRefusalOf, IsUnreadFor, LeadsBy}
use Rattle.spa_refusals.specs.declared.refusal.Refusal.{Refusal}

-- what is left of an input is what follows the byte where it begins
pub behind : (reading : Reading) (input left : List ℕ) (place : ℕ) → IsLeftOf reading input left → place ≡ length input - length left →
    drop place input ≡ left
behind reading input left place h is =
    let p = left_of reading input left h in
    let l = ap length p.1 ∙ length-append p.0 left in
    ap (drop place) p.1 ∙ drop_at p.0 left place (omega (arith, is, l))

-- bytes that are no whole pod have nothing inside
leads_nowhere : (pod : List ℕ) → ¬ (HasFront pod) → (path inner : List ℕ) → LeadsTo pod path inner → inner ≡ pod
leads_nowhere pod none path inner itself = refl
leads_nowhere pod none path inner (further before new next last leads (member there type holds)) =
    absurd (none (subst HasFront (leads_nowhere pod none before next leads) there))
leads_nowhere pod none path inner (further before new next last leads (property there type holds)) =
    absurd (none (subst HasFront (leads_nowhere pod none before next leads) there))

named_short : (pod kind : List ℕ) (e : DeserializeError (Bor (List ℕ))) → IsShortAt pod e → kind ≡ kind_text e → kind ≡ codes "Short"
named_short pod kind (error.Nom f) h e = e ∙ ap fault_kind_text h.0
named_short pod kind _ h e = absurd h

leads_to_itself : (reading : Reading) (pod path inner : List ℕ) → LeadsBy reading pod path inner → ¬ (HasFront pod) → inner ≡ pod
leads_to_itself Exact pod path inner h none = leads_nowhere pod none path inner h.leads
leads_to_itself Lenient pod path inner h none = h.1

-- and are short
pub short_kind : (reading : Reading) (pod path inner kind : List ℕ) (e : DeserializeError (Bor (List ℕ))) → LeadsBy reading pod path inner →
    IsUnreadFor reading inner e → kind ≡ kind_text e → ¬ (HasFront pod) → kind ≡ codes "Short"
short_kind reading pod path inner kind e leads its is none =
    named_short inner kind e
    (its.short_first (subst (λ z. ¬ (HasFront z)) (sym (leads_to_itself reading pod path inner leads none)) none)) is

-- the first refused pod of an input
pub nothing_at : (reading : Reading) (input left kind pod : List ℕ) (place : ℕ) → IsUnreadAt reading input left kind → place ≡ length input - length left →
    pod ≡ drop place input → IsNothing reading pod
nothing_at reading input left kind pod place u is e =
    subst (IsNothing reading) (sym (e ∙ behind reading input left place u.0 is)) (nothing_of reading left kind u.1)

pub first_said : (reading : Reading) (input left kind pod : List ℕ) (r : Refusal) (place : ℕ) → ¬ (IsAccepted reading input) →
    IsUnreadAt reading input left kind → place ≡ length input - length left → pod ≡ drop place input → r.place ≡ place →
    r.number ≡ length (walk (take place input)) + 1 → IsRefusalOf reading pod r → IsFirstRefusal reading input r
first_said reading input left kind pod r place not_all u is e p n its =
    let same = ap (λ z. drop z input) p in (
      not_all,
      subst (IsLeftOf reading input) (sym (same ∙ behind reading input left place u.0 is)) u.0,
      record {
        within = omega (arith, is, p);
        number = n ∙ sym (ap (λ z. length (walk (take z input)) + 1) p);
        its = subst (λ z. IsRefusalOf reading z r) (e ∙ sym same) its;
      },
    )

-- where the next pod plausibly begins
pub next_counted : (r : Option ℕ) (place n : ℕ) (pod : List ℕ) → SomeIff r (place + n < 2 ^ 64) (place + n) → n < length pod →
    IsNextPlausible pod header_size n → IsNextOf place pod r
next_counted None place n pod h within next = inr (elim (cases_lt (place + n) (2 ^ 64)) [
  | inl fits ↦ absurd (h fits)
  | inr past ↦ omega (arith, past, within)
])
next_counted (Some at) place n pod h within next = (n, h.1, next)
