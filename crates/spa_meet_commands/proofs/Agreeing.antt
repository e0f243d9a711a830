-- Two inputs that agree or are refused, and an input that consists of two.
use Rattle.std.proofs.Common.{◌≡◌, ℕ, List, [], refl, sym, inl, inr, arith, length, length-drop}
use Rattle.std.proofs.lemmas.Bool.{cases_lt}
use Rattle.std.proofs.lemmas.List.{nil_from_length}
use Rattle.spa_format.specs.Words.{extent, word_at}
use Rattle.spa_format.specs.Front.{HasFront, rest_of}
use Rattle.spa_format.specs.Pod.{IsPod}
use Rattle.spa_format.specs.Tree.{Tree, object, fixed, string, bytes, bitmap, array, choice, pointer, struct}
use Rattle.spa_filter.specs.Filtering.{CanFilter, IsFilter}
use Rattle.spa_filter.specs.declared.error.FilterError.{FilterError}
use Rattle.spa_filter.specs.declared.error.FilterError.TheVariants.{TypeMismatch, Missing, Unsupported, Disjoint, Unread, NotObject, TooLarge, OutOfMemory}
use Rattle.spa_filter_pods.specs.Fronts.{AreFrontsRefused, BeginBoth, FilterIn, OnNoFilter}
use Rattle.spa_object_view.specs.Fronts.{IsObject}
use Rattle.spa_meet_commands.specs.Agreeing.{AreFiltered, ArentAgreed, IsUnsettled, SettleTooLarge, no_memory, unfiltered, unsettled}
use Rattle.spa_meet_commands.specs.declared.pair.Work.{Work}
use Rattle.spa_meet_commands.specs.declared.pair.Work.TheVariants.{Negotiate}

-- what two objects filter to is one
met_object : (v w met : Tree) → IsFilter v w met → IsObject met
met_object (object type id ps) (object its its_id qs) (object t i rs) h = tt
met_object (object type id ps) (object its its_id qs) (fixed x) h = absurd h
met_object (object type id ps) (object its its_id qs) (string s) h = absurd h
met_object (object type id ps) (object its its_id qs) (bytes s) h = absurd h
met_object (object type id ps) (object its its_id qs) (bitmap s) h = absurd h
met_object (object type id ps) (object its its_id qs) (array k xs) h = absurd h
met_object (object type id ps) (object its its_id qs) (choice s f k x xs) h = absurd h
met_object (object type id ps) (object its its_id qs) (pointer t a) h = absurd h
met_object (object type id ps) (object its its_id qs) (struct vs) h = absurd h
met_object (object type id ps) _ met h = absurd h
met_object _ w met h = absurd h

-- two that can't be filtered don't agree
pub unfiltered_apart : (work : Work) (a b : List ℕ) (e : FilterError) → OnNoFilter (¬ (BeginBoth a b CanFilter)) e → AreFrontsRefused a b e →
    ArentAgreed work a b e
unfiltered_apart work a b e apart stands = record { stands = unfiltered work stands; apart = apart }

-- or it can't be written
pub unsettled_apart : (a b pod : List ℕ) (e : FilterError) → BeginBoth a b (FilterIn pod) → ((v : Tree) → IsPod pod v → IsObject v → IsUnsettled v e) →
    ArentAgreed Negotiate a b e
unsettled_apart a b pod e h why = apart e (why h.holds.met h.holds.pod (met_object h.ours h.theirs h.holds.met h.holds.filter))
  where
    large : IsUnsettled h.holds.met TooLarge → BeginBoth a b SettleTooLarge
    large w = record {
      ours = h.ours;
      theirs = h.theirs;
      first = h.first;
      second = h.second;
      holds = record { met = h.holds.met; filter = h.holds.filter; large = w };
    }

    filtered_to : AreFiltered a b
    filtered_to = record {
      ours = h.ours;
      theirs = h.theirs;
      first = h.first;
      second = h.second;
      holds = (h.holds.met, h.holds.filter);
    }

    apart : (e : FilterError) → IsUnsettled h.holds.met e → ArentAgreed Negotiate a b e
    apart TypeMismatch w = absurd w
    apart (Missing key) w = absurd w
    apart (Unsupported key) w = absurd w
    apart (Disjoint key) w = absurd w
    apart (Unread side) w = absurd w
    apart (NotObject side) w = absurd w
    apart TooLarge w = record { stands = unsettled (large w) refl; apart = tt }
    apart OutOfMemory w = record { stands = no_memory filtered_to refl; apart = tt }

-- behind a front that isn't there is nothing
pub nothing_behind : (b : List ℕ) → ¬ (HasFront b) → [] ≡ rest_of b
nothing_behind b absent =
    let d = length-drop (extent (word_at b 0)) b in
    elim (cases_lt (length b) (extent (word_at b 0))) [
      | inl short ↦ sym (nil_from_length (rest_of b) (omega (arith, d, short)))
      | inr long ↦ absurd (absent (record { header = omega (arith, long); whole = long }))
    ]
