-- What a rule's properties and refusals say.
use Rattle.std.proofs.Common.{◌≡◌, ◌⊎◌, inl, ℕ, ◌<◌, ◌^◌, List, ◌++◌, sym, Bool, true, false, Option}
use Rattle.std.specs.List.{All}
use Rattle.std.specs.Prelude.{MatchBool}
use Rattle.std.proofs.lemmas.List.Elements.{All-cons, All-nil}
use Rattle.spa_format.specs.Words.{word_bytes}
use Rattle.spa_format.specs.Tree.{Tree, object, Properties, no_properties, property}
use Rattle.spa_format.specs.Writable.{IsTooLarge}
use Rattle.spa_keyed_objects.specs.CanonicalPods.{IsCanonicalPod}
use Rattle.spa_keyed_objects.specs.Keys.{AtKey, HoldsAtKeys, HoldsOfEach, Offered, key_list}
use Rattle.spa_object_view.specs.Answers.{IsPutBehind, IsPutBy}
use Rattle.spa_object_view.specs.Fronts.{BeginBoth}
use Rattle.spa_object_view.specs.Meeting.{AreOfOneType}
use Rattle.spa_object_view.specs.declared.answer.Answer.{Answer}

-- a property was put behind others, in an object that is as large as it was
pub put_of : (Holds : Option Offered → Option Offered → ℕ → Tree → Type 0) (ours theirs : Option Offered) (key flags : ℕ) (value : Tree)
    (pod : List ℕ) (old new : Answer) → Holds ours theirs flags value → flags < 2 ^ 32 →
    new.bytes.items ≡ old.bytes.items ++ ((word_bytes key ++ word_bytes flags) ++ pod) → new.is_large ≡ old.is_large → IsCanonicalPod value pod →
    IsPutBy Holds ours theirs key old new
put_of Holds ours theirs key flags value pod old new h l p e w = record { flags = flags; value = value; holds = h; put = by_size new.is_large (sym e) }
  where
    by_size : (b : Bool) → old.is_large ≡ b → MatchBool b ((old.is_large ≡ true) ⊎ IsTooLarge value) (IsPutBehind key flags value old new)
    by_size true z = inl z
    by_size false z = record { small = z; pod = pod; fits = l; written = w; parts = p }

module _ {Holds : Option Offered → Option Offered → ℕ → Tree → Type 0} where
  -- what holds by another rule, too, holds by it at each key
  pub holds_by : {Other : Option Offered → Option Offered → ℕ → Tree → Type 0} → ((o p : Option Offered) (f : ℕ) (x : Tree) → Holds o p f x → Other o p f x) →
      (ps qs these met : Properties) → HoldsAtKeys Holds ps qs these met → HoldsAtKeys Other ps qs these met
  holds_by {Other} by ps qs these met h = record { keys = h.keys; values = each met h.values }
    where
      each : (rs : Properties) → HoldsOfEach Holds ps qs rs → HoldsOfEach Other ps qs rs
      each no_properties h = tt
      each (property k f x rs) h = (by _ _ f x h.0, each rs h.1)

  -- what is said of the two sides alone is so at each key
  pub all_agree : {Agree : Option Offered → Option Offered → Type 0} → ((o p : Option Offered) (f : ℕ) (x : Tree) → Holds o p f x → Agree o p) →
      (ps qs rs : Properties) → HoldsOfEach Holds ps qs rs → All (AtKey Agree ps qs) (key_list rs)
  all_agree {Agree} by ps qs no_properties h = All-nil (AtKey Agree ps qs)
  all_agree {Agree} by ps qs (property k f x rs) h =
      All-cons (AtKey Agree ps qs) k (key_list rs) (by _ _ f x h.0) (all_agree by ps qs rs h.1)

-- a fact of the values of two inputs gives another
pub both : {a b : List ℕ} {P Q : Tree → Tree → Type 0} → ((v w : Tree) → P v w → Q v w) → BeginBoth a b P → BeginBoth a b Q
both f h = record { ours = h.ours; theirs = h.theirs; first = h.first; second = h.second; holds = f h.ours h.theirs h.holds }

-- what no properties are there can't be said of the values of two inputs
pub never_one_type : {Fact : Properties → Properties → Type 0} → ((ps qs : Properties) → ¬ (Fact ps qs)) → (v w : Tree) → ¬ (AreOfOneType Fact v w)
never_one_type n (object t i ps) (object u j qs) h = n ps qs h.1
never_one_type n (object t i ps) w h = absurd h
never_one_type n v w h = absurd h
