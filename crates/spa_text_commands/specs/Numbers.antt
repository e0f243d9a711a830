-- How many pods stand before each in the same one. Only private clauses cite it.
use Rattle.std.specs.Prelude.{◌≡◌, ◌+◌, ◌<◌, ◌≢◌, ℕ, List, length, slice_index_or, take}
use Rattle.spa_events.specs.declared.event.Event.{Event}
use Rattle.spa_text_commands.specs.Paths.{count_in, event_at}

-- these numbers say how many pods stand before that of each event in the same one, where it is in one
pub record AreNumbers (events : List Event) (numbers : List ℕ) : Type 0 where
  pub each_one : length numbers ≡ length events
  pub counts : (i : ℕ) → i < length events → (event_at events i).parent < length events →
      slice_index_or numbers i 0 ≡ count_in (event_at events i).parent (take i events)

-- one more is counted of this pod, and of no other
pub record IsCountedIn (old new : List ℕ) (number before : ℕ) : Type 0 where
  pub as_long : length new ≡ length old
  pub was : number < length old → before ≡ slice_index_or old number 0
  pub one_more : number < length old → slice_index_or new number 0 ≡ before + 1
  pub others : (i : ℕ) → i ≢ number → slice_index_or new i 0 ≡ slice_index_or old i 0
