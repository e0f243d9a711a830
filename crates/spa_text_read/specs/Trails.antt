-- What of a text is open, as the reader's own types say it. Only the crate's private clauses cite it.
use Rattle.std.specs.Prelude.{List, map, option_map, reverse}
use Rattle.spa_text_read.specs.Places as places
use Rattle.spa_text_read.specs.declared.place.Open.{Open}
use Rattle.spa_text_read.specs.declared.place.Open.TheVariants as level

abbrev pub open_of : Open → places.Open
open_of (level.Object k) = places.object (option_map (λ s. s.now) k)
open_of (level.Array n) = places.array n

-- the innermost first
abbrev pub opens_of : List Open → List places.Open
opens_of levels = reverse (map open_of levels)
