-- Steps of the reader over the values that are begun. Only the crate's private clauses cite it.
use Rattle.std.specs.Prelude.{◌≡◌, Bool, true, false, List, [], ◌∷◌, reverse, map}
use Rattle.json.specs.Token.{Token}
use Rattle.spa_names.specs.declared.entry.Expected.{Expected}
use Rattle.spa_text_read.specs.Grammar.{opens}
use Rattle.spa_text_read.specs.Steps.{Frame, after_opening, step, goes, give_ended, value_of}
use Rattle.spa_text_read.specs.Seen.{frame_of}
use Rattle.spa_text_read.specs.declared.inside.Inside.{Inside}
use Rattle.spa_text_read.specs.declared.nest.Nest.{Nest}

-- the frames around the innermost, the next one first
abbrev pub stack_of : List Inside → List Frame
stack_of outer = reverse (map frame_of outer)

-- it goes on with these frames, or the outermost has ended
abbrev pub Steps : Bool → Nest → List Token → Nest → List Token → Type 0
Steps true old ts new us = step (frame_of old.inner) (stack_of old.outer.items) ts ≡ goes (frame_of new.inner) (stack_of new.outer.items) us
Steps false old ts new us = step (frame_of old.inner) (stack_of old.outer.items) ts ≡ give_ended (value_of (frame_of new.inner)) [] us

-- the innermost was put into the one around it, or there is none
abbrev pub EndsWithin : Bool → Nest → List Token → Nest → List Token → Type 0
EndsWithin true old ts new us =
    give_ended (value_of (frame_of old.inner)) (stack_of old.outer.items) ts ≡ goes (frame_of new.inner) (stack_of new.outer.items) us
EndsWithin false old ts new us = (stack_of old.outer.items ≡ []) × (new.inner ≡ old.inner) × (us ≡ ts)

-- a value within the innermost was read, or it is begun
abbrev pub Begins : Bool → Nest → Expected → Token → List Token → Nest → List Token → Type 0
Begins true old c h ts new us =
    after_opening (frame_of old.inner ∷ stack_of old.outer.items) (opens c h ts) ≡ goes (frame_of new.inner) (stack_of new.outer.items) us
Begins false old c h ts new us = ⊥
