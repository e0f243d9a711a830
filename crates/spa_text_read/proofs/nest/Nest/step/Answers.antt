use Rattle.std.proofs.Common.{refl, ap, ◌∙◌}
use Rattle.std.specs.Prelude.{Some}
use Rattle.spa_text_read.specs.Seen.{frame_of, next_of}
use Rattle.spa_text_read.specs.declared.nest.Nest.{Nest}
use Rattle.spa_text_read.proofs.Nesting.{ended_kept, ended_next, to_begin, to_begin_refused, to_end, to_end_refused}
use Rattle.spa_text_read.proofs.nest.Nest.step.Goals as goal

pub returns-in-Ok-Ended-clause-taken : goal.returns-in-Ok-Ended-clause-taken
returns-in-Ok-Ended-clause-taken c =
    let was = c.args.self.now in
    let mid : Nest = record { inner = c.next.new.self; outer = was.outer } in
    to_end c.end.result was mid _ _ _ _ (ended_next _ (frame_of c.next.new.self) _ _ c.in-Ok-Ended.field-0-is c.in-Ok-Ended.ensures.next)
    (ended_kept _ _ _ c.in-Ok-Ended.field-0-is c.in-Ok-Ended.ensures.kept) refl c.end.ensures.ended

pub returns-in-Ok-Ended-clause-refused : goal.returns-in-Ok-Ended-clause-refused
returns-in-Ok-Ended-clause-refused c =
    let was = c.args.self.now in
    let mid : Nest = record { inner = c.next.new.self; outer = was.outer } in
    to_end_refused c.end.result was mid _ _ (ended_next _ (frame_of c.next.new.self) _ _ c.in-Ok-Ended.field-0-is c.in-Ok-Ended.ensures.next)
    (ended_kept _ _ _ c.in-Ok-Ended.field-0-is c.in-Ok-Ended.ensures.kept) refl c.end.ensures.refused

pub returns-in-Ok-Wants-clause-taken : goal.returns-in-Ok-Wants-clause-taken
returns-in-Ok-Wants-clause-taken c =
    let was = c.args.self.now in
    let mid : Nest = record { inner = c.next.new.self; outer = was.outer } in
    to_begin c.begin_value.result was mid _ _ _ _ _ _
    (c.in-Ok-Wants.ensures.next ∙ ap (λ n. Some (next_of (frame_of c.next.new.self) n, c.next.new.reader)) c.in-Ok-Wants.field-0-is) refl
    c.begin_value.ensures.taken

pub returns-in-Ok-Wants-clause-refused : goal.returns-in-Ok-Wants-clause-refused
returns-in-Ok-Wants-clause-refused c =
    let was = c.args.self.now in
    let mid : Nest = record { inner = c.next.new.self; outer = was.outer } in
    to_begin_refused c.begin_value.result was mid _ _ _ _
    (c.in-Ok-Wants.ensures.next ∙ ap (λ n. Some (next_of (frame_of c.next.new.self) n, c.next.new.reader)) c.in-Ok-Wants.field-0-is) refl
    c.begin_value.ensures.refused
