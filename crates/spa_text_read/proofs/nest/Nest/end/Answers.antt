use Rattle.std.proofs.Common.{◌≡◌, subst}
use Rattle.std.specs.Prelude.{Some, None}
use Rattle.spa_value.specs.View.{view}
use Rattle.spa_text_read.specs.Seen.{frame_of}
use Rattle.spa_text_read.specs.Steps.{put}
use Rattle.spa_text_read.proofs.Nesting.{end_unput, end_within, end_without_value}
use Rattle.spa_text_read.proofs.nest.Nest.end.Goals as goal

pub returns-in-Ok-put-clause-ended : goal.returns-in-Ok-put-clause-ended
returns-in-Ok-put-clause-ended c =
    let was = c.args.self.now in
    let ts = c.args.reader.now in
    let v = view c.in-Ok.value in
    end_within was.outer.items c.pop.new.self.items c.in-Some.around c.replace-ended.result was.inner v (frame_of c.put.new.self) ts
    c.put.new.reader c.in-Some.ensures.items c.replace-ended.ensures.value c.in-Ok.ensures.value
    (subst (λ i. put (frame_of i) v ts ≡ Some (frame_of c.put.new.self, c.put.new.reader)) c.replace-ended.ensures.after c.in-Ok-put.ensures.put)

pub returns-in-Err-put-clause-refused : goal.returns-in-Err-put-clause-refused
returns-in-Err-put-clause-refused c = λ m.
    let was = c.args.self.now in
    let ts = c.args.reader.now in
    let v = view c.in-Ok.value in
    end_unput was.outer.items c.pop.new.self.items c.in-Some.around c.replace-ended.result was.inner v ts c.in-Some.ensures.items
    c.replace-ended.ensures.value c.in-Ok.ensures.value
    (subst (λ i. put (frame_of i) v ts ≡ None) c.replace-ended.ensures.after (c.in-Err-put.ensures.refused m))

pub returns-in-Err-clause-refused : goal.returns-in-Err-clause-refused
returns-in-Err-clause-refused c = λ m.
    let was = c.args.self.now in
    end_without_value was.outer.items c.replace-ended.result was.inner c.args.reader.now c.replace-ended.ensures.value c.in-Err.ensures.value
