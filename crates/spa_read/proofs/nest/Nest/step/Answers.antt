use Rattle.spa_read.proofs.Readings.{is_lenient}
use Rattle.std.proofs.Common.{refl, sym, subst}
use Rattle.spa_read.specs.Nesting.{IsBegunAs, around}
use Rattle.spa_read.specs.declared.nest.Nest.{Nest}
use Rattle.spa_read.specs.declared.nest.PartlyRead.{PartlyRead}
use Rattle.spa_read.proofs.Nesting.{begin_inside, is_at_end, is_at_front, lacks_memory, nearer_inside, short_object_inside, step_lacks_memory, step_refused, step_to_end}
use Rattle.spa_read.proofs.nest.Nest.step.Goals as goal

pub returns-in_err-front-clause-refused : goal.returns-in_err-front-clause-refused
returns-in_err-front-clause-refused g c =
    step_refused (is_lenient g.row.LENIENT) _ c.in_err-front.field-0.0 c.args.self.now.inner _ _ _ _ c.from_residual.ensures.1 c.read_on.ensures.more
    c.in_err-front.ensures.refused

pub returns-in_default-clause-taken : goal.returns-in_default-clause-taken
returns-in_default-clause-taken g c =
    let was = c.args.self.now in
    let inner : PartlyRead = record { rest = was.inner.rest; inside = c.read_on.new.self } in
    let from : Nest = record { inner = inner; between = was.between; outermost = was.outermost } in
    step_to_end (is_lenient g.row.LENIENT) c.end.result was.inner (around was) from _ _ c.read_on.new.left.now _ _ _ c.end.ensures.ended
    (is_at_end (is_lenient g.row.LENIENT) _ _ _ _ _ _ _ c.in_default.is c.in_ok-front.ensures.read) refl refl refl

pub returns-in_default-clause-refused : goal.returns-in_default-clause-refused
returns-in_default-clause-refused g c =
    step_lacks_memory (is_lenient g.row.LENIENT) c.end.result c.args.self.now.inner _ _ _ _ c.end.ensures.refused

pub returns-in_default-push-clause-refused : goal.returns-in_default-push-clause-refused
returns-in_default-push-clause-refused g c = λ input u.
    lacks_memory (is_lenient g.row.LENIENT) input c.args.self.now.inner _ _ _ _ _ _ c.lacking_memory.ensures u

pub returns-in-Ok-push-clause-taken : goal.returns-in-Ok-push-clause-taken
returns-in-Ok-push-clause-taken g c =
    let was = c.args.self.now in
    let inner : PartlyRead = record { rest = was.inner.rest; inside = c.read_on.new.self } in
    let front = is_at_front (is_lenient g.row.LENIENT) _ c.in-Some.front _ _ _ _ _ _ c.in-Some.is c.in_ok-front.ensures.read in
    let pushed = c.in-Ok-push.ensures in
    λ input u. begin_inside (is_lenient g.row.LENIENT) input c.in-Some.front was.inner inner c.push.new.self.inner (around was) _ _ _ _ _ _ u front refl
    (subst (λ o. IsBegunAs c.in-Some.front.type_ c.in-Some.front.body.now c.in-Some.front.rest.now o c.in-Ok.body.now) (sym pushed.inner) c.in-Ok.ensures.begun)
    pushed.around

pub returns-in-Err-clause-refused : goal.returns-in-Err-clause-refused
returns-in-Err-clause-refused g c =
    let was = c.args.self.now in
    let inner : PartlyRead = record { rest = was.inner.rest; inside = c.read_on.new.self } in
    let r = c.in-Err.ensures.refused in
    λ input u. short_object_inside (is_lenient g.row.LENIENT) input c.in-Some.front was.inner inner _ _ _ _ _ _ u
    (is_at_front (is_lenient g.row.LENIENT) _ _ _ _ _ _ _ _ c.in-Some.is c.in_ok-front.ensures.read) refl r.0 r.1 r.2

pub returns-in-Ok-push-clause-nearer : goal.returns-in-Ok-push-clause-nearer
returns-in-Ok-push-clause-nearer g c =
    let was = c.args.self.now in
    let inner : PartlyRead = record { rest = was.inner.rest; inside = c.read_on.new.self } in
    let front = is_at_front (is_lenient g.row.LENIENT) _ c.in-Some.front _ _ _ _ _ _ c.in-Some.is c.in_ok-front.ensures.read in
    let pushed = c.in-Ok-push.ensures in
    λ _. nearer_inside (is_lenient g.row.LENIENT) c.in-Some.front was.inner inner c.push.new.self.inner (around was) _ _ _ _ _ _ front refl
    (subst (λ o. IsBegunAs c.in-Some.front.type_ c.in-Some.front.body.now c.in-Some.front.rest.now o c.in-Ok.body.now) (sym pushed.inner) c.in-Ok.ensures.begun)
    pushed.around
