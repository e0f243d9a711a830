use Rattle.std.proofs.Common.{◌≡◌, [], ◌∷◌, ◌++◌, ap, sym, ◌∙◌, subst}
use Rattle.std.specs.Prelude.{if◌then◌else◌, not}
use Rattle.std.proofs.lemmas.Bool.{eqb-true}
use Rattle.std.proofs.lemmas.List.{nil_from_length}
use Rattle.spa_meet_commands.proofs.Seeking.{Passed, all_viewed, begins, ends, passes}
use Rattle.spa_meet_commands.proofs.lists.viewed.Goals as goal

pub loop-left-init : goal.loop-left-init
loop-left-init c = subst (Passed c.args.bytes.now c.args.bytes.now) (sym c.new-objects.ensures.items) (begins c.args.bytes.now)

pub loop-left-preserved : goal.loop-left-preserved
loop-left-preserved c =
    let objects = c.loop-left.objects.items in
    let more = objects ++ c.in_ok-object.object ∷ [] in
    let pushed : c.push.new.self.items ≡ more =
    c.push.ensures.items ∙ ap (λ b. if b then more else objects) (c.is_err.ensures.negation ∙ ap not c.if-is_err.false) in
    subst (Passed c.args.bytes.now c.behind_front-left.result.now) (sym pushed)
    (passes c.args.bytes.now c.loop-left.left.now c.behind_front-left.result.now objects c.in_ok-object.object c.loop-left.invariant
    c.in_ok-object.ensures.object c.behind_front-left.ensures)

pub returns-clause-list : goal.returns-clause-list
returns-clause-list c =
    ends c.args.bytes.now c.loop-left.left.now c.loop-left.objects.items
    (nil_from_length _ (eqb-true _ _ (sym c.is_empty.ensures ∙ c.loop-left-test.false))) c.loop-left.invariant

pub returns-clause-objects : goal.returns-clause-objects
returns-clause-objects c =
    all_viewed c.args.bytes.now c.loop-left.left.now c.loop-left.objects.items
    (nil_from_length _ (eqb-true _ _ (sym c.is_empty.ensures ∙ c.loop-left-test.false))) c.loop-left.invariant
