use Rattle.std.proofs.Common.{◌≡◌, [], ◌∷◌, ◌++◌, rules, sym, ap, subst, ◌∙◌}
use Rattle.spa_value.specs.View.{view}
use Rattle.spa_value.specs.Views.{views}
use Rattle.spa_value.proofs.ViewLaws.{views-push}
use Rattle.spa_typed_read.proofs.Stepping.{Took, failed_further, further_trans, members_refused, no_room_for_member, took_field, took_further, took_none}
use Rattle.spa_visitors.proofs.value_visitor.read_members.Goals as goal

pub loop-member-init : goal.loop-member-init
loop-member-init c =
    let r = c.args.reader.now in
    record { took = subst (λ vs. Took r r (views vs)) (sym c.new-members.ensures.items) (took_none r); good = λ h. h }

pub returns-then-is_err-clause-same : goal.returns-then-is_err-clause-same
returns-then-is_err-clause-same c =
    further_trans _ _ _ (took_further _ _ _ c.loop-member.invariant.took) c.deserialize_field.ensures.same

pub loop-member-preserved : goal.loop-member-preserved
loop-member-preserved c =
    let pushed : c.push_reserved.new.self.items ≡ c.loop-member.members.items ++ c.in-Ok-Some.member ∷ [] = search rules in
    let field = rw c.in-Ok-Some.field-0-is at c.in-Ok-Some.ensures.field in
    record {
      took =
          subst (λ ws. Took c.args.reader.now c.deserialize_field.new.self ws)
          (sym (ap views pushed ∙ views-push c.loop-member.members.items c.in-Ok-Some.member))
          (took_field _ _ _ _ (view c.in-Ok-Some.member) c.loop-member.invariant.took field);
      good = λ h. field.good;
    }

pub returns-in-Err-clause-same : goal.returns-in-Err-clause-same
returns-in-Err-clause-same c =
    further_trans _ _ _ (took_further _ _ _ c.loop-member.invariant.took) c.deserialize_field.ensures.same

pub returns-in-Err-clause-refused : goal.returns-in-Err-clause-refused
returns-in-Err-clause-refused c =
    let i = c.loop-member.invariant in
    let f = took_further _ _ _ i.took in
    record {
      stays = λ failed. c.in-Err.ensures.stays (failed_further _ _ f failed);
      refused = λ good.
          let r = c.in-Err.ensures.refused (i.good good) in
          members_refused _ _ _ f (i.good good) r.0 r.1;
    }

pub returns-then-is_err-clause-refused : goal.returns-then-is_err-clause-refused
returns-then-is_err-clause-refused c =
    let field = rw c.in-Ok-Some.field-0-is at c.in-Ok-Some.ensures.field in
    let f = took_further _ _ _ c.loop-member.invariant.took in
    record {
      stays = λ failed. absurd (cc (field.was_good, failed_further _ _ f failed));
      refused = λ good. no_room_for_member _ _ _ _ f field;
    }
