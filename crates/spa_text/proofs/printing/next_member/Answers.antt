use Rattle.std.proofs.Common.{false, refl, subst}
use Rattle.spa_value.specs.View.{view}
use Rattle.spa_text_read.specs.Grammar.{nothing}
use Rattle.spa_text.specs.Left.{PrintsOrBegins}
use Rattle.spa_text.specs.declared.printing.Begun.{Begun}
use Rattle.spa_text.specs.declared.printing.Left.TheVariants as left
use Rattle.spa_text.proofs.Continuing.{members_ended, member_begun, member_printed}
use Rattle.spa_text.proofs.Exactly.{member_done, member_opened, members_done}
use Rattle.spa_text.proofs.printing.next_member.Goals as goal

pub returns-in_default-clause-written : goal.returns-in_default-clause-written
returns-in_default-clause-written c = (
  members_ended c.args.members.now _ _ c.in_default.ensures.cases c.in_ok-end_array.ensures.ok,
  members_done c.args.members.now _ _ c.in_default.ensures.cases c.in_ok-end_array.ensures.ok,
)

pub returns-in-None-clause-written : goal.returns-in-None-clause-written
returns-in-None-clause-written c =
    let written = subst (λ b. PrintsOrBegins nothing (view c.in-Some.member.now) b c.args.out.now.tokens c.print_or_begin.new.out.tokens) c.in-None.is c.in_ok-begun.ensures.written in (
      member_printed c.args.members.now c.in-Some.member.now c.in-Some.behind.now _ _ c.in-Some.ensures.cases.0 written.0,
      member_done c.args.members.now c.in-Some.member.now c.in-Some.behind.now _ _ c.in-Some.ensures.cases.0 written.1,
    )

pub returns-in-Some-2-clause-written : goal.returns-in-Some-2-clause-written
returns-in-Some-2-clause-written c =
    let written = subst (λ b. PrintsOrBegins nothing (view c.in-Some.member.now) b c.args.out.now.tokens c.print_or_begin.new.out.tokens) c.in-Some-2.is c.in_ok-begun.ensures.written in
    let rest : Begun = record { left = left.Members c.in-Some.behind; braced = false } in (
      member_begun c.args.members.now c.in-Some.member.now c.in-Some.behind.now c.in-Some-2.begun rest _ _ c.in-Some.ensures.cases.0 refl (λ ts us l. l) written.0,
      member_opened c.args.members.now c.in-Some.member.now c.in-Some.behind.now c.in-Some-2.begun rest _ _ c.in-Some.ensures.cases.0 refl (λ h. h) refl written.1,
    )
