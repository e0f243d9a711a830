use Rattle.std.proofs.Common.{[], ◌∷◌, ◌++◌, ap, subst, sym, ◌∙◌}
use Rattle.std.proofs.lemmas.List.{nil_from_length}
use Rattle.spa_value.specs.View.{view}
use Rattle.spa_text_read.specs.Grammar.{nothing}
use Rattle.spa_text.specs.Left.{PrintsNext, PrintsOrBegins}
use Rattle.spa_text.specs.Printed.{HasNoFloat, tokens_of}
use Rattle.spa_text.proofs.Continuing.{first_printed, first_within, last_ended, one_begun, one_ended, one_printed}
use Rattle.spa_text.proofs.Exactly.{first_left, inner_left, last_left, next_left, one_left}
use Rattle.spa_text.proofs.printing.print_value.Goals as goal

pub loop-outer-init : goal.loop-outer-init
loop-outer-init c =
    let written = subst (λ b. PrintsOrBegins nothing (view c.args.value.now) b c.args.out.now.tokens c.print_or_begin.new.out.tokens) c.in-Some.is c.in_ok-first.ensures.written in
    let v = view c.args.value.now in (
      first_within v c.in-Some.first c.new-outer.result.items _ _ c.new-outer.ensures.items written.0,
      first_left (HasNoFloat v) (tokens_of nothing v) c.in-Some.first c.new-outer.result.items _ _ c.new-outer.ensures.items written.1,
    )

pub returns-in_default-pop : goal.returns-in_default-pop
returns-in_default-pop c =
    let written = subst (λ n. PrintsNext c.loop-outer.inner.left n c.loop-outer.out.tokens c.print_next.new.out.tokens) c.in-Ended.is c.in_ok-print_next.ensures.written in
    let v = view c.args.value.now in
    let none = nil_from_length c.loop-outer.outer.items (sym c.loop-outer.outer.ok.0 ∙ c.in_default-pop.ensures.cases.0) in
    last_ended v c.loop-outer.inner c.loop-outer.outer.items _ _ _ none c.loop-outer.invariant.0 written.0
    (last_left (HasNoFloat v) (tokens_of nothing v) c.loop-outer.inner c.loop-outer.outer.items _ _ _ none c.loop-outer.invariant.1 written.1)

pub loop-outer-preserved-in-Continue-branch-5 : goal.loop-outer-preserved-in-Continue-branch-5
loop-outer-preserved-in-Continue-branch-5 c =
    let written = subst (λ n. PrintsNext c.loop-outer.inner.left n c.loop-outer.out.tokens c.print_next.new.out.tokens) c.in-Ended.is c.in_ok-print_next.ensures.written in
    let v = view c.args.value.now in (
      one_ended v c.loop-outer.inner c.in-Some-pop.around c.loop-outer.outer.items c.pop.new.self.items _ _ _ _ c.in-Some-pop.ensures.items
          c.loop-outer.invariant.0 written.0 c.in_ok-end_braced-in-Ended.ensures,
      one_left (HasNoFloat v) (tokens_of nothing v) c.loop-outer.inner c.in-Some-pop.around c.loop-outer.outer.items c.pop.new.self.items _ _ _ _
          c.in-Some-pop.ensures.items c.loop-outer.invariant.1 written.1 c.in_ok-end_braced-in-Ended.ensures,
    )

pub loop-outer-preserved-in-Printed : goal.loop-outer-preserved-in-Printed
loop-outer-preserved-in-Printed c =
    let written = subst (λ n. PrintsNext c.loop-outer.inner.left n c.loop-outer.out.tokens c.print_next.new.out.tokens) c.in-Printed.is c.in_ok-print_next.ensures.written in
    let v = view c.args.value.now in (
      one_printed v c.loop-outer.inner c.in-Printed.rest _ _ _ _ c.loop-outer.invariant.0 written.0,
      next_left (HasNoFloat v) (tokens_of nothing v) c.loop-outer.inner c.in-Printed.rest _ _ _ _ c.loop-outer.invariant.1 written.1,
    )

pub loop-outer-preserved : goal.loop-outer-preserved
loop-outer-preserved c =
    let written = subst (λ n. PrintsNext c.loop-outer.inner.left n c.loop-outer.out.tokens c.print_next.new.out.tokens) c.in-Begun.is c.in_ok-print_next.ensures.written in
    let more = c.push_reserved.ensures.items ∙ ap (λ l. l ++ c.in-Begun.rest ∷ []) c.in_ok-reserve-in-Begun.ensures.items in
    let v = view c.args.value.now in (
      one_begun v c.loop-outer.inner c.in-Begun.rest c.in-Begun.begun c.loop-outer.outer.items c.push_reserved.new.self.items _ _ _ more
          c.loop-outer.invariant.0 written.0,
      inner_left (HasNoFloat v) (tokens_of nothing v) c.loop-outer.inner c.in-Begun.rest c.in-Begun.begun c.loop-outer.outer.items
          c.push_reserved.new.self.items _ _ _ more c.loop-outer.invariant.1 written.1,
    )

pub returns-in_default : goal.returns-in_default
returns-in_default c =
    first_printed (view c.args.value.now) _ _
    (subst (λ b. PrintsOrBegins nothing (view c.args.value.now) b c.args.out.now.tokens c.print_or_begin.new.out.tokens) c.in_default.is
    c.in_ok-first.ensures.written)
