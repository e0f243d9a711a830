use Rattle.std.proofs.Common.{ap, subst, sym, ◌∙◌}
use Rattle.std.specs.Prelude.{Some}
use Rattle.spa_format.specs.Tree.{struct}
use Rattle.spa_value.specs.View.{view}
use Rattle.spa_value.specs.Views.{views}
use Rattle.spa_value.proofs.ViewLaws.{view-struct}
use Rattle.spa_text.specs.Left.{PrintsOrBegins}
use Rattle.spa_text.proofs.Continuing.{not_begun}
use Rattle.spa_text.proofs.printing.print_or_begin.Goals as goal

pub returns-in-Ok-clause-written : goal.returns-in-Ok-clause-written
returns-in-Ok-clause-written c =
    let same = ap view c.in-Struct.is ∙ view-struct c.in-Struct.members ∙ ap (λ l. struct (views l)) (sym c.as_slice.ensures.value) in
    subst (λ t. PrintsOrBegins c.args.expected t (Some c.in-Ok.begun) c.args.out.now.tokens c.begin_struct.new.out.tokens)
    (sym same) (c.in-Ok.ensures.written c.args.expected)

pub returns-in-Ok-begin_object-clause-written : goal.returns-in-Ok-begin_object-clause-written
returns-in-Ok-begin_object-clause-written c =
    subst (λ t. PrintsOrBegins c.args.expected t (Some c.in-Ok-begin_object.begun) c.args.out.now.tokens c.begin_object.new.out.tokens)
    (sym (ap view c.in-Object.is)) (c.in-Ok-begin_object.ensures.written c.args.expected)

pub returns-in-Ok-print_whole-clause-written : goal.returns-in-Ok-print_whole-clause-written
returns-in-Ok-print_whole-clause-written c =
    let other = c.in_default in
    not_begun c.args.expected c.args.value.now c.args.out.now.tokens c.print_whole.new.out.tokens other.not-Struct other.not-Object
    c.in-Ok-print_whole.ensures
