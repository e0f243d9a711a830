use Rattle.std.proofs.Common.{refl, subst}
use Rattle.spa_value.specs.View.{view}
use Rattle.spa_text_read.specs.Names.{expected_under}
use Rattle.spa_text.specs.Left.{PrintsOrBegins}
use Rattle.spa_text.specs.Written.{BeginsProperty}
use Rattle.spa_text.specs.declared.printing.Begun.{Begun}
use Rattle.spa_text.specs.declared.printing.Left.TheVariants as left
use Rattle.spa_text.proofs.Continuing.{properties_ended, property_begun, property_printed}
use Rattle.spa_text.proofs.Exactly.{properties_done, property_done, property_opened}
use Rattle.spa_text.proofs.printing.next_property.Goals as goal

pub returns-in_default-clause-written : goal.returns-in_default-clause-written
returns-in_default-clause-written c = (
  properties_ended c.args.keys c.args.properties.now _ _ _ c.in_default.ensures.cases c.in_ok-end_object.ensures.ok c.in_ok-end_object-2.ensures.ok,
  properties_done c.args.keys c.args.properties.now _ _ _ c.in_default.ensures.cases c.in_ok-end_object.ensures.ok c.in_ok-end_object-2.ensures.ok,
)

pub returns-in_ok-end_braced-in-None-clause-written : goal.returns-in_ok-end_braced-in-None-clause-written
returns-in_ok-end_braced-in-None-clause-written c =
    let property = c.in-Some.property.now in
    let begins = subst (λ f. BeginsProperty c.in_ok-braced.braced c.args.keys property.key f c.args.out.now.tokens c.begin_property.new.out.tokens) (c.bits.ensures tt) c.in_ok-braced.ensures in
    let some = subst (λ x. PrintsOrBegins x (view property.value) c.in_ok-begun.field-0 c.begin_property.new.out.tokens c.print_or_begin.new.out.tokens) c.expected_under-expected.ensures c.in_ok-begun.ensures.written in
    let written = subst (λ b. PrintsOrBegins (expected_under c.args.keys property.key) (view property.value) b c.begin_property.new.out.tokens c.print_or_begin.new.out.tokens) c.in-None.is some in (
      property_printed c.args.keys c.args.properties.now property c.in-Some.behind.now c.in_ok-braced.braced _ _ _ _ c.in-Some.ensures.cases.0 begins written.0 c.in_ok-end_braced-in-None.ensures,
      property_done c.args.keys c.args.properties.now property c.in-Some.behind.now c.in_ok-braced.braced _ _ _ _ c.in-Some.ensures.cases.0 begins written.1 c.in_ok-end_braced-in-None.ensures,
    )

pub returns-in-Some-2-clause-written : goal.returns-in-Some-2-clause-written
returns-in-Some-2-clause-written c =
    let property = c.in-Some.property.now in
    let begins = subst (λ f. BeginsProperty c.in_ok-braced.braced c.args.keys property.key f c.args.out.now.tokens c.begin_property.new.out.tokens) (c.bits.ensures tt) c.in_ok-braced.ensures in
    let some = subst (λ x. PrintsOrBegins x (view property.value) c.in_ok-begun.field-0 c.begin_property.new.out.tokens c.print_or_begin.new.out.tokens) c.expected_under-expected.ensures c.in_ok-begun.ensures.written in
    let written = subst (λ b. PrintsOrBegins (expected_under c.args.keys property.key) (view property.value) b c.begin_property.new.out.tokens c.print_or_begin.new.out.tokens) c.in-Some-2.is some in
    let rest : Begun = record { left = left.Properties c.in-Some.behind c.args.keys; braced = c.in_ok-braced.braced } in (
      property_begun c.args.keys c.args.properties.now property c.in-Some.behind.now c.in_ok-braced.braced c.in-Some-2.begun rest _ _ _ c.in-Some.ensures.cases.0 refl (λ ts us l. l) begins written.0,
      property_opened c.args.keys c.args.properties.now property c.in-Some.behind.now c.in_ok-braced.braced c.in-Some-2.begun rest _ _ _ c.in-Some.ensures.cases.0 refl (λ h. h) refl begins written.1,
    )
