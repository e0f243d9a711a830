use Rattle.spa_filter.proofs.Agreeing.{cannot_filter}
use Rattle.spa_filter.proofs.Objects.{objects_refused}
use Rattle.spa_bytes.proofs.Passing.{passed_on}
use Rattle.spa_filter.proofs.filtering.filter.Goals as goal

pub returns-in_err-properties-clause-refused : goal.returns-in_err-properties-clause-refused
returns-in_err-properties-clause-refused c =
    let law = c.objects_are_their_fields.ensures in
    passed_on _ _ _ c.from_residual.ensures.1
    (cannot_filter _ _ _
    (objects_refused law.fields law.made c.args.a.now c.args.b.now _ _ c.as_slice.ensures.value
    c.as_slice-2.ensures.value c.if-a-b.false _ c.in_err-properties.ensures.cause))
