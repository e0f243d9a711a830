use Rattle.spa_builder.proofs.Valued.{is_long}
use Rattle.spa_builder.proofs.values.add_any.Goals as goal

pub add_written-requires-clause-long : goal.add_written-requires-clause-long
add_written-requires-clause-long c =
    let d = c.in_default in
    let law = c.trees_have_their_types.ensures in
    is_long law.arrays law.choices law.objects c.args.value.now d.not-None d.not-Bool d.not-Id
    d.not-Int d.not-Long d.not-Float d.not-Double d.not-Rectangle d.not-Fraction d.not-Fd
