use Rattle.example_types.proofs.Values.{not_float}
use Rattle.example_types.proofs.control.float_of.Goals as goal

pub returns-in_default-clause-none : goal.returns-in_default-clause-none
returns-in_default-clause-none c =
    let law = c.trees_have_their_types.ensures in
    not_float law.arrays law.choices law.objects c.args.value.now c.in_default.not-Float
