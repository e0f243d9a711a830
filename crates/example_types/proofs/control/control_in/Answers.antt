use Rattle.libspa.specs.View.{view}
use Rattle.example_types.proofs.Controls.{of_no_object}
use Rattle.example_types.proofs.Values.{not_object}
use Rattle.example_types.proofs.control.control_in.Goals as goal

pub returns-in_default-clause-refused : goal.returns-in_default-clause-refused
returns-in_default-clause-refused c =
    let law = c.trees_have_their_types.ensures in
    of_no_object (view c.args.value) (not_object law.arrays law.choices law.objects c.args.value c.in_default.not-Object)
