use Rattle.spa_value.proofs.ViewLaws.{view-object}
use Rattle.spa_value.proofs.nested_copies.CopiedObject.into_object.Goals as goal

pub returns : goal.returns
returns c = view-object c.args.self.type_ c.args.self.id c.args.self.copies
