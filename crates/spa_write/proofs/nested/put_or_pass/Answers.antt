use Rattle.std.proofs.Common.{◌∙◌, ap, sym, refl}
use Rattle.spa_format.specs.Tree.{struct}
use Rattle.spa_value.specs.View.{view}
use Rattle.spa_value.specs.Views.{views}
use Rattle.spa_value.proofs.ViewLaws.{view-struct}
use Rattle.spa_write.proofs.nested.put_or_pass.Goals as goal

pub returns-in-Struct-clause-put : goal.returns-in-Struct-clause-put
returns-in-Struct-clause-put c = (
  ap (λ l. struct (views l)) c.as_slice.ensures.value ∙ sym (view-struct c.in-Struct.members) ∙ sym (ap view c.in-Struct.is),
  refl,
)
