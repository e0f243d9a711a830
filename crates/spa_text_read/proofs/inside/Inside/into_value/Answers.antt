use Rattle.std.proofs.Common.{sym, ap, ◌∙◌}
use Rattle.std.specs.Prelude.{Some}
use Rattle.spa_value.proofs.ViewLaws.{view-object, view-struct}
use Rattle.spa_text_read.specs.Seen.{frame_of}
use Rattle.spa_text_read.specs.Steps.{value_of}
use Rattle.spa_text_read.proofs.ViewLaws.{array_whole}
use Rattle.spa_text_read.proofs.inside.Inside.into_value.Goals as goal

pub returns-in-Struct : goal.returns-in-Struct
returns-in-Struct c = record {
  value = ap (λ i. value_of (frame_of i)) c.in-Struct.is ∙ ap Some (sym (view-struct c.in-Struct.members));
}

pub returns-in-Array : goal.returns-in-Array
returns-in-Array c = record {
  value = ap (λ i. value_of (frame_of i)) c.in-Array.is ∙ ap Some (array_whole c.in-Array.values);
}

pub returns-in-Object : goal.returns-in-Object
returns-in-Object c =
    let o = c.in-Object.object in
    record {
      value = ap (λ i. value_of (frame_of i)) c.in-Object.is ∙ ap Some (sym (view-object o.type_ o.id o.properties));
    }
