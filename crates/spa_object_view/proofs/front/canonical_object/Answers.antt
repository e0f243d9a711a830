use Rattle.std.proofs.Common.{arith}
use Rattle.spa_format.specs.Typed.{IsBytes}
use Rattle.spa_object_view.proofs.Opening.{begins_leaves, begins_view}
use Rattle.spa_object_view.proofs.front.canonical_object.Goals as goal

pub returns-then-are_flat_properties : goal.returns-then-are_flat_properties
returns-then-are_flat_properties c =
    begins_leaves _ _ _ c.in_ok-object.object c.requires c.in_ok-object.ensures.parts (c.are_flat_properties.ensures c.if-are_flat_properties.true)

pub returns : goal.returns
returns c =
    let bytes : IsBytes c.args.input.now = λ i. omega (arith, c.type_inv.input i) in
    begins_view _ _ _ _ c.in_ok-object.object bytes c.in_ok-_rest.ensures.taken c.requires c.in_ok-object.ensures.parts
