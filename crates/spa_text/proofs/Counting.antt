-- How many pods a value is.
use Rattle.std.proofs.Common.{◌≡◌, Vec, Global, ℕ, ◌+◌, ◌*◌, List, length, ap}
use Rattle.std.specs.List.{sum_by}
use Rattle.spa_format.specs.Tree.{node_count, member_node_count, property_node_count}
use Rattle.spa_value.specs.declared.object.Object.{Object, out-Object}
use Rattle.spa_value.specs.declared.value.Value.{Value}
use Rattle.spa_value.specs.declared.value.Value.TheVariants as V
use Rattle.spa_value.proofs.ViewLaws.{view-fields, view-struct}
use Rattle.spa_value.specs.View.{object_view, view}
use Rattle.spa_value.specs.Views.{property_views, views}
use Rattle.spa_text.specs.Left.{left_count}
use Rattle.spa_text.specs.declared.printing.Begun.{Begun}
pub use Rattle.spa_format.proofs.Shapes.{some_node}

-- how many pods an object is, and a struct
pub object_nodes : (o : Object) → node_count (object_view o) ≡ 1 + property_node_count (property_views (out-Object o).properties.items)
object_nodes o = ap node_count (view-fields o)

pub struct_nodes : (vs : Vec Value Global) → node_count (view (V.Struct vs)) ≡ 1 + member_node_count (views vs.items)
struct_nodes vs = ap node_count (view-struct vs)

-- ---- What is left of the values that are begun

abbrev begun_count : Begun → ℕ
begun_count b = left_count b.left

-- for each value that is left two, and one for each that is begun around the innermost
abbrev pub steps_left : Begun → List Begun → ℕ
steps_left b outer = length outer + 2 * (left_count b.left + sum_by begun_count outer)
