-- Values of fixed size as leaves.
use Rattle.std.proofs.Common.{◌≡◌, List, [], ◌∷◌, ◌++◌, refl, ap}
use Rattle.std.specs.Prelude.{None}
use Rattle.spa_format.specs.Tree.{array, property, no_properties, join_properties}
use Rattle.spa_value.specs.declared.array.ValueArray.{ValueArray}
use Rattle.spa_value.specs.declared.array.ValueArray.TheVariants as A
use Rattle.spa_value.specs.declared.object.Object.{Object}
use Rattle.spa_value.specs.declared.object.Property.{Property}
use Rattle.spa_value.proofs.ViewLaws.{view-fields}
use Rattle.spa_value.specs.View.{array_view, object_view, view}
use Rattle.spa_value.specs.Views.{property_views}
use Rattle.spa_text_read.specs.Steps.{fixed_part}
use Rattle.spa_text_read.specs.Seen.{items_in, kind_in}

pub object_part : (o : Object) → fixed_part (object_view o) ≡ None
object_part o = ap fixed_part (view-fields o)

pub property_views_one : (ps : List Property) (p : Property) →
    property_views (ps ++ p ∷ []) ≡ join_properties (property_views ps) (property p.key p.flags.0 (view p.value) no_properties)
property_views_one [] p = refl
property_views_one (q ∷ ps) p = ap (property q.key q.flags.0 (view q.value)) (property_views_one ps p)

-- the array of these values
pub array_whole : (a : ValueArray) → array (kind_in a) (items_in a) ≡ array_view a
array_whole (A.None xs) = refl
array_whole (A.Bool xs) = refl
array_whole (A.Id xs) = refl
array_whole (A.Int xs) = refl
array_whole (A.Long xs) = refl
array_whole (A.Float xs) = refl
array_whole (A.Double xs) = refl
array_whole (A.Rectangle xs) = refl
array_whole (A.Fraction xs) = refl
array_whole (A.Fd xs) = refl
