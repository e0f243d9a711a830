-- The shapes of choices that the type `Shape` stands for: docs/FORMAT.md, "Choices".
use Rattle.spa_format.specs.Tree as format
use Rattle.spa_text_read.specs.declared.shape.Shape.{Shape}
use Rattle.spa_text_read.specs.declared.shape.Shape.TheVariants as shape

abbrev pub shape_of : Shape → format.Shape
shape_of shape.None = format.none_choice
shape_of shape.Range = format.range_choice
shape_of shape.Step = format.step_choice
shape_of shape.Enum = format.enum_choice
shape_of shape.Flags = format.flags_choice
