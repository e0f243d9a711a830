-- The form of a value: what decides whether it is supported.
use Rattle.std.specs.Prelude.{◌≡◌}
use Rattle.spa_format.specs.Kind.{type_number}
use Rattle.spa_format.specs.Tree.{Tree, choice, none_choice, shape_number}
use Rattle.spa_filter_offers.specs.declared.form.Form.{Form}

-- the form is that of the value: of a choice its shape and the type of its values, of a plain value the shape None
abbrev pub IsFormOf : Tree → Form → Type 0
IsFormOf (choice shape flags kind default values) form = (form.shape ≡ shape_number shape) × (form.type_ ≡ type_number kind)
IsFormOf _ form = form.shape ≡ shape_number none_choice
