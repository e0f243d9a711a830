-- Values that aren't lists.
use Rattle.std.proofs.Common.{◌≡◌, ◌≢◌, false, ◌==◌, refl, true≢false}
use Rattle.spa_format.specs.Tree.{Tree, struct, member, no_trees, type_of, struct_type}
use Rattle.spa_value.specs.declared.value.Value.{Value}
use Rattle.spa_value.specs.declared.value.Value.TheVariants as V
use Rattle.spa_value.specs.View.{view}
use Rattle.spa_text_commands.specs.Texts.{items_or_one}
use Rattle.spa_text_commands.proofs.Heads.{no_struct}

alone : (t : Tree) → (type_of t == struct_type) ≡ false → items_or_one t ≡ member t no_trees
alone (struct vs) e = absurd (true≢false e)
alone _ e = refl

pub one_pod : (v : Value) → ((x : _) → v ≢ V.Struct x) → items_or_one (view v) ≡ member (view v) no_trees
one_pod v n = alone (view v) (no_struct v n)
