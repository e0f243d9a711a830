use Rattle.std.proofs.Common.{◌≡◌, ◌++◌, sym, subst}
use Rattle.spa_format.specs.Encoding.{member_encodings}
use Rattle.spa_format.specs.Tree.{Tree}
use Rattle.spa_text_forms.specs.Forms.{IsTextAs}
use Rattle.spa_text_commands.specs.Texts.{pods_in}
use Rattle.spa_text_commands.proofs.ReadTexts.{struct_added}
use Rattle.spa_text_commands.proofs.reading.add_at_once.Goals as goal

pub returns-in-Named-clause-added : goal.returns-in-Named-clause-added
returns-in-Named-clause-added c = λ t.
    subst (λ f. (v : Tree) × IsTextAs f v c.args.text.now × (c.add_struct.new.pods.items ≡ c.args.pods.now.items ++ member_encodings (pods_in f v)))
    (sym c.in-Named.is) (struct_added c.in-Named.strictness _ _ _ (c.add_struct.ensures.added t))
