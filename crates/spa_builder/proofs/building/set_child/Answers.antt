use Rattle.spa_builder.proofs.Members.{replaced_two}
use Rattle.spa_builder.proofs.building.set_child.Goals as goal

pub returns-then-first-clause-first : goal.returns-then-first-clause-first
returns-then-first-clause-first c t front back a b s e =
    replaced_two front back c.args.bytes.now c.patch_two.new.self a b c.args.size c.args.type_
    c.args.at
    s e c.patch_two.ensures
