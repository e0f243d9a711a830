use Rattle.std.proofs.Common.{◌∙◌}
use Rattle.spa_read.specs.declared.inside.OpenObject.{OpenObject}
use Rattle.spa_read.proofs.Bodies.{reaches_property}
use Rattle.spa_read.proofs.inside.OpenObjectGrows.reach.Goals as goal

pub returns-clause-reached : goal.returns-clause-reached
returns-clause-reached c =
    let was = c.args.self.now in
    let reached : OpenObject = record {
      type_ = was.type_;
      id = was.id;
      properties = was.properties;
      key = c.u32_at-self.result;
      flags = c.from_bits_retain-self.result;
    } in
    reaches_property reached _ _ c.if-left-lt-HEADER_LEN.false c.split_at.ensures.back c.u32_at-self.ensures
    (c.from_bits_retain-self.ensures tt ∙ c.u32_at.ensures)
