use Rattle.spa_text_commands.proofs.ReadTexts.{found_begins}
use Rattle.spa_text_commands.proofs.reading.add_first.Goals as goal

pub returns-in-Ok-clause-begins : goal.returns-in-Ok-clause-begins
returns-in-Ok-clause-begins c =
    found_begins c.args.form c.args.left.now c.split_line.result.0.now c.split_line.result.1.now c.args.pods.now.items c.read_text.new.pods.items
    c.in-Ok.found c.split_line.ensures.line c.split_line.ensures.behind c.in-Ok.ensures.found
