use Rattle.spa_text_commands.proofs.FirstLine.{line_found, no_line_found}
use Rattle.spa_text_commands.proofs.extent.split_line.Goals as goal

pub returns-in-Some-clause-behind : goal.returns-in-Some-clause-behind
returns-in-Some-clause-behind c = (line_found c.args.bytes.now c.in-Some.at c.memchr.result c.memchr.ensures c.in-Some.is).2

pub returns-in-None-clause-behind : goal.returns-in-None-clause-behind
returns-in-None-clause-behind c = (no_line_found c.args.bytes.now c.memchr.result c.memchr.ensures c.in-None.is).1
