use Rattle.pod_commands.specs.declared.request.Streaming.TheVariants.{Json, Rewrite, Print}
use Rattle.pod_commands.proofs.Blocks.{unmade_by, written_by}
use Rattle.pod_commands.proofs.streaming.StreamingBlockWriter.write_block.Goals as goal

pub returns-in-Json-clause-written : goal.returns-in-Json-clause-written
returns-in-Json-clause-written g c =
    written_by c.args.self.now (Json c.in-Json.style) c.args.count c.args.place _ _ _ c.write_texts.result c.in-Json.is c.write_texts.ensures.written

pub returns-in-Json-clause-refused : goal.returns-in-Json-clause-refused
returns-in-Json-clause-refused g c =
    unmade_by c.args.self.now (Json c.in-Json.style) c.args.count c.args.place _ _ _ _ c.write_texts.result c.in-Json.is c.write_texts.ensures.refused

pub returns-in-Rewrite-clause-written : goal.returns-in-Rewrite-clause-written
returns-in-Rewrite-clause-written g c =
    written_by c.args.self.now Rewrite c.args.count c.args.place _ _ _ c.write_block.result c.in-Rewrite.is c.write_block.ensures.written

pub returns-in-Rewrite-clause-refused : goal.returns-in-Rewrite-clause-refused
returns-in-Rewrite-clause-refused g c =
    unmade_by c.args.self.now Rewrite c.args.count c.args.place _ _ _ _ c.write_block.result c.in-Rewrite.is c.write_block.ensures.refused

pub returns-in-Print-clause-written : goal.returns-in-Print-clause-written
returns-in-Print-clause-written g c =
    written_by c.args.self.now (Print c.in-Print.printing) c.args.count c.args.place _ _ _ c.write_printed.result c.in-Print.is c.write_printed.ensures.written

pub returns-in-Print-clause-refused : goal.returns-in-Print-clause-refused
returns-in-Print-clause-refused g c =
    unmade_by c.args.self.now (Print c.in-Print.printing) c.args.count c.args.place _ _ _ _ c.write_printed.result c.in-Print.is c.write_printed.ensures.refused
