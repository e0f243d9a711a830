use Rattle.std.proofs.Common.{sym, rules}
use Rattle.std.proofs.lemmas.List.{get_or_past}
use Rattle.spa_names.specs.declared.entry.TheConstants.Expected.{NOTHING}
use Rattle.spa_names.specs.declared.key_entries.TheConstants.{EXPECTED}
use Rattle.spa_names.proofs.lookup.expected_at.Goals as goal

pub returns-in-None : goal.returns-in-None
returns-in-None c = sym (get_or_past EXPECTED c.args.place NOTHING (search rules))
