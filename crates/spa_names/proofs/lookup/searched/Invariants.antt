use Rattle.std.proofs.Common.{◌≡◌, None, take}
use Rattle.std.specs.List.{find}
use Rattle.std.specs.Str.{bytes_eq}
use Rattle.spa_names.specs.Rows.{name_in, row_of}
use Rattle.spa_names.proofs.lookup.searched.Given as goal

abbrev pub invariant-loop-entry : goal.invariant-loop-entry
invariant-loop-entry l = find (λ entry. bytes_eq (name_in (row_of entry)) l.name) (take l.entry-index l.entries) ≡ None
