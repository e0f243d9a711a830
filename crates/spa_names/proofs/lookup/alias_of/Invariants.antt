use Rattle.std.proofs.Common.{◌≡◌, None, take}
use Rattle.std.specs.List.{find}
use Rattle.std.specs.Str.{bytes_eq}
use Rattle.spa_names.proofs.lookup.alias_of.Given as goal

abbrev pub invariant-loop-alias : goal.invariant-loop-alias
invariant-loop-alias l = find (λ alias. bytes_eq alias.0.now l.name) (take l.alias-index l.aliases) ≡ None
