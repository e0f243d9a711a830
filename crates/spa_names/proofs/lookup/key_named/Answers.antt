use Rattle.std.proofs.Common.{◌∙◌, ap, refl, sym}
use Rattle.std.specs.Option.{option_map_or}
use Rattle.spa_names.specs.declared.entry.TheConstants.Expected.{NOTHING}
use Rattle.spa_names.proofs.Found.{entry_there, named_there}
use Rattle.spa_names.proofs.lookup.key_named.Goals as goal

pub returns-then-has_name : goal.returns-then-has_name
returns-then-has_name c =
    let at = c.in-Some.ensures.lookup.3 in
    let entry = c.in-Some.key.now in (
      sym (named_there c.args.keys c.args.name.now _ c.entries_of-entries.ensures _ entry at.0 at.1 (sym c.if-has_name.ensures)),
      c.expected_at.ensures
          ∙ ap (λ found. option_map_or (λ row. row.3) found NOTHING)
          (entry_there c.args.keys entry.0 _ c.entries_of-entries.ensures _ entry at.0 at.1 refl),
    )
