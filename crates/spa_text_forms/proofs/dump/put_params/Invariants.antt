use Rattle.std.proofs.Common.{◌≡◌, ◌++◌, ◌∷◌, drop}
use Rattle.json.specs.Token.{begin_array}
use Rattle.json.specs.Tree.{ItemsHaveNumbers}
use Rattle.json.specs.Value.{items_view}
use Rattle.spa_text_forms.specs.Dump.{objects_of}
use Rattle.spa_text_forms.proofs.dump.put_params.Given as goal

abbrev pub invariant-loop-item : goal.invariant-loop-item
invariant-loop-item l =
    let rest = items_view (drop l.item-index l.items) in
    (l.writer.tokens ++ objects_of l.type_ l.id rest ≡ l.fn.writer.tokens ++ begin_array ∷ objects_of l.type_ l.id (items_view l.items))
    × ItemsHaveNumbers rest × (l.writer.before ≡ l.fn.writer.before)
