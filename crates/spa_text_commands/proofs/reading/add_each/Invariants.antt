use Rattle.std.proofs.Common.{◌≡◌, ◌++◌, drop}
use Rattle.spa_format.specs.Encoding.{member_encodings}
use Rattle.spa_value.specs.Views.{views}
use Rattle.spa_text_commands.specs.Unread.{AreUnwritable}
use Rattle.spa_text_commands.specs.declared.reading.Unread.{Unread}
use Rattle.spa_text_commands.proofs.reading.add_each.Given as goal

abbrev pub invariant-loop-value : goal.invariant-loop-value
invariant-loop-value l =
    let rest = views (drop l.value-index l.values) in
    (l.pods.items ++ member_encodings rest ≡ l.fn.pods.items ++ member_encodings (views l.values))
    × ((why : Unread) → AreUnwritable rest why → AreUnwritable (views l.values) why)
