use Rattle.std.proofs.Common.{◌≡◌, drop}
use Rattle.json.specs.Tree.{MembersHaveNumbers}
use Rattle.json.specs.Value.{members_view}
use Rattle.spa_text_commands.proofs.params.put_numbers.Given as goal

abbrev pub invariant-loop-member : goal.invariant-loop-member
invariant-loop-member l =
    MembersHaveNumbers (members_view (drop l.member-index l.members)) × (l.writer.before ≡ l.fn.writer.before)
