use Rattle.std.proofs.Common.{◌≡◌, ◌++◌, drop}
use Rattle.json.specs.Tree.{MembersHaveNumbers}
use Rattle.json.specs.Value.{members_view}
use Rattle.spa_text_forms.specs.Dump.{values_at}
use Rattle.spa_text_forms.proofs.dump.put_turn.Given as goal

abbrev pub invariant-loop-member : goal.invariant-loop-member
invariant-loop-member l =
    let rest = members_view (drop l.member-index l.members) in
    (l.writer.tokens ++ values_at l.turn rest ≡ l.fn.writer.tokens ++ values_at l.turn (members_view l.members))
    × MembersHaveNumbers rest × (l.writer.before ≡ l.fn.writer.before)
