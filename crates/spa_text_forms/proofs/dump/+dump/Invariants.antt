use Rattle.std.proofs.Common.{◌≡◌, ◌++◌, ◌+◌, ◌*◌, drop, length}
use Rattle.json.specs.Tree.{json_tokens, members_tokens, MembersHaveNumbers}
use Rattle.json.specs.Value.{members_view, value_view}
use Rattle.spa_text_forms.specs.Dump.{dumped_properties}
use Rattle.spa_text_forms.proofs.dump.+dump.Given as goal

abbrev pub decreases-put_value : goal.decreases-put_value
decreases-put_value l = 3 * length (json_tokens (value_view l.value.now))

abbrev pub decreases-put_members : goal.decreases-put_members
decreases-put_members l = 3 * length (members_tokens (members_view l.members.now)) + 2

abbrev pub decreases-put_properties : goal.decreases-put_properties
decreases-put_properties l = 3 * length (members_tokens (members_view l.members.now)) + 1

abbrev pub invariant-put_properties-loop-member : goal.invariant-put_properties-loop-member
invariant-put_properties-loop-member l =
    let rest = members_view (drop l.member-index l.members) in
    (l.writer.tokens ++ dumped_properties l.type_ l.video rest
    ≡ l.initial.writer.tokens ++ dumped_properties l.type_ l.video (members_view l.members))
    × MembersHaveNumbers rest × (l.writer.before ≡ l.initial.writer.before)
