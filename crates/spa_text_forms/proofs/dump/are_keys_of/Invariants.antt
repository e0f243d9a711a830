use Rattle.std.proofs.Common.{◌≡◌, drop}
use Rattle.json.specs.Value.{members_view}
use Rattle.spa_text_forms.specs.Dump.{are_keys_of}
use Rattle.spa_text_forms.proofs.dump.are_keys_of.Given as goal

abbrev pub invariant-loop-member : goal.invariant-loop-member
invariant-loop-member l = are_keys_of l.shape (members_view (drop l.member-index l.members)) ≡ are_keys_of l.shape (members_view l.members)
