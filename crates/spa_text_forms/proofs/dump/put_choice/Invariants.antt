use Rattle.std.proofs.Common.{◌≡◌, ◌++◌}
use Rattle.json.specs.Value.{members_view}
use Rattle.spa_text_forms.specs.Dump.{choice_head, values_below}
use Rattle.spa_text_forms.proofs.dump.put_choice.Given as goal

abbrev pub invariant-loop-turn : goal.invariant-loop-turn
invariant-loop-turn l =
    (l.writer.tokens ≡ (l.fn.writer.tokens ++ choice_head l.shape) ++ values_below l.turn (members_view l.members))
    × (l.writer.before ≡ l.fn.writer.before)
