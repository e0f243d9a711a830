use Rattle.std.proofs.Common.{ap, slice_index}
use Rattle.hex.specs.Hex.{lower_digits}
use Rattle.spa_text_commands.proofs.Dumped.{digits_pushed}
use Rattle.spa_text_commands.proofs.dump.add_digits.Goals as goal

pub returns : goal.returns
returns c =
    digits_pushed _ _ _ _ _ c.args.byte c.in_ok-push.ensures.items c.in_ok-push-2.ensures.items (ap (slice_index lower_digits) c.from.ensures)
    (ap (slice_index lower_digits) c.from-2.ensures)
