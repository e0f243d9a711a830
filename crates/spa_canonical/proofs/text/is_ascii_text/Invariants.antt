use Rattle.std.proofs.Common.{◌≡◌, ◌≤◌, ◌-◌, drop, length}
use Rattle.spa_canonical.specs.Canonical.{IsAsciiFor}
use Rattle.spa_canonical.proofs.text.is_ascii_text.Given as goal

abbrev pub invariant-loop-left : goal.invariant-loop-left
invariant-loop-left l = record {
  within : length l.left ≤ length l.text;
  ascii : IsAsciiFor (length l.text - length l.left) l.text;
  same : l.left ≡ drop (length l.text - length l.left) l.text;
}

abbrev pub decreases-loop-left : goal.decreases-loop-left
decreases-loop-left l = length l.left
