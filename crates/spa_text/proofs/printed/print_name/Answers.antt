use Rattle.spa_text.proofs.Numbers.{unsigned_number-decimal}
use Rattle.spa_text.proofs.Leaf.{unnamed}
use Rattle.std.proofs.lemmas.Result.{on_ok_weaker}
use Rattle.spa_text.proofs.printed.print_name.Goals as goal

pub returns-in-None : goal.returns-in-None
returns-in-None c =
    on_ok_weaker c.u64.result
    (λ e. record {
      token = _;
      appended = e;
      said = unsigned_number-decimal c.args.number c.ranges.number.fits;
      exact = unnamed _ _ c.args.table c.args.number c.in-None.is c.name_of.ensures.name;
    })
    c.u64.ensures.ok
