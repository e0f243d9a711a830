use Rattle.std.proofs.Common.{rules, subst, sym}
use Rattle.spa_text.specs.Written.{BeginsProperty}
use Rattle.std.proofs.Common.{false}
use Rattle.spa_text.proofs.Continuing.{property_bare, property_braced}
use Rattle.spa_text.proofs.printing.begin_property.Goals as goal

pub returns-then-flags-eq0 : goal.returns-then-flags-eq0
returns-then-flags-eq0 c =
    subst (λ f. BeginsProperty false c.args.keys c.args.key f c.args.out.now.tokens c.print_key.new.out.tokens) (sym c.if-flags-eq0.true)
    (property_bare c.args.keys c.args.key _ _ c.in_ok-print_key.ensures)

pub returns : goal.returns
returns c =
    property_braced c.args.keys c.args.key c.args.flags _ _ _ _ _ c.ranges.flags.fits (search rules) c.in_ok-print_key.ensures
    c.in_ok-begin_keyed_object.ensures c.in_ok-u64.ensures.ok c.in_ok-key.ensures.ok
