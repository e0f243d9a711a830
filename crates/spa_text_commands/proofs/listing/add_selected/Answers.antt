use Rattle.std.proofs.Common.{rules}
use Rattle.spa_text_commands.proofs.Values.{found_selected, not_selected, pod_selected}
use Rattle.spa_text_commands.proofs.listing.add_selected.Goals as goal

pub returns-then-not-has_pod-clause-added : goal.returns-then-not-has_pod-clause-added
returns-then-not-has_pod-clause-added c =
    not_selected c.args.printout.form c.args.printout.selection c.args.count c.args.place _ _ c.has_pod.result c.has_pod.ensures (search rules)

pub returns-then-looks_inside-clause-added : goal.returns-then-looks_inside-clause-added
returns-then-looks_inside-clause-added c =
    found_selected c.args.printout.form c.args.printout.selection c.args.count c.args.place _ _ _ c.has_pod.result c.looks_inside.result c.add_found.result
    c.has_pod.ensures (search rules) c.looks_inside.ensures (search rules) c.add_found.ensures.added

pub returns-clause-added : goal.returns-clause-added
returns-clause-added c =
    pod_selected c.args.printout.form c.args.printout.selection c.args.count c.args.place _ _ _ c.has_pod.result c.looks_inside.result c.add_part.result
    c.has_pod.ensures (search rules) c.looks_inside.ensures (search rules) c.add_part.ensures.added
