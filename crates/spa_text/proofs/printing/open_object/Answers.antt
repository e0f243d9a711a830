use Rattle.std.proofs.Common.{subst}
use Rattle.std.proofs.lemmas.Result.{on_ok_weaker}
use Rattle.spa_text.specs.Written.{PutsName}
use Rattle.spa_text.proofs.Continuing.{object_opened}
use Rattle.spa_text.proofs.printing.open_object.Goals as goal

pub returns : goal.returns
returns c =
    let id = subst (λ t. PutsName t c.args.id c.key.new.self.tokens c.print_name-2.new.out.tokens) c.ids_of.ensures c.in_ok-print_name-2.ensures in
    on_ok_weaker c.begin_object.result
    (λ e. object_opened c.args.type_ c.args.id _ _ _ _ _ _ _ c.in_ok-begin_keyed_object.ensures c.in_ok-print_name.ensures c.in_ok-key.ensures.ok id
    c.in_ok-key-2.ensures.ok e)
    c.begin_object.ensures.ok
