use Rattle.std.proofs.Common.{◌∙◌, ℕ, List, [], sym}
use Rattle.std.proofs.lemmas.List.{drop_more, drop_all}
use Rattle.std.specs.Borrow.{Bor}
use Rattle.pod_commands.proofs.Twice.{all_files, one_file_more}
use Rattle.pod_commands.proofs.run.are_regular.Goals as goal

pub loop-name-init : goal.loop-name-init
loop-name-init g c = λ files. files

pub loop-name-preserved : goal.loop-name-preserved
loop-name-preserved g c =
    let d : Bor (List ℕ) = record { ref_ptr = (0, 0); now = [] } in
    one_file_more c.args.names.now _ _ _ (drop_more c.args.names.now c.loop-name.name-index d c.loop-name-test.true) (sym c.eq.ensures ∙ c.if-eq.false) c.loop-name.invariant

pub returns : goal.returns
returns g c = λ true. all_files c.args.names.now _ (drop_all c.loop-name.name-index c.args.names.now c.loop-name-test.false) c.loop-name.invariant
