use Rattle.std.proofs.Common.{ℕ, List, [], get_or, inl, subst}
use Rattle.std.proofs.lemmas.List.{drop_more, drop_all}
use Rattle.std.specs.Borrow.{Bor}
use Rattle.pod_commands.specs.Answers.{IsUnworked}
use Rattle.pod_commands.specs.Working.{WorksThrough}
use Rattle.pod_commands.proofs.Worked.{begins, finished, goes_on}
use Rattle.spa_bytes.proofs.Passing.{passed_on}
use Rattle.pod_commands.proofs.making.make_what_is_read.Goals as goal

pub loop-name-init : goal.loop-name-init
loop-name-init g c = begins _ _ _ _ _ _ _ _ c.new-out.ensures.items c.new-refused.ensures.items

pub loop-name-preserved : goal.loop-name-preserved
loop-name-preserved g c =
    let d : Bor (List ℕ) = record { ref_ptr = (0, 0); now = [] } in
    let name = (get_or c.args.names.now c.loop-name.name-index d).now in
    let olds = c.loop-name.refused.items in
    let news = c.work_through.new.said.items in
    goes_on _ _ _ _ _ _ _ _ _ _ _ c.in_ok-bytes.bytes.items c.in-Ok.made.items _ _ olds news
    (drop_more c.args.names.now c.loop-name.name-index d c.loop-name-test.true) c.in_ok-bytes.ensures.all c.read_named.ensures.left
    (subst (λ bytes. WorksThrough c.args.manner.reading c.args.manner.refused c.args.making name bytes c.in-Ok.made.items olds news)
    c.as_slice.ensures.value c.in-Ok.ensures)
    c.in_ok-add.ensures c.loop-name.invariant

pub returns-clause-made : goal.returns-clause-made
returns-clause-made g c =
    finished _ _ _ _ _ _ _ _ _ _ (drop_all c.loop-name.name-index c.args.names.now c.loop-name-test.false) c.loop-name.invariant

pub returns-in_err-bytes-clause-refused : goal.returns-in_err-bytes-clause-refused
returns-in_err-bytes-clause-refused g c = passed_on c.from_residual.result _ (IsUnworked c.args.manner.refused c.args.making) c.from_residual.ensures.1 (inl c.in_err-bytes.ensures.cause)
