use Rattle.std.proofs.Common.{ℕ, List, []}
use Rattle.std.proofs.lemmas.List.{drop_more, drop_all}
use Rattle.std.specs.Borrow.{Bor}
use Rattle.pod_commands.proofs.Passed.{begins, breaks, finished, goes_on}
use Rattle.pod_commands.proofs.passing.pass_all.Goals as goal

pub loop-name-init : goal.loop-name-init
loop-name-init g c = begins _ _ _ _ _ _ _ _ c.new-said.ensures.items

pub loop-name-preserved : goal.loop-name-preserved
loop-name-preserved g c =
    let d : Bor (List ℕ) = record { ref_ptr = (0, 0); now = [] } in
    goes_on _ _ _ _ _ _ _ _ _ _ _ _ _ _ _ _ (drop_more c.args.names.now c.loop-name.name-index d c.loop-name-test.true)
    c.pass_named.ensures.left c.in-Ok.ensures.passed c.loop-name.invariant

pub returns-in-Err-clause-broken : goal.returns-in-Err-clause-broken
returns-in-Err-clause-broken g c =
    let d : Bor (List ℕ) = record { ref_ptr = (0, 0); now = [] } in
    breaks _ _ _ _ _ _ _ _ _ _ _ _ _ _ c.in-Err.why (drop_more c.args.names.now c.loop-name.name-index d c.loop-name-test.true)
    c.in-Err.ensures.broken c.loop-name.invariant

pub returns-clause-passed : goal.returns-clause-passed
returns-clause-passed g c =
    finished _ _ _ _ _ _ _ _ _ _ _ (drop_all c.loop-name.name-index c.args.names.now c.loop-name-test.false) c.loop-name.invariant
