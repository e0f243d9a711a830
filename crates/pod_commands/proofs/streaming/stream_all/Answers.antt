use Rattle.std.proofs.Common.{◌≡◌, ◌+◌, ◌&&◌, ℕ, List, [], get_or, refl, rules}
use Rattle.std.proofs.lemmas.List.{drop_more, drop_all}
use Rattle.std.specs.Borrow.{Bor}
use Rattle.pod_commands.specs.Inputs.{content_of}
use Rattle.pod_commands.specs.declared.answer.Failure.TheVariants.{OutOfMemory}
use Rattle.pod_commands.proofs.Streamed.{begins, breaks, ends, goes_on, uncounted}
use Rattle.pod_commands.proofs.streaming.stream_all.Goals as goal

pub loop-name-init : goal.loop-name-init
loop-name-init g c = begins _ _ _ _ _ _

pub loop-name-preserved : goal.loop-name-preserved
loop-name-preserved g c =
    let d : Bor (List ℕ) = record { ref_ptr = (0, 0); now = [] } in
    let all : c.in-Some.refused ≡ c.loop-name.made.refused + c.in-Ok.more.refused = search rules in
    goes_on _ _ _ _ _ _ _ _ _ _ c.loop-name.made c.in-Ok.more
    (record { refused = c.in-Some.refused; nothing = c.loop-name.made.nothing && c.in-Ok.more.nothing }) _ _ _
    (drop_more c.args.names.now c.loop-name.name-index d c.loop-name-test.true) c.stream_named.ensures.left c.in-Ok.ensures.streamed all refl
    c.loop-name.invariant

pub returns-in-None-clause-broken : goal.returns-in-None-clause-broken
returns-in-None-clause-broken g c =
    let d : Bor (List ℕ) = record { ref_ptr = (0, 0); now = [] } in
    breaks _ _ _ _ _ _ _ _ _ _ _ _ _ OutOfMemory (drop_more c.args.names.now c.loop-name.name-index d c.loop-name-test.true)
    (uncounted c.args.reading c.args.streaming []
    (content_of (g.R.Read.remaining c.loop-name.input) (g.S.Files.holds c.args.inputs.files.now) (get_or c.args.names.now c.loop-name.name-index d).now)
    _ _ c.in-Ok.more c.in-Ok.ensures.streamed) c.loop-name.invariant

pub returns-in-Err-clause-broken : goal.returns-in-Err-clause-broken
returns-in-Err-clause-broken g c =
    let d : Bor (List ℕ) = record { ref_ptr = (0, 0); now = [] } in
    breaks _ _ _ _ _ _ _ _ _ _ _ _ _ c.in-Err.why (drop_more c.args.names.now c.loop-name.name-index d c.loop-name-test.true)
    c.in-Err.ensures.broken c.loop-name.invariant

pub returns-clause-streamed : goal.returns-clause-streamed
returns-clause-streamed g c =
    ends _ _ _ _ _ _ _ _ _ _ (drop_all c.loop-name.name-index c.args.names.now c.loop-name-test.false) c.loop-name.invariant
