use Rattle.std.proofs.Common.{ℕ, List, [], inl, inr, refl}
use Rattle.std.proofs.lemmas.List.{drop_more, drop_all}
use Rattle.std.specs.Borrow.{Bor}
use Rattle.pod_commands.specs.Answers.{AreUnmade}
use Rattle.pod_commands.proofs.Made.{begins, ends, goes_on, stopped}
use Rattle.spa_bytes.proofs.Passing.{passed_on}
use Rattle.pod_commands.proofs.making.make_all.Goals as goal

pub loop-name-init : goal.loop-name-init
loop-name-init g c = begins _ _ _ _ _ _ c.new-out.ensures.items

pub loop-name-preserved : goal.loop-name-preserved
loop-name-preserved g c =
    let d : Bor (List ℕ) = record { ref_ptr = (0, 0); now = [] } in
    goes_on _ _ _ _ _ _ _ _ _ _ _ _ _ _ 0 0 0 (drop_more c.args.names.now c.loop-name.name-index d c.loop-name-test.true)
    c.in_ok-bytes.ensures.all c.read_named.ensures.left (c.in_ok-made.ensures.made, refl) c.in_ok-add.ensures refl c.loop-name.invariant

pub returns-clause-made : goal.returns-clause-made
returns-clause-made g c = ends _ _ _ _ _ _ _ _ _ (drop_all c.loop-name.name-index c.args.names.now c.loop-name-test.false) c.loop-name.invariant

pub returns-in_err-bytes-clause-refused : goal.returns-in_err-bytes-clause-refused
returns-in_err-bytes-clause-refused g c =
    passed_on c.from_residual.result _ (AreUnmade c.args.reading c.args.making (g.R.Read.remaining c.args.inputs.input.now) (g.S.Files.holds c.args.inputs.files.now) c.args.names.now)
    c.from_residual.ensures.1 (inl c.in_err-bytes.ensures.cause)

pub returns-in_err-made-clause-refused : goal.returns-in_err-made-clause-refused
returns-in_err-made-clause-refused g c =
    let d : Bor (List ℕ) = record { ref_ptr = (0, 0); now = [] } in
    passed_on c.from_residual-in_err-made.result _ (AreUnmade c.args.reading c.args.making (g.R.Read.remaining c.args.inputs.input.now) (g.S.Files.holds c.args.inputs.files.now) c.args.names.now)
    c.from_residual-in_err-made.ensures.1
    (inr (
      _,
      stopped _ _ _ _ _ _ _ _ _ c.in_ok-bytes.bytes.items c.loop-name.out.items [] 0 c.in_err-made.field-0.0
          (drop_more c.args.names.now c.loop-name.name-index d c.loop-name-test.true) c.in_ok-bytes.ensures.all c.in_err-made.ensures.refused
          c.loop-name.invariant,
    ))

pub returns-in_err-add-clause-refused : goal.returns-in_err-add-clause-refused
returns-in_err-add-clause-refused g c =
    passed_on c.from_residual-in_err-add.result _ (AreUnmade c.args.reading c.args.making (g.R.Read.remaining c.args.inputs.input.now) (g.S.Files.holds c.args.inputs.files.now) c.args.names.now)
    c.from_residual-in_err-add.ensures.1 (inl (inl refl))
