use Rattle.std.proofs.Common.{arith}
use Rattle.spa_bytes.proofs.Passing.{passed_on}
use Rattle.spa_format.specs.Front.{front_of}
use Rattle.spa_format.specs.Typed.{IsBytes}
use Rattle.spa_format.proofs.Exacted.{conveyed_writable}
use Rattle.spa_format.proofs.WordLemmas.{IsBytes-take}
use Rattle.spa_bodies.specs.Refusing.{error_of}
use Rattle.spa_read.proofs.Conveying.{refused_as}
use Rattle.spa_value.specs.View.{view}
use Rattle.spa_lenient.specs.Rewriting.{RefusesFront}
use Rattle.spa_lenient.proofs.Fronts.{refused_read}
use Rattle.spa_lenient.proofs.rewriting.append_by_value.Goals as goal

pub returns-in_err-rest-clause-refused : goal.returns-in_err-rest-clause-refused
returns-in_err-rest-clause-refused c =
    let e = c.in_err-rest.field-0.0 in
    passed_on c.from_residual.result e (λ r. RefusesFront c.args.input.now (error_of r.place r.why)) c.from_residual.ensures.1
    (refused_read _ _ (refused_as _ e.place e.why c.in_err-rest.ensures.refused))

pub append_value-written-requires : goal.append_value-written-requires
append_value-written-requires c =
    let bytes : IsBytes c.args.input.now = λ i. omega (arith, c.type_inv.input i) in
    let v = view c.in_ok-rest.value in
    conveyed_writable (front_of c.args.input.now) v (IsBytes-take _ c.args.input.now bytes) c.in_ok-rest.ensures.read.begins.conveys
