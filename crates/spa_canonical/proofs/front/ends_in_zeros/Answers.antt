use Rattle.std.proofs.Common.{ap, sym, ◌∙◌, arith, ◌^◌, ◌*◌, ◌/◌, ◌%◌}
use Rattle.std.proofs.lemmas.Bool.{eq-eqb, eqb-true}
use Rattle.spa_canonical.proofs.Words.{bytes_of, last_zeros}
use Rattle.spa_canonical.proofs.front.ends_in_zeros.Goals as goal

pub returns-clause-zeros : goal.returns-clause-zeros
returns-clause-zeros c = λ e.
    let room = c.requires.room in
    (last_zeros _ c.args.at _ (bytes_of _ c.type_inv.bytes) (omega arith) (omega arith)).0
    (ap (λ x. x / 2 ^ (8 * (c.args.at % 8))) (sym c.u64_at-last.ensures) ∙ eqb-true _ _ e)

pub returns-clause-found : goal.returns-clause-found
returns-clause-found c = λ z.
    let room = c.requires.room in
    eq-eqb _ 0
    (ap (λ x. x / 2 ^ (8 * (c.args.at % 8))) c.u64_at-last.ensures
    ∙ (last_zeros _ c.args.at _ (bytes_of _ c.type_inv.bytes) (omega arith) (omega arith)).1 z)
