use Rattle.std.proofs.Common.{◌++◌, ap, sym, ◌∙◌, subst}
use Rattle.spa_builder.specs.Framed.{IsGrown}
use Rattle.spa_builder.proofs.Bodies.{array_written, grown_by, grown_either, grown_twice, not_grown}
use Rattle.spa_builder.proofs.bytes.put_bodies.Goals as goal

pub returns-in_err-append_array-clause-grown : goal.returns-in_err-append_array-clause-grown
returns-in_err-append_array-clause-grown g c = subst (IsGrown c.args.bytes.now) (sym c.in_err-append_array.ensures.unchanged) (not_grown _)

pub returns-in_err-put_each-clause-grown : goal.returns-in_err-put_each-clause-grown
returns-in_err-put_each-clause-grown g c = grown_twice _ _ _ (grown_by _ _ _ c.in_ok-append_array.ensures.ok) c.put_each.ensures.grown

pub returns-clause-ok : goal.returns-clause-ok
returns-clause-ok g c =
    let met = g.met.T.CanonicalFixedSizedPod in
    array_written c.put_padding.result _ _ _ _ _ _ _ _ _ _ (c.in_ok-append_array.ensures.ok ∙ ap (λ y. c.args.bytes.now ++ y) c.joined.ensures)
    c.two_words-array.ensures c.two_words-child.ensures (c.SIZE.ensures ∙ met.its_size) (c.TYPE.ensures ∙ met.its_type)
    c.in_ok-put_each.ensures.ok c.put_padding.ensures.ok

pub returns-clause-grown : goal.returns-clause-grown
returns-clause-grown g c =
    grown_twice _ _ _ (grown_by _ _ _ c.in_ok-append_array.ensures.ok)
    (grown_twice _ _ _ c.put_each.ensures.grown (grown_either c.put_padding.result _ _ _ c.put_padding.ensures.ok c.put_padding.ensures.unchanged))
