use Rattle.std.proofs.Common.{◌∙◌, sym, ap, length, ◌-◌, ◌/◌}
use Rattle.std.proofs.Math.Nat.{div-zero}
use Rattle.spa_view.proofs.ReadElements.{counted}
use Rattle.spa_view.proofs.arrays.PodArray.len.Goals as goal

pub returns-then-size-eq0-clause-accepted : goal.returns-then-size-eq0-clause-accepted
returns-then-size-eq0-clause-accepted c k xs h =
    let n = length c.args.self.now.body.now - 8 in
    sym (ap (λ s. n / s) (sym c.element_size-size.ensures ∙ c.if-size-eq0.true) ∙ div-zero n) ∙ counted k xs c.args.self.now.body.now h

pub returns-clause-accepted : goal.returns-clause-accepted
returns-clause-accepted c k xs h =
    ap (λ s. (length c.args.self.now.body.now - 8) / s) c.element_size-size.ensures ∙ counted k xs c.args.self.now.body.now h
