use Rattle.std.proofs.Common.{◌∙◌, arith, sym}
use Rattle.std.proofs.lemmas.Bool.{eqb-true}
use Rattle.spa_canonical.proofs.Parts.{shape_of}
use Rattle.spa_canonical.proofs.body.takes_all.Goals as goal

pub returns-clause-taken : goal.returns-clause-taken
returns-clause-taken c = λ e.
    let known = c.if-shape-gt-FLAGS_SHAPE.false in
    let s = shape_of c.args.shape (omega arith) in
    record {
      its_shape = s.0;
      number = s.1;
      keeps = sym (c.written_flags.ensures s.0 s.1) ∙ eqb-true _ _ e;
      taken = sym (c.requires.taken s.0 s.1) ∙ c.if-taken-all.false;
      some = c.requires.some;
    }
