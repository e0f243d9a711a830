use Rattle.std.proofs.Common.{◌≡◌, [], length, refl, ap, ◌∙◌, arith}
use Rattle.std.proofs.lemmas.List.{append-nil}
use Rattle.spa_format.specs.Encoding.{encoding_of}
use Rattle.spa_builder.specs.Fields.{BuilderFields}
use Rattle.spa_builder.specs.Making.{state_of_value}
use Rattle.spa_builder.proofs.Leaving.{count_of, none_opened}
use Rattle.spa_builder.proofs.Steps.{spells}
use Rattle.spa_builder.proofs.builder.Builder.finish.Goals as goal

pub returns-clause-made : goal.returns-clause-made
returns-clause-made c s at =
    let n = c.len.ensures ∙ ap (λ (h : BuilderFields). length h.frames) c.self.view_is
    ∙ count_of c.args.self s at in
    let none : s.opened ≡ [] = none_opened s.opened
    (let z = c.if-len-gt0.false in omega arith) in (
      none,
      c.into_inner.ensures ∙ ap (λ (h : BuilderFields). h.bytes) c.self.view_is
          ∙ (spells c.args.self s at).all none,
    )

pub returns-clause-built : goal.returns-clause-built
returns-clause-built c v at =
    c.into_inner.ensures ∙ ap (λ (h : BuilderFields). h.bytes) c.self.view_is
    ∙ (spells c.args.self (state_of_value v) at).all refl ∙ append-nil (encoding_of v)
