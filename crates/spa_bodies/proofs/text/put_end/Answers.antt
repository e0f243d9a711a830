use Rattle.std.proofs.Common.{◌≡◌, ℕ, suc, ◌+◌, ◌-◌, ◌%◌, ◌∷◌, ◌∙◌, ap, arith, subst, take}
use Rattle.std.specs.Prelude.{replicate}
use Rattle.std.proofs.lemmas.List.{take-replicate}
use Rattle.std.proofs.lemmas.Result.{on_err_weaker}
use Rattle.spa_format.specs.Words.{padded_size, padding}
use Rattle.spa_bodies.proofs.text.put_end.Goals as goal

-- the zeros that are taken
zeros_taken : (len : ℕ) → take (8 - len % 8) (replicate 8 0) ≡ 0 ∷ padding (len + 1)
zeros_taken len =
    let count : 8 - len % 8 ≡ suc (padded_size (len + 1) - (len + 1)) = omega arith in
    take-replicate (8 - len % 8) 8 0 (omega arith) ∙ ap (λ n. replicate n 0) count

pub returns-clause-begun : goal.returns-clause-begun
returns-clause-begun g c =
    on_err_weaker c.append.result
    (λ h. (h.0, subst (λ l. g.S.PodSink.appends c.args.sink.now (take h.0 l) c.append.new.self) (zeros_taken c.args.len) h.1))
    c.append.ensures.begun
