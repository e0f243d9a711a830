use Rattle.std.proofs.Common.{◌≡◌, ℕ, ◌-◌, ◌%◌, ◌∙◌, ap, arith, subst, take}
use Rattle.std.specs.Prelude.{replicate}
use Rattle.std.proofs.lemmas.List.{take-replicate}
use Rattle.std.proofs.lemmas.Result.{on_err_weaker}
use Rattle.spa_format.specs.Words.{padded_size, padding}
use Rattle.spa_sink.proofs.put.put_padding.Goals as goal

-- the zeros that are taken
zeros_taken : (size : ℕ) → take ((8 - size % 8) % 8) (replicate 8 0) ≡ padding size
zeros_taken size =
    let count : (8 - size % 8) % 8 ≡ padded_size size - size = omega arith in
    take-replicate ((8 - size % 8) % 8) 8 0 (omega arith) ∙ ap (λ n. replicate n 0) count

pub returns-clause-begun : goal.returns-clause-begun
returns-clause-begun g c =
    on_err_weaker c.append.result
    (λ h. (h.0, subst (λ l. g.S.PodSink.appends c.args.sink.now (take h.0 l) c.append.new.self) (zeros_taken c.args.size) h.1))
    c.append.ensures.begun
