use Rattle.std.proofs.Common.{⊎_elim, arith, refl}
use Rattle.libspa.specs.Tree.{object}
use Rattle.spa_names.specs.declared.ids.TheConstants.{PARAM_PROCESS_LATENCY}
use Rattle.spa_names.specs.declared.types.TheConstants.{OBJECT_PARAM_PROCESS_LATENCY}
use Rattle.example_types.proofs.Latencies.{comes_back, written}
use Rattle.example_types.proofs.latency.latencies_come_back.Goals as goal

pub returns-clause-read : goal.returns-clause-read
returns-clause-read c = λ given back rest left t w r.
    let h = c.exact_types_come_back.ensures.read (object OBJECT_PARAM_PROCESS_LATENCY PARAM_PROCESS_LATENCY (written given)) rest left back t w r in
    (comes_back given back h.0.properties h.0.is h.0.are.0 h.0.are.1.0 h.0.are.1.1.0, h.1)

pub returns-clause-never_refused : goal.returns-clause-never_refused
returns-clause-never_refused c = λ given rest e t w refused.
    let value = object OBJECT_PARAM_PROCESS_LATENCY PARAM_PROCESS_LATENCY (written given) in
    let lacks =
    c.exact_types_come_back.ensures.refused value rest given e t w
    (record { properties = written given; is = refl; are = (refl, (refl, (refl, tt))) }) refused in
    let begins = c.encodings_read_back.ensures.value value rest t w in
    let asked = c.passing_takes_no_memory.ensures _ OBJECT_PARAM_PROCESS_LATENCY PARAM_PROCESS_LATENCY (written given) begins (omega arith) lacks.1 in
    ⊎_elim (λ u. u.holds) (⊎_elim (λ u. u.holds) (⊎_elim (λ u. u.holds) (λ n. n))) asked
