use Rattle.std.proofs.Common.{subst}
use Rattle.std.proofs.lemmas.Result.{err_from_is_err_and}
use Rattle.spa_format.specs.Front.{Begins}
use Rattle.spa_typed_read.specs.Visiting.{declined_array}
use Rattle.spa_typed_read.proofs.deserializer.PodDeserializer.deserialize_array.Goals as goal

pub returns-in_err-value-clause-refused : goal.returns-in_err-value-clause-refused
returns-in_err-value-clause-refused g c =
    let p = err_from_is_err_and c.from_residual-in_err-value.result c.from_residual-in_err-value.ensures.1 in
    let read = c.in_ok-items.ensures.read in
    rw (p.1, p.2)
    (declined_array c.in_ok-items.items (subst (Begins c.args.self) read.holds read.begins) c.in_err-value.ensures.declined)

pub returns-clause-read : goal.returns-clause-read
returns-clause-read g c =
    let read = c.in_ok-items.ensures.read in
    record {
      value = read.value;
      begins = read.begins;
      follows = read.follows;
      holds = (c.in_ok-items.items, read.holds, c.in_ok-value.ensures.made);
    }
