use Rattle.std.proofs.Common.{refl}
use Rattle.std.proofs.lemmas.Result.{err_from_is_err_and}
use Rattle.spa_format.specs.Tree.{string, string_type}
use Rattle.spa_typed_read.specs.Asking.{of_type}
use Rattle.spa_typed_read.proofs.Asking.{lacks_memory}
use Rattle.spa_typed_read.proofs.builtin.StringPodDeserialize.deserialize.Goals as goal

pub returns-in_err-from_str-clause-refused : goal.returns-in_err-from_str-clause-refused
returns-in_err-from_str-clause-refused c =
    let p = err_from_is_err_and c.from_residual-in_err-from_str.result c.from_residual-in_err-from_str.ensures.1 in
    rw (p.1, p.2) (lacks_memory (of_type string_type) _ _ (string c.in_ok-text.text.now) refl c.in_ok-text.ensures.read)
