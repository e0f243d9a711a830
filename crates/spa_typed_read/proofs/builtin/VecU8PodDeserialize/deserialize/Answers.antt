use Rattle.std.proofs.Common.{refl}
use Rattle.std.proofs.lemmas.Result.{err_from_is_err_and}
use Rattle.spa_format.specs.Tree.{bytes, bytes_type}
use Rattle.spa_typed_read.specs.Asking.{of_type}
use Rattle.spa_typed_read.proofs.Asking.{lacks_memory}
use Rattle.spa_typed_read.proofs.builtin.VecU8PodDeserialize.deserialize.Goals as goal

pub returns-in_err-from_slice-clause-refused : goal.returns-in_err-from_slice-clause-refused
returns-in_err-from_slice-clause-refused c =
    let p = err_from_is_err_and c.from_residual-in_err-from_slice.result c.from_residual-in_err-from_slice.ensures.1 in
    rw (p.1, p.2) (lacks_memory (of_type bytes_type) _ _ (bytes c.in_ok-bytes.bytes.now) refl c.in_ok-bytes.ensures.read)
