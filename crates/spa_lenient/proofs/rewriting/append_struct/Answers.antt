use Rattle.std.proofs.Common.{refl}
use Rattle.spa_lenient.proofs.Structs.{struct_appended}
use Rattle.spa_lenient.proofs.rewriting.append_struct.Goals as goal

pub returns-then-append_struct_of-clause-appended : goal.returns-then-append_struct_of-clause-appended
returns-then-append_struct_of-clause-appended c =
    struct_appended _ _ _ _ _ _ c.in_ok-front.ensures.there c.if-front.false (c.if-append_struct_of.ensures.appended refl)
