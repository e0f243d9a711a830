use Rattle.std.proofs.Common.{ap}
use Rattle.spa_format.specs.Encoding.{encoding_of}
use Rattle.spa_format.proofs.Conveyed.{one_value, pod_conveys}
use Rattle.spa_format.proofs.Exacted.{encoding_conveyed}
use Rattle.spa_format.proofs.lenient_laws.lenient_rewritings_stay.Goals as goal

pub returns-clause-stays : goal.returns-clause-stays
returns-clause-stays c b v w f h k =
    ap encoding_of (one_value (encoding_of v) w v k (pod_conveys (encoding_of v) v (encoding_conveyed b v f h)))

pub returns-clause-same : goal.returns-clause-same
returns-clause-same c b v w h k = ap encoding_of (one_value b w v k (pod_conveys b v h))
