use Rattle.std.proofs.Common.{subst}
use Rattle.spa_object_view.specs.Meeting.{AreStopped}
use Rattle.spa_negotiate.specs.Meeting.{IsMetAt}
use Rattle.spa_negotiate.specs.Refusals.{IsKeyRefusal}
use Rattle.spa_negotiate.proofs.Fronts.{apart, refused}
use Rattle.spa_negotiate.proofs.pods.refusal.Goals as goal

pub returns-in-Apart : goal.returns-in-Apart
returns-in-Apart c = λ a b h. apart a b _ (subst (AreStopped IsMetAt IsKeyRefusal a b) c.in-Apart.is h)

pub returns-in-Refused : goal.returns-in-Refused
returns-in-Refused c = λ a b h. refused a b _ (subst (AreStopped IsMetAt IsKeyRefusal a b) c.in-Refused.is h)
