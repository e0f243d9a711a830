use Rattle.std.proofs.Common.{subst}
use Rattle.spa_filter.specs.Refusals.{IsKeyRefusal}
use Rattle.spa_object_view.specs.Meeting.{AreStopped}
use Rattle.spa_filter_pods.specs.Fronts.{FiltersAt}
use Rattle.spa_filter_pods.proofs.Fronts.{apart, refused, too_large}
use Rattle.spa_filter_pods.proofs.pods.refusal.Goals as goal

pub returns-in-Apart : goal.returns-in-Apart
returns-in-Apart c = λ a b h. apart a b _ (subst (AreStopped FiltersAt IsKeyRefusal a b) c.in-Apart.is h)

pub returns-in-Refused : goal.returns-in-Refused
returns-in-Refused c = λ a b h. refused a b _ (subst (AreStopped FiltersAt IsKeyRefusal a b) c.in-Refused.is h)

pub returns-in-TooLarge : goal.returns-in-TooLarge
returns-in-TooLarge c = λ a b h. too_large a b (subst (AreStopped FiltersAt IsKeyRefusal a b) c.in-TooLarge.is h)
