use Rattle.std.proofs.Common.{◌≡◌, ◌≤◌, length, map, take}
use Rattle.spa_format.specs.Kind.{content}
use Rattle.spa_filter.specs.CommonPods.{SideAdmits}
use Rattle.spa_filter_offers.specs.Offers.{IsKept}
use Rattle.spa_filter.proofs.enums.put_kept.Given as goal

abbrev pub invariant-loop-value : goal.invariant-loop-value
invariant-loop-value g l =
    let pod = g.T.CanonicalFixedSizedPod in
    IsKept (SideAdmits pod.kind pod.fixed l.other) (map (content pod.kind) (take l.value-index l.values))
    (map pod.fixed (take l.count l.room)) × (l.count ≤ l.value-index) × (length l.room ≡ length l.initial.room)
