use Rattle.std.proofs.Common.{◌≡◌, true, ◌&&◌, [], ◌∷◌, ◌++◌, rules, ap, ◌∙◌}
use Rattle.spa_value.specs.Comparison.{all_eq, pair_eq}
use Rattle.spa_value.proofs.PairsLeft.{goes_in, goes_out, goes_to}
use Rattle.spa_value.proofs.equality.same_within.Goals as goal

pub loop-around-preserved-in-Some : goal.loop-around-preserved-in-Some
loop-around-preserved-in-Some c =
    let l = c.loop-around in
    let outer = c.in-Some.outer in
    let parts : l.around.items ≡ c.pop.new.self.items ++ outer ∷ [] = search rules in
    let same : true ≡ pair_eq l.pair = search rules in
    goes_out l.pair outer l.around.items c.pop.new.self.items parts same ∙ l.invariant

pub loop-around-preserved-in_ok-push-in-Inside : goal.loop-around-preserved-in_ok-push-in-Inside
loop-around-preserved-in_ok-push-in-Inside c =
    let l = c.loop-around in
    let inside = c.in-Inside.ensures in
    goes_in l.pair c.in-Inside.inner c.in-Inside.left l.around.items c.push.new.self.items
    c.in_ok-push-in-Inside.ensures.items inside.0
    ∙ l.invariant

pub loop-around-preserved : goal.loop-around-preserved
loop-around-preserved c =
    let l = c.loop-around in
    let inside = c.in-Inside.ensures in
    let done = c.is_done.ensures c.if-not-is_done.false in
    ap (λ b. b && all_eq l.around.items)
    (goes_to l.pair c.in-Inside.inner c.in-Inside.left done inside.0)
    ∙ l.invariant
