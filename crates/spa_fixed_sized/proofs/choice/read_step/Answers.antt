use Rattle.std.proofs.Common.{◌≤◌, ◌*◌, ◌∷◌, length, ap, arith, length-drop, ◌∙◌}
use Rattle.spa_fixed_sized.proofs.ChoiceReading.{step_reads, before, whole_behind, three_before}
use Rattle.spa_fixed_sized.proofs.ChoiceReading.{three_whole, room, too_few}
use Rattle.spa_fixed_sized.proofs.Chunks.{whole_elements}
use Rattle.spa_fixed_sized.proofs.choice.read_step.Goals as goal

pub returns-clause-read : goal.returns-clause-read
returns-clause-read g c =
    let met = g.met.T.CanonicalFixedSizedPod in
    let k = g.T.CanonicalFixedSizedPod.kind in
    let f = g.T.CanonicalFixedSizedPod.fixed in
    let s = g.T.CanonicalFixedSizedPod.SIZE in
    let p = g.met.T.ChoiceElement.sized in
    let first = c.next_element-default.ensures in
    let second = c.next_element-min.ensures in
    let third = c.next_element-max.ensures in
    let fourth = c.next_element-step.ensures in
    let r : 4 * s ≤ length c.args.elements.now =
    room 4 c.count.result s (length c.args.elements.now) c.count.ensures (omega arith) in
    let w = three_whole s s _ _ _ _ p c.requires (omega arith) first.rest second.rest third.rest in
    let w4 =
    whole_behind s c.next_element-max.result.0.now c.next_element-step.result.0.now p w.0 w.1
    fourth.rest in
    let more = whole_elements k s c.next_element-step.result.0.now met.its_size w4 in
    let last =
    before k s (f c.next_element-step.result.1) more.0 _ _ met.its_size p fourth.says
    fourth.rest more.1 in
    step_reads k f _ _ _ _ more.0 c.args.elements.now (three_before
    k s _ _ _ (f c.next_element-step.result.1 ∷ more.0) c.args.elements.now _ _ _ met.its_size
    p first.says first.rest second.says second.rest third.says third.rest last)

pub returns-then-count-lt4-clause-refused : goal.returns-then-count-lt4-clause-refused
returns-then-count-lt4-clause-refused g c =
    too_few 4 c.count.result _ _ c.count.ensures c.if-count-lt4.true g.met.T.ChoiceElement.sized

pub next_element-default-requires : goal.next_element-default-requires
next_element-default-requires g c =
    let s = g.T.CanonicalFixedSizedPod.SIZE in
    let all : 4 * s ≤ length c.args.elements.now =
    room 4 c.count.result s _ c.count.ensures c.if-count-lt4.false in
    omega (arith, all)

pub next_element-min-requires : goal.next_element-min-requires
next_element-min-requires g c =
    let s = g.T.CanonicalFixedSizedPod.SIZE in
    let all : 4 * s ≤ length c.args.elements.now =
    room 4 c.count.result s _ c.count.ensures c.if-count-lt4.false in
    let behind_default =
    ap length c.next_element-default.ensures.rest ∙ length-drop s c.args.elements.now in
    omega (arith, all, behind_default)

pub next_element-max-requires : goal.next_element-max-requires
next_element-max-requires g c =
    let s = g.T.CanonicalFixedSizedPod.SIZE in
    let all : 4 * s ≤ length c.args.elements.now =
    room 4 c.count.result s _ c.count.ensures c.if-count-lt4.false in
    let behind_default =
    ap length c.next_element-default.ensures.rest ∙ length-drop s c.args.elements.now in
    let behind_min =
    ap length c.next_element-min.ensures.rest ∙ length-drop s c.next_element-default.result.0.now in
    omega (arith, all, behind_default, behind_min)

pub next_element-step-requires : goal.next_element-step-requires
next_element-step-requires g c =
    let s = g.T.CanonicalFixedSizedPod.SIZE in
    let all : 4 * s ≤ length c.args.elements.now =
    room 4 c.count.result s _ c.count.ensures c.if-count-lt4.false in
    let behind_default =
    ap length c.next_element-default.ensures.rest ∙ length-drop s c.args.elements.now in
    let behind_min =
    ap length c.next_element-min.ensures.rest ∙ length-drop s c.next_element-default.result.0.now in
    let behind_max =
    ap length c.next_element-max.ensures.rest ∙ length-drop s c.next_element-min.result.0.now in
    omega (arith, all, behind_default, behind_min, behind_max)
