use Rattle.std.proofs.Common.{◌≡◌, ◌+◌, ◌∙◌, ap, arith, length, rules, sym}
use Rattle.spav.specs.Items.{settled_at}
use Rattle.spav.proofs.ItemsRead.{at_front, inside_choice}
use Rattle.spav.proofs.Placed.{body_at, body_within, other_at}
use Rattle.spav.proofs.setting.body_under.Goals as goal
use Rattle.spav.proofs.setting.body_under.Goals.{then-extent, else-extent, then-type_-TYPE-via-then-type_-TYPE, then-type_-TYPE-via-else-type_-TYPE+then-size-SIZE}

-- where the pod begins whose body is the value's
pub placed : (g : Rattle.spav.proofs.setting.body_under.Given.Over) (c : goal.After-row_known-1 g) →
    c.if-extent.at ≡ c.spav_find-answer.new.at + settled_at c.split_at.result.1.now
placed g c =
    let there = c.in-Some.ensures.there in
    let front = c.in-Some.ensures.front in
    let x = c.extent.ensures in
    let y = c.extent-2.ensures in
    let b = ap length c.settled-settled.ensures.bytes in
    elim c.if-extent.branch [
      | then-extent w ↦ let h = w.if-extent.true in let e = inside_choice _ _ there front (omega arith) in omega (arith, w.at-is, e)
      | else-extent w ↦ let h = w.if-extent.false in let e = at_front _ _ there front (omega arith) in omega (arith, w.at-is, e)
    ]

pub returns-then-type_-TYPE-clause-other : goal.returns-then-type_-TYPE-clause-other
returns-then-type_-TYPE-clause-other g c = λ _.
    let its_type = c.TYPE.ensures ∙ g.met.T.CanonicalFixedSizedPod.its_type in
    other_at _ _ _ _ _ _ _ (c.spav_find-answer.ensures.found (search rules)) c.split_at.ensures.back c.in-Some.ensures.front c.settled-settled.ensures.bytes
    (λ is. elim c.then-type_-TYPE.branch [
      | then-type_-TYPE-via-then-type_-TYPE w ↦ w.if-type_-TYPE.true (c.type_.ensures ∙ is.0 ∙ sym its_type)
      | then-type_-TYPE-via-else-type_-TYPE+then-size-SIZE w ↦
          w.if-size-SIZE.true (w.size.ensures ∙ is.1 ∙ sym (w.SIZE.ensures ∙ g.met.T.CanonicalFixedSizedPod.its_size))
    ])

pub returns-clause-body : goal.returns-clause-body
returns-clause-body g c =
    let its_type = sym c.type_.ensures ∙ c.if-type_-TYPE.false ∙ c.TYPE.ensures ∙ g.met.T.CanonicalFixedSizedPod.its_type in
    let its_size = sym c.size.ensures ∙ c.if-size-SIZE.false ∙ c.SIZE.ensures ∙ g.met.T.CanonicalFixedSizedPod.its_size in
    body_at _ _ _ _ _ _ _ _ (c.spav_find-answer.ensures.found (search rules)) c.split_at.ensures.back c.in-Some.ensures.there c.in-Some.ensures.front
    c.settled-settled.ensures.bytes its_type its_size (ap (λ n. n + 8) (placed g c))

pub returns-clause-within : goal.returns-clause-within
returns-clause-within g c =
    let its_size = sym c.size.ensures ∙ c.if-size-SIZE.false ∙ c.SIZE.ensures in
    let l = c.if-at-input.false in
    body_within _ _ _ _ _ _ _ l c.split_at.ensures.back c.in-Some.ensures.there c.in-Some.ensures.front c.settled-settled.ensures.bytes its_size
    (ap (λ n. n + 8) (placed g c))
