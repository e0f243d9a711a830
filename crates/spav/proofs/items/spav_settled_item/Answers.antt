use Rattle.std.proofs.Common.{◌≡◌, ◌∙◌, ap, arith, length}
use Rattle.spav.specs.Items.{settled_at}
use Rattle.spav.proofs.ItemsRead.{at_front, inside_choice, says_item}
use Rattle.spav.proofs.items.spav_settled_item.Goals as goal
use Rattle.spav.proofs.items.spav_settled_item.Goals.{then-extent, else-extent}

pub returns-in-Some-front_item-clause-said : goal.returns-in-Some-front_item-clause-said
returns-in-Some-front_item-clause-said c = λ z.
    let there = c.in-Some.ensures.there in
    let front = c.in-Some.ensures.front in
    let x = c.extent.ensures in
    let y = c.extent-2.ensures in
    let b = ap length c.settled-settled.ensures.bytes in
    let at : c.if-extent.at ≡ settled_at c.args.input.now = elim c.if-extent.branch [
      | then-extent w ↦ let h = w.if-extent.true in w.at-is ∙ inside_choice _ _ there front (omega arith)
      | else-extent w ↦ let h = w.if-extent.false in w.at-is ∙ at_front _ _ there front (omega arith)
    ] in
    says_item _ _ _ _ _ _ there front c.settled-settled.ensures.bytes c.whole_bytes.ensures.bytes c.whole_bytes.ensures.whole at c.in-Some-front_item.ensures.item
