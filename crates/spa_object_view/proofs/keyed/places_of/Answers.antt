use Rattle.std.proofs.Common.{◌≡◌, ◌+◌, ◌-◌, ◌*◌, sym, ap, subst, length, arith, rules}
use Rattle.spa_format.specs.Typed.{IsBytes}
use Rattle.spa_object_view.specs.KeyOrder.{place_word}
use Rattle.spa_object_view.proofs.Listed.{listed}
use Rattle.spa_object_view.proofs.KeyOrders.{ArePlaced, placed_begun, placed_on, placed_all}
use Rattle.spa_object_view.proofs.keyed.places_of.Goals as goal

pub loop-first-init : goal.loop-first-init
loop-first-init c = record {
  shorter = omega arith;
  placed = λ ps w.
      let bytes : IsBytes c.args.properties.now = λ i. omega (arith, c.type_inv.properties i) in
      subst (ArePlaced ps c.args.properties.now c.args.properties.now) (sym c.new-places.ensures.items)
      (placed_begun ps c.args.properties.now (listed ps c.args.properties.now bytes w.properties w.same));
}

pub loop-first-preserved : goal.loop-first-preserved
loop-first-preserved c = record {
  shorter = let less = c.in-Some.ensures.shorter in let before = c.loop-first.invariant.shorter in omega arith;
  placed = λ ps w.
      let key : c.from.result ≡ c.in-Some.first.key = search rules in
      let word = c.from.result * 4294967296 + (length c.args.properties.now - length c.loop-first.left.now) in
      let is : word ≡ place_word c.in-Some.first.key (length c.args.properties.now - length c.loop-first.left.now) =
      ap (λ k. k * 4294967296 + (length c.args.properties.now - length c.loop-first.left.now)) key in
      subst (ArePlaced ps c.args.properties.now c.in-Some.first.rest.now) (sym c.in_ok-push.ensures.items)
      (placed_on ps _ _ _ _ _ _ _ word c.in-Some.ensures.first is (c.loop-first.invariant.placed ps w));
}

pub returns : goal.returns
returns c = λ ps w. placed_all ps _ _ _ c.in_default.ensures.none (c.loop-first.invariant.placed ps w)
