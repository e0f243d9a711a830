use Rattle.std.proofs.Common.{arith, refl}
use Rattle.spa_format.specs.Typed.{IsBytes}
use Rattle.spa_canonical.proofs.Accepted.{front_stops, inside_stops}
use Rattle.spa_canonical.proofs.Faulted.{leaf_differs, leaf_there, no_leaf_body, short_there}
use Rattle.spa_canonical.proofs.Levels.{too_deep}
use Rattle.spa_canonical.proofs.Looks.{inside_own, own_opened}
use Rattle.spa_canonical.proofs.ShorterLemmas.{shorter_inside, shorter_opened}
use Rattle.spa_canonical.proofs.look.look_at_front.Goals as goal

pub returns-in_default : goal.returns-in_default
returns-in_default c =
    let f = short_there _ c.in_default.ensures.short in (
      λ _ rest k. c.in_default.ensures.short k.begins.begins.there,
      λ _. record { refused = f.refused; alone = f.alone; named = λ why s. front_stops _ why s },
    )

pub returns-in-None : goal.returns-in-None
returns-in-None c =
    let o = c.in-Some.ensures.there in
    let other = c.in_default-inside_of.ensures in
    let n = c.in-None.ensures.none in (
      λ t rest. leaf_differs _ _ _ _ o other.other other.short (n.differs t) rest,
      λ e.
          let f = leaf_there _ _ _ _ o other.other other.short (no_leaf_body _ _ _ _ o (n.refused e)) in
          record { refused = f.refused; alone = f.alone; named = λ why s. front_stops _ why s },
    )

pub returns-in-Fits : goal.returns-in-Fits
returns-in-Fits c =
    let bytes : IsBytes c.args.input.now = λ i. omega (arith, c.type_inv.input i) in
    let o = c.in-Some.ensures.there in
    let i = c.in-Some-inside_of.ensures.there in
    record {
      shorter = shorter_opened _ _ _ _ _ o (shorter_inside _ _ _ _ _ i c.in-Fits.ensures.shorter);
      own = λ t. own_opened _ _ _ _ _ _ bytes o i (c.in-Fits.ensures.own t);
    }

pub returns-in-Stops : goal.returns-in-Stops
returns-in-Stops c =
    let bytes : IsBytes c.args.input.now = λ i. omega (arith, c.type_inv.input i) in
    let o = c.in-Some.ensures.there in
    let i = c.in-Some-inside_of.ensures.there in (
      λ t rest k. c.in-Stops.ensures.differs t (inside_own _ _ _ _ _ _ _ bytes o i k),
      λ e.
          let s = c.in-Stops.ensures.fault e in
          record { refused = s.refused; alone = s.alone; named = λ why w. inside_stops _ _ _ _ _ _ _ _ _ why o i s refl w },
    )

pub returns-in-Full : goal.returns-in-Full
returns-in-Full c = too_deep _ _ _ _ _ _ c.in-Some.ensures.there c.in-Some-inside_of.ensures.there c.in-Full.ensures
