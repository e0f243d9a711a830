use Rattle.std.proofs.Common.{◌≡◌, ◌+◌, ◌-◌, ◌<◌, [], ◌∷◌, ◌++◌, length, ap, arith, false, get_or, refl, set, subst, sym, ◌∙◌}
use Rattle.spa_events.specs.declared.inside.Inside.{Inside}
use Rattle.spa_format.specs.Words.{padded_size}
use Rattle.spa_items.specs.Items.{items_in}
use Rattle.spa_items.specs.Puts.{inner_items}
use Rattle.spa_items.proofs.Firsts.{first_ends, whole_behind_first, whole_key}
use Rattle.spa_items.proofs.Listed.{next_listed, none_listed}
use Rattle.spa_items.proofs.Overlays.{all_put, begun, left_renamed, more_put}
use Rattle.spa_items.proofs.Waiting.{AreWithin, begin_waiting, ends_within, left_waiting, popped, pushed, split_first, waited, waiting_in, waiting_items, waits, within_more}
use Rattle.spa_items.proofs.listing.list_pods.Goals as goal

pub loop-first-init : goal.loop-first-init
loop-first-init c = record {
  put = left_renamed _ _ _ _ _ _ _ (begin_waiting _ _) (begun _ _ _);
  deep = omega arith;
  room = omega arith;
  whole = refl;
  ends = omega arith;
  within = omega arith;
}

pub loop-first-preserved : goal.loop-first-preserved
loop-first-preserved c =
    let l = c.loop-first in
    let i = l.invariant in
    let f = c.in-Some.ensures.first in
    let fits = f.fits in
    let inner = c.in-Some-inner.inner in
    let inside = rw c.in-Some-inner.is at c.list_pod-listed.ensures.inner in
    let levels = c.args.levels - l.depth in
    let depth = l.depth in
    let listed = c.list_pod-listed.ensures.put _ f in
    let around = waiting_in l.outer depth in
    let end = l.level.at + length l.level.pods.now in
    let others = waiting_items c.args.levels end around in
    let at = l.level.at + (length l.level.pods.now - length c.in-Some.first.rest.now) in
    let rest = items_in levels depth l.level.keyed at c.in-Some.first.rest.now in
    let behind : Inside = record { keyed = l.level.keyed; pods = c.in-Some.first.rest } in
    let next = next_listed levels depth l.level.keyed l.level.at l.level.pods.now c.in-Some.first f in
    let long = l.auto.outer in
    let few = c.requires.few in
    let deep = i.deep in
    let room = i.room in
    let more : 1 < levels = inside.0 in
    let p = pushed l.outer (set l.outer depth behind) depth behind refl (omega arith) in
    let n = ap left_waiting p in
    let ends : padded_size (inner.at + length inner.pods.now) ≡ at = first_ends _ _ _ _ _ _ _ i.whole f inside.2 inside.3 in
    let same_end : end ≡ at + length c.in-Some.first.rest.now = omega arith in
    let w = waits c.args.levels (inner.at + length inner.pods.now) at depth l.outer behind ends (omega arith) in
    let fewer : levels - 1 ≡ c.args.levels - (depth + 1) = omega arith in
    let whole_outer = whole_key l.level.keyed in
    let whole_inner = whole_key inner.keyed in
    let its_at = inside.2 in
    let whole = i.whole in
    let same : inner_items (levels - 1) (depth + 1) c.list_pod-listed.result.inner ++ (rest ++ others)
    ≡ items_in (c.args.levels - (depth + 1)) (depth + 1) inner.keyed inner.at inner.pods.now
    ++ waiting_items c.args.levels (inner.at + length inner.pods.now) (waiting_in (set l.outer depth behind) (depth + 1)) =
    ap (λ o. inner_items (levels - 1) (depth + 1) o ++ (rest ++ others)) c.in-Some-inner.is
    ∙ ap (λ k. items_in k (depth + 1) inner.keyed inner.at inner.pods.now ++ (rest ++ others)) fewer
    ∙ ap (λ e. items_in (c.args.levels - (depth + 1)) (depth + 1) inner.keyed inner.at inner.pods.now ++ (rest ++ waiting_items c.args.levels e around)) same_end
    ∙ ap (λ xs. items_in (c.args.levels - (depth + 1)) (depth + 1) inner.keyed inner.at inner.pods.now ++ xs) (sym w) in
    record {
      put =
          left_renamed _ _ _ _ _ _ _ same
          (more_put _ _ _ _ _ _ _ _ _ (left_renamed _ _ _ _ _ _ _ (split_first _ _ _ _ _ others next listed.all) i.put) listed.put);
      deep = omega arith;
      room = omega (arith, inside.1, inside.3, n);
      whole = omega (arith, its_at, whole, whole_outer, whole_inner);
      ends = (let e = i.ends in omega (arith, ends, e, same_end));
      within =
          subst (AreWithin (length c.args.pods.now) (inner.at + length inner.pods.now)) (sym p)
          (within_more _ _ _ behind around ends (subst (λ e. AreWithin (length c.args.pods.now) e around) same_end i.within));
    }

pub loop-first-preserved-in_default-inner : goal.loop-first-preserved-in_default-inner
loop-first-preserved-in_default-inner c =
    let l = c.loop-first in
    let i = l.invariant in
    let f = c.in-Some.ensures.first in
    let fits = f.fits in
    let few = c.list_pod-listed.ensures.few in
    let levels = c.args.levels - l.depth in
    let depth = l.depth in
    let listed = c.list_pod-listed.ensures.put _ f in
    let around = waiting_in l.outer depth in
    let end = l.level.at + length l.level.pods.now in
    let others = waiting_items c.args.levels end around in
    let at = l.level.at + (length l.level.pods.now - length c.in-Some.first.rest.now) in
    let rest = items_in levels depth l.level.keyed at c.in-Some.first.rest.now in
    let next = next_listed levels depth l.level.keyed l.level.at l.level.pods.now c.in-Some.first f in
    let room = i.room in
    let same_end : end ≡ at + length c.in-Some.first.rest.now = omega arith in
    let same : inner_items (levels - 1) (depth + 1) c.list_pod-listed.result.inner ++ (rest ++ others)
    ≡ rest ++ waiting_items c.args.levels (at + length c.in-Some.first.rest.now) around =
    ap (λ o. inner_items (levels - 1) (depth + 1) o ++ (rest ++ others)) c.in_default-inner.is
    ∙ ap (λ e. rest ++ waiting_items c.args.levels e around) same_end in
    record {
      put =
          left_renamed _ _ _ _ _ _ _ same
          (more_put _ _ _ _ _ _ _ _ _ (left_renamed _ _ _ _ _ _ _ (split_first _ _ _ _ _ others next listed.all) i.put) listed.put);
      deep = i.deep;
      room = omega arith;
      whole = whole_behind_first _ _ _ _ i.whole f;
      ends = (let e = i.ends in omega (arith, e, same_end));
      within = subst (λ e. AreWithin (length c.args.pods.now) e around) same_end i.within;
    }

pub returns-then-depth-eq0 : goal.returns-then-depth-eq0
returns-then-depth-eq0 c =
    let l = c.loop-first in
    let end = l.level.at + length l.level.pods.now in
    let none = none_listed (c.args.levels - l.depth) l.depth _ l.level.at _ c.in_default.ensures.none in
    all_put _ _ _ _ _ _ l.invariant.put
    (ap (λ xs. xs ++ waiting_items c.args.levels end (waiting_in l.outer l.depth)) none
    ∙ ap (λ d. waiting_items c.args.levels end (waiting_in l.outer d)) c.if-depth-eq0.true)

pub loop-first-preserved-in_default : goal.loop-first-preserved-in_default
loop-first-preserved-in_default c =
    let l = c.loop-first in
    let i = l.invariant in
    let some = c.if-depth-eq0.false in
    let deep = i.deep in
    let fewer = l.depth - 1 in
    let none : Inside = record { keyed = false; pods = record { ref_ptr = (0, 0); now = [] } } in
    let long = l.auto.outer in
    let few = c.requires.few in
    let end = l.level.at + length l.level.pods.now in
    let p = popped l.outer l.depth fewer none (omega arith) (omega arith) in
    let w = waited c.args.levels end l.depth fewer l.outer none (omega arith) (omega arith) in
    let n = ap left_waiting p in
    let inside : AreWithin (length c.args.pods.now) end (get_or l.outer fewer none ∷ waiting_in l.outer fewer) =
    subst (AreWithin (length c.args.pods.now) end) p i.within in
    let room = i.room in
    let ended = none_listed (c.args.levels - l.depth) l.depth _ l.level.at _ c.in_default.ensures.none in
    let f = get_or l.outer fewer none in
    let at : padded_size end ≡ c.behind_padding.result = sym c.behind_padding.ensures in
    let within = subst (λ x. AreWithin (length c.args.pods.now) (x + length f.pods.now) (waiting_in l.outer fewer)) at inside.1 in
    let found = ap
    (λ x. items_in (c.args.levels - fewer) fewer f.keyed x f.pods.now
    ++ waiting_items c.args.levels (x + length f.pods.now) (waiting_in l.outer fewer)) at in
    record {
      put = left_renamed _ _ _ _ _ _ _ (ap (λ xs. xs ++ waiting_items c.args.levels end (waiting_in l.outer l.depth)) ended ∙ w ∙ found) i.put;
      deep = omega arith;
      room = omega arith;
      whole = (let e = c.behind_padding.ensures in omega (arith, e));
      ends = ends_within _ _ _ within;
      within = within;
    }
