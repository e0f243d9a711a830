use Rattle.std.proofs.Common.{◌+◌, ◌-◌, [], ◌∷◌, ap, refl, sym, ◌∙◌, arith, append-nil}
use Rattle.spa_items.specs.Items.{items_in}
use Rattle.spa_items.specs.Puts.{inner_items}
use Rattle.spa_items.proofs.Listed.{in_none, in_pods, no_levels, their_items}
use Rattle.spa_items.proofs.Overlays.{both_put}
use Rattle.spa_items.proofs.listing.list_pod.Goals as goal
use Rattle.spa_items.proofs.listing.list_pod.Goals.{then-levels-gt1, else-levels-gt1}

pub returns-in_default-clause-put : goal.returns-in_default-clause-put
returns-in_default-clause-put c = λ b i.
    let some = c.requires.some in
    record {
      items = _;
      put = both_put _ _ _ _ _ _ _ _ c.put.ensures c.put_elements-behind.ensures.put;
      all =
          sym (their_items _ (c.args.levels - 1) _ _ _ _ _ _ _ _ _ (omega arith) i c.key_len.ensures refl c.head.ensures
          (in_none _ _ _ _ _ c.in_default.ensures.other c.in_default.ensures.short)) ∙ sym (append-nil _);
    }

pub returns-clause-put : goal.returns-clause-put
returns-clause-put c = λ b i.
    let some = c.requires.some in
    let inside = c.in-Some.inside in
    let n = c.args.levels - 1 in
    let depth = c.args.depth + 1 in
    let at = c.args.level.at + c.key_len.result + 8 in
    let x = c.head.result in
    let inner = items_in n depth inside.keyed (at + c.key_len-2.result) inside.pods.now in
    let all =
    their_items c.args.levels n _ _ _ _ _ _ _ _ inner (omega arith) i c.key_len.ensures refl c.head.ensures
    (ap (λ k. items_in n depth inside.keyed (at + k) inside.pods.now) c.key_len-2.ensures ∙ in_pods _ _ _ _ _ _ _ c.in-Some.ensures.there) in
    elim c.if-levels-gt1.branch [
      | then-levels-gt1 w ↦
          record { items = x ∷ []; put = c.put.ensures; all = sym all ∙ ap (λ o. x ∷ inner_items n depth o) (sym w.result-is) }
      | else-levels-gt1 w ↦
          let few = w.if-levels-gt1.false in
          record {
            items = x ∷ [];
            put = c.put.ensures;
            all =
                sym all ∙ ap (λ ys. x ∷ ys) (no_levels n depth _ _ _ (omega arith))
                ∙ ap (λ o. x ∷ inner_items n depth o) (sym w.result-is);
          }
    ]
