use Rattle.std.proofs.Common.{◌≡◌, ◌+◌, ◌-◌, ◌++◌, ◌∙◌, ap, arith, drop, length, refl, rules, subst, sym, take}
use Rattle.std.specs.Prelude.{[], vec_len}
use Rattle.std.proofs.lemmas.List.{with_items_is}
use Rattle.spa_canonical.specs.Look.{AreChanged}
use Rattle.spa_canonical.specs.Rewriting.{AreRewritten}
use Rattle.spa_rewrite.proofs.Appended.{written_behind}
use Rattle.spa_rewrite.proofs.Appending.{appended_behind}
use Rattle.spa_canonical.proofs.Written.{take_past}
use Rattle.spa_rewrite.proofs.rewriting.append_pods.Goals as goal
use Rattle.spa_canonical.proofs.Lengths.{lengths}

pub encode_pods-len-requires : goal.encode_pods-len-requires
encode_pods-len-requires c =
    let old = c.args.out.now.items in
    let d = c.deref_mut.result.now in
    let from = c.len.result + c.args.canonical in
    let n : from ≡ length old + c.args.canonical = (let e = c.len.ensures in let same : vec_len c.args.out.now ≡ length old = search rules in omega arith) in
    let w = written_behind old _ (take (length d - from) (drop from d)) d c.args.canonical from _ c.requires.within n
    (c.deref_mut.ensures.value ∙ c.in-Ok.ensures.items) refl refl in
    subst (λ x. AreChanged x c.args.changed) (sym w.slice) c.requires.others

pub returns-clause-appended : goal.returns-clause-appended
returns-clause-appended c =
    let old = c.args.out.now.items in
    let at = c.args.canonical in
    let d = c.deref_mut.result.now in
    let from = c.len.result + at in
    let len = c.encode_pods-len.result in
    let over = c.encode_pods-len.new.pods in
    let n : from ≡ length old + at = (let e = c.len.ensures in let same : vec_len c.args.out.now ≡ length old = search rules in omega arith) in
    let w = written_behind old c.args.pods.now over d at from _ c.requires.within n (c.deref_mut.ensures.value ∙ c.in-Ok.ensures.items) refl c.encode_pods-len.auto.pods in
    let whole = with_items_is c.extend_from_slice.new.self (take from d ++ (over ++ drop (length d - from) (drop from d))) (w.long ∙ c.deref_mut.ensures.len) in
    appended_behind _ old over _ at len c.requires.first (subst (λ x. AreRewritten x [] (take len over)) w.slice c.encode_pods-len.ensures.written)
    (c.truncate.ensures.items ∙ ap (take (from + len)) (whole ∙ w.same) ∙ take_past (old ++ take at c.args.pods.now) over from len (omega lengths))
