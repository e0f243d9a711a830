use Rattle.std.proofs.Common.{◌∙◌, map, ap, rules}
use Rattle.std.proofs.lemmas.Result.{IfOk-weaker}
use Rattle.std.proofs.lemmas.Iterator.{YieldsList-from_slice, YieldsList-from_map_by}
use Rattle.spa_format.specs.Kind.{content}
use Rattle.spa_fixed_sized.proofs.Chunks.{values_from_collect, all_say}
use Rattle.spa_fixed_sized.proofs.array.read_chunks.Goals as goal

pub returns : goal.returns
returns g c =
    let k = g.T.CanonicalFixedSizedPod.kind in
    let f = g.T.CanonicalFixedSizedPod.fixed in
    let s = g.T.CanonicalFixedSizedPod.SIZE in
    IfOk-weaker c.collect.result _ _
    (λ v e. all_say k s g.row.N c.args.elements.now (map f v.items)
    g.met.T.CanonicalFixedSizedPod.its_size c.requires.size c.requires.sized c.requires.whole
    (e ∙ ap (map (content k)) c.as_chunks.ensures.front))
    (values_from_collect _ c.collect.ensures.ran (YieldsList-from_map_by
    _ f (content k) (YieldsList-from_slice c.as_chunks.result.0.now cc) c.map.ensures.closure
    (λ x r q h. search rules)))
