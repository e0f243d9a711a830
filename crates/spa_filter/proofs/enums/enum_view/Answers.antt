use Rattle.std.proofs.Common.{◌≡◌, ◌<◌, ◌∷◌, map, ap, sym, ◌∙◌, subst}
use Rattle.spa_format.specs.Words.{word_at}
use Rattle.spa_format.specs.Kind.{content, type_number}
use Rattle.spa_format.specs.Pod.{AreElements}
use Rattle.spa_format.proofs.WordLemmas.{word_at-drop}
use Rattle.spa_fixed_sized.proofs.Chunks.{all_say}
use Rattle.spa_filter.proofs.EnumValues.{enum_body, first_value}
use Rattle.spa_filter.proofs.enums.enum_view.Goals as goal

pub open_array-requires-clause-child_type : goal.open_array-requires-clause-child_type
open_array-requires-clause-child_type g c =
    ap (λ b. word_at b 4) c.split_at.ensures.back ∙ word_at-drop 8 4 c.args.body.now ∙ sym c.u32_at.ensures ∙ c.if-u32_at-TYPE.false ∙ c.TYPE.ensures

pub returns : goal.returns
returns g c =
    let met = g.met.T.CanonicalFixedSizedPod in
    let pod = g.T.CanonicalFixedSizedPod in
    let k = pod.kind in
    let body = c.args.body.now in
    let elements = c.in_ok-elements.elements.now in
    let values = c.as_chunks.result.0.now in
    let opened = c.in_ok-elements.ensures in
    let first = c.in_ok-first.first.now in
    let split = first_value k values first c.in_ok-first.ensures.value in
    let says : content k first ≡ pod.fixed c.of_body.result = sym c.of_body.ensures in
    let contents : map (content k) values ≡ pod.fixed c.of_body.result ∷ split.0 = split.1 ∙ ap (λ x. x ∷ split.0) says in
    let sized : 0 < g.row.N = subst (λ n. 0 < n) c.requires.size g.met.T.ChoiceElement.sized in
    let all =
    all_say k pod.SIZE g.row.N elements (map (content k) values) met.its_size c.requires.size sized opened.whole
    (ap (map (content k)) c.as_chunks.ensures.front) in
    let type : word_at c.split_at.result.1.now 4 ≡ type_number k =
    ap (λ b. word_at b 4) c.split_at.ensures.back ∙ word_at-drop 8 4 body ∙ sym c.u32_at.ensures ∙ c.if-u32_at-TYPE.false ∙ c.TYPE.ensures ∙ met.its_type in
    record {
      flags = word_at body 4;
      others = split.0;
      contents = contents;
      its_body = enum_body k (pod.fixed c.of_body.result) split.0 c.split_at.result.1.now elements body c.if-body.false
          (sym c.u32_at-2.ensures ∙ c.if-u32_at-ne-ENUM_SHAPE.false) c.split_at.ensures.back opened.elements opened.child_size type
          (subst (λ xs. AreElements k xs elements) contents all);
    }
