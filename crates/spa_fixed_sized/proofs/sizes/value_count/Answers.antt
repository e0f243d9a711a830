use Rattle.std.proofs.Common.{◌≡◌, ℕ, ◌+◌, ◌*◌, List, [], ◌∷◌, length, map, ap, ◌∙◌, arith}
use Rattle.spa_format.specs.Encoding.{encoded_body}
use Rattle.spa_utils.specs.declared.choice.ChoiceEnum.{ChoiceEnum}
use Rattle.spa_fixed_sized.specs.Choices.{choice_body, choice_enum_tree}
use Rattle.spa_fixed_sized.proofs.ChoiceWriting.{length-choice}
use Rattle.spa_fixed_sized.proofs.sizes.value_count.Given.{Over}
use Rattle.spa_fixed_sized.proofs.sizes.value_count.Goals as goal

-- the length of a choice that holds these values
length-values : (g : Over) (shape flags : ℕ) (vs : List g.row.T.Denot) →
    length (choice_body shape flags g.T.CanonicalFixedSizedPod.kind (map g.T.CanonicalFixedSizedPod.fixed vs))
    ≡ 16 + length vs * g.T.CanonicalFixedSizedPod.SIZE
length-values g shape flags vs =
    let met = g.met.T.CanonicalFixedSizedPod in
    length-choice shape flags g.T.CanonicalFixedSizedPod.kind g.T.CanonicalFixedSizedPod.fixed
    g.T.CanonicalFixedSizedPod.SIZE vs met.its_kind met.its_size

-- the tree of a choice, from its values
tree_of : (g : Over) (flags : ℕ) (a b : ChoiceEnum g.row.T.Denot) → a ≡ b →
    length (encoded_body (choice_enum_tree g.T.CanonicalFixedSizedPod.kind g.T.CanonicalFixedSizedPod.fixed flags a))
    ≡ length (encoded_body (choice_enum_tree g.T.CanonicalFixedSizedPod.kind g.T.CanonicalFixedSizedPod.fixed flags b))
tree_of g flags a b e =
    ap (λ x. length (encoded_body (choice_enum_tree g.T.CanonicalFixedSizedPod.kind g.T.CanonicalFixedSizedPod.fixed flags x))) e

pub returns-in-None : goal.returns-in-None
returns-in-None g c =
    let flags = c.args.choice.now.0.0 in
    tree_of g flags _ _ c.in-None.is ∙ length-values g 0 flags (c.in-None.field-0 ∷ [])

pub returns-in-Range : goal.returns-in-Range
returns-in-Range g c =
    let flags = c.args.choice.now.0.0 in
    let x = c.in-Range in
    tree_of g flags _ _ x.is ∙ length-values g 1 flags (x.default ∷ x.min ∷ x.max ∷ [])

pub returns-in-Step : goal.returns-in-Step
returns-in-Step g c =
    let flags = c.args.choice.now.0.0 in
    let x = c.in-Step in
    tree_of g flags _ _ x.is ∙ length-values g 2 flags (x.default ∷ x.min ∷ x.max ∷ x.step ∷ [])

pub returns-in-Enum : goal.returns-in-Enum
returns-in-Enum g c =
    let flags = c.args.choice.now.0.0 in
    let x = c.in-Enum in
    tree_of g flags _ _ x.is ∙ length-values g 3 flags (x.default ∷ x.alternatives.items)
    ∙ ap (λ n. 16 + n * g.T.CanonicalFixedSizedPod.SIZE) (let e = c.len.ensures in omega (arith, e))

pub returns-in-Flags : goal.returns-in-Flags
returns-in-Flags g c =
    let flags = c.args.choice.now.0.0 in
    let x = c.in-Flags in
    tree_of g flags _ _ x.is ∙ length-values g 4 flags (x.default ∷ x.flags.items)
    ∙ ap (λ n. 16 + n * g.T.CanonicalFixedSizedPod.SIZE) (let e = c.len-in-Flags.ensures in omega (arith, e))
