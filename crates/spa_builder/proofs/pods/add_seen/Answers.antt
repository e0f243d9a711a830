use Rattle.std.proofs.Common.{length, ap, sym, ◌∙◌, subst}
use Rattle.spa_format.specs.Encoding.{member_encodings}
use Rattle.spa_format.specs.Pod.{IsPod}
use Rattle.spa_format.specs.Words.{word_at}
use Rattle.spa_view.specs.View.{pod_bytes}
use Rattle.spa_builder.specs.Fields.{BuilderFields, fields_of}
use Rattle.spa_builder.specs.Answers.{IsCopied}
use Rattle.spa_builder.proofs.AtHand.{added_value, is_nowhere, is_somewhere, looked_into, out_of_place, own_pod}
use Rattle.spa_builder.proofs.Valued.{made_value, misplaced}
use Rattle.spa_builder.proofs.pods.add_seen.Goals as goal

pub returns-then-not-takes_type-clause-makes : goal.returns-then-not-takes_type-clause-makes
returns-then-not-takes_type-clause-makes c s at =
    let base = length (member_encodings s.closed) in
    let inner = c.innermost-innermost.ensures.last base s.opened at.frames in
    out_of_place s (pod_bytes c.args.pod.now) (fields_of c.args.bytes.now c.args.frames.now)
    (λ v t. is_nowhere _ (sym c.if-not-takes_type.true
    ∙ c.takes_type.ensures base s.closed s.opened v inner (sym (c.type_.ensures ∙ t))))

pub returns-then-not-takes_type-clause-copied : goal.returns-then-not-takes_type-clause-copied
returns-then-not-takes_type-clause-copied c s v at k =
    let base = length (member_encodings s.closed) in
    let inner = c.innermost-innermost.ensures.last base s.opened at.frames in
    misplaced s v (fields_of c.args.bytes.now c.args.frames.now) (is_nowhere _
    (sym c.if-not-takes_type.true ∙ c.takes_type.ensures base s.closed s.opened v inner
    (sym (c.type_.ensures ∙ k.pod.its_type))))

pub add_read-requires-clause-place : goal.add_read-requires-clause-place
add_read-requires-clause-place c s v at t =
    let base = length (member_encodings s.closed) in
    let inner = c.innermost-innermost.ensures.last base s.opened at.frames in
    is_somewhere _ (sym c.if-not-takes_type.false
    ∙ c.takes_type.ensures base s.closed s.opened v inner
    (sym (c.type_.ensures ∙ ap (λ l. word_at l 4) (sym c.whole_bytes-whole.ensures.bytes) ∙ t)))

pub add_copied-requires-clause-place : goal.add_copied-requires-clause-place
add_copied-requires-clause-place c s at =
    let base = length (member_encodings s.closed) in
    sym (c.takes_trees.ensures base s.opened
    (c.innermost-innermost.ensures.last base s.opened at.frames))
    ∙ c.if-not-takes_trees.false

pub returns-in_default-clause-makes : goal.returns-in_default-clause-makes
returns-in_default-clause-makes c s at =
    let old : BuilderFields = fields_of c.args.bytes.now c.args.frames.now in
    let new : BuilderFields = fields_of c.add_copied.new.bytes c.add_copied.new.frames in
    let r = c.add_copied.result in
    let b = c.whole_bytes-whole.result.now in
    let k = c.in_default.ensures.taken in
    let p = own_pod b k.value c.whole_bytes-whole.ensures.whole k.begins.begins in
    added_value s (pod_bytes c.args.pod.now) k.value old new r
    (subst (λ x. IsPod x k.value) c.whole_bytes-whole.ensures.bytes p)
    (made_value s k.value old new r (c.add_copied.ensures.makes s k.value at p))

pub returns-in_default-clause-copied : goal.returns-in_default-clause-copied
returns-in_default-clause-copied c s v at j =
    c.add_copied.ensures.makes s v at
    (subst (λ x. IsPod x v) (sym c.whole_bytes-whole.ensures.bytes) j.pod)

pub returns-clause-copied : goal.returns-clause-copied
returns-clause-copied c s v at k =
    absurd (looked_into s c.whole_bytes-whole.result.now v c.whole_bytes-whole.ensures.whole
    (subst (λ x. IsCopied s x v) (sym c.whole_bytes-whole.ensures.bytes) k)
    c.in-None.ensures.missed)
