use Rattle.std.proofs.Common.{arith, refl}
use Rattle.spa_canonical.proofs.Replacing.{container_follows, leaf_kept, leaf_replaced, no_front_follows, none_follows, opens_at, pod_at, word_replaced}
use Rattle.spa_canonical.proofs.emitting.encode_leaves.Goals as goal

pub returns-then-pods-at-lt-HEADER_LEN : goal.returns-then-pods-at-lt-HEADER_LEN
returns-then-pods-at-lt-HEADER_LEN c = (c.loop-pods.invariant.0, none_follows _ _ _ _ c.loop-pods.invariant.0 c.if-pods-at-lt-HEADER_LEN.true)

pub loop-pods-preserved-then-begins_word : goal.loop-pods-preserved-then-begins_word
loop-pods-preserved-then-begins_word c =
    let p = c.loop-pods.invariant in
    let key = c.key_len.result in
    let begins = c.begins_word.ensures c.if-begins_word.true in (
      word_replaced _ _ _ c.clear_behind.new.pod c.loop-pods.at key _ p.0 p.1 c.key_len.ensures c.if-pods-at-lt-HEADER_LEN.false begins (omega arith) c.clear_behind.ensures
          c.clear_behind.auto.pod (λ i. omega (arith, c.type_inv.pods i)),
      λ i. omega (arith, c.type_inv.pods i),
    )

pub returns-in_default : goal.returns-in_default
returns-in_default c = (c.loop-pods.invariant.0, no_front_follows _ _ _ _ c.key_len.result c.loop-pods.invariant.0 c.key_len.ensures c.in_default.ensures.short)

pub returns-in-Some-holds_whole : goal.returns-in-Some-holds_whole
returns-in-Some-holds_whole c =
    let o = opens_at _ _ _ _ _ c.key_len.result _ c.if-pods-at-lt-HEADER_LEN.false c.key_len.ensures c.in-Some.ensures.there in
    (c.loop-pods.invariant.0, container_follows _ _ _ _ _ _ _ _ _ c.loop-pods.invariant.0 o c.in-Some-holds_whole.ensures.some)

pub encode_leaf-requires-clause-pod : goal.encode_leaf-requires-clause-pod
encode_leaf-requires-clause-pod c =
    pod_at _ _ _ _ _ _ _ (opens_at _ _ _ _ _ c.key_len.result _ c.if-pods-at-lt-HEADER_LEN.false c.key_len.ensures c.in-Some.ensures.there)

pub returns-then-kept-next : goal.returns-then-kept-next
returns-then-kept-next c =
    let p = c.loop-pods.invariant in
    let o = opens_at _ _ _ _ _ c.key_len.result _ c.if-pods-at-lt-HEADER_LEN.false c.key_len.ensures c.in-Some.ensures.there in
    (leaf_replaced _ _ _ c.encode_leaf.new.pod _ _ _ _ _ c.encode_leaf.result _ p.0 p.1 o c.encode_leaf.ensures c.encode_leaf.auto.pod refl, omega arith)

pub loop-pods-preserved : goal.loop-pods-preserved
loop-pods-preserved c =
    let p = c.loop-pods.invariant in
    let o = opens_at _ _ _ _ _ c.key_len.result _ c.if-pods-at-lt-HEADER_LEN.false c.key_len.ensures c.in-Some.ensures.there in (
      leaf_kept _ _ _ c.encode_leaf.new.pod _ _ _ _ _ c.encode_leaf.result p.0 p.1 o c.encode_leaf.ensures c.encode_leaf.auto.pod c.if-kept-next.false,
      λ i. omega (arith, c.type_inv.pods i),
    )
