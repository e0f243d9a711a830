use Rattle.std.proofs.Common.{refl, rules, inl, inr, subst}
use Rattle.std.specs.Prelude.{◌⊎◌}
use Rattle.spa_typed_read.specs.Exactly.{AreUnread, IsUnread, behind, first, missing}
use Rattle.spa_format.specs.Front.{HasFront, rest_of}
use Rattle.spa_typed_read.specs.ExactlyLaws.{fault_to, memory_to}
use Rattle.spa_typed_read.proofs.Exactly.{behind_unread, first_unread}
use Rattle.spa_typed_read.proofs.Stepping.{all_as, all_field, further_trans}
use Rattle.spa_typed_read.proofs.content.Tuple2DeserializeMembers.read_members.Goals as goal

pub returns-in-Err-clause-refused : goal.returns-in-Err-clause-refused
returns-in-Err-clause-refused g c =
    let a = g.A.PodDeserialize.reads in
    let r = g.R.DeserializeMembers.reads_members in
    let b = c.args.reader.now.left in
    let claim : g.claim c.lifetimes = search rules in
    λ good.
    fault_to (IsUnread a b) _ c.in-Err.e (first_unread a r b)
    ((g.met.A.ExactDeserialize c.lifetimes claim).exactly b c.in-Err.e (c.in-Err.ensures.refused good).1).unread

pub returns-in-Err-clause-named : goal.returns-in-Err-clause-named
returns-in-Err-clause-named g c =
    λ good.
    let r = c.in-Err.ensures.refused good in
    first r.0 r.1

pub returns-in-Ok-None-clause-named : goal.returns-in-Ok-None-clause-named
returns-in-Ok-None-clause-named g c =
    let end = rw c.in-Ok-None.field-0-is at c.in-Ok-None.ensures.field in
    λ good. missing end.1.none_left refl

pub returns-in-Err-read_members-clause-named : goal.returns-in-Err-read_members-clause-named
returns-in-Err-read_members-clause-named g c =
    let first = rw c.in-Ok-Some.field-0-is at c.in-Ok-Some.ensures.field in
    λ good. behind c.in-Ok-Some.first _ first.field (c.in-Err-read_members.ensures.named first.good)

pub returns-in-Err-clause-memory : goal.returns-in-Err-clause-memory
returns-in-Err-clause-memory g c =
    let a = g.A.ExactDeserialize.takes_memory in
    let r = g.R.DeserializeMembers.takes_memory in
    let b = c.args.reader.now.left in
    let claim : g.claim c.lifetimes = search rules in
    λ good.
    memory_to (a b × HasFront b) (a b ⊎ r (rest_of b)) c.in-Err.e (λ m. inl m.0)
    ((g.met.A.ExactDeserialize c.lifetimes claim).exactly b c.in-Err.e (c.in-Err.ensures.refused good).1).memory

pub returns-in-Ok-clause-same : goal.returns-in-Ok-clause-same
returns-in-Ok-clause-same g c = further_trans _ _ _ c.deserialize_field.ensures.same c.read_members.ensures.same

pub returns-in-Ok-clause-read : goal.returns-in-Ok-clause-read
returns-in-Ok-clause-read g c =
    let first = rw c.in-Ok-Some.field-0-is at c.in-Ok-Some.ensures.field in
    all_as _ _ _
    (λ vs e. record { first = e.first; behind = e.others; is = e.is; first_is = e.first_is; behind_are = e.others_are })
    (all_field _ _ _ _ first c.in-Ok.ensures.read)

pub returns-in-Err-read_members-clause-same : goal.returns-in-Err-read_members-clause-same
returns-in-Err-read_members-clause-same g c = further_trans _ _ _ c.deserialize_field.ensures.same c.read_members.ensures.same

pub returns-in-Err-read_members-clause-refused : goal.returns-in-Err-read_members-clause-refused
returns-in-Err-read_members-clause-refused g c =
    let first = rw c.in-Ok-Some.field-0-is at c.in-Ok-Some.ensures.field in
    let a = g.A.PodDeserialize.reads in
    let r = g.R.DeserializeMembers.reads_members in
    let b = c.args.reader.now.left in
    let d = c.deserialize_field.new.self.left in
    λ good.
    fault_to (AreUnread r d) _ c.in-Err-read_members.e (behind_unread a r b d first.field.follows)
    (c.in-Err-read_members.ensures.refused first.good)

pub returns-in-Err-read_members-clause-memory : goal.returns-in-Err-read_members-clause-memory
returns-in-Err-read_members-clause-memory g c =
    let first = rw c.in-Ok-Some.field-0-is at c.in-Ok-Some.ensures.field in
    let a = g.A.ExactDeserialize.takes_memory in
    let r = g.R.DeserializeMembers.takes_memory in
    let b = c.args.reader.now.left in
    let d = c.deserialize_field.new.self.left in
    λ good.
    memory_to (r d) (a b ⊎ r (rest_of b)) c.in-Err-read_members.e (λ m. inr (subst r first.field.follows m))
    (c.in-Err-read_members.ensures.memory first.good)
