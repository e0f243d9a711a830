use Rattle.std.proofs.Common.{subst}
use Rattle.spa_bodies.specs.Reading.{OnMemory}
use Rattle.spa_typed_read.specs.Exactly.{not_struct}
use Rattle.spa_typed_read.proofs.Exactly.{members_of, struct_unopened, struct_unread}
use Rattle.spa_typed_read.proofs.Fronts.{struct_read}
use Rattle.spa_typed_read.proofs.content.StructOfPodDeserialize.deserialize.Goals as goal

pub returns-in-Err-clause-refused : goal.returns-in-Err-clause-refused
returns-in-Err-clause-refused g c = (
  not_struct c.in-Err.ensures.refused,
  struct_unopened g.M.DeserializeMembers.reads_members _ _ _ c.in-Err.ensures.refused,
)

pub returns-in-Err-read_members-clause-refused : goal.returns-in-Err-read_members-clause-refused
returns-in-Err-read_members-clause-refused g c =
    let o = c.in-Ok.ensures.opens in (
      members_of g.M.DeserializeMembers.refuses_members _ _ _ o (c.in-Err-read_members.ensures.named o.good),
      struct_unread g.M.DeserializeMembers.reads_members _ _ _ _ o (c.in-Err-read_members.ensures.refused o.good)
          (subst (λ l. OnMemory (g.M.DeserializeMembers.takes_memory l) c.in-Err-read_members.e) o.opens.its_body
          (c.in-Err-read_members.ensures.memory o.good)),
    )

pub returns-in-Ok-end-clause-read : goal.returns-in-Ok-end-clause-read
returns-in-Ok-end-clause-read g c =
    let ended = c.in-Ok-end.ensures.ok in
    let read = struct_read _ _ _ _ (λ vs. g.M.DeserializeMembers.reads_members vs c.in-Ok-read_members.members) c.in-Ok.ensures.opens
    c.in-Ok-read_members.ensures.same ended.1 ended.0 c.in-Ok-read_members.ensures.read in
    record {
      value = read.value;
      begins = read.begins;
      follows = read.follows;
      holds = record { members = read.holds.0; is = read.holds.1; are = read.holds.2 };
    }
