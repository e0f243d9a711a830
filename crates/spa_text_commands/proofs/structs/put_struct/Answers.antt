use Rattle.std.proofs.Common.{ap, arith}
use Rattle.spa_text_commands.proofs.OpenStructs.{all_ended, begins_in, ends_in, first_in, goes_on_in, header_in, in_longer, in_longer_on, in_longer_same, moved}
use Rattle.spa_text_commands.proofs.structs.put_struct.Goals.{in-Begin+in-Some+in-Ok, in-End+in-Some-pop+in-Some-end_struct+else-is_empty, in-Value+else-is_empty-2+in-Some-put_front}
use Rattle.spa_text_commands.proofs.structs.put_struct.Goals as goal

pub returns-in_default-clause-longer : goal.returns-in_default-clause-longer
returns-in_default-clause-longer c = in_longer_on _ _ _ _ _ _ _ c.loop.invariant c.begin_struct.ensures.longer

pub returns-in_default-push-clause-longer : goal.returns-in_default-push-clause-longer
returns-in_default-push-clause-longer c = in_longer_on _ _ _ _ _ _ _ c.loop.invariant c.begin_struct.ensures.longer

pub end_struct-requires : goal.end_struct-requires
end_struct-requires c =
    header_in _ _ _ _ _ c.loop.open.items c.pop.new.self.items c.in-Some-pop.inner c.loop.invariant c.in-Some-pop.ensures.items

pub returns-in_default-end_struct-clause-longer : goal.returns-in_default-end_struct-clause-longer
returns-in_default-end_struct-clause-longer c = in_longer_same _ _ _ _ _ _ _ c.loop.invariant c.in_default-end_struct.ensures.unchanged

pub returns-then-is_empty-clause-added : goal.returns-then-is_empty-clause-added
returns-then-is_empty-clause-added c =
    all_ended _ _ _ _ _ c.pop.new.self.items (grind (arith, c.if-is_empty.true, c.is_empty.ensures))
    (ends_in _ _ _ _ _ _ _ c.loop.open.items c.pop.new.self.items c.in-Some-pop.inner c.loop.invariant c.in-Some-pop.ensures.items
    c.in-Some-end_struct.ensures.ended c.in-Some-end_struct.ensures.closed)

pub returns-in_default-put_front-clause-longer : goal.returns-in_default-put_front-clause-longer
returns-in_default-put_front-clause-longer c = in_longer_on _ _ _ _ _ _ _ c.loop.invariant c.put_front.ensures.longer

pub loop-preserved : goal.loop-preserved
loop-preserved c =
    elim c.match-next_at.branch [
      | in-Begin+in-Some+in-Ok w ↦
          moved _ _ _ _ _ _ _ _ _ (ap (λ v. v.items) w.open-is) w.reader-is (ap (λ v. v.items) w.pods-is)
          (begins_in _ _ _ _ _ _ _ _ _ w.in-Some.inner c.loop.invariant w.in-Some.ensures.begun w.in-Some.ensures.header.0 w.in-Some.ensures.header.1
          w.in-Ok.ensures.items)
      | in-End+in-Some-pop+in-Some-end_struct+else-is_empty w ↦
          moved _ _ _ _ _ _ _ _ _ (ap (λ v. v.items) w.open-is) w.reader-is (ap (λ v. v.items) w.pods-is)
          (goes_on_in _ _ _ _ _ w.pop.new.self.items (λ e. grind (arith, e, w.if-is_empty.false, w.is_empty.ensures))
          (ends_in _ _ _ _ _ _ _ c.loop.open.items w.pop.new.self.items w.in-Some-pop.inner c.loop.invariant w.in-Some-pop.ensures.items
          w.in-Some-end_struct.ensures.ended w.in-Some-end_struct.ensures.closed))
      | in-Value+else-is_empty-2+in-Some-put_front w ↦
          moved _ _ _ _ _ _ _ _ _ (ap (λ v. v.items) w.open-is) w.reader-is (ap (λ v. v.items) w.pods-is)
          (first_in _ _ _ _ _ _ _ c.loop.open.items (λ e. grind (arith, e, w.if-is_empty-2.false, w.is_empty-in-Value.ensures)) c.loop.invariant
          w.in-Some-put_front.ensures.added)
    ]

pub returns-clause-longer : goal.returns-clause-longer
returns-clause-longer c = in_longer _ _ _ _ _ _ c.loop.invariant
