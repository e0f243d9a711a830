use Rattle.std.proofs.Common.{ap, ◌∙◌, ◌+◌, arith}
use Rattle.example_calls.specs.Video.{video_tree}
use Rattle.example_calls.proofs.video.add_format.Goals as goal

pub returns-in-Err-builder_add-clause-memory : goal.returns-in-Err-builder_add-clause-memory
returns-in-Err-builder_add-clause-memory c =
    let a0 = c.values_are_made_call_by_call.ensures.begins (video_tree c.args.format.now) c.args.builder.now
    (c.objects_of_numbers_can_be_written.ensures _ _ _ tt (omega arith)) c.requires in
    (c.calls_go_on.ensures.begun _ _ _ _ _ _ _ a0 c.in-Err-builder_add.ensures.step).0

pub returns-in-Err-builder_add-builder_add-clause-memory : goal.returns-in-Err-builder_add-builder_add-clause-memory
returns-in-Err-builder_add-builder_add-clause-memory c =
    let a0 = c.values_are_made_call_by_call.ensures.begins (video_tree c.args.format.now) c.args.builder.now
    (c.objects_of_numbers_can_be_written.ensures _ _ _ tt (omega arith)) c.requires in
    let a1 = c.calls_go_on.ensures.begun _ _ _ _ _ _ _ a0 c.in-Ok-builder_add.ensures.step in
    (c.calls_go_on.ensures.answered _ _ _ _ _ _ _ a1 c.in-Err-builder_add-builder_add.ensures).0

pub returns-in-Err-builder_add-builder_add-2-clause-memory : goal.returns-in-Err-builder_add-builder_add-2-clause-memory
returns-in-Err-builder_add-builder_add-2-clause-memory c =
    let a0 = c.values_are_made_call_by_call.ensures.begins (video_tree c.args.format.now) c.args.builder.now
    (c.objects_of_numbers_can_be_written.ensures _ _ _ tt (omega arith)) c.requires in
    let a1 = c.calls_go_on.ensures.begun _ _ _ _ _ _ _ a0 c.in-Ok-builder_add.ensures.step in
    let a2 = c.calls_go_on.ensures.answered _ _ _ _ _ _ _ a1 c.in-Ok-builder_add-builder_add.ensures in
    (c.calls_go_on.ensures.answered _ _ _ _ _ _ _ a2 c.in-Err-builder_add-builder_add-2.ensures).0

pub returns-in-Err-builder_add-builder_add-3-clause-memory : goal.returns-in-Err-builder_add-builder_add-3-clause-memory
returns-in-Err-builder_add-builder_add-3-clause-memory c =
    let a0 = c.values_are_made_call_by_call.ensures.begins (video_tree c.args.format.now) c.args.builder.now
    (c.objects_of_numbers_can_be_written.ensures _ _ _ tt (omega arith)) c.requires in
    let a1 = c.calls_go_on.ensures.begun _ _ _ _ _ _ _ a0 c.in-Ok-builder_add.ensures.step in
    let a2 = c.calls_go_on.ensures.answered _ _ _ _ _ _ _ a1 c.in-Ok-builder_add-builder_add.ensures in
    let a3 = c.calls_go_on.ensures.answered _ _ _ _ _ _ _ a2 c.in-Ok-builder_add-builder_add-2.ensures in
    (c.calls_go_on.ensures.answered _ _ _ _ _ _ _ a3 c.in-Err-builder_add-builder_add-3.ensures).0

pub returns-in-Err-builder_add-builder_add-4-clause-memory : goal.returns-in-Err-builder_add-builder_add-4-clause-memory
returns-in-Err-builder_add-builder_add-4-clause-memory c =
    let a0 = c.values_are_made_call_by_call.ensures.begins (video_tree c.args.format.now) c.args.builder.now
    (c.objects_of_numbers_can_be_written.ensures _ _ _ tt (omega arith)) c.requires in
    let a1 = c.calls_go_on.ensures.begun _ _ _ _ _ _ _ a0 c.in-Ok-builder_add.ensures.step in
    let a2 = c.calls_go_on.ensures.answered _ _ _ _ _ _ _ a1 c.in-Ok-builder_add-builder_add.ensures in
    let a3 = c.calls_go_on.ensures.answered _ _ _ _ _ _ _ a2 c.in-Ok-builder_add-builder_add-2.ensures in
    let a4 = c.calls_go_on.ensures.answered _ _ _ _ _ _ _ a3 c.in-Ok-builder_add-builder_add-3.ensures in
    (c.calls_go_on.ensures.answered _ _ _ _ _ _ _ a4 c.in-Err-builder_add-builder_add-4.ensures).0

pub returns-in-Err-builder_add-builder_add-5-clause-memory : goal.returns-in-Err-builder_add-builder_add-5-clause-memory
returns-in-Err-builder_add-builder_add-5-clause-memory c =
    let a0 = c.values_are_made_call_by_call.ensures.begins (video_tree c.args.format.now) c.args.builder.now
    (c.objects_of_numbers_can_be_written.ensures _ _ _ tt (omega arith)) c.requires in
    let a1 = c.calls_go_on.ensures.begun _ _ _ _ _ _ _ a0 c.in-Ok-builder_add.ensures.step in
    let a2 = c.calls_go_on.ensures.answered _ _ _ _ _ _ _ a1 c.in-Ok-builder_add-builder_add.ensures in
    let a3 = c.calls_go_on.ensures.answered _ _ _ _ _ _ _ a2 c.in-Ok-builder_add-builder_add-2.ensures in
    let a4 = c.calls_go_on.ensures.answered _ _ _ _ _ _ _ a3 c.in-Ok-builder_add-builder_add-3.ensures in
    let a5 = c.calls_go_on.ensures.answered _ _ _ _ _ _ _ a4 c.in-Ok-builder_add-builder_add-4.ensures in
    (c.calls_go_on.ensures.answered _ _ _ _ _ _ _ a5 c.in-Err-builder_add-builder_add-5.ensures).0

pub returns-in-Err-builder_add-builder_add-6-clause-memory : goal.returns-in-Err-builder_add-builder_add-6-clause-memory
returns-in-Err-builder_add-builder_add-6-clause-memory c =
    let a0 = c.values_are_made_call_by_call.ensures.begins (video_tree c.args.format.now) c.args.builder.now
    (c.objects_of_numbers_can_be_written.ensures _ _ _ tt (omega arith)) c.requires in
    let a1 = c.calls_go_on.ensures.begun _ _ _ _ _ _ _ a0 c.in-Ok-builder_add.ensures.step in
    let a2 = c.calls_go_on.ensures.answered _ _ _ _ _ _ _ a1 c.in-Ok-builder_add-builder_add.ensures in
    let a3 = c.calls_go_on.ensures.answered _ _ _ _ _ _ _ a2 c.in-Ok-builder_add-builder_add-2.ensures in
    let a4 = c.calls_go_on.ensures.answered _ _ _ _ _ _ _ a3 c.in-Ok-builder_add-builder_add-3.ensures in
    let a5 = c.calls_go_on.ensures.answered _ _ _ _ _ _ _ a4 c.in-Ok-builder_add-builder_add-4.ensures in
    let a6 = c.calls_go_on.ensures.answered _ _ _ _ _ _ _ a5 c.in-Ok-builder_add-builder_add-5.ensures in
    (c.calls_go_on.ensures.answered _ _ _ _ _ _ _ a6 c.in-Err-builder_add-builder_add-6.ensures).0

pub returns-in-Ok-builder_add-builder_add-6-clause-made : goal.returns-in-Ok-builder_add-builder_add-6-clause-made
returns-in-Ok-builder_add-builder_add-6-clause-made c =
    let a0 = c.values_are_made_call_by_call.ensures.begins (video_tree c.args.format.now) c.args.builder.now
    (c.objects_of_numbers_can_be_written.ensures _ _ _ tt (omega arith)) c.requires in
    let a1 = c.calls_go_on.ensures.begun _ _ _ _ _ _ _ a0 c.in-Ok-builder_add.ensures.step in
    let a2 = c.calls_go_on.ensures.answered _ _ _ _ _ _ _ a1 c.in-Ok-builder_add-builder_add.ensures in
    let a3 = c.calls_go_on.ensures.answered _ _ _ _ _ _ _ a2 c.in-Ok-builder_add-builder_add-2.ensures in
    let a4 = c.calls_go_on.ensures.answered _ _ _ _ _ _ _ a3 c.in-Ok-builder_add-builder_add-3.ensures in
    let a5 = c.calls_go_on.ensures.answered _ _ _ _ _ _ _ a4 c.in-Ok-builder_add-builder_add-4.ensures in
    let a6 = c.calls_go_on.ensures.answered _ _ _ _ _ _ _ a5 c.in-Ok-builder_add-builder_add-5.ensures in
    let a7 = c.calls_go_on.ensures.answered _ _ _ _ _ _ _ a6 c.in-Ok-builder_add-builder_add-6.ensures in
    let frame = c.in-Ok-builder_add.ensures.frame a0.state a0.at ∙ ap (λ n. n + 1) a0.depth in
    (c.calls_go_on.ensures.last _ _ _ _ _ _ (c.calls_go_on.ensures.frame _ _ _ _ _ _ frame a7) c.builder_add-pop.ensures).0

pub returns-in-Ok-builder_add-builder_add-6-clause-memory : goal.returns-in-Ok-builder_add-builder_add-6-clause-memory
returns-in-Ok-builder_add-builder_add-6-clause-memory c =
    let a0 = c.values_are_made_call_by_call.ensures.begins (video_tree c.args.format.now) c.args.builder.now
    (c.objects_of_numbers_can_be_written.ensures _ _ _ tt (omega arith)) c.requires in
    let a1 = c.calls_go_on.ensures.begun _ _ _ _ _ _ _ a0 c.in-Ok-builder_add.ensures.step in
    let a2 = c.calls_go_on.ensures.answered _ _ _ _ _ _ _ a1 c.in-Ok-builder_add-builder_add.ensures in
    let a3 = c.calls_go_on.ensures.answered _ _ _ _ _ _ _ a2 c.in-Ok-builder_add-builder_add-2.ensures in
    let a4 = c.calls_go_on.ensures.answered _ _ _ _ _ _ _ a3 c.in-Ok-builder_add-builder_add-3.ensures in
    let a5 = c.calls_go_on.ensures.answered _ _ _ _ _ _ _ a4 c.in-Ok-builder_add-builder_add-4.ensures in
    let a6 = c.calls_go_on.ensures.answered _ _ _ _ _ _ _ a5 c.in-Ok-builder_add-builder_add-5.ensures in
    let a7 = c.calls_go_on.ensures.answered _ _ _ _ _ _ _ a6 c.in-Ok-builder_add-builder_add-6.ensures in
    let frame = c.in-Ok-builder_add.ensures.frame a0.state a0.at ∙ ap (λ n. n + 1) a0.depth in
    (c.calls_go_on.ensures.last _ _ _ _ _ _ (c.calls_go_on.ensures.frame _ _ _ _ _ _ frame a7) c.builder_add-pop.ensures).1
