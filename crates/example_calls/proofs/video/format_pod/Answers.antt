use Rattle.example_calls.specs.Video.{video_tree}
use Rattle.example_calls.proofs.Reading.{not_refused}
use Rattle.example_calls.proofs.video.format_pod.Goals as goal

pub returns-clause-memory : goal.returns-clause-memory
returns-clause-memory c =
    not_refused c.finish.result _ _ (c.finish.ensures.built (video_tree c.args.format.now) c.in_ok-add_format.ensures.made)
