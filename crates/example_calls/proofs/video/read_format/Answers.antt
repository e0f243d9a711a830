use Rattle.std.proofs.lemmas.Bool.{false≢true}
use Rattle.example_calls.specs.Video.{video_tree}
use Rattle.example_calls.proofs.video.read_format.Goals as goal

pub returns-in_err-take_format : goal.returns-in_err-take_format
returns-in_err-take_format c f h =
    let t = c.in_err-take_format.ensures f (c.new.ensures.accepted (video_tree f) h) in
    absurd (false≢true t.0)

pub returns : goal.returns
returns c f h =
    let t = c.in_ok-take_format.ensures f (c.new.ensures.accepted (video_tree f) h) in t.1
