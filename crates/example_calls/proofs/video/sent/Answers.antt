use Rattle.std.proofs.Common.{[], ◌∙◌, arith}
use Rattle.example_calls.specs.Video.{video_tree}
use Rattle.example_calls.proofs.Reading.{is_front, matched}
use Rattle.example_calls.proofs.video.sent.Goals as goal

pub returns : goal.returns
returns c =
    let v = video_tree c.args.format.now in
    let writable = c.objects_of_numbers_can_be_written.ensures _ _ _ tt (omega arith) in
    let front = is_front v c.as_slice.result.now (c.as_slice.ensures.value ∙ c.in_ok-bytes.ensures.made)
    (c.encodings_read_back.ensures.value v [] c.are_within.ensures writable) in
    matched c.read_format.result _ _ (c.read_format.ensures c.args.format.now front)
