use Rattle.std.proofs.Common.{length, ap, ◌∙◌, rules}
use Rattle.spav.proofs.Written.{put_written, put_short}
use Rattle.spav.proofs.filtering.spav_filter.Goals as goal

pub returns-in-Ok-clause-done : goal.returns-in-Ok-clause-done
returns-in-Ok-clause-done c = λ d. (
  c.in-Ok.met.items,
  c.in-Ok.ensures.value,
  put_written _ _ _ _ _ c.as_slice.ensures.value (c.put_front.ensures.done (search rules)) c.put_front.ensures.counted,
)

pub returns-in-Ok-clause-room : goal.returns-in-Ok-clause-room
returns-in-Ok-clause-room c = λ d. (
  c.in-Ok.met.items,
  c.in-Ok.ensures.value,
  c.put_front.ensures.counted ∙ ap length c.as_slice.ensures.value,
  put_short _ _ _ c.as_slice.ensures.value (c.put_front.ensures.room (search rules)),
)
