use Rattle.std.proofs.Common.{◌≡◌, ◌+◌, ◌-◌, ◌++◌, take, drop, arith, ap, sym, ◌∙◌}
use Rattle.spa_format.specs.Words.{header_size, word_bytes}
use Rattle.spa_bodies.specs.Written.{begun_length}
use Rattle.spa_bodies.proofs.Frames.{closes_pod, past_limit}
use Rattle.spa_format.proofs.Encodings.{word_bytes_is}
use Rattle.spa_bodies.proofs.frame.close.Goals as goal

pub returns-clause-closed : goal.returns-clause-closed
returns-clause-closed g c =
    let old = g.O.PodOutput.content c.args.out.now in
    let size : c.in-Ok.size ≡ begun_length old c.args.start =
    c.in-Ok.ensures.1 ∙ ap (λ n. n - (c.args.start + header_size)) c.len.ensures in
    let word : c.to_le_bytes.result ≡ word_bytes (begun_length old c.args.start) =
    c.to_le_bytes.ensures ∙ sym (word_bytes_is c.in-Ok.size) ∙ ap word_bytes size in
    record {
      sized = c.overwrite.ensures.value ∙ ap (λ w. take c.args.start old ++ (w ++ drop (c.args.start + 4) old)) word;
      room = λ after n e r. c.overwrite.ensures.room after n e r;
      fits = omega (arith, c.in-Ok.ensures.0, c.len.ensures);
    }

pub returns-clause-pod : goal.returns-clause-pod
returns-clause-pod g c = closes_pod _ _ _ (returns-clause-closed g c)

pub returns-in_default-clause-past : goal.returns-in_default-clause-past
returns-in_default-clause-past g c =
    let e = c.len.ensures in
    let l = c.in_default.ensures in
    past_limit g.O.PodOutput.content g.O.PodSink.refuses c.args.out.now c.args.start (omega (arith, e, l))
