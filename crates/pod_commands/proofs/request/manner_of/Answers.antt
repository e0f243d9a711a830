use Rattle.clap.specs.Walk.{rows_of}
use Rattle.clap.specs.Words.{found_of}
use Rattle.pod_commands.proofs.Requested.{fate_given, no_fate_given}
use Rattle.pod_commands.proofs.request.manner_of.Goals as goal

pub returns-in-Ok-clause-fate : goal.returns-in-Ok-clause-fate
returns-in-Ok-clause-fate c =
    fate_given (rows_of (found_of c.args.given.now)) c.is_set-2.result c.is_set-3.result c.is_set-4.result c.is_set-2.ensures c.is_set-3.ensures
    c.is_set-4.ensures c.in-Ok.fate c.in-Ok.ensures.fate

pub returns-in-Err-clause-wrong : goal.returns-in-Err-clause-wrong
returns-in-Err-clause-wrong c =
    no_fate_given (rows_of (found_of c.args.given.now)) c.is_set-2.result c.is_set-3.result c.is_set-4.result c.is_set-2.ensures c.is_set-3.ensures
    c.is_set-4.ensures c.in-Err.why c.in-Err.ensures.wrong
