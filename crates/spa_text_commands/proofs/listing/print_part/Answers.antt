use Rattle.std.proofs.Common.{◌∙◌, arith}
use Rattle.spa_text_commands.proofs.Values.{bytes_below, bytes_printed, lines_printed, no_text, pods_printed}
use Rattle.spa_text_commands.proofs.listing.print_part.Goals as goal

pub returns-in-Lines : goal.returns-in-Lines
returns-in-Lines c = lines_printed c.list.result c.args.form _ c.args.refused _ _ c.in-Lines.is c.list.ensures

pub returns-in_ok-list-in-LinesAndBytes : goal.returns-in_ok-list-in-LinesAndBytes
returns-in_ok-list-in-LinesAndBytes c =
    bytes_below c.add_rows.result c.args.form _ c.args.refused _ _ _ c.whole_bytes.result.now c.in-LinesAndBytes.is c.in_ok-list-in-LinesAndBytes.ensures
    c.whole_bytes.ensures.bytes c.add_rows.ensures

pub returns-then-refused-gt0 : goal.returns-then-refused-gt0
returns-then-refused-gt0 c = no_text c.args.form c.in-Text.layout _ c.args.refused _ c.in-Text.is (λ z. grind (arith, z, c.if-refused-gt0.true))

pub returns-in_ok-path-in-Bytes : goal.returns-in_ok-path-in-Bytes
returns-in_ok-path-in-Bytes c =
    bytes_printed c.add_string.result c.args.form _ c.args.refused _ _ _ _ c.in-Bytes.is
    (c.as_str-in-Bytes.ensures.value ∙ c.in_ok-path-in-Bytes.ensures) c.whole_bytes-in-Bytes.ensures.bytes
    c.add_string.ensures

pub returns-in-Pods : goal.returns-in-Pods
returns-in-Pods c =
    pods_printed c.extend_from_slice.result c.args.form _ c.args.refused _ _ _ c.in-Pods.is c.whole_bytes-in-Pods.ensures.bytes
    c.extend_from_slice.ensures.items
