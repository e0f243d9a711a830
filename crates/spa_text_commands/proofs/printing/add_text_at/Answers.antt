use Rattle.std.proofs.Common.{ap, refl, ◌++◌, ◌∙◌}
use Rattle.spa_text_commands.specs.Texts.{wrapped}
use Rattle.spa_text_commands.specs.Unread.{words_of}
use Rattle.spa_text_commands.proofs.PrintedPods.{text_added}
use Rattle.spa_text_commands.proofs.printing.add_text_at.Goals as goal

pub returns-clause-added : goal.returns-clause-added
returns-clause-added c =
    let path = c.args.position.path.now in
    let begun = c.in_ok-ending.ensures in
    let added = c.in_ok-print_in.ensures in (
      wrapped path begun.0 added.0,
      text_added _ path added.0 _ _ _ _ _ _ begun.0 begun.2 added.1
          (c.in_ok-extend_from_slice.ensures.items ∙ ap (λ m. c.print_in.new.lines.items ++ m) c.as_bytes.ensures.value)
          refl c.in_ok-extend_from_slice-2.ensures.items,
      (added.0, words_of c.head_at-head.result, begun.0, refl, c.head_at-head.ensures, begun.1, added.2),
    )
