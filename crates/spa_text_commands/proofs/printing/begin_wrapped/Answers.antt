use Rattle.std.proofs.Common.{Some, refl, subst, sym}
use Rattle.spa_text_commands.specs.Texts.{IsHead}
use Rattle.spa_text_commands.specs.Unread.{words_of}
use Rattle.spa_text_commands.proofs.PrintedPods.{begun_headed}
use Rattle.spa_text_commands.proofs.printing.begin_wrapped.Goals as goal

pub returns : goal.returns
returns c =
    let head = c.in_ok-add_head_field.ensures in (
      Some head.0,
      subst (λ h. IsHead (words_of h) (Some head.0)) (sym c.in-Some.is) head.1,
      begun_headed c.args.path.now head.0 _ _ _ _ _ _ c.in_ok-extend_from_slice.ensures.items c.in_ok-add_path_field.ensures head.2
          c.in_ok-extend_from_slice-2.ensures.items refl,
    )
