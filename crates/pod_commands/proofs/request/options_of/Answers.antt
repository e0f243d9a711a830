use Rattle.std.proofs.Common.{◌≡◌, ◌∙◌, ap, codes, inl, inr, subst}
use Rattle.clap.specs.Walk.{rows_of}
use Rattle.clap.specs.Words.{first_of, found_of}
use Rattle.clap.proofs.WalkLemmas.{first_value-rows}
use Rattle.pod_commands.specs.Requests.{AreColours, HasUnknownWhen, takes_colours}
use Rattle.pod_commands.proofs.request.options_of.Goals as goal

pub returns-in-Err-clause-unknown : goal.returns-in-Err-clause-unknown
returns-in-Err-clause-unknown c = inl c.in-Err.ensures.unknown

pub returns-in-Err-colours_of-clause-unknown : goal.returns-in-Err-colours_of-clause-unknown
returns-in-Err-colours_of-clause-unknown c =
    inr (subst (λ given. HasUnknownWhen given c.in-Err-colours_of.why)
    (c.get_str-2.ensures ∙ first_value-rows (found_of c.args.given.now) (codes "color")) c.in-Err-colours_of.ensures.unknown)

pub returns-clause-given : goal.returns-clause-given
returns-clause-given c =
    let found = found_of c.args.given.now in
    let to : c.takes_colours-to_terminal.result ≡ takes_colours c.args.screen (first_of (codes "output") (rows_of found)) =
    c.takes_colours-to_terminal.ensures ∙ ap (takes_colours c.args.screen) (c.get_str.ensures ∙ first_value-rows found (codes "output")) in
    record {
      layout = c.layout_of.ensures;
      colours =
          subst (λ b. AreColours (first_of (codes "color") (rows_of found)) b c.in-Ok-colours_of.colours) to
          (subst (λ t. AreColours t c.takes_colours-to_terminal.result c.in-Ok-colours_of.colours)
          (c.get_str-2.ensures ∙ first_value-rows found (codes "color")) c.in-Ok-colours_of.ensures.colours);
      hex = c.is_set.ensures;
      selection = c.in-Ok.ensures.given;
    }
