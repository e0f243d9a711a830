use Rattle.std.proofs.Common.{◌≡◌, sym, subst}
use Rattle.libspa.specs.Kind as kind
use Rattle.libspa.specs.Lookup.{HasFirst}
use Rattle.libspa.specs.Settled.{settled_of}
use Rattle.libspa.specs.Tree.{choice, fixed, range_choice}
use Rattle.spa_names.specs.declared.keys.TheConstants.{FORMAT_AUDIO_RATE}
use Rattle.example_types.proofs.Streams.{one_first, range_differs}
use Rattle.example_types.proofs.stream.ranges_of_rates_are_refused.Goals as goal

pub returns : goal.returns
returns c it ps f k x xs h s =
    let same : s.properties ≡ ps = cc (sym s.is) in
    let rate = subst (HasFirst FORMAT_AUDIO_RATE (λ w. settled_of w ≡ fixed (kind.int it.rate))) same s.rate in
    let both = one_first FORMAT_AUDIO_RATE (λ v. v ≡ choice range_choice f k x xs) (λ w. settled_of w ≡ fixed (kind.int it.rate)) ps h rate in
    range_differs f k x (kind.int it.rate) xs both.0 both.1 both.2
