-- What a stream's format says, whether its values stand there as they are or as fixation left them.
use Rattle.std.specs.Prelude.{◌≡◌}
use Rattle.libspa.specs.Kind as kind
use Rattle.libspa.specs.Lookup.{HasFirst}
use Rattle.libspa.specs.Settled.{settled_of}
use Rattle.libspa.specs.Tree.{Properties, Tree, fixed, object}
use Rattle.spa_names.specs.declared.ids.TheConstants.{PARAM_FORMAT}
use Rattle.spa_names.specs.declared.keys.TheConstants.{FORMAT_AUDIO_CHANNELS, FORMAT_AUDIO_FORMAT, FORMAT_AUDIO_RATE}
use Rattle.spa_names.specs.declared.types.TheConstants.{OBJECT_FORMAT}
use Rattle.example_types.specs.declared.stream.StreamFormat.{StreamFormat}

-- The value is a format, in which the first ones under these keys are these values, each as it is or as a None choice of it.
pub record IsStreamFormat (v : Tree) (it : StreamFormat) : Type 0 where
  pub properties : Properties
  pub is : v ≡ object OBJECT_FORMAT PARAM_FORMAT properties
  pub encoding : HasFirst FORMAT_AUDIO_FORMAT (λ w. settled_of w ≡ fixed (kind.id it.encoding.0)) properties
  pub rate : HasFirst FORMAT_AUDIO_RATE (λ w. settled_of w ≡ fixed (kind.int it.rate)) properties
  pub channels : HasFirst FORMAT_AUDIO_CHANNELS (λ w. settled_of w ≡ fixed (kind.int it.channels)) properties
