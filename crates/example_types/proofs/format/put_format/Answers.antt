use Rattle.std.proofs.Common.{map, refl}
use Rattle.std.specs.Prelude.{string_bytes}
use Rattle.libspa.specs.Kind as kind
use Rattle.libspa.specs.Tree.{Tree, array, fixed, member, no_trees, string, struct}
use Rattle.spa_names.specs.declared.ids.TheConstants as ids
use Rattle.spa_names.specs.declared.keys.TheConstants as keys
use Rattle.spa_names.specs.declared.types.TheConstants as types
use Rattle.example_types.specs.declared.curve.Curve.{Curve}
use Rattle.example_types.specs.declared.format.TheConstants.{CURVE}
use Rattle.example_types.proofs.Formats.{format_shallow}
use Rattle.example_types.proofs.format.put_format.Goals as goal

abbrev curve_tree : Curve → Tree
curve_tree c =
    struct
    (member (string (string_bytes c.name))
    (member (fixed (kind.int c.order))
    (member (fixed (kind.id c.channel.0)) (member (array kind.float_kind (map (λ x. kind.float x.0) c.points.items)) no_trees))))

pub returns-clause-room : goal.returns-clause-room
returns-clause-room g c = λ writable fits.
    let f = c.args.format.now in
    let shallow =
    format_shallow types.OBJECT_FORMAT ids.PARAM_FORMAT keys.FORMAT_AUDIO_FORMAT keys.FORMAT_AUDIO_RATE keys.FORMAT_AUDIO_CHANNELS
    keys.FORMAT_AUDIO_POSITION CURVE (kind.id f.encoding.0) (kind.int f.rate) f.channels (map (λ x. kind.id x.0) f.positions.items)
    (curve_tree f.curve) refl in
    c.declared_pods_are_written_where_they_fit.ensures.room writable shallow fits
