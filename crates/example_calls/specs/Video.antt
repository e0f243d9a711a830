-- The object of a video format.
use Rattle.libspa.specs.Kind.{fraction, id, rectangle}
use Rattle.libspa.specs.Tree.{Tree, Properties, fixed, no_properties, object, property}
use Rattle.spa_names.specs.declared.ids.TheConstants.{PARAM_FORMAT}
use Rattle.spa_names.specs.declared.keys.TheConstants.{FORMAT_VIDEO_FORMAT, FORMAT_VIDEO_FRAMERATE, FORMAT_VIDEO_SIZE}
use Rattle.spa_names.specs.declared.types.TheConstants.{OBJECT_FORMAT}
use Rattle.example_calls.specs.declared.video.VideoFormat.{VideoFormat}

-- the layout, the size and the rate
abbrev pub format_properties : VideoFormat → Properties
format_properties f =
    property FORMAT_VIDEO_FORMAT 0 (fixed (id f.layout.0))
    (property FORMAT_VIDEO_SIZE 0 (fixed (rectangle f.size.width f.size.height))
    (property FORMAT_VIDEO_FRAMERATE 0 (fixed (fraction f.rate.num f.rate.denom)) no_properties))

-- and their format
abbrev pub video_tree : VideoFormat → Tree
video_tree f = object OBJECT_FORMAT PARAM_FORMAT (format_properties f)
