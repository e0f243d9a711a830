-- A media: which Id says it.
use Rattle.libspa.specs.Id.{Id}
use Rattle.libspa.specs.Kind.{id}
use Rattle.libspa.specs.Never.{Never}
use Rattle.libspa.specs.Tree.{Tree, fixed}
use Rattle.libspa.specs.Visit.{Visit}
use Rattle.libspa.specs.VisitCases as visit
use Rattle.spa_names.specs.declared.ids.TheConstants.{MEDIA_TYPE_AUDIO, MEDIA_TYPE_VIDEO}
use Rattle.example_types.specs.declared.media.Media.{Media}
use Rattle.example_types.specs.declared.media.Media.TheVariants.{Audio, Video}

-- the id that says it
abbrev pub media_id : Media → Id
media_id Audio = record { 0 = MEDIA_TYPE_AUDIO }
media_id Video = record { 0 = MEDIA_TYPE_VIDEO }

-- the value of that id
abbrev pub media_tree : Media → Tree
media_tree it = fixed (id (media_id it).0)

-- the content that a visitor is handed of it
abbrev pub media_content : Media → Visit Never
media_content it = visit.Id (media_id it)
