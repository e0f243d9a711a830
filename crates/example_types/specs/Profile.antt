-- The numbers by which PipeWire says whether something can be used.
use Rattle.libspa.specs.Id.{Id}
use Rattle.spa_names.specs.declared.ids.TheConstants as ids
use Rattle.example_types.specs.declared.profile.Availability.{Availability}
use Rattle.example_types.specs.declared.profile.Availability.TheVariants.{Unknown, No, Yes, Other}

-- the id that says this
abbrev pub id_of : Availability → Id
id_of Unknown = record { 0 = ids.PARAM_AVAILABILITY_UNKNOWN }
id_of No = record { 0 = ids.PARAM_AVAILABILITY_NO }
id_of Yes = record { 0 = ids.PARAM_AVAILABILITY_YES }
id_of (Other id) = id
