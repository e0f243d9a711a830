-- Written by tables/generate.py from the headers of PipeWire 0.3.65. Do not edit.
-- The contents of each table.
use Rattle.std.specs.Prelude.{List, [], get_or, map}
use Rattle.spa_names.specs.Rows.{Row, Naming}
use Rattle.spa_names.specs.declared.entry.TheConstants.Expected.{NOTHING}
use Rattle.spa_names.specs.declared.table.Table.{Table}
use Rattle.spa_names.specs.declared.table.Table.TheVariants.{Types, Choices, Controls, DeviceKeys, NodeKeys, CommandNodeKeys, PropInfoKeys, PropsKeys, FormatKeys, BuffersKeys, ParamMetaKeys, IOKeys, ProfileKeys, PortConfigKeys, RouteKeys, ProfilerKeys, LatencyKeys, ProcessLatencyKeys, DeviceEventId, Node, CommandNode, ParamId, BluetoothAudioCodec, MediaType, MediaSubtype, AudioFormat, AudioFlags, AudioIEC958Codec, ParamBitorder, AudioAACStreamFormat, AudioWMAProfile, AudioAMRBandMode, VideoFormat, VideoInterlaceMode, Meta, IO, ParamAvailability, Direction, ParamPortConfigMode, AudioChannel}
use Rattle.spa_names.specs.declared.key_entries.TheConstants.{EXPECTED, ENTRIES_OF_DEVICE_KEYS, ENTRIES_OF_NODE_KEYS, ENTRIES_OF_COMMAND_NODE_KEYS, ENTRIES_OF_PROP_INFO_KEYS, ENTRIES_OF_PROPS_KEYS, ENTRIES_OF_FORMAT_KEYS, ENTRIES_OF_BUFFERS_KEYS, ENTRIES_OF_PARAM_META_KEYS, ENTRIES_OF_IOKEYS, ENTRIES_OF_PROFILE_KEYS, ENTRIES_OF_PORT_CONFIG_KEYS, ENTRIES_OF_ROUTE_KEYS, ENTRIES_OF_PROFILER_KEYS, ENTRIES_OF_LATENCY_KEYS, ENTRIES_OF_PROCESS_LATENCY_KEYS}
use Rattle.spa_names.specs.declared.id_entries.TheConstants.{ENTRIES_OF_TYPES, ENTRIES_OF_CHOICES, ENTRIES_OF_CONTROLS, ENTRIES_OF_DEVICE_EVENT_ID, ENTRIES_OF_NODE, ENTRIES_OF_COMMAND_NODE, ENTRIES_OF_PARAM_ID, ENTRIES_OF_BLUETOOTH_AUDIO_CODEC, ENTRIES_OF_MEDIA_TYPE, ENTRIES_OF_MEDIA_SUBTYPE, ENTRIES_OF_AUDIO_FORMAT, ENTRIES_OF_AUDIO_FLAGS, ENTRIES_OF_AUDIO_IEC958_CODEC, ENTRIES_OF_PARAM_BITORDER, ENTRIES_OF_AUDIO_AACSTREAM_FORMAT, ENTRIES_OF_AUDIO_WMAPROFILE, ENTRIES_OF_AUDIO_AMRBAND_MODE, ENTRIES_OF_VIDEO_FORMAT, ENTRIES_OF_VIDEO_INTERLACE_MODE, ENTRIES_OF_META, ENTRIES_OF_IO, ENTRIES_OF_PARAM_AVAILABILITY, ENTRIES_OF_DIRECTION, ENTRIES_OF_PARAM_PORT_CONFIG_MODE, ENTRIES_OF_AUDIO_CHANNEL}
use Rattle.spa_names.specs.declared.aliases.TheConstants.{ALIASES_OF_AUDIO_FORMAT}

-- the entries of a table of types or ids, by their numbers; of any other none
abbrev pub id_rows_of : Table → List Row
id_rows_of Types = map (λ e. (e.0, e.1.now, e.2, get_or EXPECTED e.3 NOTHING)) ENTRIES_OF_TYPES.now
id_rows_of Choices = map (λ e. (e.0, e.1.now, e.2, get_or EXPECTED e.3 NOTHING)) ENTRIES_OF_CHOICES.now
id_rows_of Controls = map (λ e. (e.0, e.1.now, e.2, get_or EXPECTED e.3 NOTHING)) ENTRIES_OF_CONTROLS.now
id_rows_of DeviceEventId = map (λ e. (e.0, e.1.now, e.2, get_or EXPECTED e.3 NOTHING)) ENTRIES_OF_DEVICE_EVENT_ID.now
id_rows_of Node = map (λ e. (e.0, e.1.now, e.2, get_or EXPECTED e.3 NOTHING)) ENTRIES_OF_NODE.now
id_rows_of CommandNode = map (λ e. (e.0, e.1.now, e.2, get_or EXPECTED e.3 NOTHING)) ENTRIES_OF_COMMAND_NODE.now
id_rows_of ParamId = map (λ e. (e.0, e.1.now, e.2, get_or EXPECTED e.3 NOTHING)) ENTRIES_OF_PARAM_ID.now
id_rows_of BluetoothAudioCodec = map (λ e. (e.0, e.1.now, e.2, get_or EXPECTED e.3 NOTHING)) ENTRIES_OF_BLUETOOTH_AUDIO_CODEC.now
id_rows_of MediaType = map (λ e. (e.0, e.1.now, e.2, get_or EXPECTED e.3 NOTHING)) ENTRIES_OF_MEDIA_TYPE.now
id_rows_of MediaSubtype = map (λ e. (e.0, e.1.now, e.2, get_or EXPECTED e.3 NOTHING)) ENTRIES_OF_MEDIA_SUBTYPE.now
id_rows_of AudioFormat = map (λ e. (e.0, e.1.now, e.2, get_or EXPECTED e.3 NOTHING)) ENTRIES_OF_AUDIO_FORMAT.now
id_rows_of AudioFlags = map (λ e. (e.0, e.1.now, e.2, get_or EXPECTED e.3 NOTHING)) ENTRIES_OF_AUDIO_FLAGS.now
id_rows_of AudioIEC958Codec = map (λ e. (e.0, e.1.now, e.2, get_or EXPECTED e.3 NOTHING)) ENTRIES_OF_AUDIO_IEC958_CODEC.now
id_rows_of ParamBitorder = map (λ e. (e.0, e.1.now, e.2, get_or EXPECTED e.3 NOTHING)) ENTRIES_OF_PARAM_BITORDER.now
id_rows_of AudioAACStreamFormat = map (λ e. (e.0, e.1.now, e.2, get_or EXPECTED e.3 NOTHING)) ENTRIES_OF_AUDIO_AACSTREAM_FORMAT.now
id_rows_of AudioWMAProfile = map (λ e. (e.0, e.1.now, e.2, get_or EXPECTED e.3 NOTHING)) ENTRIES_OF_AUDIO_WMAPROFILE.now
id_rows_of AudioAMRBandMode = map (λ e. (e.0, e.1.now, e.2, get_or EXPECTED e.3 NOTHING)) ENTRIES_OF_AUDIO_AMRBAND_MODE.now
id_rows_of VideoFormat = map (λ e. (e.0, e.1.now, e.2, get_or EXPECTED e.3 NOTHING)) ENTRIES_OF_VIDEO_FORMAT.now
id_rows_of VideoInterlaceMode = map (λ e. (e.0, e.1.now, e.2, get_or EXPECTED e.3 NOTHING)) ENTRIES_OF_VIDEO_INTERLACE_MODE.now
id_rows_of Meta = map (λ e. (e.0, e.1.now, e.2, get_or EXPECTED e.3 NOTHING)) ENTRIES_OF_META.now
id_rows_of IO = map (λ e. (e.0, e.1.now, e.2, get_or EXPECTED e.3 NOTHING)) ENTRIES_OF_IO.now
id_rows_of ParamAvailability = map (λ e. (e.0, e.1.now, e.2, get_or EXPECTED e.3 NOTHING)) ENTRIES_OF_PARAM_AVAILABILITY.now
id_rows_of Direction = map (λ e. (e.0, e.1.now, e.2, get_or EXPECTED e.3 NOTHING)) ENTRIES_OF_DIRECTION.now
id_rows_of ParamPortConfigMode = map (λ e. (e.0, e.1.now, e.2, get_or EXPECTED e.3 NOTHING)) ENTRIES_OF_PARAM_PORT_CONFIG_MODE.now
id_rows_of AudioChannel = map (λ e. (e.0, e.1.now, e.2, get_or EXPECTED e.3 NOTHING)) ENTRIES_OF_AUDIO_CHANNEL.now
id_rows_of _ = []

-- the entries of a table, by their numbers
abbrev pub rows_of : Table → List Row
rows_of DeviceKeys = map (λ e. (e.0, e.1.now, e.2, get_or EXPECTED e.3 NOTHING)) ENTRIES_OF_DEVICE_KEYS.now
rows_of NodeKeys = map (λ e. (e.0, e.1.now, e.2, get_or EXPECTED e.3 NOTHING)) ENTRIES_OF_NODE_KEYS.now
rows_of CommandNodeKeys = map (λ e. (e.0, e.1.now, e.2, get_or EXPECTED e.3 NOTHING)) ENTRIES_OF_COMMAND_NODE_KEYS.now
rows_of PropInfoKeys = map (λ e. (e.0, e.1.now, e.2, get_or EXPECTED e.3 NOTHING)) ENTRIES_OF_PROP_INFO_KEYS.now
rows_of PropsKeys = map (λ e. (e.0, e.1.now, e.2, get_or EXPECTED e.3 NOTHING)) ENTRIES_OF_PROPS_KEYS.now
rows_of FormatKeys = map (λ e. (e.0, e.1.now, e.2, get_or EXPECTED e.3 NOTHING)) ENTRIES_OF_FORMAT_KEYS.now
rows_of BuffersKeys = map (λ e. (e.0, e.1.now, e.2, get_or EXPECTED e.3 NOTHING)) ENTRIES_OF_BUFFERS_KEYS.now
rows_of ParamMetaKeys = map (λ e. (e.0, e.1.now, e.2, get_or EXPECTED e.3 NOTHING)) ENTRIES_OF_PARAM_META_KEYS.now
rows_of IOKeys = map (λ e. (e.0, e.1.now, e.2, get_or EXPECTED e.3 NOTHING)) ENTRIES_OF_IOKEYS.now
rows_of ProfileKeys = map (λ e. (e.0, e.1.now, e.2, get_or EXPECTED e.3 NOTHING)) ENTRIES_OF_PROFILE_KEYS.now
rows_of PortConfigKeys = map (λ e. (e.0, e.1.now, e.2, get_or EXPECTED e.3 NOTHING)) ENTRIES_OF_PORT_CONFIG_KEYS.now
rows_of RouteKeys = map (λ e. (e.0, e.1.now, e.2, get_or EXPECTED e.3 NOTHING)) ENTRIES_OF_ROUTE_KEYS.now
rows_of ProfilerKeys = map (λ e. (e.0, e.1.now, e.2, get_or EXPECTED e.3 NOTHING)) ENTRIES_OF_PROFILER_KEYS.now
rows_of LatencyKeys = map (λ e. (e.0, e.1.now, e.2, get_or EXPECTED e.3 NOTHING)) ENTRIES_OF_LATENCY_KEYS.now
rows_of ProcessLatencyKeys = map (λ e. (e.0, e.1.now, e.2, get_or EXPECTED e.3 NOTHING)) ENTRIES_OF_PROCESS_LATENCY_KEYS.now
rows_of table = id_rows_of table

-- the further names of numbers in a table
abbrev pub aliases_of : Table → List Naming
aliases_of AudioFormat = map (λ e. (e.0.now, e.1)) ALIASES_OF_AUDIO_FORMAT.now
aliases_of _ = []
