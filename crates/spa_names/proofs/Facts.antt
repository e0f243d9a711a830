-- Written by tables/generate.py from the headers of PipeWire 0.3.65. Do not edit.
-- What is true of each table.
use Rattle.std.proofs.Common.{◌≡◌, true, refl}
use Rattle.spa_names.specs.declared.table.Table.{Table}
use Rattle.spa_names.specs.declared.table.Table.TheVariants.{Types, Choices, Controls, DeviceKeys, NodeKeys, CommandNodeKeys, PropInfoKeys, PropsKeys, FormatKeys, BuffersKeys, ParamMetaKeys, IOKeys, ProfileKeys, PortConfigKeys, RouteKeys, ProfilerKeys, LatencyKeys, ProcessLatencyKeys, DeviceEventId, Node, CommandNode, ParamId, BluetoothAudioCodec, MediaType, MediaSubtype, AudioFormat, AudioFlags, AudioIEC958Codec, ParamBitorder, AudioAACStreamFormat, AudioWMAProfile, AudioAMRBandMode, VideoFormat, VideoInterlaceMode, Meta, IO, ParamAvailability, Direction, ParamPortConfigMode, AudioChannel, Nothing}
use Rattle.spa_names.proofs.Sound.{is_sound}

pub is_sound-all : (table : Table) → is_sound table ≡ true
is_sound-all Types = refl
is_sound-all Choices = refl
is_sound-all Controls = refl
is_sound-all DeviceKeys = refl
is_sound-all NodeKeys = refl
is_sound-all CommandNodeKeys = refl
is_sound-all PropInfoKeys = refl
is_sound-all PropsKeys = refl
is_sound-all FormatKeys = refl
is_sound-all BuffersKeys = refl
is_sound-all ParamMetaKeys = refl
is_sound-all IOKeys = refl
is_sound-all ProfileKeys = refl
is_sound-all PortConfigKeys = refl
is_sound-all RouteKeys = refl
is_sound-all ProfilerKeys = refl
is_sound-all LatencyKeys = refl
is_sound-all ProcessLatencyKeys = refl
is_sound-all DeviceEventId = refl
is_sound-all Node = refl
is_sound-all CommandNode = refl
is_sound-all ParamId = refl
is_sound-all BluetoothAudioCodec = refl
is_sound-all MediaType = refl
is_sound-all MediaSubtype = refl
is_sound-all AudioFormat = refl
is_sound-all AudioFlags = refl
is_sound-all AudioIEC958Codec = refl
is_sound-all ParamBitorder = refl
is_sound-all AudioAACStreamFormat = refl
is_sound-all AudioWMAProfile = refl
is_sound-all AudioAMRBandMode = refl
is_sound-all VideoFormat = refl
is_sound-all VideoInterlaceMode = refl
is_sound-all Meta = refl
is_sound-all IO = refl
is_sound-all ParamAvailability = refl
is_sound-all Direction = refl
is_sound-all ParamPortConfigMode = refl
is_sound-all AudioChannel = refl
is_sound-all Nothing = refl
