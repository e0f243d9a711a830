use Rattle.std.proofs.Common.{◌+◌, ◌*◌, length, take}
use Rattle.spa_format.specs.Encoding.{encoding_of, member_encodings, property_encodings}
use Rattle.spa_value.specs.View.{view}
use Rattle.spa_value.specs.Views.{views, property_views}
use Rattle.spa_write.specs.Measured.{ArePut, ArePropertiesPut}
use Rattle.spa_write.proofs.LoneStructs.{AreBegun}
use Rattle.spa_write.proofs.sized.+put.Given as goal

-- the bytes that are to be written
abbrev pub decreases-put_value : goal.decreases-put_value
decreases-put_value g l = 3 * length (encoding_of (view l.value.now))

abbrev pub decreases-put_members : goal.decreases-put_members
decreases-put_members g l = 3 * length (member_encodings (views l.members.now)) + 2

abbrev pub decreases-put_all : goal.decreases-put_all
decreases-put_all g l = 3 * length (member_encodings (views l.members.now)) + 1

abbrev pub decreases-put_properties : goal.decreases-put_properties
decreases-put_properties g l = 3 * length (property_encodings (property_views l.properties.now)) + 1

-- the headers of the structs that were passed
abbrev pub invariant-put_members-loop-inner : goal.invariant-put_members-loop-inner
invariant-put_members-loop-inner g l =
    AreBegun g.S.PodSink.appends l.fn.sink (views l.fn.members) l.sink (views l.left) l.size

abbrev pub decreases-put_members-loop-inner : goal.decreases-put_members-loop-inner
decreases-put_members-loop-inner g l = length (member_encodings (views l.left))

abbrev pub invariant-put_all-loop-index : goal.invariant-put_all-loop-index
invariant-put_all-loop-index g l =
    ArePut g.S.PodSink.appends l.fn.sink (views (take l.index l.members)) l.sink

abbrev pub invariant-put_properties-loop-index : goal.invariant-put_properties-loop-index
invariant-put_properties-loop-index g l =
    ArePropertiesPut g.S.PodSink.appends l.fn.sink (property_views (take l.index l.properties)) l.sink
