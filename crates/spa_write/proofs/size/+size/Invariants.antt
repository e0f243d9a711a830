use Rattle.std.proofs.Common.{◌+◌, ◌*◌, length, take}
use Rattle.spa_format.specs.Encoding.{encoding_of, member_encodings, property_encodings}
use Rattle.spa_value.specs.View.{view}
use Rattle.spa_value.specs.Views.{views, property_views}
use Rattle.spa_write.specs.Measured.{AreMeasured, PropertiesAreMeasured}
use Rattle.spa_write.proofs.LoneStructs.{AreWithin}
use Rattle.spa_write.proofs.size.+size.Given as goal

-- the bytes that are measured
abbrev pub decreases-encoded_len : goal.decreases-encoded_len
decreases-encoded_len l = 3 * length (encoding_of (view l.value.now))

abbrev pub decreases-members_len : goal.decreases-members_len
decreases-members_len l = 3 * length (member_encodings (views l.members.now)) + 2

abbrev pub decreases-all_len : goal.decreases-all_len
decreases-all_len l = 3 * length (member_encodings (views l.members.now)) + 1

abbrev pub decreases-properties_len : goal.decreases-properties_len
decreases-properties_len l = 3 * length (property_encodings (property_views l.properties.now)) + 1

-- the headers of the structs that were passed
abbrev pub invariant-members_len-loop-inner : goal.invariant-members_len-loop-inner
invariant-members_len-loop-inner l = AreWithin (views l.members) l.outer (views l.left)

abbrev pub decreases-members_len-loop-inner : goal.decreases-members_len-loop-inner
decreases-members_len-loop-inner l = length (member_encodings (views l.left))

abbrev pub invariant-all_len-loop-member : goal.invariant-all_len-loop-member
invariant-all_len-loop-member l = AreMeasured (views (take l.member-index l.members)) l.total

abbrev pub invariant-properties_len-loop-property : goal.invariant-properties_len-loop-property
invariant-properties_len-loop-property l = PropertiesAreMeasured (property_views (take l.property-index l.properties)) l.total
