-- The models of the views, which are bytes: docs/FORMAT.md, "Walks over views".
use Rattle.std.specs.Prelude.{ℕ, List}
use Rattle.spa_view.specs.declared.arrays.PodChoice.{PodChoice}
use Rattle.spa_view.specs.declared.pod.Pod.{Pod}
use Rattle.spa_view.specs.declared.fields.PodStruct.{PodStruct}
use Rattle.spa_view.specs.declared.fields.PodStructIter.{PodStructIter}
use Rattle.spa_view.specs.declared.flags.PodPropFlags.{PodPropFlags}
use Rattle.spa_view.specs.declared.props.PodObject.{PodObject}
use Rattle.spa_view.specs.declared.props.PodObjectIter.{PodObjectIter}
use Rattle.spa_view.specs.declared.props.PodProp.{PodProp}
use Rattle.spa_format.specs.Walk.{walk, property_walk}

-- the bytes of the whole pod, with its padding
abbrev pub pod_bytes : Pod → List ℕ
pod_bytes pod = pod.bytes.now

abbrev pub struct_bytes : PodStruct → List ℕ
struct_bytes members = pod_bytes members.pod

abbrev pub object_bytes : PodObject → List ℕ
object_bytes object = pod_bytes object.pod

abbrev pub choice_bytes : PodChoice → List ℕ
choice_bytes choice = pod_bytes choice.pod

-- the bytes of key, flags and the whole pod
abbrev pub prop_bytes : PodProp → List ℕ
prop_bytes prop = prop.bytes.now

-- the number of the flags
abbrev pub flag_bits : PodPropFlags → ℕ
flag_bits flags = flags.0

-- the pods that the iterator has left
abbrev pub fields_left : PodStructIter → List (List ℕ)
fields_left fields = walk fields.left.now

-- the properties that the iterator has left
abbrev pub props_left : PodObjectIter → List (List ℕ)
props_left props = property_walk props.left.now
