-- What a look at pods finds: docs/FORMAT.md, "The encoding of a value", "Faults" and "Values".
use Rattle.std.specs.Prelude.{◌≡◌, ◌+◌, ◌-◌, ◌<◌, ◌≤◌, ℕ, List, length, drop, take, Bool, true, false, Decides, ◌≢◌, Option, None, Some, [], ◌∷◌, not, ◌==◌}
use Rattle.spa_fixed_sized.specs.declared.fault.Refusal.{Refusal}
use Rattle.spa_format.specs.Front.{Begins, IsRefused, HasFront, rest_of}
use Rattle.spa_format.specs.Pod.{AreMembers}
use Rattle.spa_format.specs.Tree.{Tree, Trees, Shape, shape_number, object_type, struct_type}
use Rattle.spa_format.specs.Words.{header_size, body_of, extent, word_at}
use Rattle.spa_format.specs.Faults.{Fault, StandsAtFront, Short, Stands}
use Rattle.spa_format.specs.Opened.{OpensHeaderAlone}
use Rattle.spa_format.specs.Typed.{IsBytes}
use Rattle.spa_bytes.specs.Opening.{Opens}
use Rattle.spa_bodies.specs.Refusing.{Says, StandsInMembers, StandsInProperties, StandsInBody}
use Rattle.spa_canonical.specs.Canonical.{AreCanonical, AreCanonicalProperties, BeginsCanonical, AreCanonicalElements, IsCanonicalBody, bytes_taken}
use Rattle.spa_canonical.specs.Depth.{NestsDeeper, NestsDeeperInside, depth_of, levels_looked_into}
use Rattle.spa_canonical.specs.Rewriting.{AreShorter, AreShorterInside, BeginsShorter, IsShorterBody}
use Rattle.spa_events.specs.Inside.{IsBehindKey, IsInside, key_size, HoldsPods}
use Rattle.spa_canonical.specs.declared.inside.Found.{Found}
use Rattle.spa_canonical.specs.declared.inside.Met.{Met}
use Rattle.spa_canonical.specs.declared.inside.Waiting.{Waiting}
use Rattle.spa_canonical.specs.declared.look.AcceptedPod.{AcceptedPod}
use Rattle.spa_canonical.specs.declared.look.AcceptedPods.{AcceptedPods}
use Rattle.spa_canonical.specs.declared.look.FrontLook.{FrontLook}
use Rattle.spa_canonical.specs.declared.look.Rejected.{Rejected}
use Rattle.spa_fixed_sized.specs.Reading.{AreWhole}
use Rattle.spa_format.specs.Kind.{Kind, body_size, type_number}
use Rattle.spa_format.specs.Normal.{kept_flags}
use Rattle.spa_canonical.specs.declared.inside.Found.TheVariants as found
use Rattle.spa_canonical.specs.declared.inside.Met.TheVariants as met
use Rattle.spa_canonical.specs.declared.look.FrontLook.TheVariants as front
use Rattle.spa_canonical.specs.declared.look.Rejected.TheVariants as rejected
use Rattle.spa_fixed_sized.specs.declared.fault.Refusal.TheVariants as refusal

-- what an offset counts from the front of: a pod, members, or properties
pub data Scope : Type 0 where
  from_pod : Scope
  from_members : Scope
  from_properties : Scope

-- The fault stands at this offset. The pods before it are accepted, or hold it.
pub data StandsAt (k : Fault) : Scope → ℕ → List ℕ → Type 0 where
  at_pod : (b : List ℕ) → StandsAtFront k b → StandsAt k from_pod 0 b
  in_struct : (at : ℕ) (b : List ℕ) → HasFront b → word_at b 4 ≡ struct_type → StandsAt k from_members at (body_of b) →
      StandsAt k from_pod (header_size + at) b
  in_object : (at : ℕ) (b : List ℕ) → HasFront b → word_at b 4 ≡ object_type → header_size ≤ length (body_of b) →
      StandsAt k from_properties at (drop header_size (body_of b)) → StandsAt k from_pod (header_size + header_size + at) b
  first_member : (at : ℕ) (b : List ℕ) → b ≢ [] → StandsAt k from_pod at b → StandsAt k from_members at b
  next_member : (at : ℕ) (b : List ℕ) (v : Tree) → Begins b v → StandsAt k from_members at (rest_of b) →
      StandsAt k from_members (extent (word_at b 0) + at) b
  at_key : (b : List ℕ) → b ≢ [] → length b < header_size → k ≡ Short → StandsAt k from_properties 0 b
  first_value : (at : ℕ) (b : List ℕ) → header_size ≤ length b → StandsAt k from_pod at (drop header_size b) →
      StandsAt k from_properties (header_size + at) b
  next_property : (at : ℕ) (b : List ℕ) (v : Tree) → header_size ≤ length b → Begins (drop header_size b) v →
      StandsAt k from_properties at (rest_of (drop header_size b)) →
      StandsAt k from_properties (header_size + extent (word_at (drop header_size b) 0) + at) b

-- an offset in properties, or in members
abbrev pub scope_of : Bool → Scope
scope_of true = from_properties
scope_of false = from_members

-- The refusal names a fault of the pod at the front, which is refused for it: the fault stands at this place in it, and at this offset.
pub record IsFaultAt (input place : List ℕ) (at : ℕ) (why : Refusal) : Type 0 where
  pub refused : IsRefused input
  pub stands : Says (λ k. Stands k place input) ⊥ why
  pub offset : Says (λ k. StandsAt k from_pod at input) ⊥ why
  pub within : at ≤ length input

-- bodies of the kind of this type and size, which are as their values are written, where that is asked
pub record AreElementsOf (canonical : Bool) (type size : ℕ) (elements : List ℕ) : Type 0 where
  pub kind : Kind
  pub its_type : type ≡ type_number kind
  pub its_size : size ≡ body_size kind
  pub whole : AreWhole (body_size kind) elements
  pub own : canonical ≡ true → AreCanonicalElements kind elements

-- They aren't: there is no such kind, or it has another size, or the last one isn't whole. None: they aren't as their values are written, where that is asked.
abbrev pub AreNoElementsOf : Bool → ℕ → ℕ → List ℕ → Option Refusal → Type 0
AreNoElementsOf canonical type size elements (Some refusal.InvalidType) = (k : Kind) → type ≢ type_number k
AreNoElementsOf canonical type size elements (Some refusal.WrongSize) = (k : Kind) × (type ≡ type_number k) × (size ≡ body_size k → ¬ (AreWhole size elements))
AreNoElementsOf canonical type size elements (Some _) = ⊥
AreNoElementsOf canonical type size elements None = (canonical ≡ true) × ((k : Kind) → type ≡ type_number k → ¬ (AreCanonicalElements k elements))

-- a choice of this shape keeps its flags, and takes all the bytes of its values, which are some
pub record TakesAll (shape flags size all : ℕ) : Type 0 where
  pub its_shape : Shape
  pub number : shape ≡ shape_number its_shape
  pub keeps : kept_flags its_shape flags ≡ flags
  pub taken : bytes_taken its_shape size all ≡ all
  pub some : 0 < all

-- the body, which holds no pods, is accepted, and canonical where that is asked: the encoding of its pod is so many bytes shorter
pub record IsLeafBody (canonical : Bool) (type : ℕ) (body : List ℕ) (surplus : ℕ) : Type 0 where
  pub shorter : IsShorterBody type body surplus
  pub own : canonical ≡ true → IsCanonicalBody type body

-- It isn't, for this fault. None: it isn't canonical, where that is asked, or the type is that of a container.
abbrev pub IsNoLeafBody : Bool → ℕ → List ℕ → Option Refusal → Type 0
IsNoLeafBody canonical type body (Some why) = Says (StandsInBody type body) ⊥ why
IsNoLeafBody canonical type body None =
    (canonical ≡ false → (keyed : Bool) × HoldsPods type (length body) keyed) × ((c : IsCanonicalBody type body) → 0 < depth_of c.value)

-- properties that are as their values are written, or members
abbrev pub AreCanonicalInside : Bool → List ℕ → Type 0
AreCanonicalInside true body = AreCanonicalProperties body
AreCanonicalInside false body = AreCanonical body

-- the fault stands at this place in one of the properties, or of the members
abbrev pub StandsInside : Bool → List ℕ → List ℕ → Fault → Type 0
StandsInside true pods = StandsInProperties pods
StandsInside false pods = StandsInMembers pods

-- The first of them is a struct or an object: what stands inside, and what follows it.
pub record OpensInside (keyed : Bool) (left : List ℕ) (inner : Bool) (inside rest : List ℕ) : Type 0 where
  pub here : List ℕ
  pub type : ℕ
  pub body : List ℕ
  pub its_key : IsBehindKey keyed left here
  pub opens : Opens here type body rest
  pub its_inside : IsInside type body inner inside

-- No pod begins at this place, which so many bytes of the pods follow, for a fault of its front, which stands in them.
pub record StopsAt (keyed : Bool) (pods place : List ℕ) (behind : ℕ) : Type 0 where
  pub refused : IsRefused place
  pub alone : OpensHeaderAlone place
  pub stands : (k : Fault) → StandsAtFront k place → StandsInside keyed pods place k
  pub room : length place + behind ≤ length pods
  pub offset : (k : Fault) → StandsAtFront k place → StandsAt k (scope_of keyed) (length pods - (length place + behind)) pods

-- Members or properties are accepted, and canonical where that is asked: their encodings are so many bytes shorter.
pub record Fits (canonical keyed : Bool) (pods : List ℕ) (surplus : ℕ) : Type 0 where
  pub shorter : AreShorterInside keyed pods surplus
  pub own : canonical ≡ true → AreCanonicalInside keyed pods

-- They aren't: at this place, which so many bytes of them follow, a fault stands, where it isn't asked whether they are canonical.
pub record Stops (canonical keyed : Bool) (pods place : List ℕ) (behind : ℕ) : Type 0 where
  pub differs : canonical ≡ true → ¬ (AreCanonicalInside keyed pods)
  pub room : length place + behind ≤ length pods
  pub fault : canonical ≡ false → StopsAt keyed pods place behind

-- what is found in members or properties, where so many lists can wait
abbrev pub IsFound : Bool → ℕ → Bool → List ℕ → Found → Type 0
IsFound canonical waiting keyed pods (found.Fits surplus) = Fits canonical keyed pods surplus
IsFound canonical waiting keyed pods (found.Stops place behind) = Stops canonical keyed pods place.now behind
IsFound canonical waiting keyed pods (found.Full surplus) = NestsDeeperInside waiting keyed pods

-- What is found in what is left of a list holds of all pods. Once that fits, `Then` holds of how much shorter encodings are; so many lists wait around it.
pub record Awaits (canonical all : Bool) (pods : List ℕ) (Then : ℕ → Type 0) (waiting : ℕ) (keyed : Bool) (left : List ℕ) (behind surplus : ℕ) : Type 0 where
  pub bytes : IsBytes left
  pub ends : (m : ℕ) → Fits canonical keyed left m → Then (surplus + m)
  pub kept : AreCanonicalInside all pods → AreCanonicalInside keyed left
  pub stands : (k : Fault) (place : List ℕ) → StandsInside keyed left place k → StandsInside all pods place k
  pub offset : (k : Fault) (at : ℕ) → StandsAt k (scope_of keyed) at left → StandsAt k (scope_of all) (length pods - (length left + behind) + at) pods
  pub deep : (n : ℕ) → NestsDeeperInside n keyed left → NestsDeeperInside (n + waiting) all pods
  pub room : surplus + (length left + behind) ≤ length pods

-- The first members or properties are accepted, or canonical, and were passed, and this follows them.
abbrev pub Passes : (keyed canonical : Bool) → (pods left : List ℕ) → (surplus : ℕ) → Type 0
Passes keyed canonical pods left = Awaits canonical keyed pods (Fits canonical keyed pods) 0 keyed left 0

-- What is found in what is left of the first of these lists holds of all pods. The others wait around it, the innermost first.
abbrev pub Onward : (canonical all : Bool) → (pods : List ℕ) → List Waiting → ℕ → Type 0
Onward canonical all pods [] = Fits canonical all pods
Onward canonical all pods (next ∷ outer) =
    Awaits canonical all pods (Onward canonical all pods outer) (length outer) (not (next.keyed == 0)) next.pods.now next.behind

-- the pod at the front is accepted, and canonical where that is asked: its encoding is so many bytes shorter
pub record BeginsAsked (canonical : Bool) (input rest : List ℕ) (surplus : ℕ) : Type 0 where
  pub shorter : BeginsShorter input rest surplus
  pub own : canonical ≡ true → BeginsCanonical input rest

-- No such pod that holds no others is at the front.
pub record IsNoLeaf (canonical : Bool) (here : List ℕ) : Type 0 where
  pub differs : canonical ≡ true → (rest : List ℕ) (c : BeginsCanonical here rest) → 0 < depth_of c.value
  pub refused : canonical ≡ false → (v : Tree) → Begins here v → 0 < depth_of v

-- none is the first of these
abbrev pub StopsBefore : Bool → Bool → List ℕ → Type 0
StopsBefore keyed canonical left = (here : List ℕ) → IsBehindKey keyed left here → IsNoLeaf canonical here

-- The first of members or properties is a struct or an object, behind whose pods are so many bytes. Otherwise a look ends there, unless the first is
-- another pod that it passes.
abbrev pub IsMet : Bool → List ℕ → Met → Type 0
IsMet keyed left (met.Inner inner rest behind) =
    OpensInside keyed left inner.keyed inner.pods.now rest.now
    × (length left ≡ key_size keyed + (header_size + (key_size inner.keyed + (length inner.pods.now + behind))))
IsMet keyed left (met.None place) = (canonical : Bool) → StopsBefore keyed canonical left → Stops canonical keyed left place.now 0

-- No pod begins at this place, for a fault that is in no member or property of it, and a fault of its front stands in the input, at this offset.
pub record StopsFront (input place : List ℕ) (at : ℕ) : Type 0 where
  pub refused : IsRefused place
  pub alone : OpensHeaderAlone place
  pub named : (why : Refusal) → Says (λ k. StandsAtFront k place) ⊥ why → IsFaultAt input place at why

-- what a look finds of the pod at the front
abbrev pub IsFrontLook : Bool → List ℕ → FrontLook → Type 0
IsFrontLook canonical input (front.Fits rest surplus) = BeginsAsked canonical input rest.now surplus
IsFrontLook canonical input (front.Stops place at) =
    (canonical ≡ true → (rest : List ℕ) → ¬ (BeginsCanonical input rest)) × (canonical ≡ false → StopsFront input place.now at)
IsFrontLook canonical input front.TooDeep = NestsDeeper levels_looked_into input

-- the pod at the front is accepted: what follows it, whether it is canonical, and by how much its encoding is shorter
pub record IsAccepted (input : List ℕ) (pod : AcceptedPod) : Type 0 where
  pub shorter : BeginsShorter input pod.rest.now pod.surplus
  pub exactly : Decides pod.canonical (BeginsCanonical input pod.rest.now)

-- why it isn't: a fault that stands, or too many levels
abbrev pub IsRejected : List ℕ → Rejected → Type 0
IsRejected input (rejected.Fault place at why) = IsFaultAt input place.now at why
IsRejected input rejected.TooDeep = NestsDeeper levels_looked_into input

-- all pods are accepted: those in so many first bytes, and canonical ones behind them
pub record AreChanged (pods : List ℕ) (changed : ℕ) : Type 0 where
  pub within : changed ≤ length pods
  pub first : (vs : Trees) × AreMembers vs (take changed pods)
  pub canonical : AreCanonical (drop changed pods)

-- and the encodings are so much shorter
pub record AreAccepted (pods : List ℕ) (all : AcceptedPods) : Type 0 where
  pub first : AreChanged pods all.changed
  pub shorter : AreShorter (take all.changed pods) all.surplus
