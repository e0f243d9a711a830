-- What is made of inputs whose refused pods are left out or kept.
use Rattle.std.specs.Prelude.{◌≡◌, ◌+◌, ℕ, Bool, true, false, List, [], ◌∷◌, ◌++◌, Option, None, length}
use Rattle.std.specs.Borrow.{Bor}
use Rattle.spa_device.specs.Whole.{IsAllOf}
use Rattle.spa_format.specs.Front.{HasFront, front_of, rest_of}
use Rattle.spa_format.specs.Walk.{walk}
use Rattle.spa_recordings.specs.Blocks.{AreWhole}
use Rattle.spa_recordings.specs.GoingOn.{GoesOn}
use Rattle.spa_recordings.specs.declared.going_on.Refused.{Refused}
use Rattle.spa_recordings.specs.declared.going_on.Refused.TheVariants.{LeftOut}
use Rattle.spa_recordings.specs.declared.going_on.RefusedPod.{RefusedPod}
use Rattle.spa_recordings.specs.declared.reading.Reading.{Reading}
use Rattle.spa_refusals.specs.Several.{AreSaid}
use Rattle.spa_refusals.specs.declared.several.NamedRefusal.{NamedRefusal}
use Rattle.pod_commands.specs.Inputs.{content_of, left_behind}
use Rattle.pod_commands.specs.Making.{IsNoForm, Makes}
use Rattle.pod_commands.specs.declared.refusing.FormlessPod.{FormlessPod}
use Rattle.pod_commands.specs.declared.request.Making.{Making}
use Rattle.pod_commands.specs.declared.request.Making.TheVariants.{Dump}

-- pods for which pw-dump has no form are left out, where refused ones are
abbrev pub leaves_formless_out : Refused → Making → Bool
leaves_formless_out LeftOut (Dump colours) = true
leaves_formless_out refused making = false

-- of the pod of this number of an input of this name, which begins with these bytes at this place, is said that pw-dump has no form for it
pub record IsSaidFormless (name : List ℕ) (number place : ℕ) (pod : List ℕ) (said : NamedRefusal) : Type 0 where
  pub its_name : said.name.now ≡ name
  pub its_number : said.refusal.number ≡ number
  pub its_place : said.refusal.place ≡ place
  pub refusal : IsNoForm pod said.refusal
  pub left_out : said.left_out ≡ None

-- What is made of what is left of an input of this name behind so many pods and bytes, whose refused pods are left out or kept, and what is said of
-- these: so of all that is left; or of whole pods that stand before one without a form, of which that is said, and then of what follows that one.
pub data MakesThrough (name : List ℕ) (reading : Reading) (refused : Refused) (making : Making) :
    (count place : ℕ) → (left out : List ℕ) → List NamedRefusal → Type 0 where
  to_end : (count place : ℕ) (left out : List ℕ) (pods : List RefusedPod) (said : List NamedRefusal) →
      GoesOn name reading refused (Makes making) count place left out pods → AreSaid reading place left pods said →
      MakesThrough name reading refused making count place left out said
  over_formless : (count place number : ℕ) (first left made others : List ℕ) (pods : List RefusedPod) (these those : List NamedRefusal)
      (its : NamedRefusal) → leaves_formless_out refused making ≡ true → AreWhole first → HasFront left →
      GoesOn name reading refused (Makes making) count place first made pods → AreSaid reading place first pods these →
      number ≡ count + length (walk first) + 1 → IsSaidFormless name number (place + length first) left its →
      MakesThrough name reading refused making number (place + length first + length (front_of left)) (rest_of left) others those →
      MakesThrough name reading refused making count place (first ++ left) (made ++ others) (these ++ (its ∷ those))

-- what is made of each input, one behind another, and what is said of the refused pods of all
abbrev pub AreWorked : Reading → Refused → Making → (remaining : Option (List ℕ)) → (holds : List ℕ → Option (List ℕ)) → List (Bor (List ℕ)) →
    (out : List ℕ) → List NamedRefusal → Type 0
AreWorked reading refused making remaining holds [] out said = (out ≡ []) × (said ≡ [])
AreWorked reading refused making remaining holds (n ∷ ns) out said =
    (input : List ℕ) × (first : List ℕ) × (others : List ℕ) × (these : List NamedRefusal) × (those : List NamedRefusal)
    × IsAllOf (content_of remaining holds n.now) input × MakesThrough n.now reading refused making 0 0 input first these
    × (out ≡ first ++ others) × (said ≡ these ++ those)
    × AreWorked reading refused making (left_behind remaining n.now) holds ns others those

-- ---- Only private clauses cite these.

-- behind some whole pods stands this one
pub record StandsBehind (input : List ℕ) (found : FormlessPod) : Type 0 where
  pub first : List ℕ
  pub left : List ℕ
  pub parts : input ≡ first ++ left
  pub whole : AreWhole first
  pub there : HasFront left
  pub before : found.before ≡ length (walk first)
  pub at : found.at ≡ length first
  pub len : found.len ≡ length (front_of left)

-- an input of this name was worked on: this was made of it, and said of its refused pods
pub record WorksThrough (reading : Reading) (refused : Refused) (making : Making) (name input out : List ℕ) (olds news : List NamedRefusal) : Type 0 where
  pub these : List NamedRefusal
  pub made : MakesThrough name reading refused making 0 0 input out these
  pub added : news ≡ olds ++ these

-- A part of an input of this name was worked on, which so many pods and bytes of it stand before: this was made of it, and said of its refused pods.
pub record WorksOn (reading : Reading) (refused : Refused) (making : Making) (name : List ℕ) (count place : ℕ) (part out : List ℕ)
    (olds news : List NamedRefusal) : Type 0 where
  pub pods : List RefusedPod
  pub these : List NamedRefusal
  pub goes_on : GoesOn name reading refused (Makes making) count place part out pods
  pub said : AreSaid reading place part pods these
  pub added : news ≡ olds ++ these
