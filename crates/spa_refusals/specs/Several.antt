-- Several refused pods of an input: docs/TEXT.md, "What is said of a refused pod".
use Rattle.std.specs.Prelude.{⊤, ◌≡◌, ◌≤◌, ◌<◌, ◌+◌, ◌-◌, ℕ, List, [], ◌∷◌, drop, length}
use Rattle.spa_recordings.specs.Reading.{IsNothing}
use Rattle.spa_recordings.specs.declared.going_on.RefusedPod.{RefusedPod}
use Rattle.spa_recordings.specs.declared.reading.Reading.{Reading}
use Rattle.spa_refusals.specs.Refusals.{IsRefusalOf}
use Rattle.spa_refusals.specs.declared.several.NamedRefusal.{NamedRefusal}

-- None of these pods of a part of an input is read, which so many bytes of the input stand before.
abbrev pub AreRefused : Reading → (before : ℕ) → (input : List ℕ) → List RefusedPod → Type 0
AreRefused reading before input [] = ⊤
AreRefused reading before input (pod ∷ pods) =
    (before ≤ pod.place) × (pod.place < before + length input) × IsNothing reading (drop (pod.place - before) input)
    × AreRefused reading before input pods

-- what is said has the pod's name, number and place, and what is left out with it, and is said of the pod there
pub record IsSaidOf (reading : Reading) (before : ℕ) (input : List ℕ) (pod : RefusedPod) (said : NamedRefusal) : Type 0 where
  pub name : said.name.now ≡ pod.name.now
  pub number : said.refusal.number ≡ pod.number
  pub place : said.refusal.place ≡ pod.place
  pub left_out : said.left_out ≡ pod.left_out
  pub at : ℕ
  pub its_place : pod.place ≡ before + at
  pub within : at ≤ length input
  pub refusal : IsRefusalOf reading (drop at input) said.refusal

-- these say why each of these pods is refused, of a part of an input which so many bytes of it stand before
abbrev pub AreSaid : Reading → (before : ℕ) → (input : List ℕ) → List RefusedPod → List NamedRefusal → Type 0
AreSaid reading before input [] said = said ≡ []
AreSaid reading before input (pod ∷ pods) [] = ⊥
AreSaid reading before input (pod ∷ pods) (first ∷ others) = IsSaidOf reading before input pod first × AreSaid reading before input pods others
