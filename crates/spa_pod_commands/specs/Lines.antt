-- The lines of pods: docs/PROVED.md, "The programs".
use Rattle.std.specs.Prelude.{◌≡◌, ℕ, suc, ◌⊎◌, List, [], ◌∷◌, ◌++◌, Option, drop, length}
use Rattle.std.specs.Fmt.{decimal}
use Rattle.std.specs.Io.KnownBytes.{Appends}
use Rattle.spa_format.specs.Words.{header_size, word_at, body_of}
use Rattle.spa_format.specs.Walk.{walk, property_walk, properties_of}
use Rattle.spa_format.specs.Fixation.{walk_size}
use Rattle.spa_view.specs.Tests.{IsObjectPod, IsStructPod}
use Rattle.spa_view.specs.View.{fields_left, props_left}
use Rattle.spa_pod_commands.specs.declared.listing.Level.{Level}
use Rattle.spa_pod_commands.specs.declared.listing.Level.TheVariants.{Pods, Fields, Properties}

-- the line of a pod at this depth: the depth, the pod's type and its size
abbrev pub line_of_pod : ℕ → List ℕ → List ℕ
line_of_pod depth p = decimal depth ++ (32 ∷ (decimal (word_at p 4) ++ (32 ∷ (decimal (word_at p 0) ++ 10 ∷ []))))

-- the pods behind key and flags of these properties
abbrev pub values_of : List (List ℕ) → List (List ℕ)
values_of [] = []
values_of (p ∷ ps) = drop header_size p ∷ values_of ps

-- the pods inside a pod: a struct's fields, the values of an object's properties, and none in any other
abbrev pub Inside : List ℕ → List (List ℕ) → Type 0
Inside p ps =
    (IsStructPod p × (ps ≡ walk (body_of p)))
    ⊎ (IsObjectPod p × (ps ≡ values_of (property_walk (properties_of p))))
    ⊎ ((¬ (IsStructPod p)) × (¬ (IsObjectPod p)) × (ps ≡ []))

-- the lines of pods at this depth: of each its own, and then those of the pods inside it, one deeper
pub data AreLines : ℕ → List (List ℕ) → List ℕ → Type 0 where
  no_pods : (depth : ℕ) → AreLines depth [] []
  pod : (depth : ℕ) (p : List ℕ) (ps fields : List (List ℕ)) (inner others : List ℕ) → Inside p fields → AreLines (suc depth) fields inner →
      AreLines depth ps others → AreLines depth (p ∷ ps) (line_of_pod depth p ++ (inner ++ others))

-- whole pods one after another without remainder, and their lines
pub record Lists (input out : List ℕ) : Type 0 where
  pub whole : walk_size (walk input) ≡ length input
  pub lines : AreLines 0 (walk input) out

-- these bytes were said: a part of them was written behind what waited, and the rest waits
pub record Says (old : Option (List ℕ)) (waited : List ℕ) (new : Option (List ℕ)) (waiting said : List ℕ) : Type 0 where
  pub part : List ℕ
  pub written : Appends old new part
  pub all : waited ++ said ≡ part ++ waiting

-- the pods of a level that are still to come
abbrev pub level_pods : Level → List (List ℕ)
level_pods (Pods left) = walk left.now
level_pods (Fields fields) = fields_left fields
level_pods (Properties properties) = values_of (props_left properties)
