-- The lines of refused pods, written one after another.
use Rattle.std.proofs.Common.{◌≡◌, ◌∙◌, ◌∷◌, ◌++◌, [], append_assoc, ap, refl, sym, List, ℕ, Option}
use Rattle.std.proofs.KnownBytes.{Appends-nil, Appends-trans}
use Rattle.std.specs.Io.KnownBytes.{Appends}
use Rattle.spa_refusals.specs.declared.several.NamedRefusal.{NamedRefusal}
use Rattle.pod_commands.specs.Answers.{line_of_pod, lines_of_pods}

-- lines were written, which with those of the pods that are left are the lines of all
pub record ListedSoFar (old new : Option (List ℕ)) (pods left : List NamedRefusal) : Type 0 where
  pub lines : List ℕ
  pub written : Appends old new lines
  pub all : lines ++ lines_of_pods left ≡ lines_of_pods pods

pub begins : (old : Option (List ℕ)) (pods : List NamedRefusal) → ListedSoFar old old pods pods
begins old pods = record { lines = []; written = Appends-nil old; all = refl }

pub further : (old mid new : Option (List ℕ)) (pods left behind : List NamedRefusal) (pod : NamedRefusal) → left ≡ pod ∷ behind →
    Appends mid new (line_of_pod pod) → ListedSoFar old mid pods left → ListedSoFar old new pods behind
further old mid new pods left behind pod e w so = record {
  lines = so.lines ++ line_of_pod pod;
  written = Appends-trans old mid new so.lines (line_of_pod pod) so.written w;
  all = append_assoc so.lines (line_of_pod pod) (lines_of_pods behind) ∙ ap (λ z. so.lines ++ lines_of_pods z) (sym e) ∙ so.all;
}
