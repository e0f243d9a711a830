-- Two lists of objects, and the first pair of them that agrees: docs/NEGOTIATION.md, "The program".
use Rattle.std.specs.Prelude.{◌≡◌, ◌≢◌, ◌<◌, ◌⊎◌, ⊤, ℕ, List, [], ◌∷◌, ◌++◌, Result, Ok, Err, drop, length}
use Rattle.spa_format.specs.Tree.{Tree}
use Rattle.spa_format.specs.Pod.{IsPod}
use Rattle.spa_format.specs.Front.{IsRefused, rest_of}
use Rattle.spa_format.specs.Walk.{walk}
use Rattle.spa_format.specs.Fixation.{walk_size}
use Rattle.spa_object_view.specs.Fronts.{BeginsObjectOf, BeginsOther, IsObject}
use Rattle.spa_object_view.specs.declared.front.ObjectPod.{ObjectPod}
use Rattle.spa_filter.specs.declared.error.FilterError.{FilterError}
use Rattle.spa_filter.specs.declared.error.FilterError.TheVariants.{TypeMismatch, Missing, Unsupported, Disjoint}
use Rattle.spa_keyed_objects.specs.declared.side.Side.{Side}
use Rattle.spa_keyed_objects.specs.declared.side.Side.TheVariants.{First, Second}
use Rattle.spa_meet_commands.specs.Agreeing.{Agree, AgreeIn, ArentAgreed}
use Rattle.spa_meet_commands.specs.Answers.{HasType}
use Rattle.spa_meet_commands.specs.declared.pair.Work.{Work}
use Rattle.spa_meet_commands.specs.declared.answer.Failure.{Failure}
use Rattle.spa_meet_commands.specs.declared.answer.Failure.TheVariants.{Apart, NoPair, NoPod, NoObject, OutOfMemory}

-- a pod of an object
pub record IsOfObject (p : List ℕ) : Type 0 where
  pub value : Tree
  pub pod : IsPod p value
  pub object : IsObject value

-- each of these is a pod of an object
abbrev pub AreOfObjects : List (List ℕ) → Type 0
AreOfObjects [] = ⊤
AreOfObjects (p ∷ ps) = IsOfObject p × AreOfObjects ps

-- pods of objects one after another, without remainder
pub record IsList (input : List ℕ) : Type 0 where
  pub whole : walk_size (walk input) ≡ length input
  pub objects : AreOfObjects (walk input)

-- in the input zero or more first pods, all of objects, end at this offset, and the walk goes on there
pub record IsBehindObjects (input : List ℕ) (place : ℕ) : Type 0 where
  pub before : List (List ℕ)
  pub objects : AreOfObjects before
  pub order : walk input ≡ before ++ walk (drop place input)
  pub its_place : place ≡ walk_size before
  pub some : place < length input

-- the refusal of a list of this side at this offset, where `left` is left of it
abbrev pub StopsAt : Side → ℕ → Failure → List ℕ → Type 0
StopsAt side place (NoPod s k) left = (s ≡ side) × (k ≡ place) × IsRefused left
StopsAt side place (NoObject s k) left = (s ≡ side) × (k ≡ place) × BeginsOther left
StopsAt side place OutOfMemory left = ⊤
StopsAt side place _ left = ⊥

-- why the input of this side isn't a list
abbrev pub IsNoList : Side → Failure → List ℕ → Type 0
IsNoList side (NoPod s place) input = IsBehindObjects input place × StopsAt side place (NoPod s place) (drop place input)
IsNoList side (NoObject s place) input = IsBehindObjects input place × StopsAt side place (NoObject s place) (drop place input)
IsNoList side OutOfMemory input = ⊤
IsNoList side _ input = ⊥

-- the refusal says that two objects don't agree
abbrev pub IsOfDisagreement : FilterError → Type 0
IsOfDisagreement TypeMismatch = ⊤
IsOfDisagreement (Missing key) = ⊤
IsOfDisagreement (Unsupported key) = ⊤
IsOfDisagreement (Disjoint key) = ⊤
IsOfDisagreement _ = ⊥

-- the outcome of two pods: the encoding of an object on which they agree, or a refusal that doesn't say that they don't
abbrev pub Gives : Work → (p q : List ℕ) → Result (List ℕ) FilterError → Type 0
Gives work p q (Ok out) = AgreeIn work p q out
Gives work p q (Err e) = ArentAgreed work p q e × ¬ (IsOfDisagreement e)

-- the pod agrees with none of these
abbrev pub AgreesWithNone : List ℕ → List (List ℕ) → Type 0
AgreesWithNone p [] = ⊤
AgreesWithNone p (q ∷ qs) = (¬ (Agree p q)) × AgreesWithNone p qs

-- the outcome of the pod and the first of these that it doesn't disagree with
abbrev pub FirstGives : Work → List ℕ → List (List ℕ) → Result (List ℕ) FilterError → Type 0
FirstGives work p [] r = ⊥
FirstGives work p (q ∷ qs) r = Gives work p q r ⊎ ((¬ (Agree p q)) × FirstGives work p qs r)

-- no two of these and those agree
abbrev pub NoneAgree : (ps qs : List (List ℕ)) → Type 0
NoneAgree [] qs = ⊤
NoneAgree (p ∷ ps) qs = AgreesWithNone p qs × NoneAgree ps qs

-- the outcome of the first of these that agrees with one of those, and of the first of those with which it does
abbrev pub FirstPairGives : Work → (ps qs : List (List ℕ)) → Result (List ℕ) FilterError → Type 0
FirstPairGives work [] qs r = ⊥
FirstPairGives work (p ∷ ps) qs r = FirstGives work p qs r ⊎ (AgreesWithNone p qs × FirstPairGives work ps qs r)

-- the inputs are two lists, and this is the outcome of the first pair that agrees
pub record ListsGive (work : Work) (r : Result (List ℕ) FilterError) (a b : List ℕ) : Type 0 where
  pub ours : IsList a
  pub theirs : IsList b
  pub pair : FirstPairGives work (walk a) (walk b) r

-- the inputs are two lists of which no two objects agree
pub record AreApart (a b : List ℕ) : Type 0 where
  pub ours : IsList a
  pub theirs : IsList b
  pub none : NoneAgree (walk a) (walk b)

-- the input isn't empty, and nothing follows the pod at its front
abbrev pub IsOnePod : List ℕ → Type 0
IsOnePod input = (input ≢ []) × (rest_of input ≡ [])

-- each input has one object, and this is the refusal of the two
pub record IsOnePairApart (work : Work) (a b : List ℕ) (e : FilterError) : Type 0 where
  pub apart : AreApart a b
  pub ours : IsOnePod a
  pub theirs : IsOnePod b
  pub cause : ArentAgreed work a b e

-- The refusal of two inputs: one of the first comes before one of the second, and both before one of a pair. Where each list has one object,
-- the refusal is that of the two, and never that no two agree.
abbrev pub AreListsRefused : Work → Failure → (a b : List ℕ) → Type 0
AreListsRefused work (NoPod First place) a b = IsNoList First (NoPod First place) a
AreListsRefused work (NoPod Second place) a b = IsList a × IsNoList Second (NoPod Second place) b
AreListsRefused work (NoObject First place) a b = IsNoList First (NoObject First place) a
AreListsRefused work (NoObject Second place) a b = IsList a × IsNoList Second (NoObject Second place) b
AreListsRefused work NoPair a b = AreApart a b × ¬ (IsOnePod a × IsOnePod b)
AreListsRefused work (Apart type e) a b = HasType a type × (ListsGive work (Err e) a b ⊎ IsOnePairApart work a b e)
AreListsRefused work OutOfMemory a b = ⊤
AreListsRefused work _ a b = ⊥

-- ---- Steps. Only private clauses cite them.

-- these objects are at the fronts of these inputs, one of each
abbrev pub AreViewed : List (List ℕ) → List ObjectPod → Type 0
AreViewed [] [] = ⊤
AreViewed (p ∷ ps) (object ∷ objects) = BeginsObjectOf p object × AreViewed ps objects
AreViewed _ _ = ⊥

-- the fact holds of any input with this object at its front and any inputs with those at theirs
abbrev pub OfOne : ObjectPod → List ObjectPod → (List ℕ → List (List ℕ) → Type 0) → Type 0
OfOne ours theirs Holds = (p : List ℕ) (qs : List (List ℕ)) → BeginsObjectOf p ours → AreViewed qs theirs → Holds p qs

-- the fact holds of any inputs with these objects at their fronts and any with those
abbrev pub OfBoth : (ours theirs : List ObjectPod) → (List (List ℕ) → List (List ℕ) → Type 0) → Type 0
OfBoth ours theirs Holds = (ps qs : List (List ℕ)) → AreViewed ps ours → AreViewed qs theirs → Holds ps qs
