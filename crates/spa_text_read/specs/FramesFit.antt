-- Values that are begun, whose properties so far are of the types that belong under their keys. Only the crate's private clauses cite it.
use Rattle.std.specs.Prelude.{◌≡◌, ⊤, ℕ, List, [], ◌∷◌, Bool, true}
use Rattle.json.specs.Token.{Token}
use Rattle.spa_format.specs.Tree.{Tree, Properties, no_properties, property}
use Rattle.spa_text_read.specs.Fitting.{AllFit, Admits, PropertiesFit, fits_under}
use Rattle.spa_text_read.specs.Grammar.{ReadsAs, nothing}
use Rattle.spa_text_read.specs.Steps.{Frame, in_struct, in_array, in_choice, in_object}
use Rattle.spa_text_read.specs.declared.fitting.Strictness.{Strictness}
use Rattle.spa_text_read.specs.declared.fitting.Strictness.TheVariants.{Plain, Strict}

-- the last property is of its type
abbrev pub last_fits : (type : ℕ) → Properties → Bool
last_fits t no_properties = true
last_fits t (property k f v no_properties) = fits_under t k v
last_fits t (property k f v ps) = last_fits t ps

abbrev pub AdmitsLast : Strictness → Frame → Type 0
AdmitsLast Strict (in_object t i ps k f b) = last_fits t ps ≡ true
AdmitsLast _ _ = ⊤

-- what is read so far fits
abbrev pub FrameFits : Frame → Type 0
FrameFits (in_struct b vs) = AllFit vs
FrameFits (in_array t k xs) = ⊤
FrameFits (in_choice s f t k xs) = ⊤
FrameFits (in_object t i ps k f b) = PropertiesFit t ps

abbrev pub StackFits : List Frame → Type 0
StackFits [] = ⊤
StackFits (f ∷ k) = FrameFits f × StackFits k

-- the frames so far are admitted
abbrev pub AdmitsFrames : Strictness → Frame → List Frame → Type 0
AdmitsFrames Plain f k = ⊤
AdmitsFrames Strict f k = FrameFits f × StackFits k

-- no value of which the tokens begin with a text is admitted
abbrev pub AdmitsNone : Strictness → List Token → Type 0
AdmitsNone s ts = (v : Tree) (rest : List Token) → ReadsAs nothing v ts rest → Admits s v → ⊥
