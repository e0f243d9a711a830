-- Pods as lines of text: docs/TEXT.md, "The grammar".
use Rattle.std.specs.Prelude.{◌≡◌, ◌⊎◌, ◌==◌, ◌||◌, ⊤, ℕ, codes, Bool, true, List, [], ◌∷◌, ◌++◌, Option, None, Some}
use Rattle.std.specs.List.{list_all}
use Rattle.std.specs.Str.{IsUtf8}
use Rattle.json.specs.Lex.{tokens}
use Rattle.spa_format.specs.Tree.{Tree, string, struct, Trees, no_trees, member, join_members}
use Rattle.spa_format.specs.Pod.{AreMembers}
use Rattle.spa_format.specs.Encoding.{member_encodings}
use Rattle.spa_format.specs.Front.{IsRefused}
use Rattle.spa_format.specs.Writable.{HasNul, IsTooLarge}
use Rattle.spa_canonical.specs.Rewriting.{IsLeft}
use Rattle.spa_text_read.specs.Grammar.{IsTextOf}
use Rattle.spa_text.specs.Indented.{indented}
use Rattle.spa_text.specs.Line.{HasNoEnd}
use Rattle.spa_text_forms.specs.Forms.{IsTextAs}
use Rattle.spa_text_forms.specs.declared.form.Form.{Form}
use Rattle.spa_text_forms.specs.declared.form.Form.TheVariants.{Named, Dump}
use Rattle.spa_text_commands.specs.Extent.{BeginsText, column_behind, line_behind}
use Rattle.spa_text_commands.specs.Messages.{head_in}
use Rattle.spa_text_commands.specs.declared.answer.Failure.{Failure}
use Rattle.spa_text_commands.specs.declared.answer.Failure.TheVariants.{NoPods, Line, OutOfMemory}
use Rattle.spa_text_commands.specs.declared.printing.Layout.{Layout}
use Rattle.spa_text_commands.specs.declared.printing.Layout.TheVariants.{OneLine, Indented}

-- the text is one of this value on one line, or with each member and each property on one of its own where its brackets don't stand too deep
abbrev pub IsTextIn : Layout → Tree → List ℕ → Type 0
IsTextIn OneLine v text = IsTextOf v text × HasNoEnd text
IsTextIn Indented v text = IsTextOf v text × (text ≡ indented (tokens text))

-- the fields before a value's text: the path to it, where it isn't a top-level pod, and the head of the recorded message that it is or is in, if it is so
abbrev pub path_field : List ℕ → List ℕ
path_field [] = []
path_field (x ∷ xs) = codes "\"path\":\"" ++ ((x ∷ xs) ++ codes "\",")

abbrev pub head_field : Option (List ℕ) → List ℕ
head_field None = []
head_field (Some head) = codes "\"head\":" ++ (head ++ codes ",")

-- a value's text in an object behind these fields
abbrev pub in_fields : (fields text : List ℕ) → List ℕ
in_fields fields text = codes "{" ++ (fields ++ (codes "\"value\":" ++ (text ++ codes "}")))

-- a value's text behind its path and its head; alone where it has neither
abbrev pub wrapped : (path : List ℕ) → (head : Option (List ℕ)) → (text : List ℕ) → List ℕ
wrapped [] None text = text
wrapped [] (Some head) text = in_fields (head_field (Some head)) text
wrapped (x ∷ xs) head text = in_fields (path_field (x ∷ xs) ++ head_field head) text

-- the words of the head of a value at this path: of a top-level pod those of the recorded message that it is, if it is one; of one inside some or none
abbrev pub AreHeadWords : (path : List ℕ) → Tree → Option (List ℕ) → Type 0
AreHeadWords [] v words = words ≡ head_in v
AreHeadWords (x ∷ xs) v words = ⊤

-- a head is written as a string of JSON of its words
abbrev pub IsHead : (words head : Option (List ℕ)) → Type 0
IsHead None None = ⊤
IsHead (Some words) (Some head) = IsTextIn OneLine (string words) head
IsHead words head = ⊥

-- the text of a value at this path
abbrev pub IsTextAt : Layout → (path : List ℕ) → Tree → List ℕ → Type 0
IsTextAt layout path v out =
    (text : List ℕ) × (words : Option (List ℕ)) × (head : Option (List ℕ)) × (out ≡ wrapped path head text) × AreHeadWords path v words
    × IsHead words head × IsTextIn layout v text

-- such a text for each of these values, in order, and the end of its last line
abbrev pub AreTexts : (IsText : Tree → List ℕ → Type 0) → Trees → List ℕ → Type 0
AreTexts IsText no_trees out = out ≡ []
AreTexts IsText (member v vs) out =
    (text : List ℕ) × (others : List ℕ) × (out ≡ text ++ 10 ∷ others) × IsText v text × AreTexts IsText vs others

-- a text for each pod that the input consists of, where these stand at this path
abbrev pub PrintsAt : Layout → (path input out : List ℕ) → Type 0
PrintsAt layout path input out = (vs : Trees) × AreMembers vs input × AreTexts (IsTextAt layout path) vs out

-- a text for each top-level pod
abbrev pub Prints : Layout → List ℕ → List ℕ → Type 0
Prints layout input out = PrintsAt layout [] input out

-- nothing but white space
abbrev pub is_space : ℕ → Bool
is_space x = (x == 32) || ((x == 9) || (x == 13))

abbrev pub is_blank : List ℕ → Bool
is_blank text = list_all is_space text

-- the values whose pods a text is: of what pw-dump prints each item of a list
abbrev pub items_or_one : Tree → Trees
items_or_one (struct vs) = vs
items_or_one v = member v no_trees

abbrev pub pods_in : Form → Tree → Trees
pods_in (Named s) v = member v no_trees
pods_in (Dump t i) v = items_or_one v

-- one of these values has no pod: a text in it holds NUL, or a size is past 32 bits
abbrev pub HaveNoPods : Trees → Type 0
HaveNoPods no_trees = ⊥
HaveNoPods (member v vs) = (HasNul v ⊎ IsTooLarge v) ⊎ HaveNoPods vs

-- the bytes begin with texts of these values, in order, among blank lines, and this is left
pub data BeginTexts (f : Form) (bytes : List ℕ) : Trees → (left : List ℕ) → Type 0 where
  nothing_read : BeginTexts f bytes no_trees bytes
  blank_line : (vs : Trees) (left text others : List ℕ) → BeginTexts f bytes vs left → BeginsText left text others → is_blank text ≡ true →
      BeginTexts f bytes vs others
  one_text : (vs : Trees) (v : Tree) (left text others : List ℕ) → BeginTexts f bytes vs left → BeginsText left text others → IsTextAs f v text →
      BeginTexts f bytes (join_members vs (pods_in f v)) others

-- the pods of the values of which the input is texts, one after another: of the lines 1 and [] the words 4, 4, 1, 0, 0, 14
abbrev pub ReadsTexts : Form → List ℕ → List ℕ → Type 0
ReadsTexts f input out = (vs : Trees) × BeginTexts f input vs [] × (out ≡ member_encodings vs)

-- the bytes aren't UTF-8, or no text of a value that is taken, or one of a value that has no pod
abbrev pub HasNoPod : Form → List ℕ → Type 0
HasNoPod f text =
    ¬ (IsUtf8 text) ⊎ ((v : Tree) → ¬ (IsTextAs f v text)) ⊎ ((v : Tree) × IsTextAs f v text × HaveNoPods (pods_in f v))

-- the text, which begins with this line, has no pod, and what is read of it ends in this line and this column
pub record IsRefusedAt (f : Form) (text : List ℕ) (first line column : ℕ) : Type 0 where
  pub against : HasNoPod f text
  pub part : List ℕ
  pub rest : List ℕ
  pub cut : text ≡ part ++ rest
  pub its_line : line ≡ line_behind first part
  pub its_column : column ≡ column_behind 1 part

-- behind some first texts stands one that has no pod; lines and columns are counted from 1
pub record HasNoTextAt (f : Form) (input : List ℕ) (line column : ℕ) : Type 0 where
  pub values : Trees
  pub before : List ℕ
  pub left : List ℕ
  pub whole : input ≡ before ++ left
  pub texts : BeginTexts f input values left
  pub text : List ℕ
  pub others : List ℕ
  pub begins : BeginsText left text others
  pub refused : IsRefusedAt f text (line_behind 1 before) line column

-- why texts aren't read
abbrev pub RefusesTexts : Form → List ℕ → Failure → Type 0
RefusesTexts f input (Line line column kind words path misfit) = HasNoTextAt f input line column
RefusesTexts f input OutOfMemory = ⊤
RefusesTexts f input _ = ⊥

-- the input isn't pods one after another: behind some first pods begins none
pub record HasRefused (input : List ℕ) : Type 0 where
  pub left : List ℕ
  pub behind : IsLeft input left
  pub no_pod : IsRefused left
  pub refused : (vs : Trees) → ¬ (AreMembers vs input)

-- why an input isn't printed
abbrev pub RefusesPods : List ℕ → Failure → Type 0
RefusesPods input NoPods = HasRefused input
RefusesPods input OutOfMemory = ⊤
RefusesPods input _ = ⊥
