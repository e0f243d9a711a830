-- Tokens that are appended to others: as what they are read, and, where no float is printed, which tokens they are. Only private clauses cite this.
use Rattle.std.specs.Prelude.{◌≡◌, ◌≢◌, ◌⊎◌, ℕ, List, [], ◌∷◌, ◌++◌, Bool, true, false, Option, Some, codes, map}
use Rattle.json.specs.Token.{Token}
use Rattle.spa_format.specs.Kind.{Kind, Fixed}
use Rattle.spa_format.specs.Tree.{Tree, Shape, none_choice, range_choice, step_choice, enum_choice, flags_choice}
use Rattle.spa_utils.specs.declared.choice.ChoiceEnum.{ChoiceEnum}
use Rattle.spa_utils.specs.declared.choice.ChoiceEnum.TheVariants as E
use Rattle.spa_names.specs.declared.entry.Expected.{Expected}
use Rattle.spa_names.specs.declared.table.Table.{Table}
use Rattle.spa_names.specs.declared.table.Table.TheVariants.{Types}
use Rattle.spa_text_read.specs.Grammar.{AreElements, Opening, ReadsAs, bare, begun, is_flags, key_number, opens, property_at}
use Rattle.spa_text.specs.Printed.{AreNoFloats, HasNoFloat, flags_end, flags_front, front_of, key_text, list_tokens, name_token, scalar_text, tokens_of}
use Rattle.spa_text_read.specs.Tokens.{head, number_by_name}
use Rattle.spa_text_read.specs.declared.tag.Scalar.{Scalar}

-- one token was appended, which says this
pub record Puts {A : Type 0} (says : Token → Option A) (x : A) (old new : List Token) : Type 0 where
  pub token : Token
  pub appended : new ≡ old ++ token ∷ []
  pub said : says token ≡ Some x

-- a number by its name in the table, or by its digits
pub record PutsName (t : Table) (n : ℕ) (old new : List Token) : Type 0 where
  pub token : Token
  pub appended : new ≡ old ++ token ∷ []
  pub said : number_by_name t token ≡ Some n
  pub exact : token ≡ name_token t n

-- a value: whatever follows it, it reads as this
pub record Prints (c : Expected) (v : Tree) (old new : List Token) : Type 0 where
  pub ts : List Token
  pub appended : new ≡ old ++ ts
  pub reads : (rest : List Token) → ReadsAs c v (ts ++ rest) rest
  pub exact : HasNoFloat v → ts ≡ tokens_of c v

-- a value with others in it, up to these
pub record Opens (c : Expected) (o : Opening) (old new : List Token) : Type 0 where
  pub ts : List Token
  pub appended : new ≡ old ++ ts
  pub opened : (us : List Token) → (h : Token) × (mid : List Token) × (head (ts ++ us) ≡ Some (h, mid)) × (opens c h mid ≡ Some (begun o, us))
  pub exact : ts ≡ front_of c o

-- values of one kind: whatever others follow them, they read as these before those
pub record Lists (c : Expected) (k : Kind) (xs : List Fixed) (old new : List Token) : Type 0 where
  pub ts : List Token
  pub appended : new ≡ old ++ ts
  pub listed : (ys : List Fixed) (us rest : List Token) → AreElements c k ys us rest → AreElements c k (xs ++ ys) (ts ++ us) rest
  pub exact : AreNoFloats xs → ts ≡ list_tokens c xs

-- what follows the value where a brace does
abbrev pub closing : Bool → List Token
closing true = Token.end_object ∷ []
closing false = []

-- a key, and a property up to its value, with flags where a brace follows that
pub record PutsKey (t : Table) (k : ℕ) (old new : List Token) : Type 0 where
  pub name : List ℕ
  pub appended : new ≡ old ++ Token.key name ∷ []
  pub numbered : key_number t name ≡ Some k
  pub named : name ≡ key_text t k

pub record BeginsProperty (braced : Bool) (t : Table) (k flags : ℕ) (old new : List Token) : Type 0 where
  pub name : List ℕ
  pub ts : List Token
  pub appended : new ≡ old ++ Token.key name ∷ ts
  pub numbered : key_number t name ≡ Some k
  pub flagged : (us vs : List Token) (h : Token) → head us ≡ Some (h, vs) → is_flags h ≡ false → property_at (ts ++ us) ≡ Some ((flags, (braced, h)), vs)
  pub named : name ≡ key_text t k
  pub exact : ts ≡ flags_front flags
  pub ends : closing braced ≡ flags_end flags

-- a number of this type is begun: by nothing where it is expected, else by an object of its name
abbrev pub BeginsNumber : Bool → ℕ → Scalar → List Token → List Token → Type 0
BeginsNumber true n k old new = (new ≡ old ++ Token.begin_object ∷ Token.key (scalar_text k) ∷ []) × (bare n ≢ k)
BeginsNumber false n k old new = (new ≡ old) × (bare n ≡ k)

-- a choice's type under its key, or nothing where it is expected
abbrev pub PutsType : ℕ → ℕ → List Token → List Token → Type 0
PutsType expected type old new =
    ((new ≡ old) × (expected ≡ type))
    ⊎ ((x : Token) × (new ≡ old ++ Token.key (codes "of") ∷ x ∷ []) × (number_by_name Types x ≡ Some type) × (x ≡ name_token Types type)
    × (expected ≢ type))

-- a choice's shape, and its values, the default first
abbrev pub shape_in : {T : Type 0} → ChoiceEnum T → Shape
shape_in (E.None x) = none_choice
shape_in (E.Range x a b) = range_choice
shape_in (E.Step x a b s) = step_choice
shape_in (E.Enum x xs) = enum_choice
shape_in (E.Flags x xs) = flags_choice

abbrev pub values_in : {T : Type 0} → (T → Fixed) → ChoiceEnum T → List Fixed
values_in f (E.None x) = f x ∷ []
values_in f (E.Range x a b) = f x ∷ f a ∷ f b ∷ []
values_in f (E.Step x a b s) = f x ∷ f a ∷ f b ∷ f s ∷ []
values_in f (E.Enum x xs) = f x ∷ map f xs.items
values_in f (E.Flags x xs) = f x ∷ map f xs.items
