-- What is left to print of the values that are begun. Only the crate's private clauses cite it.
use Rattle.std.specs.Prelude.{◌≡◌, ⊤, ◌+◌, ◌≤◌, ℕ, List, [], ◌∷◌, ◌++◌, Option, Some, None}
use Rattle.json.specs.Token.{Token}
use Rattle.spa_format.specs.Tree.{Tree, member_node_count, property_node_count}
use Rattle.spa_value.specs.declared.value.Value.{Value}
use Rattle.spa_value.specs.declared.value.Value.TheVariants as V
use Rattle.spa_value.specs.View.{view}
use Rattle.spa_value.specs.Views.{property_views, views}
use Rattle.spa_names.specs.declared.entry.Expected.{Expected}
use Rattle.spa_text_read.specs.Grammar.{AreMembers, AreProperties, ReadsAs, close}
use Rattle.spa_text.specs.Printed.{HasNoFloat, HaveNoFloat, HoldNoFloat, member_tokens, property_tokens, tokens_of}
use Rattle.spa_text_read.specs.Tokens.{after_end_object}
use Rattle.spa_text.specs.Written.{Prints, closing}
use Rattle.spa_text.specs.declared.printing.Begun.{Begun}
use Rattle.spa_text.specs.declared.printing.Left.{Left}
use Rattle.spa_text.specs.declared.printing.Left.TheVariants as left
use Rattle.spa_text.specs.declared.printing.Next.{Next}
use Rattle.spa_text.specs.declared.printing.Next.TheVariants as next

-- how many values are left
abbrev pub left_count : Left → ℕ
left_count (left.Members vs) = member_node_count (views vs.now)
left_count (left.Properties ps t) = property_node_count (property_views ps.now)

-- the tokens read as what is left, up to its end, and this follows it
abbrev pub IsLeft : Left → List Token → List Token → Type 0
IsLeft (left.Members vs) ts rest = AreMembers (views vs.now) ts rest
IsLeft (left.Properties ps t) ts rest =
    (mid : List Token) × AreProperties t (property_views ps.now) ts mid × (after_end_object mid ≡ Some rest)

-- behind a value in it, the tokens read as what is left of this one and of those around it, the next one first
abbrev pub AreAround : List Begun → List Token → List Token → Type 0
AreAround [] ts rest = ts ≡ rest
AreAround (b ∷ bs) ts rest =
    (us : List Token) × (vs : List Token) × (close b.braced ts ≡ Some us) × IsLeft b.left us vs × AreAround bs vs rest

-- the tokens read as what is left of the innermost and of those around it, the next one first
abbrev pub IsWithin : Begun → List Begun → List Token → List Token → Type 0
IsWithin inner around ts rest = (mid : List Token) × IsLeft inner.left ts mid × AreAround around mid rest

-- tokens `ts` are appended: where the tokens behind them read by `P`, those and they together read by `Q`
pub record Continues (P Q : List Token → List Token → Type 0) (old new : List Token) : Type 0 where
  pub ts : List Token
  pub appended : new ≡ old ++ ts
  pub continued : (us rest : List Token) → P us rest → Q (ts ++ us) rest

-- no float is in what is left, of this one and of those around it
abbrev pub LeavesNoFloat : Left → Type 0
LeavesNoFloat (left.Members vs) = HaveNoFloat (views vs.now)
LeavesNoFloat (left.Properties ps t) = HoldNoFloat (property_views ps.now)

abbrev pub AroundNoFloat : List Begun → Type 0
AroundNoFloat [] = ⊤
AroundNoFloat (b ∷ bs) = LeavesNoFloat b.left × AroundNoFloat bs

-- the tokens of what is left, and of that with those around it
abbrev pub left_tokens : Left → List Token
left_tokens (left.Members vs) = member_tokens (views vs.now)
left_tokens (left.Properties ps t) = property_tokens t (property_views ps.now)

abbrev pub around_tokens : List Begun → List Token
around_tokens [] = []
around_tokens (b ∷ bs) = closing b.braced ++ (left_tokens b.left ++ around_tokens bs)

-- where `P` says that no float is in `whole`, the appended tokens and `rest` are those of `whole`, and `Q` says that no float is in `rest`
abbrev pub Leaves : (P : Type 0) (whole : List Token) (Q : Type 0) (rest old new : List Token) → Type 0
Leaves P whole Q rest old new = P → Q × (new ++ rest ≡ old ++ whole)

abbrev pub LeavesWithin : (P : Type 0) (whole : List Token) (inner : Begun) (around : List Begun) (old new : List Token) → Type 0
LeavesWithin P whole inner around old new =
    Leaves P whole (LeavesNoFloat inner.left × AroundNoFloat around) (left_tokens inner.left ++ around_tokens around) old new

-- a value without members is printed; nothing is said of one with members
abbrev pub PrintsWhole : Expected → Value → List Token → List Token → Type 0
PrintsWhole c (V.Struct' s r) old new = ⊤
PrintsWhole c (V.Object x) old new = ⊤
PrintsWhole c v old new = Prints c (view v) old new

-- a value is printed, or begun
abbrev pub PrintsOrBegins : Expected → Tree → Option Begun → List Token → List Token → Type 0
PrintsOrBegins c v None old new =
    Continues (λ ts rest. ts ≡ rest) (ReadsAs c v) old new × Leaves (HasNoFloat v) (tokens_of c v) ⊤ [] old new
PrintsOrBegins c v (Some b) old new =
    Continues (IsLeft b.left) (ReadsAs c v) old new
    × Leaves (HasNoFloat v) (tokens_of c v) (LeavesNoFloat b.left) (left_tokens b.left) old new

-- the end of what is left is printed, or the next value in it, or that is begun
abbrev pub PrintsNext : Left → Next → List Token → List Token → Type 0
PrintsNext l next.Ended old new =
    Continues (λ ts rest. ts ≡ rest) (IsLeft l) old new × Leaves (LeavesNoFloat l) (left_tokens l) ⊤ [] old new
PrintsNext l (next.Printed b) old new =
    Continues (IsLeft b.left) (IsLeft l) old new
    × Leaves (LeavesNoFloat l) (left_tokens l) (LeavesNoFloat b.left) (left_tokens b.left) old new
PrintsNext l (next.Begun b inner) old new =
    Continues (IsWithin inner (b ∷ [])) (IsLeft l) old new × LeavesWithin (LeavesNoFloat l) (left_tokens l) inner (b ∷ []) old new

-- less is left
abbrev pub IsLess : Left → Next → Type 0
IsLess l next.Ended = 0 ≤ left_count l
IsLess l (next.Printed b) = left_count b.left + 1 ≤ left_count l
IsLess l (next.Begun b inner) = left_count inner.left + left_count b.left + 1 ≤ left_count l
