-- How values with members are read: by steps over those that are begun, the innermost first. Only the crate's private clauses cite it.
use Rattle.std.specs.Prelude.{◌≡◌, ℕ, List, [], ◌∷◌, ◌++◌, Bool, if◌then◌else◌, Option, Some, None, option_map}
use Rattle.json.specs.Token.{Token}
use Rattle.json.specs.Json.{after_end_array, read_key}
use Rattle.spa_format.specs.Kind.{Kind, Fixed, kind_of}
use Rattle.spa_format.specs.Tree.{Shape, Tree, fixed, array, struct, object, Trees, no_trees, member, Properties, no_properties, property, join_members, join_properties}
use Rattle.spa_value.specs.Equality.{kind_eq}
use Rattle.spa_names.specs.declared.entry.Expected.{Expected}
use Rattle.spa_names.specs.declared.table.Table.{Table}
use Rattle.spa_text_read.specs.Names.{keys_of, expected_under}
use Rattle.spa_text_read.specs.Options.{◌>>=◌, Reading, and_then}
use Rattle.spa_text_read.specs.Tokens.{after_end_object, head}
use Rattle.spa_text_read.specs.Grammar.{Opening, a_struct, an_array, a_choice, an_object, Opened, tree, leaf, begun, opens, nothing, element, close, choice_of, key_number, property_at}

-- a value that is begun, with what is read of it; of an object also the key and flags of its last property, and whether a
-- brace follows that one's value
pub data Frame : Type 0 where
  in_struct : Bool → Trees → Frame
  in_array : Table → Kind → List Fixed → Frame
  in_choice : Shape → ℕ → Table → Kind → List Fixed → Frame
  in_object : (type id : ℕ) → Properties → (key flags : ℕ) → Bool → Frame

-- one of which nothing is read yet
abbrev pub frame : Opening → Frame
frame (a_struct b) = in_struct b no_trees
frame (an_array t k) = in_array t k []
frame (a_choice s f t k) = in_choice s f t k []
frame (an_object t i) = in_object t i no_properties 0 0 Bool.false

-- the next value in it is wanted, which begins with a token, or it has ended
pub data Next : Type 0 where
  ended : Next
  wants : Frame → Expected → Token → Next

-- what is expected in it
abbrev pub expects : Frame → Expected
expects (in_struct b vs) = nothing
expects (in_array t k xs) = element t k
expects (in_choice s f t k xs) = element t k
expects (in_object t i ps k f b) = nothing

-- what follows its end
abbrev pub ends : Frame → List Token → Option (List Token)
ends (in_struct b vs) ts = close b ts
ends (in_array t k xs) ts = after_end_object ts
ends (in_choice s f t k xs) ts = after_end_object ts
ends (in_object t i ps k f b) ts = after_end_object ts

abbrev pub at_end : Frame → List Token → Option (Next × List Token)
at_end f ts = option_map (λ us. (ended, us)) (ends f ts)

-- an item follows, or the bracket, behind which these tokens stand
abbrev pub next_item : Frame → List Token → Option (List Token) → Option (Next × List Token)
next_item f ts (Some us) = at_end f us
next_item f ts None = option_map (λ h. (wants f (expects f) h.0, h.1)) (head ts)

-- a property of this key follows, or the brace
abbrev pub next_property : ℕ → ℕ → Properties → (Option (List ℕ) × List Token) → Option (Next × List Token)
next_property t i ps (None, us) = option_map (λ vs. (ended, vs)) (after_end_object us)
next_property t i ps (Some name, us) = do
  k ← key_number (keys_of t) name
  p ← property_at us
  Some (wants (in_object t i ps k p.0.0 p.0.1.0) (expected_under (keys_of t) k) p.0.1.1, p.1)

unfoldable pub next : Frame → Reading Next
next (in_struct b vs) ts = next_item (in_struct b vs) ts (after_end_array ts)
next (in_array t k xs) ts = next_item (in_array t k xs) ts (after_end_array ts)
next (in_choice s f t k xs) ts = next_item (in_choice s f t k xs) ts (after_end_array ts)
next (in_object t i ps k f b) ts = read_key ts >>= next_property t i ps

-- what is next in an object, by the key or the brace that was read
abbrev pub after_key_read : ℕ → ℕ → Properties → Option (Option (List ℕ) × List Token) → Option (Next × List Token)
after_key_read t i ps o = o >>= next_property t i ps

-- the value of a frame whose end is read
abbrev pub value_of : Frame → Option Tree
value_of (in_struct b vs) = Some (struct vs)
value_of (in_array t k xs) = Some (array k xs)
value_of (in_choice s f t k xs) = choice_of s f k xs
value_of (in_object t i ps k f b) = Some (object t i ps)

-- what a value of fixed size says, and of those the ones of this kind
abbrev pub fixed_part : Tree → Option Fixed
fixed_part (fixed x) = Some x
fixed_part _ = None

abbrev pub of_kind : Kind → Fixed → Option Fixed
of_kind k x = if kind_eq (kind_of x) k then Some x else None

abbrev pub element_of : Kind → Tree → Option Fixed
element_of k v = fixed_part v >>= of_kind k

-- the frame with one more value in it
abbrev pub put : Frame → Tree → Reading Frame
put (in_struct b vs) v ts = Some (in_struct b (join_members vs (member v no_trees)), ts)
put (in_array t k xs) v ts = and_then ts (option_map (λ x. in_array t k (xs ++ x ∷ [])) (element_of k v))
put (in_choice s f t k xs) v ts = and_then ts (option_map (λ x. in_choice s f t k (xs ++ x ∷ [])) (element_of k v))
put (in_object t i ps k f b) v ts =
    option_map (λ us. (in_object t i (join_properties ps (property k f v no_properties)) k f b, us)) (close b ts)

-- it is refused, or the value is read, or it goes on with these frames
pub data Step : Type 0 where
  refused : Step
  done : Tree → List Token → Step
  goes : Frame → List Frame → List Token → Step

abbrev pub after_put : List Frame → Option (Frame × List Token) → Step
after_put k None = refused
after_put k (Some p) = goes p.0 k p.1

-- a value is read within these frames
abbrev pub give : Tree → List Frame → List Token → Step
give v [] ts = done v ts
give v (f ∷ k) ts = after_put k (put f v ts)

abbrev pub give_ended : Option Tree → List Frame → List Token → Step
give_ended None k ts = refused
give_ended (Some v) k ts = give v k ts

-- a value is opened within these frames
abbrev pub after_opening : List Frame → Option (Opened × List Token) → Step
after_opening k None = refused
after_opening k (Some (leaf l, ts)) = give (tree l) k ts
after_opening k (Some (begun o, ts)) = goes (frame o) k ts

abbrev pub after_next : Frame → List Frame → Option (Next × List Token) → Step
after_next f k None = refused
after_next f k (Some (ended, ts)) = give_ended (value_of f) k ts
after_next f k (Some (wants g c h, ts)) = after_opening (g ∷ k) (opens c h ts)

-- the innermost frame, those around it, and the tokens that are left: the next step
unfoldable pub step : Frame → List Frame → List Token → Step
step f k ts = after_next f k (next f ts)

-- the steps end, with the value and what follows it, or refused
pub data Runs : Frame → List Frame → List Token → Option (Tree × List Token) → Type 0 where
  stops : {f : Frame} {k : List Frame} {ts : List Token} → step f k ts ≡ refused → Runs f k ts None
  finishes : {f : Frame} {k : List Frame} {ts us : List Token} {v : Tree} → step f k ts ≡ done v us → Runs f k ts (Some (v, us))
  goes_on : {f g : Frame} {k l : List Frame} {ts us : List Token} {r : Option (Tree × List Token)} → step f k ts ≡ goes g l us →
      Runs g l us r → Runs f k ts r

-- what a step leads to
abbrev pub Follows : Step → Option (Tree × List Token) → Type 0
Follows refused r = r ≡ None
Follows (done v ts) r = r ≡ Some (v, ts)
Follows (goes f k ts) r = Runs f k ts r

-- the reading of a value from its first token on
abbrev pub started : Expected → Option (Token × List Token) → Step
started c None = refused
started c (Some p) = after_opening [] (opens c p.0 p.1)

-- a reading of the tokens, where this is expected, comes to this
abbrev pub ComesTo : Expected → List Token → Option (Tree × List Token) → Type 0
ComesTo c ts r = Follows (started c (head ts)) r
