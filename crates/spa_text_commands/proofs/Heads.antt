-- What values say as members of recorded messages.
use Rattle.std.proofs.Common.{◌≡◌, ◌≢◌, ◌<◌, ℕ, Bool, true, false, ◌==◌, List, [], ◌∷◌, ◌++◌, ◌≤◌, append_assoc, arith, length, pos, refl, sym, ap, subst, ◌∙◌, true≢false, Option, Some, None, is_some, option_map, slice_set}
use Rattle.std.proofs.lemmas.Option.{none-some}
use Rattle.std.specs.Prelude.{◌&&◌, if◌then◌else◌, not, nat_lt}
use Rattle.spa_format.specs.Kind.{none, bool, int, long}
use Rattle.spa_format.specs.Tree.{Tree, Trees, fixed, string, struct, type_of, array_type, choice_type, object_type, struct_type}
use Rattle.spa_value.proofs.TypeLaws.{type_of-array_view, type_of-choice_view, type_of-object_view}
use Rattle.spa_value.specs.declared.value.Value.{Value, roll-Value, roll-out-Value}
use Rattle.spa_value.specs.declared.value.Value.TheVariants as V
use Rattle.spa_value.specs.View.{view, array_view, choice_view, object_view}
use Rattle.spa_value.specs.Views.{views}
use Rattle.spa_text_commands.specs.Messages.{across_runs, bool_in, head_in, head_text, int_in, is_mark, long_in, message_in, name_in, without_run}
use Rattle.spa_text_commands.specs.Unread.{message_of}
use Rattle.spa_text_commands.specs.declared.message.Head.{Head}

-- such a value is no member that a recorded message begins with
record SaysNothing (t : Tree) : Type 0 where
  mark : is_mark t ≡ false
  truth : bool_in t ≡ None
  number : int_in t ≡ None
  wide : long_in t ≡ None
  name : name_in t ≡ None

-- the types of arrays, objects and choices
abbrev is_of_many : ℕ → Bool
is_of_many n = (nat_lt 12 n && nat_lt n 20) && not (n == 14) && not (n == 18)

says_nothing : (t : Tree) (n : ℕ) → type_of t ≡ n → is_of_many n ≡ true → SaysNothing t
says_nothing (fixed none) n e m = absurd (true≢false (sym (subst (λ k. is_of_many k ≡ true) (sym e) m)))
says_nothing (fixed (bool x)) n e m = absurd (true≢false (sym (subst (λ k. is_of_many k ≡ true) (sym e) m)))
says_nothing (fixed (int x)) n e m = absurd (true≢false (sym (subst (λ k. is_of_many k ≡ true) (sym e) m)))
says_nothing (fixed (long x)) n e m = absurd (true≢false (sym (subst (λ k. is_of_many k ≡ true) (sym e) m)))
says_nothing (string s) n e m = absurd (true≢false (sym (subst (λ k. is_of_many k ≡ true) (sym e) m)))
says_nothing (struct vs) n e m = absurd (true≢false (sym (subst (λ k. is_of_many k ≡ true) (sym e) m)))
says_nothing _ n e m = record { mark = refl; truth = refl; number = refl; wide = refl; name = refl }

of_array : (a : _) → SaysNothing (array_view a)
of_array a = says_nothing (array_view a) array_type (type_of-array_view a) refl

of_choice : (c : _) → SaysNothing (choice_view c)
of_choice c = says_nothing (choice_view c) choice_type (type_of-choice_view c) refl

of_object : (o : _) → SaysNothing (object_view o)
of_object o = says_nothing (object_view o) object_type (type_of-object_view o) refl

pub no_mark : (v : Value) → ((x : _) → v ≢ V.String x) → is_mark (view v) ≡ false
no_mark (V.String x) n = absurd (n x refl)
no_mark (V.ValueArray a) n = (of_array a).mark
no_mark (V.Choice c) n = (of_choice c).mark
no_mark (V.Object o) n = (of_object o).mark
no_mark _ n = refl

pub no_truth : (v : Value) → ((x : _) → v ≢ V.Bool x) → bool_in (view v) ≡ None
no_truth (V.Bool x) n = absurd (n x refl)
no_truth (V.ValueArray a) n = (of_array a).truth
no_truth (V.Choice c) n = (of_choice c).truth
no_truth (V.Object o) n = (of_object o).truth
no_truth _ n = refl

pub no_number : (v : Value) → ((x : _) → v ≢ V.Int x) → int_in (view v) ≡ None
no_number (V.Int x) n = absurd (n x refl)
no_number (V.ValueArray a) n = (of_array a).number
no_number (V.Choice c) n = (of_choice c).number
no_number (V.Object o) n = (of_object o).number
no_number _ n = refl

pub no_wide : (v : Value) → ((x : _) → v ≢ V.Long x) → long_in (view v) ≡ None
no_wide (V.Long x) n = absurd (n x refl)
no_wide (V.ValueArray a) n = (of_array a).wide
no_wide (V.Choice c) n = (of_choice c).wide
no_wide (V.Object o) n = (of_object o).wide
no_wide _ n = refl

pub no_name : (v : Value) → v ≢ V.None → ((x : _) → v ≢ V.String x) → name_in (view v) ≡ None
no_name V.None m n = absurd (m refl)
no_name (V.String x) m n = absurd (n x refl)
no_name (V.ValueArray a) m n = (of_array a).name
no_name (V.Choice c) m n = (of_choice c).name
no_name (V.Object o) m n = (of_object o).name
no_name _ m n = refl

-- a value that is no struct has another type
pub no_struct : (v : Value) → ((x : _) → v ≢ V.Struct x) → (type_of (view v) == struct_type) ≡ false
no_struct (V.Struct' s r) n = absurd (n _ (sym (roll-out-Value (V.Struct' s r)) ∙ ap roll-Value (V.outs-Struct' s r) ∙ V.rolls-Struct _))
no_struct (V.ValueArray a) n = ap (λ t. t == struct_type) (type_of-array_view a)
no_struct (V.Choice c) n = ap (λ t. t == struct_type) (type_of-choice_view c)
no_struct (V.Object o) n = ap (λ t. t == struct_type) (type_of-object_view o)
no_struct _ n = refl

-- and is no recorded message
pub no_message : (t : Tree) → (type_of t == struct_type) ≡ false → (head_in t ≡ None) × (across_runs t ≡ t)
no_message (struct vs) e = absurd (true≢false e)
no_message _ e = (refl, refl)

-- the head of a struct is that of its members
pub struct_head : (h : Option Head) (vs : Trees) → option_map message_of h ≡ message_in vs →
    option_map (λ head. head_text (message_of head)) h ≡ head_in (struct vs)
struct_head None vs e = ap (option_map head_text) e
struct_head (Some h) vs e = ap (option_map head_text) e

-- fewer than nine members are none of a recorded message
pub few_members : (vs : List Value) → length vs < 9 → message_in (views vs) ≡ None
few_members [] l = refl
few_members (a ∷ []) l = refl
few_members (a ∷ b ∷ []) l = refl
few_members (a ∷ b ∷ c ∷ []) l = refl
few_members (a ∷ b ∷ c ∷ d ∷ []) l = refl
few_members (a ∷ b ∷ c ∷ d ∷ e ∷ []) l = refl
few_members (a ∷ b ∷ c ∷ d ∷ e ∷ f ∷ []) l = refl
few_members (a ∷ b ∷ c ∷ d ∷ e ∷ f ∷ g ∷ []) l = refl
few_members (a ∷ b ∷ c ∷ d ∷ e ∷ f ∷ g ∷ h ∷ []) l = refl
few_members (a ∷ b ∷ c ∷ d ∷ e ∷ f ∷ g ∷ h ∷ i ∷ vs) l = absurd (omega (arith, l))

-- what is found to be one has five members or more,
pub five_members : (h : Option Head) (vs : List Value) → is_some h ≡ true → option_map message_of h ≡ message_in (views vs) → 5 ≤ length vs
five_members None vs s e = absurd (true≢false (sym s))
five_members (Some h) [] s e = absurd (none-some _ (sym e))
five_members (Some h) (a ∷ []) s e = absurd (none-some _ (sym e))
five_members (Some h) (a ∷ b ∷ []) s e = absurd (none-some _ (sym e))
five_members (Some h) (a ∷ b ∷ c ∷ []) s e = absurd (none-some _ (sym e))
five_members (Some h) (a ∷ b ∷ c ∷ d ∷ []) s e = absurd (none-some _ (sym e))
five_members (Some h) (a ∷ b ∷ c ∷ d ∷ e ∷ vs) s m = omega arith

-- of which two become 0
pub without_both : (h : Option Head) (vs : List Value) → is_some h ≡ true → option_map message_of h ≡ message_in (views vs) →
    views (slice_set (slice_set vs 1 (V.Long (pos 0))) 4 (V.Int (pos 0)))
    ≡ (if is_some (message_in (views vs)) then without_run (views vs) else views vs)
without_both None vs s e = absurd (true≢false (sym s))
without_both (Some h) [] s e = absurd (none-some _ (sym e))
without_both (Some h) (a ∷ []) s e = absurd (none-some _ (sym e))
without_both (Some h) (a ∷ b ∷ []) s e = absurd (none-some _ (sym e))
without_both (Some h) (a ∷ b ∷ c ∷ []) s e = absurd (none-some _ (sym e))
without_both (Some h) (a ∷ b ∷ c ∷ d ∷ []) s e = absurd (none-some _ (sym e))
without_both (Some h) (a ∷ b ∷ c ∷ d ∷ e ∷ vs) s m =
    let all = views (a ∷ b ∷ c ∷ d ∷ e ∷ vs) in
    ap (λ o. if is_some o then without_run all else all) m

-- the parts of a head behind one another
pub head_put : (old first second third new time way whose method : List ℕ) → first ≡ old ++ time → second ≡ first ++ way → third ≡ second ++ whose →
    new ≡ third ++ method → new ≡ old ++ (time ++ (way ++ (whose ++ method)))
head_put old first second third new time way whose method a b c d =
    d
    ∙ ap (λ l. l ++ method) (c ∙ ap (λ l. l ++ whose) (b ∙ ap (λ l. l ++ way) a))
    ∙ append_assoc ((old ++ time) ++ way) whose method
    ∙ append_assoc (old ++ time) way (whose ++ method)
    ∙ append_assoc old time (way ++ (whose ++ method))
