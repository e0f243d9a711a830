-- A value that is written whole where it may come next.
use Rattle.std.proofs.Common.{◌≡◌, ◌≢◌, ℕ, ◌≤◌, ◌∷◌, ◌++◌, [], List, length, take, refl, sym, ap, ◌∙◌, subst, arith, Bool, true, false, Ok, Err, inl, inr, ◌⊎◌, eqb-true, eq-eqb, Contains, length-append}
use Rattle.std.specs.Prelude.{cond, nat_lt, None, Some, Option, Result, IsErrAnd}
use Rattle.std.specs.List.{list_any}
use Rattle.std.proofs.lemmas.Bool.{or_cases, or_left, or_right, false≢true, and_right, lt-ltb, false_from_ne_true}
use Rattle.std.proofs.lemmas.List.{append-nil, take_at}
use Rattle.std.proofs.lemmas.List.Elements.{All-nil, All-cons, All-contains, Contains-append_right, Contains-append_cases}
use Rattle.spa_sink.specs.Writing.{Begun, RefusesPiece, Sent, none_sent, some_sent}
use Rattle.spa_sink.specs.declared.gen_error.GenError.{GenError}
use Rattle.spa_sink.specs.declared.gen_error.GenError.TheVariants.{TooLarge, NulInText}
use Rattle.spa_format.specs.Kind.{Fixed}
use Rattle.spa_format.specs.Tree.{Tree, fixed, string, bytes, struct, object, Trees, no_trees, member, Properties, no_properties, property, type_of, array_type, choice_type, object_type}
use Rattle.spa_format.specs.Encoding.{encoded_body, encoding_of, member_encodings}
use Rattle.spa_format.specs.Words.{size_limit}
use Rattle.spa_format.specs.Writable.{HasNul, SomeHasNul, SomeValueHasNul, IsTooLarge, IsWritable}
use Rattle.spa_format.proofs.Back.{body_fits}
use Rattle.spa_format.proofs.Encodings.{length-encoded_pod}
use Rattle.spa_format.proofs.Shapes.{not_fixed}
use Rattle.spa_value.specs.View.{view, array_view, choice_view, object_view}
use Rattle.spa_value.specs.declared.array.ValueArray.{ValueArray}
use Rattle.spa_value.specs.declared.choice_value.ChoiceValue.{ChoiceValue}
use Rattle.spa_value.specs.declared.object.Object.{Object}
use Rattle.spa_value.specs.declared.value.Value.{Value}
use Rattle.spa_value.specs.declared.value.Value.TheVariants as V
use Rattle.spa_builder.specs.State.{State}
use Rattle.spa_builder.specs.Step.{Inval, Outcome, add, all_fit, has_nul, is_nul, state_with_value, outcome_if_fits, some_has_nul, some_value_has_nul, step, takes_trees}
use Rattle.spa_builder.specs.Fields.{BuilderFields, IsAt, HasState, frames_of}
use Rattle.spa_builder.specs.Innermost.{trees_with_value, has_room_for}
use Rattle.spa_builder.specs.Answers.{Makes, MakesValue, RefusesValue, errno_of}
use Rattle.spa_utils.specs.declared.errno.Errno.{Errno}
use Rattle.spa_utils.specs.declared.errno.TheConstants.Errno.{INVAL, NOMEM, NOSPC}
use Rattle.spa_builder.proofs.Steps.{added_fit, after, is_after, nul_refused, placed_is, sized_goes, sized_nospc, without_nul, kept_made}

-- ---- a beginning that was taken is taken back

pub appended_back : (a l b : List ℕ) → b ≡ a ++ l → (take (length a) b ≡ a) × (length a ≤ length b)
appended_back a l b p = (
  ap (take (length a)) p ∙ take_at a l (length a) refl,
  let k = ap length p ∙ length-append a l in omega arith,
)

sent_back : (a l b : List ℕ) → Sent (λ x y z. z ≡ x ++ y) a l b →
    (take (length a) b ≡ a) × (length a ≤ length b)
sent_back a l b (none_sent e f) = appended_back a [] b (sym f ∙ sym (append-nil a))
sent_back a l b (some_sent p) = appended_back a l b p

pub begun_back : (a xs b : List ℕ) → Begun (λ x y z. z ≡ x ++ y) a xs b →
    (take (length a) b ≡ a) × (length a ≤ length b)
begun_back a xs b h = sent_back a h.first b h.sent

-- ---- NUL in texts

nul_told : (xs : List ℕ) → Contains xs 0 → list_any is_nul xs ≡ true
nul_told [] h = absurd (omega (arith, h.1))
nul_told (y ∷ xs) h =
    elim (Contains-append_cases (y ∷ []) xs 0 h) [
      | inl here ↦ or_left _ _ (eq-eqb y 0
          (All-contains (λ z. y ≡ z) (y ∷ []) 0 (All-cons (λ z. y ≡ z) y [] refl
          (All-nil (λ z. y ≡ z))) here))
      | inr later ↦ or_right _ _ (nul_told xs later)
    ]

nul_there : (xs : List ℕ) → list_any is_nul xs ≡ true → Contains xs 0
nul_there [] e = absurd (false≢true e)
nul_there (y ∷ xs) e =
    elim (or_cases (is_nul y) _ e) [
      | inl here ↦ (0, omega arith, eqb-true y 0 here)
      | inr later ↦ Contains-append_right (y ∷ []) xs 0 (nul_there xs later)
    ]

mutual
  pub with_nul : (v : Tree) → HasNul v → has_nul v ≡ true
  with_nul (string s) h = nul_told s h
  with_nul (struct vs) h = member_with_nul vs h
  with_nul (object t i ps) h = property_with_nul ps h
  with_nul _ h = absurd h

  member_with_nul : (vs : Trees) → SomeHasNul vs → some_has_nul vs ≡ true
  member_with_nul no_trees h = absurd h
  member_with_nul (member v vs) (inl h) = or_left _ _ (with_nul v h)
  member_with_nul (member v vs) (inr h) = or_right _ _ (member_with_nul vs h)

  property_with_nul : (ps : Properties) → SomeValueHasNul ps → some_value_has_nul ps ≡ true
  property_with_nul no_properties h = absurd h
  property_with_nul (property k f v ps) (inl h) = or_left _ _ (with_nul v h)
  property_with_nul (property k f v ps) (inr h) = or_right _ _ (property_with_nul ps h)

mutual
  nul_in : (v : Tree) → has_nul v ≡ true → HasNul v
  nul_in (string s) h = nul_there s h
  nul_in (struct vs) h = nul_in_member vs h
  nul_in (object t i ps) h = nul_in_property ps h
  nul_in _ h = absurd (false≢true h)

  nul_in_member : (vs : Trees) → some_has_nul vs ≡ true → SomeHasNul vs
  nul_in_member no_trees h = absurd (false≢true h)
  nul_in_member (member v vs) h =
      elim (or_cases (has_nul v) _ h) [
        | inl here ↦ inl (nul_in v here)
        | inr later ↦ inr (nul_in_member vs later)
      ]

  nul_in_property : (ps : Properties) → some_value_has_nul ps ≡ true → SomeValueHasNul ps
  nul_in_property no_properties h = absurd (false≢true h)
  nul_in_property (property k f v ps) h =
      elim (or_cases (has_nul v) _ h) [
        | inl here ↦ inl (nul_in v here)
        | inr later ↦ inr (nul_in_property ps later)
      ]

pub clean : (v : Tree) → ¬ (HasNul v) → has_nul v ≡ false
clean v h = false_from_ne_true (has_nul v) (λ e. h (nul_in v e))

-- ---- what is answered

inval_both : (b : Bool) (o : Outcome) → o ≡ Inval → cond b Inval o ≡ Inval
inval_both true o e = refl
inval_both false o e = e

pub misplaced : (s : State) (v : Tree) (old : BuilderFields) → state_with_value s.closed s.opened v ≡ None →
    Makes {A = Unit {0}} (step s (add v)) old old (Err INVAL)
misplaced s v old e =
    subst (λ o. Makes {A = Unit {0}} o old old (Err INVAL))
    (sym (inval_both (has_nul v) _
    (ap (outcome_if_fits (nat_lt (length (encoded_body v)) size_limit)) e))) (refl, refl)

pub value_room : (s : State) (v : Tree) (old : BuilderFields) → IsAt old s → takes_trees s.opened ≡ true →
    all_fit 0 (trees_with_value s.opened v) ≡ has_room_for (length (encoding_of v)) s.opened
value_room s v old at t = added_fit s.opened v (length (encoding_of v))
    (length-encoded_pod (type_of v) (encoded_body v)) t at.nested

pub value_added : (s : State) (v : Tree) (old new : BuilderFields) (x : Unit {0}) → IsAt old s →
    takes_trees s.opened ≡ true → IsWritable v →
    has_room_for (length (encoding_of v)) s.opened ≡ true →
    new.bytes ≡ old.bytes ++ encoding_of v →
    new.frames ≡ frames_of (length (member_encodings s.closed)) (trees_with_value s.opened v) →
    Makes (step s (add v)) old new (Ok x)
value_added s v old new x at t w room b f =
    let fit = value_room s v old at t ∙ room in
    without_nul (has_nul v) _ old new (Ok x) (clean v w.no_nul)
    (sized_goes _ _ (after s.closed s.opened v) old new x (lt-ltb _ _ (body_fits v w.fits))
    (placed_is s.closed s.opened v t) fit
    (is_after s.closed s.opened v old.bytes new at.bytes at.nested t b f fit))

pub value_beyond : (s : State) (v : Tree) (old new : BuilderFields) → IsAt old s →
    takes_trees s.opened ≡ true → IsWritable v →
    has_room_for (length (encoding_of v)) s.opened ≡ false → new ≡ old →
    Makes {A = Unit {0}} (step s (add v)) old new (Err NOSPC)
value_beyond s v old new at t w room e =
    subst (λ h. Makes {A = Unit {0}} (step s (add v)) old h (Err NOSPC)) (sym e)
    (without_nul (has_nul v) _ old old (Err NOSPC) (clean v w.no_nul)
    (sized_nospc _ _ _ (after s.closed s.opened v) old (placed_is s.closed s.opened v t)
    (and_right _ _ (value_room s v old at t ∙ room))))

pub value_with_nul : (s : State) (v : Tree) (old new : BuilderFields) → HasNul v → new ≡ old →
    Makes {A = Unit {0}} (step s (add v)) old new (Err INVAL)
value_with_nul s v old new h e =
    subst (λ k. Makes {A = Unit {0}} (step s (add v)) old k (Err INVAL)) (sym e)
    (nul_refused (has_nul v) _ old (with_nul v h))

some_not_none : (o : Option State) (t : State) → o ≡ Some t → o ≢ None
some_not_none o t e f = cc

pub may_come : (s : State) (v : Tree) → takes_trees s.opened ≡ true →
    state_with_value s.closed s.opened v ≢ None
may_come s v t = some_not_none _ (after s.closed s.opened v) (placed_is s.closed s.opened v t)

pub made_value : (s : State) (v : Tree) (old new : BuilderFields) (r : Result (Unit {0}) Errno) →
    Makes (step s (add v)) old new r → MakesValue s v old new r
made_value s v old new r m = inl m

pub refused_value : {lacks : GenError → Type 0} (v : Tree) (old new : List ℕ) (e : GenError) →
    RefusesPiece (HasNul v) (IsTooLarge v) lacks old new e → RefusesValue v (errno_of e)
refused_value v old new NulInText r = inl (refl, r.cause.0)
refused_value v old new TooLarge r = inr (inr (refl, r.cause.0))
refused_value v old new _ r = inr (inl refl)

pub value_refused : (s : State) (v : Tree) (old new : BuilderFields) (r : Result (Unit {0}) Errno)
    (e : Errno) → takes_trees s.opened ≡ true → r ≡ Err e → new ≡ old → RefusesValue v e →
    MakesValue s v old new r
value_refused s v old new r e t is same (inl h) =
    inl (subst (λ q. Makes {A = Unit {0}} (step s (add v)) old new q)
    (sym (is ∙ ap (λ x. Err x) h.0)) (value_with_nul s v old new h.1 same))
value_refused s v old new r e t is same (inr h) =
    inr (record {
      place = may_come s v t;
      cause = subst (λ q. IsErrAnd q (λ x. (x ≡ NOMEM) ⊎ ((x ≡ NOSPC) × IsTooLarge v))) (sym is) h;
      same = same;
    })

-- whatever it makes, the builder holds a state
kept_one : (s : State) (v : Tree) (old new : BuilderFields) (r : Result (Unit {0}) Errno) → HasState old →
    MakesValue s v old new r → IsAt old s → HasState new
kept_one s v old new r h (inl m) at = kept_made (step s (add v)) old new r h m
kept_one s v old new r h (inr x) at = subst HasState (sym x.same) h

pub kept_value : (v : Tree) (old new : BuilderFields) (r : Result (Unit {0}) Errno) → HasState old →
    ((s : State) → IsAt old s → MakesValue s v old new r) → HasState new
kept_value v old new r h f = kept_one h.0 v old new r h (f h.0 h.1) h.1

-- ---- which values are of fixed size

-- the law of the types of trees
module _ (arrays : (a : ValueArray) → type_of (array_view a) ≡ array_type)
    (choices : (c : ChoiceValue) → type_of (choice_view c) ≡ choice_type)
    (objects : (o : Object) → type_of (object_view o) ≡ object_type) where
  pub is_long : (v : Value) → (v ≢ V.None) → ((x : _) → v ≢ V.Bool x) → ((x : _) → v ≢ V.Id x) →
      ((x : _) → v ≢ V.Int x) → ((x : _) → v ≢ V.Long x) → ((x : _) → v ≢ V.Float x) →
      ((x : _) → v ≢ V.Double x) → ((x : _) → v ≢ V.Rectangle x) → ((x : _) → v ≢ V.Fraction x) →
      ((x : _) → v ≢ V.Fd x) → (x : Fixed) → view v ≢ fixed x
  is_long V.None n b i j l f d r q h y = absurd (n refl)
  is_long (V.Bool x) n b i j l f d r q h y = absurd (b x refl)
  is_long (V.Id x) n b i j l f d r q h y = absurd (i x refl)
  is_long (V.Int x) n b i j l f d r q h y = absurd (j x refl)
  is_long (V.Long x) n b i j l f d r q h y = absurd (l x refl)
  is_long (V.Float x) n b i j l f d r q h y = absurd (f x refl)
  is_long (V.Double x) n b i j l f d r q h y = absurd (d x refl)
  is_long (V.Rectangle x) n b i j l f d r q h y = absurd (r x refl)
  is_long (V.Fraction x) n b i j l f d r q h y = absurd (q x refl)
  is_long (V.Fd x) n b i j l f d r q h y = absurd (h x refl)
  is_long (V.ValueArray x) n b i j l f d r q h y = not_fixed _ 13 (arrays x) (omega arith) (λ e. omega arith) y
  is_long (V.Object x) n b i j l f d r q h y = not_fixed _ 15 (objects x) (omega arith) (λ e. omega arith) y
  is_long (V.Choice x) n b i j l f d r q h y = not_fixed _ 19 (choices x) (omega arith) (λ e. omega arith) y
  is_long _ n b i j l f d r q h y = λ e. cc
