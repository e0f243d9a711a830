-- What holds of the values of two objects, and of all values of fixed size, holds of those of the object in which they meet.
use Rattle.std.proofs.Common.{◌≡◌, ℕ, ◌==◌, ◌∙◌, Bool, true, false, if◌then◌else◌, refl, sym, ap, subst, inl, inr, Option, Some, None}
use Rattle.spa_format.specs.Fixation.{are_settled, is_settled}
use Rattle.spa_format.specs.Kind.{Fixed}
use Rattle.spa_format.specs.Normal.{normal_of, normal_properties}
use Rattle.spa_format.specs.Tree.{Tree, fixed, choice, object, Properties, no_properties, property}
use Rattle.spa_format.specs.Writable.{HasNul, SomeValueHasNul}
use Rattle.spa_keyed_objects.specs.Keys.{HoldsOfEach, Offered, offered, offered_at}
use Rattle.spa_negotiate.specs.Admits.{IsPlain, Admits, plain_of}
use Rattle.spa_negotiate.specs.Meeting.{IsMetAt, Meet, Settles}

module _ (P : Tree → Type 0) (of_fixed : (x : Fixed) → P (fixed x)) where
  -- it holds of the value of each property
  abbrev AreAll : Properties → Type 0
  AreAll no_properties = Unit {0}
  AreAll (property k f v ps) = P v × AreAll ps

  holds-found_by : (k f : ℕ) (v : Tree) (o : Offered) (ps : Properties) (b : Bool) → P v →
      (offered_at k ps ≡ Some o → P o.value) → (if b then Some (offered f v) else offered_at k ps) ≡ Some o → P o.value
  holds-found_by k f v o ps true p more e = let same : v ≡ o.value = cc in subst P same p
  holds-found_by k f v o ps false p more e = more e

  -- so of one that is found
  holds-found : (k : ℕ) (ps : Properties) → AreAll ps → (o : Offered) → offered_at k ps ≡ Some o → P o.value
  holds-found k no_properties h o e = cc
  holds-found k (property j f v ps) h o e =
      holds-found_by k f v o ps (j == k) h.0 (holds-found k ps h.1 o) e

  -- of what it admits
  holds-admitted : (v x : Tree) → P v → Admits v x → P x
  holds-admitted (choice s f k d vs) (fixed x) p h = of_fixed x
  holds-admitted (choice s f k d vs) _ p h = absurd h
  holds-admitted v x p h = subst P (sym h) p

  -- of its default
  holds-plain_of : (v : Tree) → P v → P (plain_of v)
  holds-plain_of (choice s f k d vs) p = of_fixed d
  holds-plain_of v p = p

  -- of what settles a key,
  holds-settling : (o p : Option Offered) (x : Tree) → ((a : Offered) → o ≡ Some a → P a.value) →
      ((a : Offered) → p ≡ Some a → P a.value) → Settles o p x → P x
  holds-settling (Some a) (Some b) x h i s = holds-admitted a.value x (h a refl) s.0
  holds-settling (Some a) None x h i s = subst P (sym s) (holds-plain_of a.value (h a refl))
  holds-settling None (Some b) x h i s = subst P (sym s) (holds-plain_of b.value (i b refl))
  holds-settling None None x h i s = absurd s

  -- and of what settles all of them
  holds-settled : (ps qs rs : Properties) → AreAll ps → AreAll qs → HoldsOfEach IsMetAt ps qs rs → AreAll rs
  holds-settled ps qs no_properties h i s = tt
  holds-settled ps qs (property k f x rs) h i s =
      let ours = holds-found k ps h in
      let theirs = holds-found k qs i in
      (holds-settling (offered_at k ps) (offered_at k qs) x ours theirs s.0.3, holds-settled ps qs rs h i s.1)

-- the value holds no NUL
abbrev NoNul : Tree → Type 0
NoNul v = ¬ (HasNul v)

no_nul-each : (ps : Properties) → ¬ (SomeValueHasNul ps) → AreAll NoNul (λ x h. h) ps
no_nul-each no_properties n = tt
no_nul-each (property k f v ps) n = (λ h. n (inl h), no_nul-each ps (λ h. n (inr h)))

no_nul-all : (ps : Properties) → AreAll NoNul (λ x h. h) ps → ¬ (SomeValueHasNul ps)
no_nul-all no_properties n h = h
no_nul-all (property k f v ps) n h = elim h [ inl l ↦ n.0 l | inr l ↦ no_nul-all ps n.1 l ]

-- two objects without NUL meet in one without NUL
pub NoNul-met : (v w x : Tree) → ¬ (HasNul v) → ¬ (HasNul w) → Meet v w x → ¬ (HasNul x)
NoNul-met (object t i ps) (object u j qs) (object a b rs) n m h =
    no_nul-all rs
    (holds-settled NoNul (λ x h. h) ps qs rs (no_nul-each ps n) (no_nul-each qs m) h.3.values)
NoNul-met (object t i ps) (object u j qs) _ n m h = absurd h
NoNul-met (object t i ps) _ x n m h = absurd h
NoNul-met _ w x n m h = absurd h

-- the value is its own normal form
abbrev IsNormal : Tree → Type 0
IsNormal v = normal_of v ≡ v

normal-each : (ps : Properties) → normal_properties ps ≡ ps → AreAll IsNormal (λ x. refl) ps
normal-each no_properties e = tt
normal-each (property k f v ps) e =
    let first : normal_of v ≡ v = cc in
    let rest : normal_properties ps ≡ ps = cc in
    (first, normal-each ps rest)

normal-all : (ps : Properties) → AreAll IsNormal (λ x. refl) ps → normal_properties ps ≡ ps
normal-all no_properties h = refl
normal-all (property k f v ps) h = let rest = normal-all ps h.1 in cc (h.0, rest)

-- two normal objects meet in a normal one
pub IsNormal-met : (v w x : Tree) → normal_of v ≡ v → normal_of w ≡ w → Meet v w x → normal_of x ≡ x
IsNormal-met (object t i ps) (object u j qs) (object a b rs) e g h =
    let ours : normal_properties ps ≡ ps = cc in
    let theirs : normal_properties qs ≡ qs = cc in
    let each =
    holds-settled IsNormal (λ x. refl) ps qs rs (normal-each ps ours) (normal-each qs theirs) h.3.values in
    ap (object a b) (normal-all rs each)
IsNormal-met (object t i ps) (object u j qs) _ e g h = absurd h
IsNormal-met (object t i ps) _ x e g h = absurd h
IsNormal-met _ w x e g h = absurd h

is_settled-plain : (v : Tree) → IsPlain v → is_settled v ≡ true
is_settled-plain (choice s f k d vs) h = absurd h
is_settled-plain _ h = refl

-- properties that settle keys need no fixation
pub are_settled-met : (ps qs rs : Properties) → HoldsOfEach IsMetAt ps qs rs → are_settled rs ≡ true
are_settled-met ps qs no_properties h = refl
are_settled-met ps qs (property k f x rs) h =
    let first = is_settled-plain x h.0.1 in
    ap (λ b. if b then are_settled rs else false) first ∙ are_settled-met ps qs rs h.1

-- nor does an object in which two meet
pub are_settled-object : (v w : Tree) (t i : ℕ) (rs : Properties) → Meet v w (object t i rs) →
    are_settled rs ≡ true
are_settled-object (object t i ps) (object u j qs) a b rs h = are_settled-met ps qs rs h.3.values
are_settled-object (object t i ps) _ a b rs h = absurd h
are_settled-object _ w a b rs h = absurd h
