-- Supported values; and two values by their refusal, their filter, and what is found of them.
use Rattle.std.proofs.Common.{◌≡◌, ℕ, refl, sym, subst, Option, Some, None, Result, Ok, Err, IfOk, IfErr, OnOk}
use Rattle.spa_format.specs.Tree.{Tree, choice}
use Rattle.spa_value.specs.View.{view}
use Rattle.spa_value.specs.declared.value.Value.{Value}
use Rattle.spa_keyed_objects.specs.Keys.{Offered}
use Rattle.spa_negotiate.specs.declared.error.NegotiateError.{NegotiateError}
use Rattle.spa_negotiate.specs.declared.error.NegotiateError.TheVariants.{Unsupported, Disjoint, OutOfMemory}
use Rattle.spa_negotiate.specs.Admits.{AreSupported, IsCommon, IsPlain, IsSupported, plain_of}
use Rattle.spa_negotiate.specs.Meeting.{IsMetAt}
use Rattle.spa_negotiate.specs.Refusals.{IsKeyRefusal, IsValueRefusal}
use Rattle.spa_filter.proofs.FixedObjects.{IsPlain-plain_of}

-- a plain value is supported
pub IsSupported-plain : (v : Tree) → IsPlain v → IsSupported v
IsSupported-plain (choice s f k d vs) h = absurd h
IsSupported-plain _ h = tt

-- what two values that stand under a key meet in, and why they don't, where `found` is what the other side offers there
module _ (a b : Offered) (found : Option Offered) (is : found ≡ Some b) where
  pub met_at : (r : Result Value NegotiateError) → IfOk r (λ x. IsPlain (view x)) → OnOk r (AreSupported a.value b.value) →
      IfOk r (λ x. IsCommon a.value b.value (view x)) → IfOk r (λ x. IsMetAt (Some a) found 0 (view x))
  met_at (Ok x) p s c = subst (λ o. IsMetAt (Some a) o 0 (view x)) (sym is) (refl, p, (s, (view x, c)), c)
  met_at (Err e) p s c = tt

  by_cause : (key : ℕ) (e : NegotiateError) → IsValueRefusal key a.value b.value e → IsKeyRefusal key (Some a) (Some b) e
  by_cause key (Unsupported k) h = h
  by_cause key (Disjoint k) h = (h.0, (h.1, h.2))
  by_cause key OutOfMemory h = h
  by_cause key _ h = h

  pub refused_value : (key : ℕ) (e : NegotiateError) → IsValueRefusal key a.value b.value e → IsKeyRefusal key (Some a) found e
  refused_value key e h = subst (λ o. IsKeyRefusal key (Some a) o e) (sym is) (by_cause key e h)

  pub refused_at : (key : ℕ) (r : Result Value NegotiateError) → IfErr r (IsValueRefusal key a.value b.value) →
      IfErr r (IsKeyRefusal key (Some a) found)
  refused_at key (Ok x) h = tt
  refused_at key (Err e) h = refused_value key e h

-- what settles the key of one side alone
pub met_alone : (a : Offered) (found : Option Offered) (x : Tree) → found ≡ None → x ≡ plain_of a.value → IsMetAt (Some a) found 0 x
met_alone a found x is s =
    subst (λ o. IsMetAt (Some a) o 0 x) (sym is) (refl, subst IsPlain (sym s) (IsPlain-plain_of a.value), tt, s)
