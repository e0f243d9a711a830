-- An object without members, by its first key, and the brace behind it.
use Rattle.std.proofs.Common.{◌≡◌, ◌≢◌, List, Option, Result, Ok, Err, MatchResult, refl, ap, subst, sym, ◌∙◌}
use Rattle.std.specs.Prelude.{Some, None, codes, IfErr, IfOk, option_map}
use Rattle.json.specs.Token.{Token}
use Rattle.spa_format.specs.Kind.{fraction, rectangle}
use Rattle.spa_names.specs.declared.entry.Expected.{Expected}
use Rattle.spa_value.specs.declared.value.Value.{Value}
use Rattle.spa_value.specs.View.{view}
use Rattle.spa_text_read.specs.Options.{◌>>=◌}
use Rattle.spa_text_read.specs.Grammar as grammar
use Rattle.spa_text_read.specs.Grammar.{Leaf, a_bitmap, a_number, a_pointer, a_text, ending, hex_bytes, leaf, pointer_at, some_bytes, tagged_at, tagged_scalar, tree, two_words}
use Rattle.spa_text_read.specs.Seen.{IsOpened, leaf_at, leaf_of, opened_of, says}
use Rattle.spa_text_read.specs.Tokens.{after_end_object, any_text}
use Rattle.spa_text_read.specs.declared.cause.Cause.{Cause}
use Rattle.spa_text_read.specs.declared.cause.Cause.TheVariants as cause
use Rattle.spa_text_read.specs.declared.inside.Opened.{Opened}
use Rattle.spa_text_read.specs.declared.inside.Opened.TheVariants as opened
use Rattle.spa_text_read.specs.declared.tag.Tag.{Tag}
use Rattle.spa_text_read.specs.declared.tag.Tag.TheVariants as tag

abbrev whole_leaf : Option (Leaf × List Token) → Option (grammar.Opened × List Token)
whole_leaf r = r >>= (λ p. option_map (λ us. (leaf p.0, us)) (after_end_object p.1))

closes : {A : Type 0} (f : A → Leaf) (r : Option (A × List Token)) → ending f r ≡ whole_leaf (says f r)
closes f None = refl
closes f (Some p) = refl

is_leaf : (c : Expected) (t : Tag) (ts : List Token) → t ≢ tag.Struct → t ≢ tag.Array → t ≢ tag.Choice → t ≢ tag.Object →
    tagged_at c t ts ≡ whole_leaf (leaf_at c t ts)
is_leaf c (tag.Scalar n) ts s a k o = closes (λ x. a_number x) (tagged_scalar n c.ids ts)
is_leaf c tag.String ts s a k o = closes (λ x. a_text x) (any_text ts)
is_leaf c tag.Bytes ts s a k o = closes (λ x. some_bytes x) (hex_bytes ts)
is_leaf c tag.Bitmap ts s a k o = closes (λ x. a_bitmap x) (hex_bytes ts)
is_leaf c tag.Width ts s a k o = closes (λ p. a_number (rectangle p.0 p.1)) (two_words (codes "height") ts)
is_leaf c tag.Num ts s a k o = closes (λ p. a_number (fraction p.0 p.1)) (two_words (codes "denom") ts)
is_leaf c tag.Pointer ts s a k o = closes (λ p. a_pointer p.0 p.1) (pointer_at ts)
is_leaf c tag.Struct ts s a k o = absurd (s refl)
is_leaf c tag.Array ts s a k o = absurd (a refl)
is_leaf c tag.Choice ts s a k o = absurd (k refl)
is_leaf c tag.Object ts s a k o = absurd (o refl)
is_leaf c tag.Other ts s a k o = refl

-- what becomes of the brace behind a value
abbrev Ends : Result Opened Cause → Value → (mid new : List Token) → Type 0
Ends r v mid new =
    MatchResult r (λ o. (o ≡ opened.Leaf v) × (after_end_object mid ≡ Some new)) (λ e. (e ≡ cause.Token) × (after_end_object mid ≡ None))

module _ (c : Expected) (t : Tag) (ts : List Token) (s : t ≢ tag.Struct) (a : t ≢ tag.Array) (k : t ≢ tag.Choice) (o : t ≢ tag.Object) where
  pub leaf_ended : (r : Result Opened Cause) (v : Value) (mid new : List Token) → leaf_at c t ts ≡ Some (leaf_of (view v), mid) → Ends r v mid new →
      IfOk r (λ x. tagged_at c t ts ≡ Some (opened_of x, new))
  leaf_ended (Ok x) v mid new e h =
      is_leaf c t ts s a k o
      ∙ ap whole_leaf e
      ∙ ap (option_map (λ us. (leaf (leaf_of (view v)), us))) h.1
      ∙ ap (λ y. Some (opened_of y, new)) (sym h.0)
  leaf_ended (Err x) v mid new e h = tt

  pub leaf_unended : (r : Result Opened Cause) (v : Value) (mid new : List Token) → leaf_at c t ts ≡ Some (leaf_of (view v), mid) → Ends r v mid new →
      IfErr r (λ e. e ≢ cause.OutOfMemory → tagged_at c t ts ≡ None)
  leaf_unended (Ok x) v mid new e h = tt
  leaf_unended (Err x) v mid new e h = λ m.
      is_leaf c t ts s a k o ∙ ap whole_leaf e ∙ ap (option_map (λ us. (leaf (leaf_of (view v)), us))) h.1

  pub leaf_refused : leaf_at c t ts ≡ None → tagged_at c t ts ≡ None
  leaf_refused e = is_leaf c t ts s a k o ∙ ap whole_leaf e

pub leaf_proper : (r : Result Opened Cause) (v : Value) (mid new : List Token) → tree (leaf_of (view v)) ≡ view v → Ends r v mid new → IfOk r (λ x. IsOpened x)
leaf_proper (Ok x) v mid new p h = subst IsOpened (sym h.0) p
leaf_proper (Err x) v mid new p h = tt
