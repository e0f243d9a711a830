-- Two borrowed objects meet: what is appended while their properties are passed, and what they meet in.
use Rattle.std.proofs.Common.{◌≡◌, ◌⊎◌, inl, inr, ℕ, ◌-◌, ◌<◌, ◌≤◌, ◌^◌, List, length, refl, sym, ap, ◌∙◌, subst, Bool, true, false, true≢false, Option, Some, None}
use Rattle.std.specs.Prelude.{MatchBool}
use Rattle.spa_format.specs.Words.{size_limit}
use Rattle.spa_format.specs.Tree.{Tree, object, Properties, no_properties, property, join_properties}
use Rattle.spa_format.specs.Writable.{IsTooLarge, SomeValueTooLarge}
use Rattle.spa_format.proofs.Sequences.{join_properties-assoc}
use Rattle.spa_keyed_objects.specs.Keys.{Offered, offered, offered_at, has_key}
use Rattle.spa_keyed_objects.proofs.Holding.{HoldsAtKeys-new, HoldsAtKeys-none, HoldsAtKeys-seen, first_lacks, second_offers}
use Rattle.spa_keyed_objects.proofs.Lookups.{offered_at-absent, offered_at-joined}
use Rattle.spa_object_view.specs.Answers.{AreMetBehind, IsEnded, IsPutAs, IsPutBehind, IsPutBy, IsUnended}
use Rattle.spa_object_view.specs.Fronts.{BeginBoth, BeginsObject}
use Rattle.spa_object_view.specs.Meeting.{AreStopped, IsFrontStopped, IsRefusedNext, MeetsIn, MeetsTooLarge}
use Rattle.spa_object_view.specs.Written.{AreBehind, AreWritten, BeginsWritten, open_header}
use Rattle.spa_object_view.specs.declared.answer.Answer.{Answer}
use Rattle.spa_object_view.specs.declared.rule.Stop.{Stop}
use Rattle.spa_object_view.specs.declared.rule.Stop.TheVariants.{Unread, NotObject, OutOfMemory}
use Rattle.spa_keyed_objects.specs.declared.side.Side.TheVariants.{First, Second}
use Rattle.spa_object_view.proofs.Both.{begin_both}
use Rattle.spa_object_view.proofs.Joined.{behind_none, behind_on, object_large, object_written}
use Rattle.spa_object_view.proofs.Sides.{IsNext}

-- what was too large stays so behind others, and before them
large_before : (ps qs : Properties) → SomeValueTooLarge ps → SomeValueTooLarge (join_properties ps qs)
large_before no_properties qs h = absurd h
large_before (property k f v ps) qs (inl h) = inl h
large_before (property k f v ps) qs (inr h) = inr (large_before ps qs h)

large_last : (ps : Properties) (k f : ℕ) (v : Tree) → IsTooLarge v → SomeValueTooLarge (join_properties ps (property k f v no_properties))
large_last no_properties k f v h = inl h
large_last (property j g w ps) k f v h = inr (large_last ps k f v h)

-- one more property is held
held_on : (k f : ℕ) (v : Tree) (met : Properties) (head : List ℕ) (old new : Answer) → k < 2 ^ 32 →
    MatchBool old.is_large (SomeValueTooLarge met) (AreBehind met head old.bytes.items) → IsPutAs k f v old new →
    MatchBool new.is_large (SomeValueTooLarge (join_properties met (property k f v no_properties)))
    (AreBehind (join_properties met (property k f v no_properties)) head new.bytes.items)
held_on k f v met head old new l h p = by_size old.is_large new.is_large refl h p
  where
    by_size : (b c : Bool) → old.is_large ≡ b → MatchBool b (SomeValueTooLarge met) (AreBehind met head old.bytes.items) →
        MatchBool c ((b ≡ true) ⊎ IsTooLarge v) (IsPutBehind k f v old new) →
        MatchBool c (SomeValueTooLarge (join_properties met (property k f v no_properties)))
        (AreBehind (join_properties met (property k f v no_properties)) head new.bytes.items)
    by_size true true e h (inl t) = large_before met (property k f v no_properties) h
    by_size false true e h (inl t) = absurd (true≢false (sym t))
    by_size b true e h (inr t) = large_last met k f v t
    by_size true false e h p = absurd (true≢false (sym e ∙ p.small))
    by_size false false e h p = behind_on k f v met p.pod head old.bytes.items new.bytes.items l p.fits p.written p.parts h

held_none : (head : List ℕ) (b : Bool) → b ≡ false → MatchBool b (SomeValueTooLarge no_properties) (AreBehind no_properties head head)
held_none head true e = absurd (true≢false e)
held_none head false e = behind_none head

module _ {Holds : Option Offered → Option Offered → ℕ → Tree → Type 0} {ps qs : Properties} where
  -- no property is passed yet
  pub none_passed : (out : Answer) → out.is_large ≡ false → AreMetBehind Holds ps qs no_properties out.bytes.items out
  none_passed out e = record {
    met = no_properties;
    holds = HoldsAtKeys-none Holds ps qs;
    held = held_none out.bytes.items out.is_large e;
  }

  -- one more is, of a key that was there
  pub seen : {these : Properties} {head : List ℕ} {out : Answer} (k f : ℕ) (v : Tree) → has_key k these ≡ true → AreMetBehind Holds ps qs these head out →
      AreMetBehind Holds ps qs (join_properties these (property k f v no_properties)) head out
  seen {these} k f v there m =
      record { met = m.met; holds = HoldsAtKeys-seen Holds ps qs these m.met m.holds k f v there; held = m.held }

  -- one of a new key is put
  put : (these : Properties) (head : List ℕ) (old new : Answer) (k f : ℕ) (v : Tree) → has_key k these ≡ false → k < 2 ^ 32 →
      IsPutBy Holds (offered_at k ps) (offered_at k qs) k old new → AreMetBehind Holds ps qs these head old →
      AreMetBehind Holds ps qs (join_properties these (property k f v no_properties)) head new
  put these head old new k f v fresh l p m =
      record {
        met = join_properties m.met (property k p.flags p.value no_properties);
        holds = HoldsAtKeys-new Holds ps qs these m.met m.holds k f v fresh p.flags p.value p.holds;
        held = held_on k p.flags p.value m.met head old new l m.held p.put;
      }

  -- a new key of the first side,
  module _ {b left pod rest head : List ℕ} {old : Answer} {k f bound : ℕ}
      (n : IsNext no_properties ps b left pod rest k f bound (λ these. AreMetBehind Holds ps qs these head old)) (fresh : has_key k n.done ≡ false) where
    offered_first : offered_at k ps ≡ Some (offered f n.value)
    offered_first = offered_at-joined k f n.value n.done n.behind ps n.all (offered_at-absent k n.done fresh)

    pub first_put : {new : Answer} → k < 2 ^ 32 → IsPutBy Holds (Some (offered f n.value)) (offered_at k qs) k old new →
        AreMetBehind Holds ps qs (join_properties n.done (property k f n.value no_properties)) head new
    first_put {new} l p = put n.done head old new k f n.value fresh l (subst (λ o. IsPutBy Holds o (offered_at k qs) k old new) (sym offered_first) p) n.holds

    pub first_refused : {E : Type 0} {Refuses : ℕ → Option Offered → Option Offered → E → Type 0} (e : E) → Refuses k (Some (offered f n.value)) (offered_at k qs) e → IsRefusedNext Holds Refuses ps qs e
    first_refused {E} {Refuses} e r = record {
      done = n.done;
      behind = n.behind;
      met = n.holds.met;
      key = k;
      flags = f;
      value = n.value;
      place = inl n.all;
      fresh = fresh;
      holds = n.holds.holds;
      refused = subst (λ o. Refuses k o (offered_at k qs) e) (sym offered_first) r;
    }

  -- and one that the second side alone has
  module _ {b left pod rest head : List ℕ} {old : Answer} {k f bound : ℕ}
      (n : IsNext ps qs b left pod rest k f bound (λ these. AreMetBehind Holds ps qs these head old)) (fresh : has_key k (join_properties ps n.done) ≡ false) where
    none_offered : offered_at k ps ≡ None
    none_offered = first_lacks ps n.done k fresh

    offered_other : offered_at k qs ≡ Some (offered f n.value)
    offered_other = second_offers ps qs n.done n.behind k f n.value n.all fresh

    pub other_put : {new : Answer} → k < 2 ^ 32 → IsPutBy Holds None (Some (offered f n.value)) k old new →
        AreMetBehind Holds ps qs (join_properties (join_properties ps n.done) (property k f n.value no_properties)) head new
    other_put {new} l p = put (join_properties ps n.done) head old new k f n.value fresh l (rw (none_offered, offered_other) p) n.holds

    pub other_refused : {E : Type 0} {Refuses : ℕ → Option Offered → Option Offered → E → Type 0} (e : E) → Refuses k None (Some (offered f n.value)) e → IsRefusedNext Holds Refuses ps qs e
    other_refused {E} {Refuses} e r = record {
      done = join_properties ps n.done;
      behind = n.behind;
      met = n.holds.met;
      key = k;
      flags = f;
      value = n.value;
      place = inr (none_offered, ap (join_properties ps) n.all ∙ sym (join_properties-assoc ps n.done (property k f n.value n.behind)));
      fresh = fresh;
      holds = n.holds.holds;
      refused = rw (none_offered, offered_other) r;
    }

module _ {Holds : Option Offered → Option Offered → ℕ → Tree → Type 0} (a b ours theirs first : List ℕ) (last : Answer) (t i u j : ℕ)
    (h : BeginsWritten a t i ours) (k : BeginsWritten b u j theirs) (e : t ≡ u) (o : first ≡ open_header t i)
    (f : (ps qs : Properties) → AreWritten ps ours → AreWritten qs theirs → AreMetBehind Holds ps qs (join_properties ps qs) first last) where
  all_met : AreMetBehind Holds h.values k.values (join_properties h.values k.values) (open_header t i) last
  all_met = subst (λ head. AreMetBehind Holds h.values k.values (join_properties h.values k.values) head last) o (f h.values k.values h.written k.written)

  small_held : (c : Bool) → c ≡ false → MatchBool c (SomeValueTooLarge all_met.met) (AreBehind all_met.met (open_header t i) last.bytes.items) →
      AreBehind all_met.met (open_header t i) last.bytes.items
  small_held true z m = absurd (true≢false z)
  small_held false z m = m

  pub are_met : (bytes : List ℕ) → t < 2 ^ 32 → i < 2 ^ 32 → IsEnded last bytes → BeginBoth a b (MeetsIn Holds bytes)
  are_met bytes ft fi d =
      let n = all_met in
      let w = object_written t i n.met last.bytes.items bytes ft fi (small_held last.is_large d.small n.held) d.size d.parts in
      begin_both h k (record { met = object t i n.met; meet = (sym e, refl, refl, n.holds); encoding = w.encoding; pod = w.pod })

  large_held : (c : Bool) → MatchBool c (SomeValueTooLarge all_met.met) (AreBehind all_met.met (open_header t i) last.bytes.items) →
      MatchBool c (Unit {0}) (16 ≤ length last.bytes.items → size_limit ≤ length last.bytes.items - 8) → IsTooLarge (object t i all_met.met)
  large_held true m l = inr m
  large_held false m l = object_large t i all_met.met last.bytes.items m l

  -- they meet in what can't be written
  pub are_large : IsUnended last → BeginBoth a b (MeetsTooLarge Holds)
  are_large l =
      begin_both h k
      (record { met = object t i all_met.met; meet = (sym e, refl, refl, all_met.holds); large = large_held last.is_large all_met.held l })

module _ {E : Type 0} (Holds : Option Offered → Option Offered → ℕ → Tree → Type 0) (Refuses : ℕ → Option Offered → Option Offered → E → Type 0) (a b : List ℕ) where
  -- the second side's cause, behind a first side that is an object,
  pub second_stopped : BeginsObject a → (e : Stop E) → IsFrontStopped Second b e → AreStopped Holds Refuses a b e
  second_stopped first (Unread First) h = let no : First ≡ Second = h.0 in cc
  second_stopped first (Unread Second) h = (first, h.1)
  second_stopped first (NotObject First) h = let no : First ≡ Second = h.0 in cc
  second_stopped first (NotObject Second) h = (first, h.1)
  second_stopped first OutOfMemory h = inr (inl (first, h))
  second_stopped first _ h = absurd h

  -- and the first side's
  pub first_stopped : (e : Stop E) → IsFrontStopped First a e → AreStopped Holds Refuses a b e
  first_stopped (Unread First) h = h.1
  first_stopped (Unread Second) h = let no : Second ≡ First = h.0 in cc
  first_stopped (NotObject First) h = h.1
  first_stopped (NotObject Second) h = let no : Second ≡ First = h.0 in cc
  first_stopped OutOfMemory h = inl h
  first_stopped _ h = absurd h

-- a fact that is said of an object that isn't too large by its values
pub unless_large : (b : Bool) (P : Type 0) → P → MatchBool b (Unit {0}) P
unless_large true P h = tt
unless_large false P h = h
