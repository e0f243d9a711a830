-- What is no gain, and what its visitor takes.
use Rattle.std.proofs.Common.{◌≡◌, ℕ, ◌≤◌, List, [], drop, false, length, refl, sym, ap, ◌∙◌, subst, arith, inl, inr}
use Rattle.std.specs.Borrow.{Bor}
use Rattle.libspa.specs.Asking.{IsAsked, of_type}
use Rattle.libspa.specs.DeserializeError.{DeserializeError}
use Rattle.libspa.specs.DeserializeErrors as error
use Rattle.libspa.specs.ExactlyLaws.{fault_there, fault_to}
use Rattle.libspa.specs.Front.{Begins, rest_of}
use Rattle.libspa.specs.Kind.{float, float_kind, type_number}
use Rattle.libspa.specs.Lookup.{NoneRead}
use Rattle.libspa.specs.Members.{AllProperties, AtEnd, ObjectReader, TakesProperty, key_missing, key_other, key_short, value_refused}
use Rattle.libspa.specs.Pod.{AreProperties}
use Rattle.libspa.specs.Reading.{IsShortAt, OnFault, OnMemory}
use Rattle.libspa.specs.Tree.{Tree, Properties, fixed, no_properties, property}
use Rattle.libspa.specs.Visiting.{LeavesExactlyIn}
use Rattle.libspa.specs.Words.{header_size, word_at}
use Rattle.spa_names.specs.declared.keys.TheConstants.{PROP_VOLUME}
use Rattle.spa_names.specs.declared.types.TheConstants.{OBJECT_PROPS}
use Rattle.example_types.specs.Gain.{DeclinesGain, IsGain, RefusesGain, gain_properties}
use Rattle.example_types.specs.declared.gain.Gain.{Gain}
use Rattle.example_types.proofs.Captures.{no_memory}

short_memory : (b : List ℕ) (e : DeserializeError (Bor (List ℕ))) → IsShortAt b e → OnMemory ⊥ e
short_memory b (error.Nom f) s = tt
short_memory b _ s = absurd s

gain_memory : (t : ℕ) (b : List ℕ) (e : DeserializeError (Bor (List ℕ))) → RefusesGain t b e → OnMemory ⊥ e
gain_memory t b e (inl h) = subst (OnMemory ⊥) (sym h.1) tt
gain_memory t b e (inr (key_missing n i)) = subst (OnMemory ⊥) (sym i) tt
gain_memory t b e (inr (key_short n l i)) = short_memory b e i
gain_memory t b e (inr (key_other l n i)) = subst (OnMemory ⊥) (sym i) tt
gain_memory t b e (inr (value_refused l r)) = no_memory _ (drop header_size b) e r

module _ (parts : (b : List ℕ) (k f : ℕ) (v : Tree) (ps : Properties) → AreProperties (property k f v ps) b →
    (header_size ≤ length b) × (k ≡ word_at b 0) × (f ≡ word_at b 4) × Begins (drop header_size b) v
    × AreProperties ps (rest_of (drop header_size b))) where
  gain_parts : (t i : ℕ) (b : List ℕ) (ps : Properties) (g : Gain) → AreProperties ps b → IsGain t i ps g →
      (header_size ≤ length b) × (PROP_VOLUME ≡ word_at b 0) × (g.flags.0 ≡ word_at b 4)
      × Begins (drop header_size b) (fixed (float g.volume.0)) × (rest_of (drop header_size b) ≡ [])
  gain_parts t i b ps g m is = parts b PROP_VOLUME g.flags.0 (fixed (float g.volume.0)) no_properties (subst (λ qs. AreProperties qs b) is.its_properties m)

  no_gain : (t i : ℕ) (b : List ℕ) (e : DeserializeError (Bor (List ℕ))) → RefusesGain t b e → OnFault (NoneRead (IsGain t i) b) e
  no_gain t i b e (inl other) = fault_there (NoneRead (IsGain t i) b) e (λ ps g m h. other.0 h.its_type)
  no_gain t i b e (inr (key_missing n is)) =
      fault_there (NoneRead (IsGain t i) b) e
      (λ ps g m h.
      let long = (gain_parts t i b ps g m h).0 in
      let none = ap length n in
      absurd (omega (arith, long, none)))
  no_gain t i b e (inr (key_short n cut is)) =
      fault_there (NoneRead (IsGain t i) b) e
      (λ ps g m h.
      let long = (gain_parts t i b ps g m h).0 in
      absurd (omega (arith, long, cut)))
  no_gain t i b e (inr (key_other l n is)) =
      fault_there (NoneRead (IsGain t i) b) e (λ ps g m h. n (sym (gain_parts t i b ps g m h).1))
  no_gain t i b e (inr (value_refused l r)) =
      fault_to ((v : Tree) → Begins (drop header_size b) v → ¬ (IsAsked (of_type (type_number float_kind)) v)) (NoneRead (IsGain t i) b) e
      (λ other ps g m h. other (fixed (float g.volume.0)) (gain_parts t i b ps g m h).3 refl) r.refused

  -- the cause says that no gain is there, and isn't memory
  pub gain_declined : (lent now : ObjectReader) (e : DeserializeError (Bor (List ℕ))) →
      (lent.reader.failed ≡ false → RefusesGain lent.type lent.reader.left e) → DeclinesGain lent now e
  gain_declined lent now e cause = record {
    exactly = record {
      unread = λ good. no_gain lent.type lent.id lent.reader.left e (cause good);
      memory = λ good. gain_memory lent.type lent.reader.left e (cause good);
    };
    cause = cause;
  }

  -- it leaves properties only behind a volume
  pub gain_left : (lent now : ObjectReader) (flags : ℕ) (P : Tree → Type 0) → TakesProperty lent now PROP_VOLUME flags P →
      LeavesExactlyIn IsGain lent now
  gain_left lent now flags P t = record {
    good = λ _. t.good;
    unread = λ _ some ps g m h. some (t.value.follows ∙ (gain_parts lent.type lent.id lent.reader.left ps g m h).4);
  }

module _ (whole : (b : List ℕ) (k f : ℕ) (v : Tree) (ps : Properties) → header_size ≤ length b → k ≡ word_at b 0 → f ≡ word_at b 4 →
    Begins (drop header_size b) v → AreProperties ps (rest_of (drop header_size b)) → AreProperties (property k f v ps) b) where
  -- where all are read, they are the gain's
  pub gain_taken : (lent now : ObjectReader) (g : Gain) → lent.type ≡ OBJECT_PROPS → lent.id ≡ g.id →
      TakesProperty lent now PROP_VOLUME g.flags.0 (λ v. v ≡ fixed (float g.volume.0)) → AtEnd now.reader →
      AllProperties lent (λ ps. IsGain lent.type lent.id ps g)
  gain_taken lent now g its_type its_id t end = record {
    properties = gain_properties g;
    are =
        whole lent.reader.left PROP_VOLUME g.flags.0 (fixed (float g.volume.0)) no_properties t.header t.its_key t.its_flags
        (subst (Begins (drop header_size lent.reader.left)) t.value.holds t.value.begins) (sym t.value.follows ∙ end.none_left);
    holds = record { its_type = its_type; its_id = its_id; its_properties = refl };
  }
