-- Why two objects don't meet: docs/NEGOTIATION.md, "Refusals".
use Rattle.std.specs.Prelude.{⊤, ◌≡◌, ℕ, Option, Some}
use Rattle.spa_format.specs.Tree.{Tree, object, Properties}
use Rattle.spa_keyed_objects.specs.Keys.{IsFirstRefused, Offered, keys_of}
use Rattle.spa_negotiate.specs.Admits.{AreSupported, HasCommon}
use Rattle.spa_negotiate.specs.Meeting.{Agree}
use Rattle.spa_negotiate.specs.declared.error.NegotiateError.{NegotiateError}
use Rattle.spa_negotiate.specs.declared.error.NegotiateError.TheVariants.{TypeMismatch, Unsupported, Disjoint, OutOfMemory}

-- both sides have the key, and a value of theirs isn't supported
abbrev pub AreUnsupported : Option Offered → Option Offered → Type 0
AreUnsupported (Some a) (Some b) = ¬ (AreSupported a.value b.value)
AreUnsupported _ _ = ⊥

-- both sides have the key with supported values, and no value is admitted by both
abbrev pub AreDisjoint : Option Offered → Option Offered → Type 0
AreDisjoint (Some a) (Some b) = AreSupported a.value b.value × ¬ (HasCommon a.value b.value)
AreDisjoint _ _ = ⊥

-- this is the first of our keys under which the two sides don't agree, and the refusal stands there
abbrev pub IsRefusedAt : (Stands : Option Offered → Option Offered → Type 0) → (ours theirs : Properties) → ℕ → Type 0
IsRefusedAt Stands ours theirs key = IsFirstRefused Agree Stands ours theirs (keys_of ours) key

-- the refusal is one of two values under this key
abbrev pub IsValueRefusal : ℕ → Tree → Tree → NegotiateError → Type 0
IsValueRefusal key v w (Unsupported k) = (k ≡ key) × ¬ (AreSupported v w)
IsValueRefusal key v w (Disjoint k) = (k ≡ key) × AreSupported v w × ¬ (HasCommon v w)
IsValueRefusal key v w OutOfMemory = ⊤
IsValueRefusal key v w _ = ⊥

-- the refusal is one of the two sides' values under this key
abbrev pub IsKeyRefusal : ℕ → Option Offered → Option Offered → NegotiateError → Type 0
IsKeyRefusal key ours theirs (Unsupported k) = (k ≡ key) × AreUnsupported ours theirs
IsKeyRefusal key ours theirs (Disjoint k) = (k ≡ key) × AreDisjoint ours theirs
IsKeyRefusal key ours theirs OutOfMemory = ⊤
IsKeyRefusal key ours theirs _ = ⊥

-- the refusal is one of two objects of one type with these properties
abbrev pub IsRefusal : Properties → Properties → NegotiateError → Type 0
IsRefusal ours theirs (Unsupported key) = IsRefusedAt AreUnsupported ours theirs key
IsRefusal ours theirs (Disjoint key) = IsRefusedAt AreDisjoint ours theirs key
IsRefusal ours theirs OutOfMemory = ⊤
IsRefusal ours theirs _ = ⊥

-- the refusal is one of the two objects
abbrev pub AreRefused : Tree → Tree → NegotiateError → Type 0
AreRefused (object type our_id ours) (object its_type its_id theirs) TypeMismatch =
    ¬ (its_type ≡ type)
AreRefused (object type our_id ours) (object its_type its_id theirs) e =
    (its_type ≡ type) × IsRefusal ours theirs e
AreRefused _ _ _ = ⊥

-- the fact holds unless the refusal is for want of memory
abbrev pub OnDisagreement : Type 0 → NegotiateError → Type 0
OnDisagreement fact OutOfMemory = ⊤
OnDisagreement fact _ = fact
