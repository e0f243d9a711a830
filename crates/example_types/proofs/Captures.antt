-- What is no capture, and what its visitor takes.
use Rattle.std.proofs.Common.{◌≡◌, ◌≢◌, ℕ, List, [], Option, Some, None, false, length, refl, sym, ap, ◌∙◌, subst, arith}
use Rattle.std.specs.Prelude.{MatchOption}
use Rattle.std.specs.Borrow.{Bor}
use Rattle.libspa.specs.Asking.{IsAsked, RefusesAsked, of_type}
use Rattle.libspa.specs.DeserializeError.{DeserializeError}
use Rattle.libspa.specs.Exactly.{AreUnread, behind, first, missing}
use Rattle.libspa.specs.ExactlyLaws.{fault_there, fault_to, memory_to}
use Rattle.libspa.specs.Fraction.{Fraction}
use Rattle.libspa.specs.Front.{HasFront, Begins, rest_of}
use Rattle.libspa.specs.Kind.{fraction, fraction_kind, rectangle, rectangle_kind, type_number}
use Rattle.libspa.specs.Members.{AllMembers, AtEnd, Reader, TakesField}
use Rattle.libspa.specs.Pod.{AreMembers}
use Rattle.libspa.specs.Reading.{OnFault, OnMemory}
use Rattle.libspa.specs.Rectangle.{Rectangle}
use Rattle.libspa.specs.Tree.{Tree, Trees, fixed, member, no_trees}
use Rattle.libspa.specs.Visiting.{LeavesExactly}
use Rattle.libspa.specs.Words.{word_at}
use Rattle.example_types.specs.Capture.{AreCapture, DeclinesCapture, RefusesCapture, capture_members, rate_members}
use Rattle.example_types.specs.declared.capture.Capture.{Capture}

-- a type of fixed size asks for no memory
pub no_memory : (t : ℕ) (b : List ℕ) (e : DeserializeError (Bor (List ℕ))) → RefusesAsked (of_type t) ⊥ b e → OnMemory ⊥ e
no_memory t b e r = memory_to (⊥ × HasFront b × (word_at b 4 ≡ t)) ⊥ e (λ k. k.0) r.memory

-- what a second read answers: it takes a rate, or none is left
abbrev pub TakesRate : Option Fraction → Reader → Reader → Type 0
TakesRate rate old new =
    MatchOption rate ((new ≡ old) × AtEnd old) (λ x. TakesField old new (λ v. v ≡ fixed (fraction x.num x.denom)))

capture_memory : (b : List ℕ) (e : DeserializeError (Bor (List ℕ))) → RefusesCapture b e → OnMemory ⊥ e
capture_memory b e (missing n i) = subst (OnMemory ⊥) (sym i) tt
capture_memory b e (first n r) = no_memory _ b e r
capture_memory b e (behind size rest i r) = no_memory _ rest e r.1

module _ (parts : (b : List ℕ) (v : Tree) (vs : Trees) → AreMembers (member v vs) b → Begins b v × AreMembers vs (rest_of b)) where
  capture_parts : (b : List ℕ) (ms : Trees) (c : Capture) → AreMembers ms b → AreCapture ms c →
      Begins b (fixed (rectangle c.size.width c.size.height)) × AreMembers (rate_members c.rate) (rest_of b)
  capture_parts b ms c m is =
      parts b (fixed (rectangle c.size.width c.size.height)) (rate_members c.rate) (subst (λ ws. AreMembers ws b) is m)

  no_rate : (b : List ℕ) (rate : Option Fraction) → b ≢ [] →
      ((v : Tree) → Begins b v → ¬ (IsAsked (of_type (type_number fraction_kind)) v)) → ¬ (AreMembers (rate_members rate) b)
  no_rate b None n other m = n m
  no_rate b (Some rate) n other m =
      let v = fixed (fraction rate.num rate.denom) in
      other v (parts b v no_trees m).0 refl

  no_capture : (b : List ℕ) (e : DeserializeError (Bor (List ℕ))) → RefusesCapture b e → OnFault (AreUnread AreCapture b) e
  no_capture b e (missing n i) =
      fault_there (AreUnread AreCapture b) e
      (λ ms c m is.
      let long = (capture_parts b ms c m is).0.there.header in
      let none = ap length n in
      absurd (omega (arith, long, none)))
  no_capture b e (first n r) =
      fault_to ((v : Tree) → Begins b v → ¬ (IsAsked (of_type (type_number rectangle_kind)) v)) (AreUnread AreCapture b) e
      (λ other ms c m is. other (fixed (rectangle c.size.width c.size.height)) (capture_parts b ms c m is).0 refl) r.refused
  no_capture b e (behind size rest i r) =
      fault_to ((v : Tree) → Begins rest v → ¬ (IsAsked (of_type (type_number fraction_kind)) v)) (AreUnread AreCapture b) e
      (λ other ms c m is. no_rate rest c.rate r.0 other (subst (AreMembers (rate_members c.rate)) (sym i.follows) (capture_parts b ms c m is).1))
      r.1.refused

  -- the cause says that no capture is there, and isn't memory
  pub capture_declined : (lent now : Reader) (e : DeserializeError (Bor (List ℕ))) →
      (lent.failed ≡ false → RefusesCapture lent.left e) → DeclinesCapture lent now e
  capture_declined lent now e cause = record {
    exactly = record {
      unread = λ good. no_capture lent.left e (cause good);
      memory = λ good. capture_memory lent.left e (cause good);
    };
    cause = cause;
  }

  more_than_rate : (rate : Option Fraction) (old new : Reader) → TakesRate rate old new → new.left ≢ [] →
      (other : Option Fraction) → ¬ (AreMembers (rate_members other) old.left)
  more_than_rate None old new t some other m = some (ap (λ r. r.left) t.0 ∙ t.1.none_left)
  more_than_rate (Some rate) old new t some None m =
      let long = t.field.begins.there.header in
      let none = ap length m in
      absurd (omega (arith, long, none))
  more_than_rate (Some rate) old new t some (Some other) m = some (t.field.follows ∙ (parts old.left (fixed (fraction other.num other.denom)) no_trees m).1)

  rate_good : (rate : Option Fraction) (old new : Reader) → TakesRate rate old new → new.failed ≡ false
  rate_good None old new t = ap (λ r. r.failed) t.0 ∙ t.1.good
  rate_good (Some rate) old new t = t.good

  -- it leaves members only behind a rate
  pub capture_left : (lent old new : Reader) (size : Rectangle) (rate : Option Fraction) →
      TakesField lent old (λ v. v ≡ fixed (rectangle size.width size.height)) → TakesRate rate old new → LeavesExactly AreCapture lent new
  capture_left lent old new size rate f t = record {
    good = λ _. rate_good rate old new t;
    unread = λ _ some ms c m is.
        more_than_rate rate old new t some c.rate
        (subst (AreMembers (rate_members c.rate)) (sym f.field.follows) (capture_parts lent.left ms c m is).1);
  }

module _ (whole : (b : List ℕ) (v : Tree) (vs : Trees) → Begins b v → AreMembers vs (rest_of b) → AreMembers (member v vs) b) where
  rate_taken : (rate : Option Fraction) (old new : Reader) → TakesRate rate old new → AtEnd new → AreMembers (rate_members rate) old.left
  rate_taken None old new t end = t.1.none_left
  rate_taken (Some rate) old new t end =
      whole old.left (fixed (fraction rate.num rate.denom)) no_trees (subst (Begins old.left) t.field.holds t.field.begins) (sym t.field.follows ∙ end.none_left)

  -- where all are read, they are the capture's
  pub capture_taken : (lent old new : Reader) (size : Rectangle) (rate : Option Fraction) →
      TakesField lent old (λ v. v ≡ fixed (rectangle size.width size.height)) → TakesRate rate old new → AtEnd new →
      AllMembers lent (λ ms. AreCapture ms (record { size = size; rate = rate }))
  capture_taken lent old new size rate f t end = record {
    members = capture_members (record { size = size; rate = rate });
    are =
        whole lent.left (fixed (rectangle size.width size.height)) (rate_members rate) (subst (Begins lent.left) f.field.holds f.field.begins)
        (subst (AreMembers (rate_members rate)) f.field.follows (rate_taken rate old new t end));
    holds = refl;
  }
