-- The laws of the built-in types that are refused exactly.
use Rattle.std.specs.Prelude.{◌≡◌, ◌≢◌, ℕ, List, ⊤, refl}
use Rattle.std.proofs.Common.{sym, ap, ◌∙◌, subst}
use Rattle.std.specs.Borrow.{Bor}
use Rattle.spa_format.specs.Tree.{Tree, fixed, choice, choice_type, type_of}
use Rattle.spa_format.specs.Front.{Begins, HasFront, IsRefused}
use Rattle.spa_format.proofs.Refused as format
use Rattle.spa_format.specs.Words.{word_at}
use Rattle.spa_fixed_sized.specs.declared.fault.DeserializeError.{DeserializeError}
use Rattle.spa_fixed_sized.specs.declared.fault.DeserializeError.TheVariants as error
use Rattle.spa_format.specs.Kind.{Kind, Fixed, kind_of, type_number}
use Rattle.spa_utils.specs.declared.choice.ChoiceEnum.{ChoiceEnum}
use Rattle.spa_utils.specs.declared.choice.ChoiceEnum.TheVariants as E
use Rattle.spa_utils.specs.declared.choice.Choice.{Choice}
use Rattle.spa_fixed_sized.specs.Choices.{choice_enum_tree, choice_tree}
use Rattle.spa_typed_read.specs.Asking.{Asked, choice_of, IsAsked, RefusesAsked, asked_type}
use Rattle.spa_typed_read.specs.Exactly.{BeginsChoice, IsUnread, RefusesExactly, RefusesSettled, malformed, no_choice, other_choice}
use Rattle.spa_view.specs.Settled.{settled_of}
use Rattle.spa_bodies.specs.Reading.{MayLackMemory, OnFault, OnMemory, RefusesInput}

-- a weaker fact than the one that a refusal says
pub fault_to : {I : Type 0} (A B : Type 0) (e : DeserializeError I) → (A → B) → OnFault A e → OnFault B e
fault_to A B error.OutOfMemory to h = h
fault_to A B _ to h = to h

pub memory_to : {I : Type 0} (A B : Type 0) (e : DeserializeError I) → (A → B) → OnMemory A e → OnMemory B e
memory_to A B error.OutOfMemory to h = to h
memory_to A B _ to h = h

-- a fact that holds whatever the refusal is
pub fault_there : {I : Type 0} (A : Type 0) (e : DeserializeError I) → A → OnFault A e
fault_there A error.OutOfMemory h = tt
fault_there A _ h = h

pub memory_there : {I : Type 0} (A : Type 0) (e : DeserializeError I) → A → OnMemory A e
memory_there A error.OutOfMemory h = h
memory_there A _ h = tt

pub both_on_memory : {I : Type 0} (A B : Type 0) (e : DeserializeError I) → OnMemory A e → OnMemory B e → OnMemory (A × B) e
both_on_memory A B error.OutOfMemory h k = (h, k)
both_on_memory A B _ h k = tt

-- a type whose values are those that the read asks for is refused exactly
pub asked_exactly : {X : Type 0} (a : Asked) (m : Type 0) (reads : Tree → X → Type 0) →
    ((v : Tree) (x : X) → reads v x → IsAsked a v) → (b : List ℕ) (e : DeserializeError (Bor (List ℕ))) →
    RefusesAsked a m b e → RefusesExactly reads m b e
asked_exactly {X = X} a m reads asked b e r = record {
  unread = fault_to _ (IsUnread reads b) e (λ n v x g h. n v g (asked v x h)) r.refused;
  short_first = r.short_first;
  memory = memory_to (m × HasFront b × (word_at b 4 ≡ asked_type a)) (m × HasFront b) e (λ k. (k.0, k.1)) r.memory;
}

-- a type as which any value is read is refused exactly
pub any_exactly : {X : Type 0} (reads : Tree → X → Type 0) (b : List ℕ) (e : DeserializeError (Bor (List ℕ))) →
    RefusesInput b e → RefusesExactly reads ⊤ b e
any_exactly reads b e r = record {
  unread = fault_to (IsRefused b) (IsUnread reads b) e (λ n v x g h. n v g) r.refused;
  short_first = r.short_first;
  memory = memory_to (MayLackMemory b) (⊤ × HasFront b) e (λ k. (tt, k.0)) r.memory;
}

-- a type as which any value is read, and whose read takes memory only where `takes_memory` holds, is refused exactly
pub passed_exactly : {X : Type 0} (reads : Tree → X → Type 0) (takes_memory : Type 0) (b : List ℕ) (e : DeserializeError (Bor (List ℕ))) →
    RefusesInput b e → OnMemory takes_memory e → RefusesExactly reads takes_memory b e
passed_exactly reads takes_memory b e r m = record {
  unread = fault_to (IsRefused b) (IsUnread reads b) e (λ n v x g h. n v g) r.refused;
  short_first = r.short_first;
  memory = both_on_memory takes_memory (HasFront b) e m (memory_to (MayLackMemory b) (HasFront b) e (λ k. k.0) r.memory);
}

-- a type that is made of another type, which is read, is refused exactly where that type is
pub made_exactly : {C X : Type 0} (reads : Tree → C → Type 0) (takes_memory : Type 0) (content : X → C) (b : List ℕ)
    (e : DeserializeError (Bor (List ℕ))) → RefusesExactly reads takes_memory b e →
    RefusesExactly (λ v (x : X). reads v (content x)) takes_memory b e
made_exactly {X = X} reads takes_memory content b e r = record {
  unread = fault_to (IsUnread reads b) (IsUnread (λ v (x : X). reads v (content x)) b) e (λ n v x g. n v (content x) g) r.unread;
  short_first = r.short_first;
  memory = r.memory;
}

-- each choice over a kind is one that a read of such choices asks for
pub choice_asked : {T : Type 0} (k : Kind) (f : T → Fixed) (v : Tree) (c : Choice T) → v ≡ choice_tree k f c → IsAsked (choice_of k) v
choice_asked k f v c h = of_values k f v c.0.0 c.1 h
  where
    of_values : {T : Type 0} (k : Kind) (f : T → Fixed) (v : Tree) (n : ℕ) (e : ChoiceEnum T) → v ≡ choice_enum_tree k f n e →
        IsAsked (choice_of k) v
    of_values k f v n (E.None x) h = (_, _, _, _, h)
    of_values k f v n (E.Range x a b) h = (_, _, _, _, h)
    of_values k f v n (E.Step x a b s) h = (_, _, _, _, h)
    of_values k f v n (E.Enum x xs) h = (_, _, _, _, h)
    of_values k f v n (E.Flags x xs) h = (_, _, _, _, h)

-- a value that is no choice stays itself when it is settled
itself : (v : Tree) → type_of v ≢ choice_type → settled_of v ≡ v
itself (choice s f k x xs) n = absurd (n refl)
itself _ n = refl

-- where the front is no choice, a value that is read settled is of the kind
of_its_kind : (k : Kind) (x : Fixed) (b : List ℕ) (v : Tree) → kind_of x ≡ k → ¬ (BeginsChoice b) → Begins b v → settled_of v ≡ fixed x →
    type_of v ≡ type_number k
of_its_kind k x b v i n g h =
    let other : type_of v ≢ choice_type = λ t. n (g.there, (format.begun b v g).0 ∙ t) in
    ap type_of (sym (itself v other) ∙ h) ∙ ap type_number i

-- a settled read is refused exactly
pub settled_exactly : {X : Type 0} (k : Kind) (says : X → Fixed) → ((x : X) → kind_of (says x) ≡ k) →
    (b : List ℕ) (e : DeserializeError (Bor (List ℕ))) → RefusesSettled k (λ v (x : X). settled_of v ≡ fixed (says x)) b e →
    RefusesExactly (λ v (x : X). settled_of v ≡ fixed (says x)) ⊥ b e
settled_exactly {X = X} k says of_kind b e (no_choice n r) = record {
  unread = fault_to _ (IsUnread (λ v (x : X). settled_of v ≡ fixed (says x)) b) e
      (λ no v x g h. no v g (of_its_kind k (says x) b v (of_kind x) n g h)) r.refused;
  short_first = r.short_first;
  memory = memory_to _ (⊥ × HasFront b) e (λ m. (m.0, m.1)) r.memory;
}
settled_exactly {X = X} k says of_kind b e (malformed c r m) = record {
  unread = fault_to (IsRefused b) (IsUnread (λ v (x : X). settled_of v ≡ fixed (says x)) b) e (λ no v x g h. no v g) r.refused;
  short_first = r.short_first;
  memory = memory_to ⊥ (⊥ × HasFront b) e (λ n. absurd n) m;
}
settled_exactly {X = X} k says of_kind b e (other_choice c _ _ u i) = record {
  unread = fault_there (IsUnread (λ v (x : X). settled_of v ≡ fixed (says x)) b) e u;
  short_first = λ s. absurd (s c.0);
  memory = subst (OnMemory (⊥ × HasFront b)) (sym i) tt;
}
