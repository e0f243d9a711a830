-- What a value is written as, read.
use Rattle.std.proofs.Common.{◌≡◌, ◌++◌, List, ℕ, length, refl, sym, ap, ◌∙◌, subst}
use Rattle.std.specs.Borrow.{Bor}
use Rattle.std.proofs.lemmas.List.{drop_at, length-take-le}
use Rattle.spa_format.specs.Words.{extent, word_at}
use Rattle.spa_format.specs.Tree.{Tree}
use Rattle.spa_format.specs.Encoding.{encoding_of}
use Rattle.spa_format.specs.Normal.{normal_of}
use Rattle.spa_format.specs.Typed.{IsTyped}
use Rattle.spa_format.specs.Writable.{IsWritable}
use Rattle.spa_format.specs.Front.{HasFront, front_of, rest_of}
use Rattle.spa_format.proofs.Back.{encoding_begins}
use Rattle.spa_format.proofs.Unique.{one_value}
use Rattle.spa_fixed_sized.specs.declared.fault.DeserializeError.{DeserializeError}
use Rattle.spa_fixed_sized.specs.declared.fault.DeserializeError.TheVariants as error
use Rattle.spa_typed_read.specs.Exactly.{IsUnread, RefusesExactly}
use Rattle.spa_typed_read.specs.ExactlyLaws.{fault_to}
use Rattle.spa_bodies.specs.Reading.{IsRead, OnFault, OnMemory}

rest_behind : (v : Tree) (rest : List ℕ) → IsTyped v → IsWritable v → rest_of (encoding_of v ++ rest) ≡ rest
rest_behind v rest t w =
    let input = encoding_of v ++ rest in
    let a = encoding_begins v rest t w in
    drop_at (encoding_of v) rest (extent (word_at input 0))
    (ap length (sym a.0) ∙ length-take-le (extent (word_at input 0)) input a.1.there.whole)

-- a read of it is of the value's normal form, and what follows is left
pub read_back : {X : Type 0} (reads : Tree → X → Type 0) (v : Tree) (rest left : List ℕ) (x : X) → IsTyped v → IsWritable v →
    IsRead (encoding_of v ++ rest) left (λ w. reads w x) → reads (normal_of v) x × (left ≡ rest)
read_back reads v rest left x t w r = (
  subst (λ u. reads u x)
      (one_value (front_of (encoding_of v ++ rest)) r.value (normal_of v) r.begins.pod (encoding_begins v rest t w).1.pod) r.holds,
  r.follows ∙ rest_behind v rest t w,
)

-- a refusal that can only be for lack of memory
lacked : (A B : Type 0) (e : DeserializeError (Bor (List ℕ))) → OnFault ⊥ e → OnMemory (A × B) e → (e ≡ error.OutOfMemory) × A
lacked A B error.OutOfMemory n m = (refl, m.0)
lacked A B _ n m = absurd n

-- where the normal form is read as something, memory is all that a read can lack
pub refused_back : {X : Type 0} (reads : Tree → X → Type 0) (takes : Type 0) (v : Tree) (rest : List ℕ) (x : X)
    (e : DeserializeError (Bor (List ℕ))) → IsTyped v → IsWritable v → reads (normal_of v) x →
    RefusesExactly reads takes (encoding_of v ++ rest) e → (e ≡ error.OutOfMemory) × takes
refused_back reads takes v rest x e t w r h =
    let begins = (encoding_begins v rest t w).1 in
    lacked takes (HasFront (encoding_of v ++ rest)) e
    (fault_to (IsUnread reads (encoding_of v ++ rest)) ⊥ e (λ n. n (normal_of v) x begins r) h.unread) h.memory
