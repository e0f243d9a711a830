-- The objects at the fronts of two inputs, and that in which they meet.
use Rattle.std.proofs.Common.{◌≡◌, ◌≢◌, ◌∙◌, ℕ, zero, suc, List, [], ◌∷◌, take, inr, arith, refl, sym, Ok, Err, Vec, Global}
use Rattle.std.specs.Prelude.{IfErr, IfOk, IsErrAnd, Result}
use Rattle.std.proofs.lemmas.Result.{err_from_is_err_and}
use Rattle.libspa.specs.Encoding.{encoding_of}
use Rattle.libspa.specs.Front.{Begins, front_of}
use Rattle.libspa.specs.Normal.{normal_of}
use Rattle.libspa.specs.Pod.{IsPod}
use Rattle.libspa.specs.Tree.{Tree, object, array_type, choice_type, object_type, type_of}
use Rattle.libspa.specs.Typed.{IsBytes}
use Rattle.libspa.specs.Words.{word_at, extent}
use Rattle.libspa.specs.ChoiceValue.{ChoiceValue}
use Rattle.libspa.specs.Value.{Value}
use Rattle.libspa.specs.ValueArray.{ValueArray}
use Rattle.libspa.specs.Values as V
use Rattle.libspa.specs.View.{array_view, choice_view, view}
use Rattle.libspa.specs.Writable.{IsWritable}
use Rattle.spa_negotiate.specs.declared.error.NegotiateError.{NegotiateError}
use Rattle.spa_negotiate.specs.declared.error.NegotiateError.TheVariants.{TypeMismatch, Unsupported, Disjoint, Unread, NotObject, TooLarge, OutOfMemory}
use Rattle.spa_negotiate.specs.Meeting.{Meet}
use Rattle.spa_negotiate.specs.Refusals.{AreRefused}
use Rattle.spa_negotiate.specs.Fronts.{BeginBoth, IsObject, AreFrontsRefused, MeetIn}
use Rattle.example_calls.specs.Meeting.{ReadsBack}

-- a tree of another type than an object's is none,
no_object-type_of : (t : Tree) → type_of t ≢ object_type → ¬ (IsObject t)
no_object-type_of (object t i ps) n = λ h. n refl
no_object-type_of _ n = λ h. h

-- and so is the tree of another value than an object
pub not_object : ((a : ValueArray) → type_of (array_view a) ≡ array_type) →
    ((c : ChoiceValue) → type_of (choice_view c) ≡ choice_type) → (v : Value) →
    ((o : _) → v ≢ V.Object o) → ¬ (IsObject (view v))
not_object arrays choices (V.Object o) n = absurd (n o refl)
not_object arrays choices (V.ValueArray a) n =
    no_object-type_of (view (V.ValueArray a)) (λ e. omega (arith, sym (arrays a) ∙ e))
not_object arrays choices (V.Choice c) n =
    no_object-type_of (view (V.Choice c)) (λ e. omega (arith, sym (choices c) ∙ e))
not_object arrays choices _ n = λ h. h

IsBytes-take : (n : ℕ) (b : List ℕ) → IsBytes b → IsBytes (take n b)
IsBytes-take zero b h i = omega arith
IsBytes-take (suc n) [] h i = omega arith
IsBytes-take (suc n) (x ∷ xs) h zero = h zero
IsBytes-take (suc n) (x ∷ xs) h (suc i) = IsBytes-take n xs (λ j. h (suc j)) i

-- what was read reads back
pub ReadsBack-begun : ((b : List ℕ) (v : Tree) → IsPod b v → normal_of v ≡ v) →
    ((b : List ℕ) (v : Tree) → IsBytes b → IsPod b v → IsWritable v) → (b : List ℕ) → IsBytes b →
    (v : Tree) → Begins b v → ReadsBack v
ReadsBack-begun normal writable b h v begins =
    let front = front_of b in
    let bytes = IsBytes-take (extent (word_at b 0)) b h in
    record {
      no_nul = (writable front v bytes begins.pod).no_nul;
      normal = normal front v begins.pod;
    }

-- what two objects at two fronts are refused for
pub objects_refused : (a b : List ℕ) (v w : Tree) → Begins a v → Begins b w → (e : NegotiateError) →
    AreRefused v w e → AreFrontsRefused a b e
objects_refused a b v w first second TypeMismatch h =
    record { ours = v; theirs = w; first = first; second = second; holds = h }
objects_refused a b v w first second (Unsupported k) h =
    record { ours = v; theirs = w; first = first; second = second; holds = h }
objects_refused a b v w first second (Disjoint k) h =
    record { ours = v; theirs = w; first = first; second = second; holds = h }
objects_refused a b (object t i ps) (object u j qs) first second (Unread s) h = absurd h.1
objects_refused a b (object t i ps) (object u j qs) first second (NotObject s) h = absurd h.1
objects_refused a b (object t i ps) (object u j qs) first second TooLarge h = absurd h.1
objects_refused a b v w first second OutOfMemory h =
    inr (inr (record { ours = v; theirs = w; first = first; second = second; holds = h }))
objects_refused a b (object t i ps) w first second e h = absurd h
objects_refused a b v w first second e h = absurd h

-- and how it is written
pub written : (a b : List ℕ) (v w x : Tree) → Begins a v → Begins b w → Meet v w x →
    (r : Result (Vec ℕ Global) NegotiateError) → IfOk r (λ bytes. bytes.items ≡ encoding_of x) →
    IfOk r (λ bytes. IsPod bytes.items x) → IfOk r (λ bytes. BeginBoth a b (MeetIn bytes.items))
written a b v w x first second met (Ok bytes) e p =
    record {
      ours = v;
      theirs = w;
      first = first;
      second = second;
      holds = record { met = x; meet = met; encoding = e; pod = p };
    }
written a b v w x first second met (Err why) e p = tt

-- what a result says of its value is said of it by another name,
pub if_ok : {T E : Type 0} {P Q : T → Type 0} (r : Result T E) → ((v : T) → P v → Q v) → IfOk r P → IfOk r Q
if_ok (Ok v) f h = f v h
if_ok (Err e) f h = tt

-- and a refusal is passed on by a `?`
pub passed_on : {T E : Type 0} (r : Result T E) (e : E) (Q : E → Type 0) → IsErrAnd r (λ y. y ≡ e) →
    Q e → IfErr r Q
passed_on r e Q h q = let p = err_from_is_err_and r h in rw (p.1, p.2) q
