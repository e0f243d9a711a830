-- Whole runs: the answers to a list of calls, and the bytes that the accepted calls build: docs/FORMAT.md, "Making pods call by call".
use Rattle.std.specs.Prelude.{◌≡◌, ℕ, List, [], ◌∷◌, map, Result, Ok, Err, Option, Some, None}
use Rattle.spa_format.specs.Kind.{none, bool, id, int, long, float, double, rectangle, fraction, fd}
use Rattle.spa_format.specs.Tree.{fixed, string, bytes, pointer}
use Rattle.spa_value.specs.View.{array_view}
use Rattle.spa_builder.specs.State.{State, start}
use Rattle.spa_builder.specs.Step.{Call, add, add_prop, push_struct, push_object, push_array, push_choice, pop, abandon, Outcome, Accepts, Inval, Nospc, step}
use Rattle.spa_builder.specs.Fields.{BuilderFields, IsAt}
use Rattle.spa_builder.specs.Answers.{Spells}
use Rattle.spa_builder.specs.declared.build_call.BuildCall.{BuildCall}
use Rattle.spa_builder.specs.declared.build_call.BuildCall.TheVariants.{AddNone, AddBool, AddId, AddInt, AddLong, AddFloat, AddDouble, AddString, AddBytes, AddPointer, AddFd, AddRectangle, AddFraction, AddArray, AddProp, PushArray, PushChoice, PushStruct, PushObject, Pop, Abandon}
use Rattle.spa_utils.specs.declared.errno.Errno.{Errno}
use Rattle.spa_utils.specs.declared.errno.TheConstants.Errno.{NOMEM, INVAL, NOSPC}

-- the model's call for a call of the builder
abbrev pub call_of : BuildCall → Call
call_of AddNone = add (fixed none)
call_of (AddBool x) = add (fixed (bool x))
call_of (AddId x) = add (fixed (id x.0))
call_of (AddInt x) = add (fixed (int x))
call_of (AddLong x) = add (fixed (long x))
call_of (AddFloat x) = add (fixed (float x.0))
call_of (AddDouble x) = add (fixed (double x.0))
call_of (AddString x) = add (string x.now)
call_of (AddBytes x) = add (bytes x.now)
call_of (AddPointer t a) = add (pointer t.0 a)
call_of (AddFd x) = add (fixed (fd x))
call_of (AddRectangle x) = add (fixed (rectangle x.width x.height))
call_of (AddFraction x) = add (fixed (fraction x.num x.denom))
call_of (AddArray xs) = add (array_view xs.now)
call_of (AddProp k f) = add_prop k f
call_of PushArray = push_array
call_of (PushChoice n f) = push_choice n f
call_of PushStruct = push_struct
call_of (PushObject t i) = push_object t i
call_of (Pop f) = pop f.0
call_of (Abandon f) = abandon f.0

-- the model's calls for these calls
abbrev pub calls_of : List BuildCall → List Call
calls_of calls = map call_of calls

-- the answer of a call
abbrev pub Answer : Type 0
Answer = Result (Unit {0}) Errno

-- The answer fits the outcome of the model's step. A call that the step accepts may want memory.
abbrev pub IsAnswered : Outcome → Answer → Type 0
IsAnswered (Accepts s) (Ok x) = Unit {0}
IsAnswered (Accepts s) (Err e) = e ≡ NOMEM
IsAnswered Inval (Ok x) = ⊥
IsAnswered Inval (Err e) = e ≡ INVAL
IsAnswered Nospc (Ok x) = ⊥
IsAnswered Nospc (Err e) = e ≡ NOSPC

-- the state after a call with this outcome and this answer
abbrev pub behind : State → Outcome → Answer → State
behind s (Accepts t) (Ok x) = t
behind s o a = s

-- each call has an answer that fits the state after the calls before it
abbrev pub AreAnswered : State → List Call → List Answer → Type 0
AreAnswered s [] [] = Unit {0}
AreAnswered s (c ∷ cs) (a ∷ rs) = IsAnswered (step s c) a × AreAnswered (behind s (step s c) a) cs rs
AreAnswered s [] (a ∷ rs) = ⊥
AreAnswered s (c ∷ cs) [] = ⊥

-- the calls that were accepted
abbrev pub accepted_calls : List Call → List Answer → List Call
accepted_calls [] rs = []
accepted_calls (c ∷ cs) [] = []
accepted_calls (c ∷ cs) (Ok x ∷ rs) = c ∷ accepted_calls cs rs
accepted_calls (c ∷ cs) (Err e ∷ rs) = accepted_calls cs rs

-- the state after these calls; None where the model's step accepts not all of them
abbrev pub state_from : State → List Call → Option State
state_from s [] = Some s
state_from s (c ∷ cs) = elim (step s c) as (λ _. Option State) [ Accepts t ↦ state_from t cs | Inval ↦ None | Nospc ↦ None ]

-- the state after these calls on a new builder; None where the model's step accepts not all of them
abbrev pub state_after_calls : List Call → Option State
state_after_calls cs = state_from start cs

-- The calls are answered as the model answers, and the bytes are those that the accepted calls build.
pub record IsReplayed (calls : List Call) (answers : List Answer) (bytes : List ℕ) : Type 0 where
  pub answered : AreAnswered start calls answers
  pub spells : (s : State) × (state_after_calls (accepted_calls calls answers) ≡ Some s) × Spells bytes s

-- The calls are answered as the model answers, and the builder is at the state to which the accepted calls bring it.
pub record IsRunning (calls : List Call) (answers : List Answer) (builder : BuilderFields) : Type 0 where
  pub answered : AreAnswered start calls answers
  pub at : (s : State) × (state_after_calls (accepted_calls calls answers) ≡ Some s) × IsAt builder s
