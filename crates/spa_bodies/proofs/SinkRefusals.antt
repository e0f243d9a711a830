-- Refusals of a part, as refusals of the whole.
use Rattle.std.proofs.Common.{ℕ, ◌+◌, ◌≤◌, List, length}
use Rattle.spa_sink.specs.declared.gen_error.GenError.{GenError}
use Rattle.spa_sink.specs.declared.gen_error.GenError.TheVariants.{Full, TooLarge, NulInText, WrongCount, Failed, Io, OutOfMemory}
use Rattle.spa_sink.specs.Writing.{RefusedFor, RefusesWrite}
use Rattle.spa_sink.proofs.Sending.{by_sink}
use Rattle.spa_bodies.specs.Written.{Refusing, Appending}

-- what a sink promises of its refusals
pub record IsSink {S : Type 0} (appends : Appending S) (refuses : Refusing S) : Type 0 where
  pub longer : (a b : S) (m n : ℕ) (e : GenError) → m ≤ n → refuses a m b e → refuses a n b e
  pub after : (a b c : S) (xs : List ℕ) (n : ℕ) (e : GenError) → appends a xs b → refuses b n c e →
      refuses a (length xs + n) c e
  pub no_nul : (a b : S) (n : ℕ) → refuses a n b NulInText → ⊥
  pub no_large : (a b : S) (n : ℕ) → refuses a n b TooLarge → ⊥

-- a refusal for other facts
refused_through : (nul nul' large large' : Type 0) (other other' : GenError → Type 0) → (nul → nul') →
    (large → large') → ((e : GenError) → other e → other' e) → (e : GenError) →
    RefusedFor nul large other e → RefusedFor nul' large' other' e
refused_through n n' l l' o o' f g h Full r = h Full r
refused_through n n' l l' o o' f g h TooLarge r = g r
refused_through n n' l l' o o' f g h NulInText r = f r
refused_through n n' l l' o o' f g h WrongCount r = h WrongCount r
refused_through n n' l l' o o' f g h Failed r = h Failed r
refused_through n n' l l' o o' f g h Io r = h Io r
refused_through n n' l l' o o' f g h OutOfMemory r = h OutOfMemory r

-- why a value can't be written, for other facts
pub unwritable_through : {nul nul' large large' : Type 0} → (nul → nul') → (large → large') → (e : GenError) →
    RefusesWrite nul large (λ _. ⊥) e → RefusesWrite nul' large' (λ _. ⊥) e
unwritable_through {nul = nul} {nul' = nul'} {large = large} {large' = large'} f g e r =
    record { cause = refused_through nul nul' large large' (λ _. ⊥) (λ _. ⊥) f g (λ d h. h) e r.cause }

-- a sink's refusal is of no text and of no size
pub sink_refused : {S : Type 0} {appends : Appending S} {refuses : Refusing S} →
    IsSink appends refuses → (nul large : Type 0) (a c : S) (n : ℕ) (e : GenError) → refuses a n c e →
    RefusesWrite nul large (refuses a n c) e
sink_refused {refuses = refuses} s nul large a c n e r = by_sink refuses s.no_nul s.no_large a c n e r

-- the refusal of the sink, behind bytes that were appended before
pub later_refused : {S : Type 0} {appends : Appending S} {refuses : Refusing S} →
    IsSink appends refuses → (nul large : Type 0) (a b c : S) (xs : List ℕ) (n whole : ℕ)
    (e : GenError) → appends a xs b → length xs + n ≤ whole → refuses b n c e →
    RefusesWrite nul large (refuses a whole c) e
later_refused s nul large a b c xs n whole e p le r =
    sink_refused s nul large a c whole e
    (s.longer a c (length xs + n) whole e le (s.after a b c xs n e p r))
