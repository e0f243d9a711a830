-- Steps of the writers: what follows from the laws of a sink.
use Rattle.std.proofs.Common.{◌≡◌, ℕ, ◌+◌, ◌≤◌, List, [], ◌++◌, length, take, drop, refl, sym, ap, ◌∙◌, subst, arith}
use Rattle.std.proofs.Common.{append_assoc, length-append, take-append-drop}
use Rattle.std.proofs.lemmas.List.{append-nil}
use Rattle.spa_sink.specs.declared.gen_error.GenError.{GenError}
use Rattle.spa_sink.specs.declared.gen_error.GenError.TheVariants.{Full, TooLarge, NulInText}
use Rattle.spa_sink.specs.declared.gen_error.GenError.TheVariants.{WrongCount, Failed, Io}
use Rattle.spa_sink.specs.declared.gen_error.GenError.TheVariants.{OutOfMemory}
use Rattle.spa_sink.specs.Writing.{Begun, Sent, none_sent, some_sent, RefusesWrite}

-- The laws of a sink, as its trait has them.

abbrev pub AppendsMore : {S : Type 0} → (S → List ℕ → S → Type 0) → Type 0
AppendsMore {S = S} appends =
    (a b c : S) (xs ys : List ℕ) → appends a xs b → appends b ys c → appends a (xs ++ ys) c

abbrev pub RefusesAfter : {S : Type 0} → (S → List ℕ → S → Type 0) →
    (S → ℕ → S → GenError → Type 0) → Type 0
RefusesAfter {S = S} appends refuses =
    (a b c : S) (xs : List ℕ) (n : ℕ) (e : GenError) → appends a xs b → refuses b n c e → refuses a
    (length xs + n) c e

abbrev pub RefusesLonger : {S : Type 0} → (S → ℕ → S → GenError → Type 0) → Type 0
RefusesLonger {S = S} refuses =
    (a b : S) (m n : ℕ) (e : GenError) → m ≤ n → refuses a m b e → refuses a n b e

-- bytes behind others
pub sent_before : {S : Type 0} {appends : S → List ℕ → S → Type 0} (law : AppendsMore appends)
    (a b c : S) (xs ys : List ℕ) → Sent appends a xs b → appends b ys c → appends a (xs ++ ys) c
sent_before {appends = appends} law a b c xs ys (none_sent n e) q =
    subst (λ l. appends a (l ++ ys) c) (sym n) (subst (λ s. appends s ys c) (sym e) q)
sent_before law a b c xs ys (some_sent p) q = law a b c xs ys p q

pub sent_behind : {S : Type 0} {appends : S → List ℕ → S → Type 0} (law : AppendsMore appends)
    (a b c : S) (xs ys : List ℕ) → appends a xs b → Sent appends b ys c → appends a (xs ++ ys) c
sent_behind {appends = appends} law a b c xs ys p (none_sent n e) =
    subst (λ l. appends a l c) (sym (append-nil xs) ∙ ap (λ l. xs ++ l) (sym n))
    (subst (appends a xs) e p)
sent_behind law a b c xs ys p (some_sent q) = law a b c xs ys p q

-- one part and another
pub sent_twice : {S : Type 0} {appends : S → List ℕ → S → Type 0} (law : AppendsMore appends)
    (a b c : S) (xs ys : List ℕ) → Sent appends a xs b → Sent appends b ys c → Sent appends a (xs ++ ys) c
sent_twice {S = S} {appends = appends} law a b c xs ys (none_sent n e) q =
    let P : List ℕ → Type 0 = λ l. Sent appends a (l ++ ys) c in
    let Q : S → Type 0 = λ s. Sent appends s ys c in
    subst P (sym n) (subst Q (sym e) q)
sent_twice law a b c xs ys (some_sent p) q = some_sent (sent_behind law a b c xs ys p q)

pub refused_behind : {S : Type 0} {appends : S → List ℕ → S → Type 0}
    {refuses : S → ℕ → S → GenError → Type 0} (law : RefusesAfter appends refuses) (a b c : S)
    (xs : List ℕ) (n : ℕ) (e : GenError) → Sent appends a xs b → refuses b n c e →
    refuses a (length xs + n) c e
refused_behind {refuses = refuses} law a b c xs n x (none_sent m e) r =
    subst (λ k. refuses a k c x) (let z = ap length m in let
    w : n ≡ length xs + n = omega arith in w) (subst (λ s. refuses s n c x) (sym e) r)
refused_behind law a b c xs n x (some_sent p) r = law a b c xs n x p r

-- a sink's refusal is one of a write
pub by_sink : {S : Type 0} {nul large : Type 0} (refuses : S → ℕ → S → GenError → Type 0) →
    ((a b : S) (n : ℕ) → refuses a n b NulInText → ⊥) →
    ((a b : S) (n : ℕ) → refuses a n b TooLarge → ⊥) → (a b : S) (n : ℕ) (e : GenError) →
    refuses a n b e → RefusesWrite nul large (λ x. refuses a n b x) e
by_sink refuses no_nul no_large a b n Full r = record { cause = r }
by_sink refuses no_nul no_large a b n TooLarge r = absurd (no_large a b n r)
by_sink refuses no_nul no_large a b n NulInText r = absurd (no_nul a b n r)
by_sink refuses no_nul no_large a b n WrongCount r = record { cause = r }
by_sink refuses no_nul no_large a b n Failed r = record { cause = r }
by_sink refuses no_nul no_large a b n Io r = record { cause = r }
by_sink refuses no_nul no_large a b n OutOfMemory r = record { cause = r }

-- A header, some bytes, and the last.

pub parts_sent : {S : Type 0} {appends : S → List ℕ → S → Type 0} (law : AppendsMore appends)
    (a b c d : S) (h xs zs : List ℕ) → appends a h b → Sent appends b xs c → appends c zs d →
    appends a (h ++ (xs ++ zs)) d
parts_sent {appends = appends} law a b c d h xs zs p q t =
    subst (λ l. appends a l d) (append_assoc h xs zs) (law a
    c d (h ++ xs) zs (sent_behind law a b c h xs p q) t)

parts_length : (h xs zs : List ℕ) → length (h ++ (xs ++ zs)) ≡ length h + length xs + length zs
parts_length h xs zs =
    let e0 = length-append h (xs ++ zs) in
    let e1 = length-append xs zs in
    omega arith

pub parts_refused : {S : Type 0} {appends : S → List ℕ → S → Type 0}
    {refuses : S → ℕ → S → GenError → Type 0} (after : RefusesAfter appends refuses)
    (longer : RefusesLonger refuses) (a b c : S) (h xs zs : List ℕ) (x : GenError) → appends a h b →
    refuses b (length xs) c x → refuses a (length (h ++ (xs ++ zs))) c x
parts_refused after longer a b c h xs zs x p r =
    let e = parts_length h xs zs in
    longer a c (length h + length xs) (length (h ++ (xs ++ zs))) x (omega arith)
    (after a b c h (length xs) x p r)

pub last_refused : {S : Type 0} {appends : S → List ℕ → S → Type 0}
    {refuses : S → ℕ → S → GenError → Type 0} (law : AppendsMore appends)
    (after : RefusesAfter appends refuses) (longer : RefusesLonger refuses) (a b c d : S)
    (h xs zs : List ℕ) (x : GenError) → appends a h b → Sent appends b xs c →
    refuses c (length zs) d x → refuses a (length (h ++ (xs ++ zs))) d x
last_refused law after longer a b c d h xs zs x p q r =
    let e = parts_length h xs zs in
    let l = length-append h xs in
    longer a d (length (h ++ xs) + length zs) (length (h ++ (xs ++ zs))) x (omega arith)
    (after a c d (h ++ xs) (length zs) x (sent_behind law a b c h xs p q) r)

-- a refusal of one encoding is one of the same encoding
pub refused_encoding : {S : Type 0} (refuses : S → ℕ → S → GenError → Type 0) (a b : S)
    (xs ys : List ℕ) (e : GenError) → xs ≡ ys → refuses a (length xs) b e →
    refuses a (length ys) b e
refused_encoding refuses a b xs ys e p r = subst (λ l. refuses a (length l) b e) p r

-- Beginnings.

-- nothing was sent
pub begun_none : {S : Type 0} {appends : S → List ℕ → S → Type 0} (a b : S) (xs : List ℕ) →
    a ≡ b → Begun appends a xs b
begun_none a b xs e = record { first = []; left = xs; parts = refl; sent = none_sent refl e }

-- as many of the first bytes as a sink took
pub begun_by : {S : Type 0} {appends : S → List ℕ → S → Type 0} (a b : S) (n : ℕ) (xs : List ℕ) →
    appends a (take n xs) b → Begun appends a xs b
begun_by a b n xs p =
    record { first = take n xs; left = drop n xs; parts = sym (take-append-drop n xs); sent = some_sent p }

-- a beginning of the first of two parts
pub begun_first : {S : Type 0} {appends : S → List ℕ → S → Type 0} (a b : S) (xs ys : List ℕ) →
    Begun appends a xs b → Begun appends a (xs ++ ys) b
begun_first a b xs ys h =
    record {
      first = h.first;
      left = h.left ++ ys;
      parts = ap (λ l. l ++ ys) h.parts ∙ append_assoc h.first h.left ys;
      sent = h.sent;
    }

-- the first of two parts, and a beginning of the second
pub begun_behind : {S : Type 0} {appends : S → List ℕ → S → Type 0} (law : AppendsMore appends)
    (a b c : S) (xs ys : List ℕ) → Sent appends a xs b → Begun appends b ys c → Begun appends a (xs ++ ys) c
begun_behind law a b c xs ys p h =
    record {
      first = xs ++ h.first;
      left = h.left;
      parts = ap (λ l. xs ++ l) h.parts ∙ sym (append_assoc xs h.first h.left);
      sent = sent_twice law a b c xs h.first p h.sent;
    }

-- equal bytes are sent
pub begun_as : {S : Type 0} {appends : S → List ℕ → S → Type 0} (a b : S) (xs ys : List ℕ) →
    xs ≡ ys → Begun appends a xs b → Begun appends a ys b
begun_as {appends = appends} a b xs ys e h =
    let P : List ℕ → Type 0 = λ l. Begun appends a l b in
    subst P e h
