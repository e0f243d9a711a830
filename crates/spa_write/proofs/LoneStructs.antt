-- Structs of which each is the only member of the one around it.
use Rattle.std.proofs.Common.{◌≡◌, ℕ, ◌+◌, ◌-◌, ◌<◌, ◌≤◌, ◌⊎◌, inl, inr, ⊎_elim, List, ◌++◌, length, sym, ap, ◌∙◌, subst, arith, append_assoc}
use Rattle.std.proofs.lemmas.List.{append-nil}
use Rattle.spa_sink.specs.declared.gen_error.GenError.{GenError}
use Rattle.spa_sink.specs.declared.gen_error.GenError.TheVariants.{TooLarge}
use Rattle.spa_sink.specs.Writing.{Sent, some_sent}
use Rattle.spa_sink.proofs.Sending.{AppendsMore, sent_before}
use Rattle.spa_format.specs.Words.{header_size, size_limit, word_bytes}
use Rattle.spa_format.specs.Tree.{struct, struct_type, Trees, no_trees, member}
use Rattle.spa_format.specs.Encoding.{encoding_of, member_encodings}
use Rattle.spa_format.specs.Typed.{AllTyped}
use Rattle.spa_format.specs.Writable.{IsTooLarge, IsWritable, SomeHasNul}
use Rattle.spa_format.proofs.Encodings.{length-encoded_pod, whole_members}
use Rattle.spa_bodies.specs.Written.{Appending, Refusing, Stops}
use Rattle.spa_bodies.proofs.Frames.{size_refused}
use Rattle.spa_bodies.proofs.Parts.{TakesParts, stop_as, stop_behind, stop_first}
use Rattle.spa_write.specs.Measured.{RefusesTree}
use Rattle.spa_write.proofs.Stopping.{struct_parts}

-- `outer` bytes of headers are before the second members in the encodings of the first
pub record AreWithin (vs : Trees) (outer : ℕ) (ws : Trees) : Type 0 where
  pub size : length (member_encodings vs) ≡ outer + length (member_encodings ws)
  pub no_nul : ¬ (SomeHasNul ws) → ¬ (SomeHasNul vs)
  pub fits : length (member_encodings vs) < size_limit → ¬ (IsTooLarge (struct ws)) → ¬ (IsTooLarge (struct vs))
  pub nul : SomeHasNul ws → SomeHasNul vs
  pub large : IsTooLarge (struct ws) → IsTooLarge (struct vs)

-- how many bytes a struct has that stands alone
pub lone_length : (ws us : Trees) → ws ≡ member (struct us) no_trees →
    length (member_encodings ws) ≡ header_size + length (member_encodings us)
lone_length ws us is =
    ap (λ x. length (member_encodings x)) is
    ∙ ap length (append-nil (encoding_of (struct us)))
    ∙ (let f = length-encoded_pod struct_type (member_encodings us) in let w = whole_members us in omega arith)

-- what is too large of a struct that stands alone
abbrev LoneTooLarge : Trees → Trees → Type 0
LoneTooLarge ws us = (size_limit ≤ length (member_encodings ws)) ⊎ (IsTooLarge (struct us) ⊎ ⊥)

widened : (ws us : Trees) → ws ≡ member (struct us) no_trees → IsTooLarge (struct ws) → LoneTooLarge ws us
widened ws us is x =
    subst (λ l. LoneTooLarge l us) (sym is) (subst (λ l. IsTooLarge (struct l)) is x)

-- one struct further
pub one_within : (vs ws us : Trees) (outer more : ℕ) → AreWithin vs outer ws →
    ws ≡ member (struct us) no_trees → more ≡ outer + header_size → AreWithin vs more us
one_within vs ws us outer more h is sum =
    let size : length (member_encodings vs) ≡ more + length (member_encodings us) =
    omega (arith, h.size, sum, lone_length ws us is) in
    record {
      size = size;
      no_nul = λ f. h.no_nul (λ x. ⊎_elim f (λ y. y) (subst SomeHasNul is x));
      fits = λ short f. h.fits short (λ x. ⊎_elim (λ big. omega (arith, big, short, h.size)) (λ y. ⊎_elim f (λ z. z) y) (widened ws us is x));
      nul = λ x. h.nul (subst SomeHasNul (sym is) (inl x));
      large = λ x. h.large (subst (λ l. IsTooLarge (struct l)) (sym is) (inr (inl x)));
    }

-- the refusal of the sum
pub within_too_long : (vs ws : Trees) (outer big : ℕ) → AreWithin vs outer ws →
    big ≤ outer + length (member_encodings ws) → (e : GenError) → (e ≡ TooLarge) × (size_limit ≤ big) →
    RefusesTree (struct vs) e
within_too_long vs ws outer big h le e r =
    size_refused (SomeHasNul vs) (IsTooLarge (struct vs)) (λ _. ⊥) (size_limit ≤ big)
    (λ b. inl (omega (arith, b, le, h.size))) e r

-- A sink took the headers of the structs around the second members, which are to be written with `left` bytes.
pub record AreBegun {S : Type 0} (appends : Appending S) (old : S) (vs : Trees) (now : S) (ws : Trees) (left : ℕ) : Type 0 where
  pub heads : List ℕ
  pub parts : member_encodings vs ≡ heads ++ member_encodings ws
  pub sent : Sent appends old heads now
  pub size : left ≡ length (member_encodings ws)
  pub writable : IsWritable (struct ws)
  pub typed : AllTyped ws → AllTyped vs

-- the next header, and what is behind it
pub lone_parts : (ws us : Trees) (n k : ℕ) → ws ≡ member (struct us) no_trees →
    n ≡ length (member_encodings ws) → k ≡ n - 8 →
    member_encodings ws ≡ (word_bytes k ++ word_bytes struct_type) ++ member_encodings us
lone_parts ws us n k is e d =
    let size = lone_length ws us is in
    ap member_encodings is ∙ append-nil (encoding_of (struct us)) ∙ struct_parts k us (omega (arith, size, e, d))

pub next_begun : {S : Type 0} {appends : Appending S} → AppendsMore appends → (a b c : S)
    (vs ws us : Trees) (n k : ℕ) → AreBegun appends a vs b ws n → ws ≡ member (struct us) no_trees → k ≡ n - 8 →
    appends b (word_bytes k ++ word_bytes struct_type) c → AreBegun appends a vs c us k
next_begun more a b c vs ws us n k h is d p =
    let head = word_bytes k ++ word_bytes struct_type in
    let whole = lone_length ws us is in
    record {
      heads = h.heads ++ head;
      parts = h.parts ∙ ap (λ l. h.heads ++ l) (lone_parts ws us n k is h.size d) ∙ sym (append_assoc h.heads head (member_encodings us));
      sent = some_sent (sent_before more a b c h.heads head h.sent p);
      size = omega (arith, whole, h.size, d);
      writable = record {
        no_nul = λ x. h.writable.no_nul (subst SomeHasNul (sym is) (inl x));
        fits = λ x. h.writable.fits (subst (λ l. IsTooLarge (struct l)) (sym is) (inr (inl x)));
      };
      typed = λ t. h.typed (subst AllTyped (sym is) (t, tt));
    }

-- within what is left
pub left_stops : {S : Type 0} {appends : Appending S} {refuses : Refusing S} → TakesParts appends refuses →
    (a b c : S) (vs ws : Trees) (n : ℕ) → AreBegun appends a vs b ws n → (e : GenError) →
    Stops appends refuses b (member_encodings ws) c e → Stops appends refuses a (member_encodings vs) c e
left_stops s a b c vs ws n h e x =
    stop_as a c (h.heads ++ member_encodings ws) (member_encodings vs) e (sym h.parts)
    (stop_behind s a b c h.heads (member_encodings ws) e h.sent x)

-- within the next header
pub begun_stops : {S : Type 0} {appends : Appending S} {refuses : Refusing S} → TakesParts appends refuses →
    (a b c : S) (vs ws us : Trees) (n k : ℕ) → AreBegun appends a vs b ws n → ws ≡ member (struct us) no_trees →
    k ≡ n - 8 → (e : GenError) → Stops appends refuses b (word_bytes k ++ word_bytes struct_type) c e →
    Stops appends refuses a (member_encodings vs) c e
begun_stops s a b c vs ws us n k h is d e x =
    let head = word_bytes k ++ word_bytes struct_type in
    left_stops s a b c vs ws n h e
    (stop_as b c (head ++ member_encodings us) (member_encodings ws) e (sym (lone_parts ws us n k is h.size d))
    (stop_first s b c head (member_encodings us) e x))
