-- Lines of digits, read byte by byte.
use Rattle.std.proofs.Common.{◌≡◌, ◌≢◌, ◌≤◌, ◌<◌, ℕ, ◌+◌, ◌-◌, ◌*◌, List, [], ◌∷◌, ◌++◌, refl, sym, arith, length, drop, ◌∙◌, ap, subst, append_assoc, append-nil, length-drop}
use Rattle.std.proofs.lemmas.List.{nil_from_length}
use Rattle.std.specs.Prelude.{Bool, true, false, ◌==◌, ◌&&◌, if◌then◌else◌, Option, Some, None}
use Rattle.hex.specs.Hex.{hex_digit_value}
use Rattle.spa_text_commands.specs.Hexadecimal.{BeginLines, ReadsHexadecimal, RefusesHexadecimal, begins_letters, begins_with_offset, behind_colon, behind_digits, behind_line, behind_space, bytes_behind, bytes_in, ends_row, first_has_offset, first_line, is_between, no_line, one_line, said, said_in, with_byte}
use Rattle.spa_text_commands.specs.ReadingHexadecimal.{IsLineAt, IsNext, SaysMore}
use Rattle.spa_text_commands.specs.declared.answer.Failure.{Failure}
use Rattle.spa_text_commands.specs.declared.answer.Failure.TheVariants.{Line, OutOfMemory}
use Rattle.spa_text_commands.specs.declared.hexadecimal.Next.TheVariants.{End, Between, Byte, Other}

-- ---- The first line

behind_by : (x : ℕ) (xs : List ℕ) (b : Bool) → (x == 10) ≡ b → length (behind_line xs) ≤ length xs → length (behind_line (x ∷ xs)) ≤ length xs
behind_by x xs true e h = let l = ap (λ b. length (if b then xs else behind_line xs)) e in omega (arith, l)
behind_by x xs false e h = let l = ap (λ b. length (if b then xs else behind_line xs)) e in omega (arith, l, h)

behind_fits : (xs : List ℕ) → length (behind_line xs) ≤ length xs
behind_fits [] = omega arith
behind_fits (x ∷ xs) = let h = behind_by x xs (x == 10) refl (behind_fits xs) in omega (arith, h)

-- fewer bytes are left behind a line
pub fewer_behind : (xs : List ℕ) → xs ≢ [] → length (behind_line xs) < length xs
fewer_behind [] n = absurd (n refl)
fewer_behind (x ∷ xs) n = let h = behind_by x xs (x == 10) refl (behind_fits xs) in omega (arith, h)

-- ---- The loop over a row

pub record SaidSoFar (b : Bool) (row left old now : List ℕ) : Type 0 where
  pub done : List ℕ
  pub added : now ≡ old ++ done
  pub says : said b row ≡ (done ++ (said b left).0, (said b left).1)
  pub short : length left ≤ length row

pub nothing_said : (b : Bool) (row old : List ℕ) → SaidSoFar b row row old old
nothing_said b row old = record { done = []; added = sym (append-nil old); says = refl; short = omega arith }

pub passed_over : (b : Bool) (row left behind old now : List ℕ) (x : ℕ) → SaidSoFar b row left old now → left ≡ x ∷ behind →
    IsNext b x behind Between → SaidSoFar b row behind old now
passed_over b row left behind old now x so e n =
    let l = ap length e in
    let k = so.short in
    record {
      done = so.done;
      added = so.added;
      says = so.says ∙ ap (λ l. (so.done ++ (said b l).0, (said b l).1)) e ∙ ap (λ p. (so.done ++ p.0, p.1)) n;
      short = omega (arith, l, k);
    }

pub byte_said : (b : Bool) (row left behind rest old now new : List ℕ) (x y : ℕ) → SaidSoFar b row left old now → left ≡ x ∷ behind →
    IsNext b x behind (Byte y) → rest ≡ drop 1 behind → new ≡ now ++ y ∷ [] → SaidSoFar b row rest old new
byte_said b row left behind rest old now new x y so e n r a =
    let l = ap length e in
    let k = so.short in
    let d = ap length r ∙ length-drop 1 behind in
    record {
      done = so.done ++ y ∷ [];
      added = a ∙ ap (λ l. l ++ y ∷ []) so.added ∙ append_assoc old so.done (y ∷ []);
      says =
          so.says
          ∙ ap (λ l. (so.done ++ (said b l).0, (said b l).1)) e
          ∙ ap (λ p. (so.done ++ p.0, p.1)) n.1
          ∙ ap (λ l. (so.done ++ y ∷ (said b l).0, (said b l).1)) (sym r)
          ∙ ap (λ l. (l, (said b rest).1)) (sym (append_assoc so.done (y ∷ []) (said b rest).0));
      short = omega (arith, l, k, d);
    }

pub left_within : (b : Bool) (row left old now : List ℕ) → SaidSoFar b row left old now → length left ≤ length row
left_within b row left old now so = so.short

says_more : (b : Bool) (row left old now rest : List ℕ) (unread : ℕ) → SaidSoFar b row left old now → said b left ≡ ([], rest) →
    unread ≡ length rest → SaysMore (said b row) old now unread
says_more b row left old now rest unread so e n =
    let all : said b row ≡ (so.done, rest) = so.says ∙ ap (λ p. (so.done ++ p.0, p.1)) e ∙ ap (λ l. (l, rest)) (append-nil so.done) in
    (so.added ∙ ap (λ p. old ++ p.0) (sym all), n ∙ ap (λ p. length p.1) (sym all))

pub letters_reached : (b : Bool) (row left behind old now : List ℕ) (x : ℕ) → SaidSoFar b row left old now → left ≡ x ∷ behind →
    IsNext b x behind End → SaysMore (said b row) old now 0
letters_reached b row left behind old now x so e n = says_more b row left old now [] 0 so (ap (said b) e ∙ n) refl

pub other_reached : (b : Bool) (row left behind old now : List ℕ) (x : ℕ) → SaidSoFar b row left old now → left ≡ x ∷ behind →
    IsNext b x behind Other → SaysMore (said b row) old now (length left)
other_reached b row left behind old now x so e n = says_more b row left old now left (length left) so (ap (said b) e ∙ n ∙ ap (λ l. ([], l)) (sym e)) refl

pub end_reached : (b : Bool) (row left old now : List ℕ) → SaidSoFar b row left old now → length left ≡ 0 → SaysMore (said b row) old now 0
end_reached b row left old now so e = says_more b row left old now [] 0 so (ap (said b) (nil_from_length left e)) refl

-- ---- What stands next

abbrev rest_said : Bool → ℕ → ℕ → List ℕ → List ℕ × List ℕ
rest_said b x y ys = if is_between x then said b (y ∷ ys) else with_byte (hex_digit_value x) (hex_digit_value y) (x ∷ y ∷ ys) (said b ys)

pub letters_next : (b t : Bool) (x y : ℕ) (xs ys : List ℕ) → xs ≡ y ∷ ys → t ≡ begins_letters b x y → t ≡ true → IsNext b x xs End
letters_next b t x y xs ys e l h =
    ap (λ r. said b (x ∷ r)) e ∙ ap (λ c. if c then ([], []) else rest_said b x y ys) (sym l ∙ h)

no_letters : (b t : Bool) (x y : ℕ) (xs ys : List ℕ) → xs ≡ y ∷ ys → t ≡ begins_letters b x y → t ≡ false → said b (x ∷ xs) ≡ rest_said b x y ys
no_letters b t x y xs ys e l h =
    ap (λ r. said b (x ∷ r)) e ∙ ap (λ c. if c then ([], []) else rest_said b x y ys) (sym l ∙ h)

pub between_next : (b t u : Bool) (x y : ℕ) (xs ys : List ℕ) → xs ≡ y ∷ ys → t ≡ begins_letters b x y → t ≡ false → u ≡ is_between x → u ≡ true →
    IsNext b x xs Between
between_next b t u x y xs ys e l h i k =
    no_letters b t x y xs ys e l h
    ∙ ap (λ c. if c then said b (y ∷ ys) else with_byte (hex_digit_value x) (hex_digit_value y) (x ∷ y ∷ ys) (said b ys)) (sym i ∙ k)
    ∙ ap (said b) (sym e)

digits_next : (b t u : Bool) (x y : ℕ) (xs ys : List ℕ) → xs ≡ y ∷ ys → t ≡ begins_letters b x y → t ≡ false → u ≡ is_between x → u ≡ false →
    said b (x ∷ xs) ≡ with_byte (hex_digit_value x) (hex_digit_value y) (x ∷ y ∷ ys) (said b ys)
digits_next b t u x y xs ys e l h i k =
    no_letters b t x y xs ys e l h
    ∙ ap (λ c. if c then said b (y ∷ ys) else with_byte (hex_digit_value x) (hex_digit_value y) (x ∷ y ∷ ys) (said b ys)) (sym i ∙ k)

pub byte_next : (b t u : Bool) (x y : ℕ) (xs ys : List ℕ) (high low n : ℕ) → xs ≡ y ∷ ys → t ≡ begins_letters b x y → t ≡ false → u ≡ is_between x →
    u ≡ false → Some high ≡ hex_digit_value x → Some low ≡ hex_digit_value y → n ≡ high * 16 + low → IsNext b x xs (Byte n)
byte_next b t u x y xs ys high low n e l h i k f g is =
    let long = ap length e in (
      omega (arith, long),
      digits_next b t u x y xs ys e l h i k
          ∙ ap (λ o. with_byte o (hex_digit_value y) (x ∷ y ∷ ys) (said b ys)) (sym f)
          ∙ ap (λ o. with_byte (Some high) o (x ∷ y ∷ ys) (said b ys)) (sym g)
          ∙ ap (λ m. (m ∷ (said b ys).0, (said b ys).1)) (sym is)
          ∙ ap (λ r. (n ∷ (said b r).0, (said b r).1)) (ap (drop 1) (sym e)),
    )

none_high : (o : Option ℕ) (left : List ℕ) (more : List ℕ × List ℕ) → with_byte None o left more ≡ ([], left)
none_high None left more = refl
none_high (Some n) left more = refl

pub no_high_next : (b t u : Bool) (x y : ℕ) (xs ys : List ℕ) → xs ≡ y ∷ ys → t ≡ begins_letters b x y → t ≡ false → u ≡ is_between x → u ≡ false →
    None ≡ hex_digit_value x → IsNext b x xs Other
no_high_next b t u x y xs ys e l h i k f =
    digits_next b t u x y xs ys e l h i k
    ∙ ap (λ o. with_byte o (hex_digit_value y) (x ∷ y ∷ ys) (said b ys)) (sym f)
    ∙ none_high (hex_digit_value y) (x ∷ y ∷ ys) (said b ys)
    ∙ ap (λ r. ([], x ∷ r)) (sym e)

pub no_low_next : (b t u : Bool) (x y : ℕ) (xs ys : List ℕ) (high : ℕ) → xs ≡ y ∷ ys → t ≡ begins_letters b x y → t ≡ false → u ≡ is_between x →
    u ≡ false → Some high ≡ hex_digit_value x → None ≡ hex_digit_value y → IsNext b x xs Other
no_low_next b t u x y xs ys high e l h i k f g =
    digits_next b t u x y xs ys e l h i k
    ∙ ap (λ o. with_byte o (hex_digit_value y) (x ∷ y ∷ ys) (said b ys)) (sym f)
    ∙ ap (λ o. with_byte (Some high) o (x ∷ y ∷ ys) (said b ys)) (sym g)
    ∙ ap (λ r. ([], x ∷ r)) (sym e)

-- the last byte of a row
pub last_ends : (b t : Bool) (x : ℕ) (xs : List ℕ) → length xs ≡ 0 → t ≡ ends_row x → t ≡ true → IsNext b x xs End
last_ends b t x xs e l h = ap (λ r. said b (x ∷ r)) (nil_from_length xs e) ∙ ap (λ c. if c then ([], []) else ([], x ∷ [])) (sym l ∙ h)

pub last_other : (b t : Bool) (x : ℕ) (xs : List ℕ) → length xs ≡ 0 → t ≡ ends_row x → t ≡ false → IsNext b x xs Other
last_other b t x xs e l h =
    ap (λ r. said b (x ∷ r)) (nil_from_length xs e) ∙ ap (λ c. if c then ([], []) else ([], x ∷ [])) (sym l ∙ h) ∙ ap (λ r. ([], x ∷ r)) (sym (nil_from_length xs e))

-- ---- Where the bytes of a row begin

pub colon_found : (offsets : Bool) (row behind bytes : List ℕ) → behind ≡ behind_digits row → behind_colon behind ≡ Some bytes →
    bytes_in offsets row ≡ (true, behind_space bytes)
colon_found offsets row behind bytes e c = ap (λ d. bytes_behind offsets row (behind_colon d)) (sym e) ∙ ap (bytes_behind offsets row) c

pub no_colon : (offsets : Bool) (row behind : List ℕ) → behind ≡ behind_digits row → behind_colon behind ≡ None →
    bytes_in offsets row ≡ (false, if offsets && begins_with_offset row then behind_digits row else row)
no_colon offsets row behind e c = ap (λ d. bytes_behind offsets row (behind_colon d)) (sym e) ∙ ap (bytes_behind offsets row) c

pub row_said : (offsets b : Bool) (line text row old new : List ℕ) (n : ℕ) → text ≡ behind_space line → b ≡ (bytes_in offsets text).0 →
    row ≡ (bytes_in offsets text).1 → SaysMore (said b row) old new n → SaysMore (said_in offsets line) old new n
row_said offsets b line text row old new n e f g s =
    subst (λ p. SaysMore p old new n)
    (ap (λ c. said c row) f ∙ ap (said (bytes_in offsets text).0) g ∙ ap (λ t. said (bytes_in offsets t).0 (bytes_in offsets t).1) e) s

-- ---- Lines

-- how far the loop over lines is
pub record LinesSoFar (input left bytes : List ℕ) (lines : ℕ) : Type 0 where
  pub begin : BeginLines (first_has_offset input) input lines bytes left
  pub few : lines + length left ≤ length input

pub no_lines : (input bytes : List ℕ) → bytes ≡ [] → LinesSoFar input input bytes 0
no_lines input bytes e = record { begin = subst (λ b. BeginLines (first_has_offset input) input 0 b input) (sym e) no_line; few = omega arith }

pub lines_fit : (input left bytes : List ℕ) (lines : ℕ) → LinesSoFar input left bytes lines → lines + length left ≤ length input
lines_fit input left bytes lines so = so.few

pub line_said : (input left behind bytes new line : List ℕ) (lines unread : ℕ) (offsets : Bool) → LinesSoFar input left bytes lines → left ≢ [] →
    line ≡ first_line left → behind ≡ behind_line left → offsets ≡ first_has_offset input → SaysMore (said_in offsets line) bytes new unread →
    unread ≡ 0 → LinesSoFar input behind new (lines + 1)
line_said input left behind bytes new line lines unread offsets so n e b o s z =
    let same : said_in offsets line ≡ said_in (first_has_offset input) (first_line left) =
    ap (λ f. said_in f line) o ∙ ap (said_in (first_has_offset input)) e in
    let few = so.few in
    let l = fewer_behind left n in
    let f = ap length b in
    let done : (said_in (first_has_offset input) (first_line left)).1 ≡ [] = nil_from_length _ (sym (ap (λ p. length p.1) same) ∙ sym s.1 ∙ z) in
    record {
      begin =
          subst (λ r. BeginLines (first_has_offset input) input (lines + 1) new r) (sym b)
          (subst (λ r. BeginLines (first_has_offset input) input (lines + 1) r (behind_line left)) (sym (s.0 ∙ ap (λ p. bytes ++ p.0) same))
          (one_line lines bytes left so.begin n done));
      few = omega (arith, few, l, f);
    }

pub all_said : (input left bytes : List ℕ) (lines : ℕ) → LinesSoFar input left bytes lines → length left ≡ 0 → ReadsHexadecimal input bytes
all_said input left bytes lines so e = (lines, subst (BeginLines (first_has_offset input) input lines bytes) (nil_from_length left e) so.begin)

some_left : (xs : List ℕ) → 0 < length xs → xs ≢ []
some_left xs h = λ e. let l = ap length e in omega (arith, l, h)

pub not_said : (input left bytes new line : List ℕ) (lines unread : ℕ) (offsets : Bool) (why : Failure) → LinesSoFar input left bytes lines →
    line ≡ first_line left → offsets ≡ first_has_offset input → SaysMore (said_in offsets line) bytes new unread → 0 < unread →
    IsLineAt (lines + 1) (length line - unread + 1) why → RefusesHexadecimal input why
not_said input left bytes new line lines unread offsets OutOfMemory so e o s u w = tt
not_said input left bytes new line lines unread offsets (Line l c kind words path misfit) so e o s u w =
    let same : said_in offsets line ≡ said_in (first_has_offset input) (first_line left) =
    ap (λ f. said_in f line) o ∙ ap (said_in (first_has_offset input)) e in
    let count : unread ≡ length (said_in (first_has_offset input) (first_line left)).1 = s.1 ∙ ap (λ p. length p.1) same in
    record {
      lines = lines;
      bytes = bytes;
      left = left;
      begin = so.begin;
      refused = some_left _ (omega (arith, count, u));
      its_line = w.0;
      its_column = w.1 ∙ ap (λ t. length t - unread + 1) e ∙ ap (λ k. length (first_line left) - k + 1) count;
    }
not_said input left bytes new line lines unread offsets _ so e o s u w = absurd w
