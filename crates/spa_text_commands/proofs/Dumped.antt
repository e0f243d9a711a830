-- Bytes in hex, one behind another.
use Rattle.std.proofs.Common.{◌≡◌, ◌≤◌, ◌<◌, ℕ, suc, ◌+◌, ◌-◌, ◌/◌, ◌%◌, List, [], ◌∷◌, ◌++◌, refl, sym, arith, take, drop, length, map, slice_index, ◌∙◌, ap, length-drop, append_assoc, append-nil}
use Rattle.std.specs.Prelude.{Err, Ok, OnOk, Result, if◌then◌else◌, is_ok}
use Rattle.std.proofs.lemmas.List.{nil_from_length, take_all}
use Rattle.hex.specs.Hex.{encode_lower, encode_with, lower_digits}
use Rattle.spa_text_commands.specs.Dump.{blanks, hex_lines, letter_of, place_text, row_line, rows, spaced}
use Rattle.spa_text_commands.specs.Lines.{Adds}

two_digits : (b : ℕ) → encode_lower (b ∷ []) ≡ slice_index lower_digits (b / 16) ∷ slice_index lower_digits (b % 16) ∷ []
unfolding encode_with
two_digits b = refl

pub digits_pushed : (a b c : List ℕ) (x y n : ℕ) → b ≡ a ++ (x ∷ []) → c ≡ b ++ (y ∷ []) → x ≡ slice_index lower_digits (n / 16) →
    y ≡ slice_index lower_digits (n % 16) → c ≡ a ++ encode_lower (n ∷ [])
digits_pushed a b c x y n first second high low =
    second ∙ ap (λ z. z ++ (y ∷ [])) first ∙ append_assoc a (x ∷ []) (y ∷ []) ∙ ap (λ z. a ++ (z ∷ y ∷ [])) high
    ∙ ap (λ z. a ++ (slice_index lower_digits (n / 16) ∷ z ∷ [])) low ∙ ap (λ z. a ++ z) (sym (two_digits n))

pub spaced_pushed : (left behind mid one new all : List ℕ) (b : ℕ) → mid ++ spaced left ≡ all → left ≡ b ∷ behind → one ≡ mid ++ (32 ∷ []) →
    new ≡ one ++ encode_lower (b ∷ []) → new ++ spaced behind ≡ all
spaced_pushed left behind mid one new all b h e o n =
    let d = encode_lower (b ∷ []) in
    ap (λ z. z ++ spaced behind) (n ∙ ap (λ z. z ++ d) o ∙ append_assoc mid (32 ∷ []) d)
    ∙ append_assoc mid (32 ∷ d) (spaced behind) ∙ ap (λ z. mid ++ spaced z) (sym e) ∙ h

pub spaced_ended : (left mid all : List ℕ) → mid ++ spaced left ≡ all → length left ≡ 0 → mid ≡ all
spaced_ended left mid all h e = sym (append-nil mid) ∙ ap (λ z. mid ++ spaced z) (sym (nil_from_length left e)) ∙ h

pub letters_pushed : (left behind mid new all : List ℕ) (b x : ℕ) → mid ++ map letter_of left ≡ all → left ≡ b ∷ behind → x ≡ letter_of b →
    new ≡ mid ++ (x ∷ []) → new ++ map letter_of behind ≡ all
letters_pushed left behind mid new all b x h e l n =
    ap (λ z. z ++ map letter_of behind) (n ∙ ap (λ z. mid ++ (z ∷ [])) l) ∙ append_assoc mid (letter_of b ∷ []) (map letter_of behind)
    ∙ ap (λ z. mid ++ map letter_of z) (sym e) ∙ h

pub letters_ended : (left mid all : List ℕ) → mid ++ map letter_of left ≡ all → length left ≡ 0 → mid ≡ all
letters_ended left mid all h e = sym (append-nil mid) ∙ ap (λ z. mid ++ map letter_of z) (sym (nil_from_length left e)) ∙ h

blanks_by : (n left : ℕ) → left ≡ suc n → blanks left ≡ 32 ∷ 32 ∷ 32 ∷ blanks n
blanks_by n left e = ap blanks e

pub blanks_pushed : (left next : ℕ) (mid new all : List ℕ) → mid ++ blanks left ≡ all → left ≡ next + 1 → new ≡ mid ++ (32 ∷ 32 ∷ 32 ∷ []) →
    new ++ blanks next ≡ all
blanks_pushed left next mid new all h e n =
    ap (λ z. z ++ blanks next) n ∙ append_assoc mid (32 ∷ 32 ∷ 32 ∷ []) (blanks next)
    ∙ ap (λ z. mid ++ z) (sym (blanks_by next left (let s : left ≡ suc next = omega (arith, e) in s))) ∙ h

pub blanks_ended : {T E : Type 0} (r : Result T E) (left : ℕ) (mid new all : List ℕ) → mid ++ blanks left ≡ all → left ≡ 0 →
    new ≡ (if is_ok r then mid ++ (32 ∷ 32 ∷ []) else mid) → OnOk r (new ≡ all)
blanks_ended (Ok x) left mid new all h e n = n ∙ ap (λ z. mid ++ blanks z) (sym e) ∙ h
blanks_ended (Err x) left mid new all h e n = tt

pub row_pushed : (a b c d e f g : List ℕ) (place short : ℕ) (row : List ℕ) → b ≡ a ++ place_text place → c ≡ b ++ (58 ∷ []) → d ≡ c ++ spaced row →
    short ≡ 16 - length row → e ≡ d ++ blanks short → f ≡ e ++ map letter_of row → g ≡ f ++ (10 ∷ []) → g ≡ a ++ row_line place row
row_pushed a b c d e f g place short row p q r m s t u =
    let letters = map letter_of row in
    let gap = blanks (16 - length row) in
    let rest = gap ++ (letters ++ (10 ∷ [])) in
    u ∙ ap (λ z. z ++ (10 ∷ [])) t ∙ append_assoc e letters (10 ∷ [])
    ∙ ap (λ z. z ++ (letters ++ (10 ∷ []))) (s ∙ ap (λ z. d ++ blanks z) m) ∙ append_assoc d gap (letters ++ (10 ∷ []))
    ∙ ap (λ z. z ++ rest) r ∙ append_assoc c (spaced row) rest
    ∙ ap (λ z. z ++ (spaced row ++ rest)) q ∙ append_assoc b (58 ∷ []) (spaced row ++ rest)
    ∙ ap (λ z. z ++ (58 ∷ (spaced row ++ rest))) p ∙ append_assoc a (place_text place) (58 ∷ (spaced row ++ rest))

-- the last byte of a line ends it
line_ends : (place : ℕ) (row : List ℕ) → (before : List ℕ) × (row_line place row ≡ before ++ (10 ∷ []))
line_ends place row =
    let letters = map letter_of row in
    let gap = blanks (16 - length row) in (
      place_text place ++ (58 ∷ (spaced row ++ (gap ++ letters))),
      ap (λ z. place_text place ++ (58 ∷ (spaced row ++ z))) (sym (append_assoc gap letters (10 ∷ [])))
          ∙ ap (λ z. place_text place ++ (58 ∷ z)) (sym (append_assoc (spaced row) (gap ++ letters) (10 ∷ [])))
          ∙ sym (append_assoc (place_text place) (58 ∷ (spaced row ++ (gap ++ letters))) (10 ∷ [])),
    )

pub row_added : (a b c l : List ℕ) (place : ℕ) (row : List ℕ) → b ≡ a ++ l → c ≡ b ++ row_line place row → Adds a c
row_added a b c l place row p q =
    let begun = line_ends place row in
    record {
      said = l ++ row_line place row;
      added = q ∙ ap (λ z. z ++ row_line place row) p ∙ append_assoc a l (row_line place row);
      lines = (l ++ begun.0, ap (λ z. l ++ z) begun.1 ∙ sym (append_assoc l begun.0 (10 ∷ [])));
    }

rows_of : (n m place : ℕ) (bytes : List ℕ) → n ≡ suc m → rows n place bytes ≡ row_line place (take 16 bytes) ++ rows m (place + 16) (drop 16 bytes)
rows_of n m place bytes e = ap (λ z. rows z place bytes) e

-- a whole line more
pub line_pushed : (left row behind mid new all : List ℕ) (at next : ℕ) → mid ++ hex_lines at left ≡ all → new ≡ mid ++ row_line at row →
    16 < length left → row ≡ take 16 left → behind ≡ drop 16 left → next ≡ at + 16 → new ++ hex_lines next behind ≡ all
line_pushed left row behind mid new all at next h n long r b x =
    let d = length-drop 16 left in
    let m = (length (drop 16 left) + 15) / 16 in
    let count : (length left + 15) / 16 ≡ suc m = omega (arith, d, long) in
    ap (λ z. new ++ hex_lines z behind) x ∙ ap (λ z. new ++ hex_lines (at + 16) z) b ∙ ap (λ z. z ++ hex_lines (at + 16) (drop 16 left)) (n ∙ ap (λ z. mid ++ row_line at z) r)
    ∙ append_assoc mid (row_line at (take 16 left)) (hex_lines (at + 16) (drop 16 left))
    ∙ ap (λ z. mid ++ z) (sym (rows_of ((length left + 15) / 16) m at left count)) ∙ h

-- the last one
pub last_pushed : (left mid new all : List ℕ) (at : ℕ) → mid ++ hex_lines at left ≡ all → length left ≤ 16 → 0 < length left →
    new ≡ mid ++ row_line at left → new ≡ all
last_pushed left mid new all at h short some n =
    let count : (length left + 15) / 16 ≡ suc 0 = omega (arith, short, some) in
    n ∙ ap (λ z. mid ++ row_line at z) (sym (take_all 16 left short)) ∙ ap (λ z. mid ++ z) (sym (append-nil (row_line at (take 16 left))))
    ∙ ap (λ z. mid ++ z) (sym (rows_of ((length left + 15) / 16) 0 at left count)) ∙ h

pub none_pushed : (left mid all : List ℕ) (at : ℕ) → mid ++ hex_lines at left ≡ all → length left ≡ 0 → mid ≡ all
none_pushed left mid all at h e = sym (append-nil mid) ∙ ap (λ z. mid ++ hex_lines at z) (sym (nil_from_length left e)) ∙ h
