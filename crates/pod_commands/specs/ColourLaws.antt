-- Texts in colours are made line by line.
use Rattle.std.proofs.Common.{◌≡◌, ◌≢◌, ◌≤◌, ◌+◌, ◌-◌, ◌/◌, ◌∙◌, ◌∷◌, ◌++◌, [], ap, append_assoc, append-nil, arith, drop, inl, inr, length, map, refl, suc, subst, sym, take, true≢false, zero, Bool, List, ℕ, None, Some}
use Rattle.std.specs.Char.{is_ascii_uppercase}
use Rattle.std.specs.Prelude.{◌&&◌, ⊤, false, true, not, if◌then◌else◌, nat_eq}
use Rattle.std.proofs.lemmas.Bool.Decides.{nat_tests}
use Rattle.pod_commands.specs.Colours.{IsColoured, backslash, colour_of, further, goes_on, is_key, is_number, line_feed, nothing, piece_in, piece_len, quote, quoted_len, word_len}
use Rattle.spa_format.specs.Tree.{Tree, Trees, no_trees, member}
use Rattle.spa_text_commands.specs.Dump.{blanks, hex_lines, letter_of, place_text, row_line, rows, spaced}
use Rattle.spa_text_commands.specs.Lines.{ArePodLines, PrintsPart, PrintsParts, head_line, is_pods}
use Rattle.spa_text_commands.specs.Selection.{Part}
use Rattle.spa_text_commands.specs.Paths.{numbered}
use Rattle.spa_text_commands.specs.Texts.{AreTexts, IsTextAt}
use Rattle.spa_text_commands.specs.declared.selection.Form.{Form}
use Rattle.spa_text_commands.specs.declared.selection.Form.TheVariants as form
use Rattle.pod_commands.specs.declared.colours.Colour.TheVariants.{Name, Quoted, Number}

-- the last byte, where there is one, ends a line
abbrev pub EndsLine : List ℕ → Type 0
EndsLine [] = ⊤
EndsLine (x ∷ []) = x ≡ line_feed
EndsLine (x ∷ y ∷ xs) = EndsLine (y ∷ xs)

pub ends_behind : (xs ys : List ℕ) → EndsLine (xs ++ ys) → EndsLine ys
ends_behind [] ys h = h
ends_behind (x ∷ []) [] h = tt
ends_behind (x ∷ []) (y ∷ ys) h = h
ends_behind (x ∷ z ∷ xs) ys h = ends_behind (z ∷ xs) ys h

-- ---- A piece is as long whatever follows the line

word_joined : (first x : ℕ) (xs more : List ℕ) → EndsLine (x ∷ xs) → word_len first ((x ∷ xs) ++ more) ≡ word_len first (x ∷ xs)
word_joined first x [] more h =
    subst (λ z. word_len first (z ∷ more) ≡ word_len first (z ∷ [])) (sym h) refl
word_joined first x (y ∷ xs) more h =
    ap (λ n. if goes_on first x then suc n else 0) (word_joined first y xs more h)

quoted_joined : (is_escaped : Bool) (x : ℕ) (xs more : List ℕ) → EndsLine (x ∷ xs) →
    quoted_len is_escaped ((x ∷ xs) ++ more) ≡ quoted_len is_escaped (x ∷ xs)
quoted_joined is_escaped x [] more h =
    subst (λ z. quoted_len is_escaped (z ∷ more) ≡ quoted_len is_escaped (z ∷ [])) (sym h) refl
quoted_joined is_escaped x (y ∷ xs) more h =
    ap (λ n. if nat_eq x line_feed then 0 else (if nat_eq x quote && not is_escaped then 1 else suc n))
    (quoted_joined (nat_eq x backslash && not is_escaped) y xs more h)

piece_joined : (xs more : List ℕ) → xs ≢ [] → EndsLine xs → piece_len (xs ++ more) ≡ piece_len xs
piece_joined [] more n h = absurd (n refl)
piece_joined (x ∷ []) more n h = subst (λ z. piece_len (z ∷ more) ≡ piece_len (z ∷ [])) (sym h) refl
piece_joined (x ∷ y ∷ xs) more n h =
    ap (λ q. suc (if nat_eq x quote then q else (if goes_on x x then word_len x ((y ∷ xs) ++ more) else 0))) (quoted_joined false y xs more h)
    ∙ ap (λ w. suc (if nat_eq x quote then quoted_len false (y ∷ xs) else (if goes_on x x then w else 0))) (word_joined x y xs more h)

-- ---- And of the same colour

-- a text in quotes ends before its line does
quoted_within : (is_escaped : Bool) (x : ℕ) (xs : List ℕ) → EndsLine (x ∷ xs) → quoted_len is_escaped (x ∷ xs) ≤ length xs
quoted_within is_escaped x [] h = subst (λ z. quoted_len is_escaped (z ∷ []) ≤ 0) (sym h) (omega arith)
quoted_within is_escaped x (y ∷ xs) h =
    by (nat_eq x line_feed) (nat_eq x quote && not is_escaped) _ (length xs) (quoted_within (nat_eq x backslash && not is_escaped) y xs h)
  where
    by : (a b : Bool) (n l : ℕ) → n ≤ l → (if a then 0 else (if b then 1 else suc n)) ≤ suc l
    by true b n l h = omega arith
    by false true n l h = omega arith
    by false false n l h = omega (arith, h)

-- so it isn't all that is left of it
never_last : (x : ℕ) (xs : List ℕ) → nat_eq x quote ≡ true → length (x ∷ xs) ≡ piece_len (x ∷ xs) → ¬ (EndsLine (x ∷ xs))
never_last x [] e l h = grind (arith, nat_tests)
never_last x (y ∷ xs) e l h =
    let q = ap (λ b. suc (if b then quoted_len false (y ∷ xs) else (if goes_on x x then word_len x (y ∷ xs) else 0))) e in
    let w = quoted_within false y xs h in
    omega (arith, l, q, w)

unquoted : (x : ℕ) (xs more : List ℕ) → nat_eq x quote ≡ false → colour_of (x ∷ xs) more ≡ colour_of (x ∷ xs) []
unquoted x xs more e =
    let other = if is_ascii_uppercase x then Some Name else (if is_number x (x ∷ xs) then Some Number else None) in
    ap (λ b. if b then Some (if is_key more then Name else Quoted) else other) e
    ∙ sym (ap (λ b. if b then Some Quoted else other) e)

colour_joined : (piece behind more : List ℕ) → length piece ≡ piece_len (piece ++ behind) → EndsLine (piece ++ behind) →
    colour_of piece (behind ++ more) ≡ colour_of piece behind
colour_joined [] behind more l h = refl
colour_joined (x ∷ xs) (b ∷ behind) more l h = refl
colour_joined (x ∷ xs) [] more l h =
    by (nat_eq x quote) refl (l ∙ ap piece_len (append-nil (x ∷ xs))) (subst EndsLine (append-nil (x ∷ xs)) h)
  where
    by : (b : Bool) → nat_eq x quote ≡ b → length (x ∷ xs) ≡ piece_len (x ∷ xs) → EndsLine (x ∷ xs) →
        colour_of (x ∷ xs) more ≡ colour_of (x ∷ xs) []
    by true e l h = absurd (never_last x xs e l h)
    by false e l h = unquoted x xs more e

-- ---- Texts in colours, one behind another

some_joined : (xs ys : List ℕ) → xs ≢ [] → xs ++ ys ≢ []
some_joined [] ys n e = n refl
some_joined (x ∷ xs) ys n e = let l = ap length e in omega (arith, l)

pub joined : (text out others more : List ℕ) → EndsLine text → IsColoured text out → IsColoured others more →
    IsColoured (text ++ others) (out ++ more)
joined text out others more ends nothing k = k
joined text out others more ends (further piece behind made some long h) k =
    let p = piece_in (colour_of piece behind) piece in
    let its : length piece ≡ piece_len (piece ++ (behind ++ others)) =
    long ∙ sym (piece_joined (piece ++ behind) others (some_joined piece behind some) ends)
    ∙ ap piece_len (append_assoc piece behind others) in
    subst (λ z. IsColoured z ((p ++ made) ++ more)) (sym (append_assoc piece behind others))
    (subst (IsColoured (piece ++ (behind ++ others))) (sym (append_assoc p made more))
    (subst (λ c. IsColoured (piece ++ (behind ++ others)) (piece_in c piece ++ (made ++ more)))
    (colour_joined piece behind others long ends)
    (further piece (behind ++ others) (made ++ more) some its
    (joined behind made others more (ends_behind piece behind ends) h k))))

-- ---- Texts that end with their last line

pub ends_after : (xs : List ℕ) (y : ℕ) (ys : List ℕ) → EndsLine (y ∷ ys) → EndsLine (xs ++ (y ∷ ys))
ends_after [] y ys h = h
ends_after (x ∷ []) y ys h = h
ends_after (x ∷ z ∷ xs) y ys h = ends_after (z ∷ xs) y ys h

pub ends_line : (xs ys : List ℕ) → EndsLine ys → EndsLine (xs ++ (line_feed ∷ ys))
ends_line xs [] h = ends_after xs line_feed [] refl
ends_line xs (y ∷ ys) h = ends_after xs line_feed (y ∷ ys) h

pub ends_both : (xs ys : List ℕ) → EndsLine xs → EndsLine ys → EndsLine (xs ++ ys)
ends_both xs [] h k = subst EndsLine (sym (append-nil xs)) h
ends_both xs (y ∷ ys) h k = ends_after xs y ys k

-- texts of pods, and what is shown of them
pub texts_end : (IsText : Tree → List ℕ → Type 0) (vs : Trees) (out : List ℕ) → AreTexts IsText vs out → EndsLine out
texts_end IsText no_trees out h = subst EndsLine (sym h) tt
texts_end IsText (member v vs) out h = subst EndsLine (sym h.2) (ends_line h.0 h.1 (texts_end IsText vs h.1 h.4))

pod_lines_end : (part : Part) (out : List ℕ) → ArePodLines part out → EndsLine out
pod_lines_end part out h =
    let head = head_line part.count part.place part.path in
    let lines = h.1 in
    subst EndsLine (sym (h.2 ∙ ap (λ z. head ++ z) lines.1 ∙ sym (append_assoc head lines.0 (line_feed ∷ []))))
    (ends_line (head ++ lines.0) [] tt)

row_ends : (place : ℕ) (row : List ℕ) → EndsLine (row_line place row)
row_ends place row =
    let gap = blanks (16 - length row) in
    let letters = map letter_of row in
    let whole : (spaced row ++ (gap ++ letters)) ++ (line_feed ∷ []) ≡ spaced row ++ (gap ++ (letters ++ (line_feed ∷ []))) =
    append_assoc (spaced row) (gap ++ letters) (line_feed ∷ []) ∙ ap (λ z. spaced row ++ z) (append_assoc gap letters (line_feed ∷ [])) in
    ends_after (place_text place) 58 (spaced row ++ (gap ++ (letters ++ (line_feed ∷ []))))
    (subst (λ z. EndsLine (58 ∷ z)) whole (ends_line (58 ∷ (spaced row ++ (gap ++ letters))) [] tt))

rows_end : (n place : ℕ) (bytes : List ℕ) → EndsLine (rows n place bytes)
rows_end zero place bytes = tt
rows_end (suc n) place bytes =
    ends_both (row_line place (take 16 bytes)) (rows n (place + 16) (drop 16 bytes)) (row_ends place (take 16 bytes)) (rows_end n (place + 16) (drop 16 bytes))

line_ends : (line out : List ℕ) → out ≡ line ++ (line_feed ∷ []) → EndsLine out
line_ends line out h = subst EndsLine (sym h) (ends_line line [] tt)

part_ends : (f : Form) (part : Part) (out : List ℕ) (refused : ℕ) → is_pods f ≡ false → PrintsPart f part out refused → EndsLine out
part_ends form.Lines part out refused e h = pod_lines_end part out h
part_ends form.LinesAndBytes part out refused e h =
    subst EndsLine (sym h.2)
    (ends_both h.0 (hex_lines part.place part.pod) (pod_lines_end part h.0 h.1) (rows_end ((length part.pod + 15) / 16) part.place part.pod))
part_ends (form.Text layout) part out refused e (inl h) = let p = h.1 in texts_end (IsTextAt layout (numbered part.count part.path)) p.0 out p.2
part_ends (form.Text layout) part out refused e (inr h) = subst EndsLine (sym h.1) tt
part_ends form.Bytes part out refused e h = line_ends _ out h
part_ends form.Pods part out refused e h = absurd (true≢false e)

-- what is printed ends with its last line, unless it is pods
pub parts_end : (f : Form) (parts : List Part) (out : List ℕ) (refused : ℕ) → is_pods f ≡ false → PrintsParts f parts out refused → EndsLine out
parts_end f [] out refused e h = subst EndsLine (sym h.0) tt
parts_end f (part ∷ parts) out refused e h =
    subst EndsLine (sym h.4) (ends_both h.0 h.1 (part_ends f part h.0 h.2 e h.7) (parts_end f parts h.1 h.3 e h.8))
