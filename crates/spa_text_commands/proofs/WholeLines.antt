-- A line that is read is a text: no bracket is open behind it.
use Rattle.std.proofs.Common.{◌≡◌, ◌≢◌, ℕ, ◌+◌, ◌-◌, Bool, true, false, List, [], ◌∷◌, ◌++◌, refl, sym, ap, ◌∙◌, subst, inl, inr, cond, arith, drop, take}
use Rattle.std.proofs.lemmas.Bool.{true≢false, and_parts, eqb-true, or_cases, ne_eqb}
use Rattle.std.proofs.lemmas.List.{take-append-drop}
use Rattle.std.proofs.lemmas.Slice.Eq.{bytes_eq-Decides}
use Rattle.std.proofs.lemmas.Option.{same_Some, none-some}
use Rattle.std.specs.Char.{is_ascii_digit}
use Rattle.std.specs.Prelude.{⊤, ◌⊎◌, length, nat_eq, Option, Some, None, option_and_then, zero, suc, ◌==◌, ◌&&◌, ◌||◌, if◌then◌else◌}
use Rattle.std.specs.List.{prefix_len, starts_with}
use Rattle.json.specs.Token.{Token}
use Rattle.json.specs.Json as json
use Rattle.json.specs.Json.{Json, Items, Members, Parse, after_end_array, read_key, document, if_last, items_step, max_depth, members_step, parse_map, value_with}
use Rattle.json.specs.Lex as lexing
use Rattle.json.specs.Lex.{Lexeme, token, comma, colon, Class, Mode, between, in_word, in_string, in_escape, Place as At, fresh, after_value, after_comma, after_key, begins_colon, class, if_allowed, lex, lex_byte, may_begin, may_close, operator_lexeme, place_token, punctuate, string_token, tokens}
use Rattle.json.specs.Text.{content, plain}
use Rattle.json.specs.Word.{after_digits, after_exponent, after_fraction, after_minus, after_number, after_sign, after_whole, ends_word, head, is_operator, is_space, literal, number_before, word}
use Rattle.spa_format.specs.Tree.{Tree}
use Rattle.spa_text.specs.Line.{HasNoEnd}
use Rattle.spa_text_forms.specs.Forms.{IsTextAs, IsTextInOrder}
use Rattle.spa_text_forms.specs.declared.form.Form.{Form}
use Rattle.spa_text_forms.specs.declared.form.Form.TheVariants.{Named, Dump}
use Rattle.spa_text_read.specs.Options.{and_then}
use Rattle.spa_text_read.proofs.Soundness.{mapped}
use Rattle.spa_text_commands.specs.Extent.{BeginsText, Place, outside, within, escaped, behind_text, first_text, open_behind, place_behind}
use Rattle.spa_text_commands.specs.Texts.{is_blank}
use Rattle.spa_text_commands.specs.Hexadecimal.{behind_line, first_line}
use Rattle.spa_text_commands.proofs.Closing.{Closes, Ends, tokens_closed, Keeps, closed_array, last_key, one_key}

-- ---- JSON

then_bound : {A B : Type 0} (o : Option A) (f : A → Option B) (y : B) → option_and_then f o ≡ Some y → (x : A) × (o ≡ Some x) × (f x ≡ Some y)
then_bound None f y e = absurd (none-some y e)
then_bound (Some x) f y e = (x, refl, e)

-- what a parser reads leaves as many brackets open, or one fewer
abbrev KeepsAll : {A : Type 0} → Parse A → Type 0
KeepsAll {A} f = (x : A) (ts us : List Token) → f ts ≡ Some (x, us) → Keeps ts us

abbrev ClosesAll : {A : Type 0} → Parse A → Type 0
ClosesAll {A} f = (x : A) (ts us : List Token) → f ts ≡ Some (x, us) → Closes ts us

item_closed : (f : Parse Json) (g : Parse Items) (x : Items) (ts us : List Token) (o : Option (List Token)) → KeepsAll f → ClosesAll g →
    after_end_array ts ≡ o → items_step f g ts o ≡ Some (x, us) → Closes ts us
item_closed f g x ts us (Some rest) k c d e = subst (Closes ts) (ap (λ p. p.1) (same_Some (json.no_items, rest) (x, us) e)) (closed_array ts rest d)
item_closed f g x ts us None k c d e =
    let a = then_bound (f ts) _ (x, us) e in
    let b = mapped (g a.0.1) _ (x, us) a.2 in
    subst (Closes ts) (ap (λ p. p.1) b.2) (λ n h. k a.0.0 ts a.0.1 a.1 (n + 1) (c b.0.0 a.0.1 b.0.1 b.1 n h))

items_closed : (f : Parse Json) (n : ℕ) → KeepsAll f → ClosesAll (json.items f n)
unfolding json.items
items_closed f zero k = λ x ts us e. absurd (none-some (x, us) e)
items_closed f (suc n) k = λ x ts us e. item_closed f (json.items f n) x ts us (after_end_array ts) k (items_closed f n k) refl e

member_closed : (f : Parse Json) (g : Parse Members) (x : Members) (o : Option (List ℕ)) (ts vs us : List Token) → KeepsAll f → ClosesAll g →
    read_key ts ≡ Some (o, vs) → members_step f g o vs ≡ Some (x, us) → Closes ts us
member_closed f g x None ts vs us k c d e = subst (Closes ts) (ap (λ p. p.1) (same_Some (json.no_members, vs) (x, us) e)) (last_key ts vs d)
member_closed f g x (Some s) ts vs us k c d e =
    let a = then_bound (f vs) _ (x, us) e in
    let b = mapped (g a.0.1) _ (x, us) a.2 in
    subst (Closes ts) (ap (λ p. p.1) b.2)
    (λ n h. one_key s ts vs d (n + 1) (k a.0.0 vs a.0.1 a.1 (n + 1) (c b.0.0 a.0.1 b.0.1 b.1 n h)))

members_closed : (f : Parse Json) (n : ℕ) → KeepsAll f → ClosesAll (json.members f n)
unfolding json.members
members_closed f zero k = λ x ts us e. absurd (none-some (x, us) e)
members_closed f (suc n) k = λ x ts us e.
    let a = then_bound (read_key ts) _ (x, us) e in
    member_closed f (json.members f n) x a.0.0 ts a.0.1 us k (members_closed f n k) a.1 a.2

ended : {A : Type 0} (g : A → Json) (r : Option (A × List Token)) (j : Json) (ts us : List Token) →
    ((x : A) (vs : List Token) → r ≡ Some (x, vs) → Keeps ts vs) → parse_map g r ≡ Some (j, us) → Keeps ts us
ended g r j ts us k e = let a = mapped r _ (j, us) e in subst (Keeps ts) (ap (λ p. p.1) a.2) (k a.0.0 a.0.1 a.1)

one : (i j : Json) (ts us : List Token) → and_then ts (Some i) ≡ Some (j, us) → Keeps ts us
one i j ts us e = λ n h. subst (Ends n) (sym (ap (λ p. p.1) (same_Some (i, ts) (j, us) e))) h

value_with_kept : (a : Parse Items) (o : Parse Members) → ClosesAll a → ClosesAll o → KeepsAll (value_with a o)
value_with_kept a o ca co j (Token.begin_object ∷ ts) us e = ended json.object (o ts) j (Token.begin_object ∷ ts) us (λ x vs r n h. co x ts vs r n h) e
value_with_kept a o ca co j (Token.begin_array ∷ ts) us e = ended json.array (a ts) j (Token.begin_array ∷ ts) us (λ x vs r n h. ca x ts vs r n h) e
value_with_kept a o ca co j (Token.string s ∷ ts) us e = one (json.string s) j ts us e
value_with_kept a o ca co j (Token.number s ∷ ts) us e = one (json.number s) j ts us e
value_with_kept a o ca co j (Token.boolean b ∷ ts) us e = one (json.boolean b) j ts us e
value_with_kept a o ca co j (Token.null ∷ ts) us e = one json.null j ts us e
value_with_kept a o ca co j _ us e = absurd (none-some (j, us) e)

value_kept : (depth : ℕ) → KeepsAll (json.value depth)
unfolding json.value
value_kept zero = value_with_kept _ _ (λ x ts us e. absurd (none-some (x, us) e)) (λ x ts us e. absurd (none-some (x, us) e))
value_kept (suc depth) =
    value_with_kept _ _ (λ x ts us e. items_closed (json.value depth) _ (value_kept depth) x ts us e)
    (λ x ts us e. members_closed (json.value depth) _ (value_kept depth) x ts us e)

nothing_left : (i j : Json) (us : List Token) → if_last i us ≡ Some j → us ≡ []
nothing_left i j [] e = refl
nothing_left i j (t ∷ ts) e = absurd (none-some j e)

-- a document leaves none open
document_closed : (j : Json) (text : List ℕ) → document text ≡ Some j → Ends 0 (tokens text)
document_closed j text e =
    let a = then_bound (json.value max_depth (tokens text)) _ j e in
    let none = nothing_left a.0.0 j a.0.1 a.2 in
    value_kept max_depth a.0.0 (tokens text) a.0.1 a.1 0 (subst (Ends 0) (sym none) refl)

-- ---- Lexemes

-- the tokens among lexemes
abbrev tokens_among : List Lexeme → List Token
tokens_among [] = []
tokens_among (token t ∷ ls) = t ∷ tokens_among ls
tokens_among (comma ∷ ls) = tokens_among ls
tokens_among (colon ∷ ls) = tokens_among ls

-- no token is bad, and behind these lexemes no bracket is open, of so many before them
abbrev Leaves : ℕ → List Lexeme → Type 0
Leaves n ls = Ends n (tokens_among ls)

allowed : (b : Bool) (t : Token) (k : At → List Token) (q : At) (n : ℕ) → Ends n (if_allowed b t k q) → Ends n (t ∷ k q)
allowed true t k q n h = h
allowed false t k q n h = absurd h

token_placed : (p : At) (t : Token) (c : Bool) (k : At → List Token) (n : ℕ) (ls : List Lexeme) → ((q : At) (m : ℕ) → Ends m (k q) → Leaves m ls) →
    Ends n (place_token p t c k) → Leaves n (token t ∷ ls)
token_placed p Token.begin_object c k n ls ih h = ih fresh (n + 1) (allowed (may_begin p) Token.begin_object k fresh n h)
token_placed p Token.end_object c k n ls ih h = ih after_value (n - 1) (allowed (may_close p) Token.end_object k after_value n h)
token_placed p Token.begin_array c k n ls ih h = ih fresh (n + 1) (allowed (may_begin p) Token.begin_array k fresh n h)
token_placed p Token.end_array c k n ls ih h = ih after_value (n - 1) (allowed (may_close p) Token.end_array k after_value n h)
token_placed p (Token.key s) c k n ls ih h = absurd h
token_placed p (Token.string s) true k n ls ih h = ih after_key n (allowed (may_begin p) (Token.key s) k after_key n h)
token_placed p (Token.string s) false k n ls ih h = ih after_value n (allowed (may_begin p) (Token.string s) k after_value n h)
token_placed p (Token.number s) c k n ls ih h = ih after_value n (allowed (may_begin p) (Token.number s) k after_value n h)
token_placed p (Token.boolean b) c k n ls ih h = ih after_value n (allowed (may_begin p) (Token.boolean b) k after_value n h)
token_placed p Token.null c k n ls ih h = ih after_value n (allowed (may_begin p) Token.null k after_value n h)
token_placed p Token.bad c k n ls ih h = absurd h

placed : (p : At) (ls : List Lexeme) (n : ℕ) → Ends n (punctuate p ls) → Leaves n ls
unfolding punctuate
placed fresh [] n h = h
placed after_value [] n h = h
placed p (token t ∷ ls) n h = token_placed p t (begins_colon ls) (λ q. punctuate q ls) n ls (λ q m z. placed q ls m z) h
placed after_value (comma ∷ ls) n h = placed after_comma ls n h
placed after_key (colon ∷ ls) n h = placed fresh ls n h
placed _ _ n h = absurd h

-- ---- Bytes

-- behind these bytes no bracket is open, of so many before them
abbrev Closed : Place → ℕ → List ℕ → Type 0
Closed p n [] = n ≡ 0
Closed p n (x ∷ xs) = Closed (place_behind p x) (open_behind p x n) xs

abbrev at : Mode → Place
at between = outside
at in_word = outside
at in_string = within
at in_escape = escaped

-- the classes of bytes, by their tests
abbrev class_by : Bool → Bool → Bool → Bool → Class
class_by q b o s = cond q lexing.quote (cond b lexing.backslash (cond o lexing.operator (cond s lexing.space lexing.other)))

-- which of them a byte of this class passes, and which it doesn't
abbrev Passes : (q b o s : Bool) → Class → Type 0
Passes q b o s lexing.quote = q ≡ true
Passes q b o s lexing.backslash = b ≡ true
Passes q b o s lexing.operator = o ≡ true
Passes q b o s lexing.space = (q ≡ false) × (o ≡ false)
Passes q b o s lexing.other = (q ≡ false) × (o ≡ false) × (s ≡ false)

by_tests : (q b o s : Bool) → Passes q b o s (class_by q b o s)
by_tests true b o s = refl
by_tests false true o s = refl
by_tests false false true s = refl
by_tests false false false true = (refl, refl)
by_tests false false false false = (refl, refl, refl)

classed : (x : ℕ) (c : Class) → class x ≡ c → Passes (x == 34) (x == 92) (is_operator x) (is_space x) c
classed x c e = subst (Passes (x == 34) (x == 92) (is_operator x) (is_space x)) e (by_tests (x == 34) (x == 92) (is_operator x) (is_space x))

is_quote : (x : ℕ) → class x ≡ lexing.quote → x ≡ 34
is_quote x e = eqb-true x 34 (classed x lexing.quote e)

is_backslash : (x : ℕ) → class x ≡ lexing.backslash → x ≡ 92
is_backslash x e = eqb-true x 92 (classed x lexing.backslash e)

-- ---- Words

-- no quote and no backslash stands in the rest of a word
abbrev bare_byte : Class → Bool → Bool
bare_byte lexing.quote rest = false
bare_byte lexing.backslash rest = false
bare_byte lexing.operator rest = true
bare_byte lexing.space rest = true
bare_byte lexing.other rest = rest

abbrev bare : List ℕ → Bool
bare [] = true
bare (x ∷ xs) = bare_byte (class x) (bare xs)

bare_by : (q b o s rest : Bool) → ¬ (q ≡ true) → ¬ (b ≡ true) → ((o || s) ≡ false → rest ≡ true) → bare_byte (class_by q b o s) rest ≡ true
bare_by true b o s rest p r h = absurd (p refl)
bare_by false true o s rest p r h = absurd (r refl)
bare_by false false true s rest p r h = refl
bare_by false false false true rest p r h = refl
bare_by false false false false rest p r h = h refl

-- a byte that passes a test which neither passes
bare_first : (test : ℕ → Bool) (x : ℕ) (xs : List ℕ) → test x ≡ true → test 34 ≡ false → test 92 ≡ false →
    ((is_operator x || is_space x) ≡ false → bare xs ≡ true) → bare (x ∷ xs) ≡ true
bare_first test x xs t q b h =
    bare_by (x == 34) (x == 92) (is_operator x) (is_space x) (bare xs) (λ z. true≢false (sym t ∙ ap test (eqb-true x 34 z) ∙ q))
    (λ z. true≢false (sym t ∙ ap test (eqb-true x 92 z) ∙ b)) h

bare_end : (t : List ℕ) → ends_word t ≡ true → bare t ≡ true
bare_end [] h = refl
bare_end (x ∷ xs) h = bare_first (λ y. is_operator y || is_space y) x xs h refl refl (λ z. absurd (true≢false (sym h ∙ z)))

bare_one : (c : ℕ) (t : List ℕ) → ((rest : Bool) → bare_byte (class c) rest ≡ rest) → (head t == c) ≡ true → bare (drop 1 t) ≡ true → bare t ≡ true
bare_one c [] is e h = refl
bare_one c (x ∷ xs) is e h = ap (λ y. bare_byte (class y) (bare xs)) (eqb-true x c e) ∙ is (bare xs) ∙ h

digits_at : (b : Bool) (x : ℕ) (xs : List ℕ) (n : ℕ) → is_ascii_digit x ≡ b → (bare (drop n xs) ≡ true → bare xs ≡ true) →
    bare (drop (cond b (1 + n) 0) (x ∷ xs)) ≡ true → bare (x ∷ xs) ≡ true
digits_at false x xs n e ih h = h
digits_at true x xs n e ih h =
    let s : 1 + n ≡ suc n = omega arith in
    bare_first is_ascii_digit x xs e refl refl (λ z. ih (subst (λ k. bare (drop k (x ∷ xs)) ≡ true) s h))

bare_digits : (t : List ℕ) → bare (drop (prefix_len is_ascii_digit t) t) ≡ true → bare t ≡ true
bare_digits [] h = h
bare_digits (x ∷ xs) h = digits_at (is_ascii_digit x) x xs (prefix_len is_ascii_digit xs) refl (bare_digits xs) h

-- what follows a part is bare, where there is such a part
abbrev Then : Option (List ℕ) → Type 0
Then None = ⊥
Then (Some rest) = bare rest ≡ true

by_test : (b : Bool) (x y : Option (List ℕ)) (P : Type 0) → (b ≡ true → Then x → P) → (Then y → P) → Then (cond b x y) → P
by_test true x y P f g h = f refl h
by_test false x y P f g h = g h

bare_after_digits : (t : List ℕ) → Then (after_digits t) → bare t ≡ true
bare_after_digits t = by_test (prefix_len is_ascii_digit t == 0) None _ _ (λ e h. absurd h) (bare_digits t)

either : (a b : ℕ) (t : List ℕ) → ((rest : Bool) → bare_byte (class a) rest ≡ rest) → ((rest : Bool) → bare_byte (class b) rest ≡ rest) →
    ((head t == a) ≡ true) ⊎ ((head t == b) ≡ true) → bare (drop 1 t) ≡ true → bare t ≡ true
either a b t p q (inl e) = bare_one a t p e
either a b t p q (inr e) = bare_one b t q e

skipped : (b : Bool) (t : List ℕ) → (b ≡ true → bare (drop 1 t) ≡ true → bare t ≡ true) → bare (cond b (drop 1 t) t) ≡ true → bare t ≡ true
skipped true t f h = f refl h
skipped false t f h = h

bare_after_exponent : (t : List ℕ) → Then (after_exponent t) → bare t ≡ true
bare_after_exponent t =
    let u = drop 1 t in
    by_test ((head t == 101) || (head t == 69)) _ (Some t) _
    (λ e h.
    either 101 69 t (λ r. refl) (λ r. refl) (or_cases _ _ e)
    (skipped _ u (λ s. either 45 43 u (λ r. refl) (λ r. refl) (or_cases _ _ s)) (bare_after_digits (after_sign u) h)))
    (λ h. h)

bare_after_fraction : (t : List ℕ) → Then (after_fraction t) → bare t ≡ true
bare_after_fraction t = by_test (head t == 46) _ (Some t) _ (λ e h. bare_one 46 t (λ r. refl) e (bare_after_digits (drop 1 t) h)) (λ h. h)

bare_after_whole : (t : List ℕ) → Then (after_whole t) → bare t ≡ true
bare_after_whole t = by_test (head t == 48) (Some (drop 1 t)) _ _ (λ e h. bare_one 48 t (λ r. refl) e h) (bare_after_digits t)

back : (f : List ℕ → Option (List ℕ)) → ((t : List ℕ) → Then (f t) → bare t ≡ true) → (o : Option (List ℕ)) → Then (option_and_then f o) → Then o
back f p None h = h
back f p (Some t) h = p t h

bare_after_number : (t : List ℕ) → Then (after_number t) → bare t ≡ true
unfolding after_number
bare_after_number t h =
    skipped (head t == 45) t (bare_one 45 t (λ r. refl))
    (bare_after_whole (after_minus t) (back after_fraction bare_after_fraction _ (back after_exponent bare_after_exponent _ h)))

-- what a word is: no bracket, and where it isn't bad, it is bare
abbrev IsWord : List ℕ → Token → Type 0
IsWord t (Token.number s) = bare t ≡ true
IsWord t (Token.boolean b) = bare t ≡ true
IsWord t Token.null = bare t ≡ true
IsWord t Token.bad = ⊤
IsWord t _ = ⊥

tested : (b : Bool) (t : List ℕ) (x y : Token) → (b ≡ true → IsWord t x) → IsWord t y → IsWord t (cond b x y)
tested true t x y f g = f refl
tested false t x y f g = g

number_is : (t : List ℕ) (o : Option (List ℕ)) → (Then o → bare t ≡ true) → IsWord t (number_before t o)
number_is t None f = tt
number_is t (Some rest) f = tested (ends_word rest) t _ _ (λ e. f (bare_end rest e)) tt

literal_is : (name : List ℕ) (k : Token) (t : List ℕ) → ((rest : List ℕ) → bare (name ++ rest) ≡ bare rest) → (bare t ≡ true → IsWord t k) →
    IsWord t (literal name k t)
literal_is name k t is f =
    tested (starts_with nat_eq t name && ends_word (drop (length name) t)) t k Token.bad
    (λ e.
    let both = and_parts _ _ e in
    let rest = drop (length name) t in
    let front : name ≡ take (length name) t = (bytes_eq-Decides name (take (length name) t)).0 both.0 in
    f (ap bare (sym (ap (λ l. l ++ rest) front ∙ take-append-drop (length name) t)) ∙ is rest ∙ bare_end rest both.1))
    tt

word_is : (t : List ℕ) → IsWord t (word t)
unfolding word
word_is t =
    tested (head t == 116) t _ _ (λ e. literal_is (116 ∷ 114 ∷ 117 ∷ 101 ∷ []) (Token.boolean true) t (λ r. refl) (λ h. h))
    (tested (head t == 102) t _ _ (λ e. literal_is (102 ∷ 97 ∷ 108 ∷ 115 ∷ 101 ∷ []) (Token.boolean false) t (λ r. refl) (λ h. h))
    (tested (head t == 110) t _ _ (λ e. literal_is (110 ∷ 117 ∷ 108 ∷ 108 ∷ []) Token.null t (λ r. refl) (λ h. h))
    (number_is t (after_number t) (bare_after_number t))))

-- what is bare is so behind a byte of this class
bare_rest : (x : ℕ) (xs : List ℕ) (c : Class) → class x ≡ c → bare (x ∷ xs) ≡ true → bare_byte c (bare xs) ≡ true
bare_rest x xs c e h = sym (ap (λ k. bare_byte k (bare xs)) e) ∙ h

-- ---- Bytes and lexemes

stays : (x : ℕ) → x ≢ 34 → x ≢ 92 → x ≢ 10 → place_behind within x ≡ within
stays x q s f =
    ap (λ b. if b || x == 10 then outside else if x == 92 then escaped else within) (ne_eqb x 34 q)
    ∙ ap (λ b. if b then outside else if x == 92 then escaped else within) (ne_eqb x 10 f)
    ∙ ap (λ b. if b then escaped else within) (ne_eqb x 92 s)

-- no quote stands in the rest of a word
abbrev Fits : Mode → List ℕ → Type 0
Fits in_word xs = bare xs ≡ true
Fits m xs = ⊤

string_passed : (o : Option (List ℕ)) (n : ℕ) (ls : List Lexeme) → Leaves n (token (string_token o) ∷ ls) → Leaves n ls
string_passed None n ls h = absurd h
string_passed (Some s) n ls h = h

word_passed : (t : List ℕ) (w : Token) (n : ℕ) (ls : List Lexeme) → IsWord t w → Leaves n (token w ∷ ls) → (bare t ≡ true) × Leaves n ls
word_passed t (Token.number s) n ls i h = (i, h)
word_passed t (Token.boolean b) n ls i h = (i, h)
word_passed t Token.null n ls i h = (i, h)
word_passed t Token.bad n ls i h = absurd h
word_passed t _ n ls i h = absurd i

-- how the bytes behind this one are read
abbrev Goes : List ℕ → Type 0
Goes xs = (m : Mode) (k : ℕ) → Fits m xs → Leaves k (lex m xs) → Closed (at m) k xs

operator_is : (x n : ℕ) (xs : List ℕ) → is_operator x ≡ true → Goes xs → Leaves n (operator_lexeme x ∷ lex between xs) → Closed outside n (x ∷ xs)
operator_is x n xs e go h = last (or_cases _ _ e) h
  where
    To : ℕ → Type 0
    To y = Leaves n (operator_lexeme y ∷ lex between xs) → Closed outside n (y ∷ xs)

    put : (c : ℕ) → (x == c) ≡ true → To c → To x
    put c e f = subst To (sym (eqb-true x c e)) f

    brace : ((x == 123) ≡ true) ⊎ ((x == 125) ≡ true) → To x
    brace (inl e) = put 123 e (λ h. go between (n + 1) tt h)
    brace (inr e) = put 125 e (λ h. go between (n - 1) tt h)

    third : ((x == 123 || x == 125) ≡ true) ⊎ ((x == 91) ≡ true) → To x
    third (inl e) = brace (or_cases _ _ e)
    third (inr e) = put 91 e (λ h. go between (n + 1) tt h)

    fourth : ((x == 123 || x == 125 || x == 91) ≡ true) ⊎ ((x == 93) ≡ true) → To x
    fourth (inl e) = third (or_cases _ _ e)
    fourth (inr e) = put 93 e (λ h. go between (n - 1) tt h)

    fifth : ((x == 123 || x == 125 || x == 91 || x == 93) ≡ true) ⊎ ((x == 58) ≡ true) → To x
    fifth (inl e) = fourth (or_cases _ _ e)
    fifth (inr e) = put 58 e (λ h. go between n tt h)

    last : ((x == 123 || x == 125 || x == 91 || x == 93 || x == 58) ≡ true) ⊎ ((x == 44) ≡ true) → To x
    last (inl e) = fifth (or_cases _ _ e)
    last (inr e) = put 44 e (λ h. go between n tt h)

no_brackets : (a b c d e f : Bool) (n : ℕ) → (a || b || c || d || e || f) ≡ false → (if a || c then n + 1 else if b || d then n - 1 else n) ≡ n
no_brackets true b c d e f n h = absurd (true≢false h)
no_brackets false true c d e f n h = absurd (true≢false h)
no_brackets false false true d e f n h = absurd (true≢false h)
no_brackets false false false true e f n h = absurd (true≢false h)
no_brackets false false false false e f n h = refl

-- a byte that is neither a quote nor a bracket
other_is : (x n : ℕ) (xs : List ℕ) → (x == 34) ≡ false → is_operator x ≡ false → Closed outside n xs → Closed outside n (x ∷ xs)
other_is x n xs q o h =
    subst (λ b. Closed (if b then within else outside) (open_behind outside x n) xs) (sym q)
    (subst (λ k. Closed outside k xs) (sym (no_brackets (x == 123) (x == 125) (x == 91) (x == 93) (x == 58) (x == 44) n o)) h)

space_is : (x n : ℕ) (xs : List ℕ) → class x ≡ lexing.space → Closed outside n xs → Closed outside n (x ∷ xs)
space_is x n xs e h = let t = classed x lexing.space e in other_is x n xs t.0 t.1 h

in_other : (x n : ℕ) (xs : List ℕ) → class x ≡ lexing.other → Closed outside n xs → Closed outside n (x ∷ xs)
in_other x n xs e h = let t = classed x lexing.other e in other_is x n xs t.0 t.1 h

string_byte : (x n : ℕ) (xs : List ℕ) → x ≢ 10 → x ≢ 34 → x ≢ 92 → Closed within n xs → Closed within n (x ∷ xs)
string_byte x n xs f q s h = subst (λ p. Closed p n xs) (sym (stays x q s f)) h

step : (m : Mode) (c : Class) (x n : ℕ) (xs : List ℕ) → class x ≡ c → x ≢ 10 → Fits m (x ∷ xs) → Goes xs →
    Leaves n (lex_byte m c x xs (λ k. lex k xs)) → Closed (at m) n (x ∷ xs)
step between lexing.quote x n xs e f fits go h =
    subst (λ y. Closed outside n (y ∷ xs)) (sym (is_quote x e)) (go in_string n tt (string_passed (content plain xs) n (lex in_string xs) h))
step between lexing.backslash x n xs e f fits go h = absurd h
step between lexing.operator x n xs e f fits go h = operator_is x n xs (classed x lexing.operator e) go h
step between lexing.space x n xs e f fits go h = space_is x n xs e (go between n tt h)
step between lexing.other x n xs e f fits go h =
    let w = word_passed (x ∷ xs) (word (x ∷ xs)) n (lex in_word xs) (word_is (x ∷ xs)) h in
    in_other x n xs e (go in_word n (bare_rest x xs lexing.other e w.0) w.1)
step in_word lexing.quote x n xs e f fits go h = absurd (true≢false (sym (bare_rest x xs lexing.quote e fits)))
step in_word lexing.backslash x n xs e f fits go h = absurd (true≢false (sym (bare_rest x xs lexing.backslash e fits)))
step in_word lexing.operator x n xs e f fits go h = operator_is x n xs (classed x lexing.operator e) go h
step in_word lexing.space x n xs e f fits go h = space_is x n xs e (go between n tt h)
step in_word lexing.other x n xs e f fits go h = in_other x n xs e (go in_word n (bare_rest x xs lexing.other e fits) h)
step in_string lexing.quote x n xs e f fits go h = subst (λ y. Closed within n (y ∷ xs)) (sym (is_quote x e)) (go between n tt h)
step in_string lexing.backslash x n xs e f fits go h = subst (λ y. Closed within n (y ∷ xs)) (sym (is_backslash x e)) (go in_escape n tt h)
step in_string lexing.operator x n xs e f fits go h =
    string_byte x n xs f (λ z. let p : lexing.quote ≡ lexing.operator = sym (ap class z) ∙ e in cc)
    (λ z. let p : lexing.backslash ≡ lexing.operator = sym (ap class z) ∙ e in cc) (go in_string n tt h)
step in_string lexing.space x n xs e f fits go h =
    string_byte x n xs f (λ z. let p : lexing.quote ≡ lexing.space = sym (ap class z) ∙ e in cc)
    (λ z. let p : lexing.backslash ≡ lexing.space = sym (ap class z) ∙ e in cc) (go in_string n tt h)
step in_string lexing.other x n xs e f fits go h =
    string_byte x n xs f (λ z. let p : lexing.quote ≡ lexing.other = sym (ap class z) ∙ e in cc)
    (λ z. let p : lexing.backslash ≡ lexing.other = sym (ap class z) ∙ e in cc) (go in_string n tt h)
step in_escape c x n xs e f fits go h = subst (λ b. Closed (if b then outside else within) n xs) (sym (ne_eqb x 10 f)) (go in_string n tt h)

read : (m : Mode) (n : ℕ) (xs : List ℕ) → HasNoEnd xs → Fits m xs → Leaves n (lex m xs) → Closed (at m) n xs
unfolding lex
read m n [] f fits h = h
read m n (x ∷ xs) f fits h = step m (class x) x n xs refl f.0 fits (λ k q g z. read k q xs f.1 g z) h

read_closed : (text : List ℕ) → HasNoEnd text → Ends 0 (tokens text) → Closed outside 0 text
read_closed text f h = read between 0 text f tt (placed fresh (lex between text) 0 h)

-- ---- Lines

blank_closed : (text : List ℕ) → is_blank text ≡ true → Closed outside 0 text
blank_closed [] h = refl
blank_closed (x ∷ xs) h = let both = and_parts _ _ h in by (or_cases _ _ both.0) (blank_closed xs both.1)
  where
    put : (c : ℕ) → (x == c) ≡ true → Closed outside 0 (c ∷ xs) → Closed outside 0 (x ∷ xs)
    put c e k = subst (λ y. Closed outside 0 (y ∷ xs)) (sym (eqb-true x c e)) k

    behind : ((x == 9) ≡ true) ⊎ ((x == 13) ≡ true) → Closed outside 0 xs → Closed outside 0 (x ∷ xs)
    behind (inl e) k = put 9 e k
    behind (inr e) k = put 13 e k

    by : ((x == 32) ≡ true) ⊎ (((x == 9) || (x == 13)) ≡ true) → Closed outside 0 xs → Closed outside 0 (x ∷ xs)
    by (inl e) k = put 32 e k
    by (inr e) k = behind (or_cases _ _ e) k

in_order_closed : (f : Form) (v : Tree) (text : List ℕ) → HasNoEnd text → IsTextInOrder f v text → Closed outside 0 text
in_order_closed f v text no_end t = read_closed text no_end (document_closed t.0 text t.1)

text_closed : (f : Form) (v : Tree) (text : List ℕ) → HasNoEnd text → IsTextAs f v text → Closed outside 0 text
text_closed (Named s) v text no_end (inl t) = read_closed text no_end (tokens_closed v (tokens text) t.0)
text_closed (Named s) v text no_end (inr t) = in_order_closed (Named s) v text no_end t.1
text_closed (Dump t i) v text no_end h = in_order_closed (Dump t i) v text no_end h

no_end_by : (b : Bool) (x : ℕ) (xs : List ℕ) → (x == 10) ≡ b → HasNoEnd (first_line xs) → HasNoEnd (if b then [] else x ∷ first_line xs)
no_end_by true x xs e h = tt
no_end_by false x xs e h = ((λ z. true≢false (sym (ap (λ y. y == 10) z) ∙ e)), h)

no_end : (bytes : List ℕ) → HasNoEnd (first_line bytes)
no_end [] = tt
no_end (x ∷ xs) = no_end_by (x == 10) x xs refl (no_end xs)

same_by : (b : Bool) (p : Place) (n x : ℕ) (xs : List ℕ) → (x == 10) ≡ b →
    (Closed (place_behind p x) (open_behind p x n) (first_line xs) →
    (first_line xs ≡ first_text (place_behind p x) (open_behind p x n) xs) × (behind_line xs ≡ behind_text (place_behind p x) (open_behind p x n) xs)) →
    Closed p n (if b then [] else x ∷ first_line xs) →
    ((if b then [] else x ∷ first_line xs) ≡ first_text p n (x ∷ xs)) × ((if b then xs else behind_line xs) ≡ behind_text p n (x ∷ xs))
same_by true p n x xs e ih c =
    let ends : (x == 10 && n == 0) ≡ true = ap (λ b. b && n == 0) e ∙ ap (λ k. k == 0) c in (
      sym (ap (λ b. if b then [] else x ∷ first_text (place_behind p x) (open_behind p x n) xs) ends),
      sym (ap (λ b. if b then xs else behind_text (place_behind p x) (open_behind p x n) xs) ends),
    )
same_by false p n x xs e ih c =
    let goes : (x == 10 && n == 0) ≡ false = ap (λ b. b && n == 0) e in
    let same = ih c in (
      ap (λ l. x ∷ l) same.0 ∙ sym (ap (λ b. if b then [] else x ∷ first_text (place_behind p x) (open_behind p x n) xs) goes),
      same.1 ∙ sym (ap (λ b. if b then xs else behind_text (place_behind p x) (open_behind p x n) xs) goes),
    )

same : (p : Place) (n : ℕ) (bytes : List ℕ) → Closed p n (first_line bytes) →
    (first_line bytes ≡ first_text p n bytes) × (behind_line bytes ≡ behind_text p n bytes)
same p n [] c = (refl, refl)
same p n (x ∷ xs) c = same_by (x == 10) p n x xs refl (same (place_behind p x) (open_behind p x n) xs) c

-- the first line is the first text, where it is blank or one of a value
pub line_begins : (f : Form) (bytes line others : List ℕ) → line ≡ first_line bytes → others ≡ behind_line bytes →
    (is_blank line ≡ true) ⊎ ((v : Tree) × IsTextAs f v line) → bytes ≢ [] → BeginsText bytes line others
line_begins f bytes line others l o read some =
    let s = same outside 0 bytes (subst (Closed outside 0) l (closed read)) in
    record { some = some; is_first = l ∙ s.0; is_behind = o ∙ s.1 }
  where
    closed : (is_blank line ≡ true) ⊎ ((v : Tree) × IsTextAs f v line) → Closed outside 0 line
    closed (inl e) = blank_closed line e
    closed (inr t) = text_closed f t.0 line (subst HasNoEnd (sym l) (no_end bytes)) t.1
