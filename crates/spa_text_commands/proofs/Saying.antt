-- What is added, line by line and pod by pod.
use Rattle.std.specs.Io.KnownBytes.{Appends, Keeps}
pub use Rattle.std.proofs.KnownBytes.{Appends-kept as appends_keeps, Keeps-refl as keeps_itself, Keeps-trans as keeps_keeps}
use Rattle.std.proofs.Common.{◌≡◌, ◌≤◌, ◌<◌, ℕ, ◌+◌, ◌-◌, ◌^◌, List, [], ◌∷◌, ◌++◌, Option, Some, None, refl, sym, inl, inr, arith, take, length, ◌∙◌, ap, subst, length-drop, append_assoc, append-nil}
use Rattle.std.specs.Prelude.{Result, Ok, Err, OnOk}
use Rattle.std.proofs.lemmas.List.{length-take-le, take_all}
use Rattle.spa_format.specs.Words.{extent, word_at}
use Rattle.spa_format.specs.Front.{HasFront, front_of, rest_of}
use Rattle.spa_format.specs.Walk.{walk}
use Rattle.spa_format.specs.Fixation.{walk_size}
use Rattle.spa_format.proofs.WalkLemmas.{walk-end, walk-there}
use Rattle.spa_text_commands.specs.Lines.{Adds, AddsParts, AreLines, IsCounted, Lists, MayAdd, PrintsPart, PrintsParts}
use Rattle.spa_text_commands.specs.Parts.{parts_joined}
use Rattle.spa_text_commands.specs.Selection.{Part, selected, selected_of}
use Rattle.spa_text_commands.specs.declared.selection.Form.{Form}
use Rattle.spa_text_commands.specs.declared.selection.Printout.{Printout}
use Rattle.spa_text_commands.specs.declared.showing.Listed.{Listed}

-- ---- Writers

pub keeps_appends : (a b c : Option (List ℕ)) (xs : List ℕ) → Keeps a b → Appends b c xs → Appends a c xs
keeps_appends None b c xs k l = tt
keeps_appends (Some a) None c xs k l = absurd k
keeps_appends (Some a) (Some b) None xs k l = absurd l
keeps_appends (Some a) (Some b) (Some c) xs k l = l ∙ ap (λ ys. ys ++ xs) k

pub keeps_nothing : (a b : Option (List ℕ)) (xs : List ℕ) → Keeps a b → Appends a b (take 0 xs)
keeps_nothing None b xs k = tt
keeps_nothing (Some a) None xs k = absurd k
keeps_nothing (Some a) (Some b) xs k = k ∙ sym (append-nil a)

-- all of it is a beginning of it
pub all_begun : (a b : Option (List ℕ)) (xs : List ℕ) → Appends a b xs → (n : ℕ) × Appends a b (take n xs)
all_begun a b xs h = (length xs, subst (Appends a b) (sym (take_all (length xs) xs (omega arith))) h)

-- ---- Lines

behind : (a b c x y : List ℕ) → b ≡ a ++ x → c ≡ b ++ y → c ≡ a ++ (x ++ y)
behind a b c x y e f = f ∙ ap (λ z. z ++ y) e ∙ append_assoc a x y

lines_more : (x y : List ℕ) → AreLines y → AreLines (x ++ y)
lines_more x y h = (x ++ h.0, ap (λ z. x ++ z) h.1 ∙ sym (append_assoc x h.0 (10 ∷ [])))

pub adds_adds : (a b c : List ℕ) → Adds a b → Adds b c → Adds a c
adds_adds a b c s t = record {
  said = s.said ++ t.said;
  added = behind a b c s.said t.said s.added t.added;
  lines = lines_more s.said t.said t.lines;
}

pub adds_may : (a b c : List ℕ) → Adds a b → MayAdd b c → Adds a c
adds_may a b c s t = record {
  said = s.said ++ t.said;
  added = behind a b c s.said t.said s.added t.added;
  lines = elim t.lines [
    | inl e ↦ subst AreLines (sym (append-nil s.said) ∙ ap (λ z. s.said ++ z) (sym e)) s.lines
    | inr k ↦ lines_more s.said t.said k
  ];
}

-- what holds whatever the result is
pub on_any : {T E : Type 0} {P : Type 0} (r : Result T E) → P → OnOk r P
on_any (Ok x) p = p
on_any (Err e) p = tt

pub ok_may : {T E : Type 0} (r : Result T E) (a b c : List ℕ) → Adds a b → OnOk r (MayAdd b c) → OnOk r (Adds a c)
ok_may (Ok x) a b c s t = adds_may a b c s t
ok_may (Err e) a b c s t = tt

-- ---- Pods

pub part_added : (form : Form) (part : Part) (a b out : List ℕ) (refused : ℕ) → IsCounted part.pod refused → PrintsPart form part out refused →
    b ≡ a ++ out → AddsParts form (part ∷ []) a b refused
part_added form part a b out refused counted prints added = record {
  out = out;
  prints = (out, [], refused, 0, sym (append-nil out), (let e : refused ≡ refused + 0 = omega arith in e), counted, prints, (refl, refl));
  added = added;
}

pub none_added : (form : Form) (a : List ℕ) → AddsParts form [] a a 0
none_added form a = record { out = []; prints = (refl, refl); added = sym (append-nil a) }

-- how far a loop over pods is: this was added, and with what is printed of those that are left it is printed of all
pub record SoFar (form : Form) (all left : List Part) (old new : List ℕ) (refused : ℕ) : Type 0 where
  pub out : List ℕ
  pub added : new ≡ old ++ out
  pub rest : (more : List ℕ) (n : ℕ) → PrintsParts form left more n → PrintsParts form all (out ++ more) (refused + n)

pub begins : (form : Form) (all : List Part) (a : List ℕ) → SoFar form all all a a 0
begins form all a = record {
  out = [];
  added = sym (append-nil a);
  rest = λ more n h. subst (PrintsParts form all more) (let e : n ≡ 0 + n = omega arith in e) h;
}

pub goes_on : (form : Form) (all left first others : List Part) (a b c : List ℕ) (refused n : ℕ) → left ≡ first ++ others →
    SoFar form all left a b refused → AddsParts form first b c n → SoFar form all others a c (refused + n)
goes_on form all left first others a b c refused n e so s = record {
  out = so.out ++ s.out;
  added = behind a b c so.out s.out so.added s.added;
  rest = λ more m h.
      let both = parts_joined form first others s.out more n m s.prints h in
      subst (PrintsParts form all ((so.out ++ s.out) ++ more)) (let i : refused + (n + m) ≡ (refused + n) + m = omega arith in i)
      (subst (λ z. PrintsParts form all z (refused + (n + m))) (sym (append_assoc so.out s.out more))
      (so.rest (s.out ++ more) (n + m) (subst (λ ps. PrintsParts form ps (s.out ++ more) (n + m)) (sym e) both)));
}

pub ends : (form : Form) (all left : List Part) (a b : List ℕ) (refused : ℕ) → left ≡ [] → SoFar form all left a b refused → AddsParts form all a b refused
ends form all left a b refused e so = record {
  out = so.out;
  prints =
      subst (λ z. PrintsParts form all z refused) (append-nil so.out)
      (subst (PrintsParts form all (so.out ++ [])) (let i : refused + 0 ≡ refused = omega arith in i)
      (so.rest [] 0 (subst (λ ps. PrintsParts form ps [] 0) (sym e) (refl, refl))));
  added = so.added;
}

-- ---- Top-level pods

-- how many pods and bytes are passed
pub record Passed (start : ℕ) (bytes left : List ℕ) (count refused : ℕ) : Type 0 where
  pub fits : length left ≤ length bytes
  pub behind : walk_size (walk bytes) + length left ≡ length bytes + walk_size (walk left)
  pub few : count + length left ≤ start + length bytes
  pub few_refused : refused + length left ≤ length bytes

pub none_passed : (start : ℕ) (bytes : List ℕ) → Passed start bytes bytes start 0
none_passed start bytes = record { fits = omega arith; behind = omega arith; few = omega arith; few_refused = omega arith }

walked : (b : List ℕ) → HasFront b → walk_size (walk b) + length (rest_of b) ≡ length b + walk_size (walk (rest_of b))
walked b h =
    let w = h.whole in
    let l : length (front_of b) ≡ extent (word_at b 0) = length-take-le (extent (word_at b 0)) b w in
    let d : length (rest_of b) ≡ length b - extent (word_at b 0) = length-drop (extent (word_at b 0)) b in
    let e = ap walk_size (walk-there b h) in
    omega (arith, e, l, d, w)

front_length : (b : List ℕ) → HasFront b → (length (front_of b) + length (rest_of b) ≡ length b) × (0 < length (front_of b))
front_length b h =
    let w = h.whole in
    let l : length (front_of b) ≡ extent (word_at b 0) = length-take-le (extent (word_at b 0)) b w in
    let d : length (rest_of b) ≡ length b - extent (word_at b 0) = length-drop (extent (word_at b 0)) b in
    (omega (arith, l, d, w), omega (arith, l))

pub one_passed : (start : ℕ) (bytes left behind pod : List ℕ) (count refused more : ℕ) → HasFront left → pod ≡ front_of left → behind ≡ rest_of left →
    more ≤ length pod → Passed start bytes left count refused → Passed start bytes behind (count + 1) (refused + more)
one_passed start bytes left behind pod count refused more there its is few_more so =
    let w = walked left there in
    let l = front_length left there in
    let s = l.0 in
    let t = l.1 in
    let p = ap length its in
    let b = ap length is in
    let v = ap (λ z. walk_size (walk z)) is in
    let f = so.fits in
    let g = so.behind in
    let i = so.few in
    let j = so.few_refused in
    record { fits = omega (arith, f, b, s); behind = omega (arith, g, w, b, v); few = omega (arith, i, b, s, t); few_refused = omega (arith, j, b, s, p, few_more) }

-- there are far fewer pods than bytes, and no pod ends behind the input
pub one_fits : (start place : ℕ) (bytes left pod : List ℕ) (count refused : ℕ) → HasFront left → pod ≡ front_of left → start + length bytes < 2 ^ 64 →
    place + length bytes < 2 ^ 64 → Passed start bytes left count refused →
    (count + 1 < 2 ^ 64) × ((place + (length bytes - length left)) + length pod < 2 ^ 64)
one_fits start place bytes left pod count refused there its s p so =
    let l = front_length left there in
    let e = l.0 in
    let t = l.1 in
    let q = ap length its in
    let f = so.fits in
    let i = so.few in
    (omega (arith, i, s, e, t), omega (arith, f, p, e, q))

-- what is printed of the front, and then of what follows it
pub front_selected : (printout : Printout) (count place : ℕ) (bytes left behind pod : List ℕ) → HasFront left → pod ≡ front_of left → behind ≡ rest_of left →
    length left ≤ length bytes →
    selected printout.selection count (place + (length bytes - length left)) (walk left)
    ≡ selected_of printout.selection count (place + (length bytes - length left)) pod
    ++ selected printout.selection (count + 1) (place + (length bytes - length behind)) (walk behind)
front_selected printout count place bytes left behind pod there its is fits =
    let s = printout.selection in
    let at = place + (length bytes - length left) in
    let l = front_length left there in
    let e = l.0 in
    let b = ap length is in
    let next : at + length (front_of left) ≡ place + (length bytes - length behind) = omega (arith, fits, e, b) in
    ap (selected s count at) (walk-there left there)
    ∙ ap (λ z. selected_of s count at (front_of left) ++ selected s (count + 1) z (walk (rest_of left))) next
    ∙ ap (λ z. selected_of s count at z ++ selected s (count + 1) (place + (length bytes - length behind)) (walk (rest_of left))) (sym its)
    ∙ ap (λ z. selected_of s count at pod ++ selected s (count + 1) (place + (length bytes - length behind)) (walk z)) (sym is)

pub none_selected : (printout : Printout) (count place : ℕ) (left : List ℕ) → ¬ (HasFront left) → selected printout.selection count place (walk left) ≡ []
none_selected printout count place left absent = ap (selected printout.selection count place) (walk-end left absent)

pub all_listed : (printout : Printout) (start place : ℕ) (bytes left : List ℕ) (count : ℕ) (a b : List ℕ) (listed : Listed) → ¬ (HasFront left) →
    listed.left ≡ length left → Passed start bytes left count listed.refused →
    SoFar printout.form (selected printout.selection start place (walk bytes))
    (selected printout.selection count (place + (length bytes - length left)) (walk left)) a b listed.refused →
    Lists printout start place bytes a b listed
all_listed printout start place bytes left count a b listed absent at passed so =
    let z = ap walk_size (walk-end left absent) in
    let g = passed.behind in
    let f = passed.few_refused in
    let added = ends printout.form _ _ a b listed.refused (none_selected printout count (place + (length bytes - length left)) left absent) so in
    record { out = added.out; prints = added.prints; added = added.added; behind = omega (arith, z, g, at); few = omega (arith, f) }
