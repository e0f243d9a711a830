-- What is looked for inside a pod, and pods that are selected.
use Rattle.std.proofs.Common.{◌≡◌, ◌≢◌, ◌≤◌, ◌<◌, ℕ, ◌+◌, ◌^◌, List, [], ◌∷◌, ◌++◌, add-one, refl, sym, inl, inr, arith, drop, drop-cons, length, ◌∙◌, ap, subst, length-drop, append_assoc, append-nil, Bool, true, false}
use Rattle.std.specs.Prelude.{Result, Ok, Err, IfOk, IfNone, IfSome, OnOk, is_ok, if◌then◌else◌, Option, None, Some, is_some}
use Rattle.std.proofs.lemmas.List.{length-take-le, nil_from_length}
use Rattle.std.specs.Borrow.{Bor}
use Rattle.std.specs.Fmt.{decimal}
use Rattle.std.specs.Str.{bytes_eq}
use Rattle.hex.specs.Hex.{encode_lower}
use Rattle.json.specs.Ascii.{quote}
use Rattle.spa_events.specs.Events.{events_of}
use Rattle.spa_events.specs.declared.event.Event.{Event}
use Rattle.spa_format.specs.Front.{HasFront, front_of}
use Rattle.spa_format.specs.Pod.{AreMembers}
use Rattle.spa_format.specs.Tree.{Trees}
use Rattle.spa_format.specs.Walk.{walk}
use Rattle.spa_format.specs.Words.{extent, word_at}
use Rattle.spa_format.proofs.WalkLemmas.{walk-end, walk-there}
use Rattle.spa_text_commands.specs.Dump.{hex_lines}
use Rattle.spa_text_commands.specs.Lines.{AddsPart, AddsParts, AddsPodLines, IsCounted}
use Rattle.spa_text_commands.specs.Paths.{event_at, numbered, path_to, step_limit}
use Rattle.spa_text_commands.specs.Selection.{Part, first_part, found_at, found_from, found_in, is_selected, is_sought, looks_inside, part_of, parts_of, selected_of}
use Rattle.spa_text_commands.specs.Texts.{wrapped}
use Rattle.spa_text_commands.specs.Unread.{IsBegun}
use Rattle.spa_text_commands.specs.declared.printing.Layout.{Layout}
use Rattle.spa_text_commands.specs.declared.selection.Form.TheVariants as of
use Rattle.spa_text_commands.specs.declared.selection.Form.{Form}
use Rattle.spa_text_commands.specs.declared.selection.Selection.{Selection}
use Rattle.spa_text_commands.proofs.Saying.{SoFar, begins, ends, goes_on, none_added, part_added}

-- ---- Which pods are selected

pub not_selected : (form : Form) (s : Selection) (count place : ℕ) (pod a : List ℕ) (is : Bool) → is ≡ is_selected s.nth count → is ≡ false →
    AddsParts form (selected_of s count place pod) a a 0
not_selected form s count place pod a is e f =
    subst (λ ps. AddsParts form ps a a 0) (sym (ap (λ b. if b then parts_of s count place pod else []) (sym e ∙ f))) (none_added form a)

pub pod_selected : (form : Form) (s : Selection) (count place : ℕ) (pod a b : List ℕ) (is inside : Bool) {E : Type 0} (r : Result ℕ E) →
    is ≡ is_selected s.nth count → is ≡ true → inside ≡ looks_inside s → inside ≡ false → IfOk r (AddsParts form (part_of count place [] pod ∷ []) a b) →
    IfOk r (AddsParts form (selected_of s count place pod) a b)
pod_selected form s count place pod a b is inside r e t i f h =
    subst (λ ps. IfOk r (AddsParts form ps a b))
    (sym (ap (λ b. if b then parts_of s count place pod else []) (sym e ∙ t)
    ∙ ap (λ b. if b then found_in s count place pod else part_of count place [] pod ∷ []) (sym i ∙ f))) h

pub found_selected : (form : Form) (s : Selection) (count place : ℕ) (pod a b : List ℕ) (is inside : Bool) {E : Type 0} (r : Result ℕ E) →
    is ≡ is_selected s.nth count → is ≡ true → inside ≡ looks_inside s → inside ≡ true → IfOk r (AddsParts form (found_in s count place pod) a b) →
    IfOk r (AddsParts form (selected_of s count place pod) a b)
found_selected form s count place pod a b is inside r e t i f h =
    subst (λ ps. IfOk r (AddsParts form ps a b))
    (sym (ap (λ b. if b then parts_of s count place pod else []) (sym e ∙ t)
    ∙ ap (λ b. if b then found_in s count place pod else part_of count place [] pod ∷ []) (sym i ∙ f))) h

-- ---- What is inside

-- the pod of an event stands at the path that is given, or doesn't
pub sought_by : (s : Selection) (count : ℕ) (pod shown : List ℕ) (events : List Event) (number : ℕ) (event : Event) (wanted : Bor (List ℕ)) (is : Bool) →
    s.path ≡ Some wanted → is ≡ bytes_eq shown wanted.now → shown ≡ decimal (count + 1) ++ path_to step_limit events pod number →
    is ≡ is_sought s.path s count pod events number event
sought_by s count pod shown events number event wanted is p e h =
    e ∙ ap (λ z. bytes_eq z wanted.now) h ∙ sym (ap (λ o. is_sought o s count pod events number event) p)

-- the pod of an event isn't looked for
pub not_found : (form : Form) (s : Selection) (count place : ℕ) (pod a : List ℕ) (events : List Event) (number : ℕ) (event : Event) (is : Bool) →
    is ≡ is_sought s.path s count pod events number event → is ≡ false → AddsParts form (found_at s count place pod events number event) a a 0
not_found form s count place pod a events number event is e f =
    subst (λ ps. AddsParts form ps a a 0)
    (sym (ap (λ t. if t then first_part count (place + event.at) (path_to step_limit events pod number) (walk (drop event.at pod)) else []) (sym e ∙ f)))
    (none_added form a)

no_part : (t : Bool) (count place : ℕ) (path : List ℕ) → (if t then first_part count place path [] else []) ≡ []
no_part true count place path = refl
no_part false count place path = refl

-- nor where no pod is there
pub none_there : (form : Form) (s : Selection) (count place : ℕ) (pod a : List ℕ) (events : List Event) (number : ℕ) (event : Event) →
    ¬ (HasFront (drop event.at pod)) → AddsParts form (found_at s count place pod events number event) a a 0
none_there form s count place pod a events number event absent =
    let path = path_to step_limit events pod number in
    subst (λ ps. AddsParts form ps a a 0)
    (sym (ap (λ ws. if is_sought s.path s count pod events number event then first_part count (place + event.at) path ws else []) (walk-end (drop event.at pod) absent)
    ∙ no_part (is_sought s.path s count pod events number event) count (place + event.at) path)) (none_added form a)

pub is_there : (form : Form) (s : Selection) (count place : ℕ) (pod value path a b : List ℕ) (events : List Event) (number : ℕ) (event : Event) (is : Bool)
    {E : Type 0} (r : Result ℕ E) → is ≡ is_sought s.path s count pod events number event → is ≡ true → HasFront (drop event.at pod) →
    value ≡ front_of (drop event.at pod) → path ≡ path_to step_limit events pod number →
    IfOk r (AddsParts form (part_of count (place + event.at) path value ∷ []) a b) →
    IfOk r (AddsParts form (found_at s count place pod events number event) a b)
is_there form s count place pod value path a b events number event is r e t there v p h =
    let at = place + event.at in
    let steps = path_to step_limit events pod number in
    subst (λ ps. IfOk r (AddsParts form ps a b))
    (ap (λ z. part_of count at z value ∷ []) p ∙ ap (λ z. part_of count at steps z ∷ []) v
    ∙ sym (ap (λ z. if z then first_part count at steps (walk (drop event.at pod)) else []) (sym e ∙ t)
    ∙ ap (first_part count at steps) (walk-there (drop event.at pod) there))) h

-- a value ends where the pod does that it is in
pub value_room : (place at : ℕ) (pod value : List ℕ) → place + length pod < 2 ^ 64 → HasFront (drop at pod) → value ≡ front_of (drop at pod) →
    (place + at) + length value < 2 ^ 64
value_room place at pod value r there v =
    let l = ap length v in
    let d = length-drop at pod in
    let h = there.header in
    let w = there.whole in
    let t = length-take-le (extent (word_at (drop at pod) 0)) (drop at pod) w in
    omega (arith, r, l, d, h, w, t)

-- how far the loop over events is
pub record FoundSoFar (form : Form) (s : Selection) (count place : ℕ) (pod : List ℕ) (events : List Event) (number : ℕ) (old new : List ℕ) (refused : ℕ) : Type 0 where
  pub so : SoFar form (found_from s count place pod events 0 events) (found_from s count place pod events number (drop number events)) old new refused
  pub few : refused ≤ number

pub found_begin : (form : Form) (s : Selection) (count place : ℕ) (pod : List ℕ) (events : List Event) (a : List ℕ) →
    FoundSoFar form s count place pod events 0 a a 0
found_begin form s count place pod events a = record { so = begins form (found_from s count place pod events 0 events) a; few = omega arith }

-- the next one of a list, and those behind it
next_left : (events : List Event) (number : ℕ) → number < length events → drop number events ≡ event_at events number ∷ drop (number + 1) events
next_left xs i h = rw (add-one, drop-cons xs i (record { type_ = 0; size = 0; depth = 0; at = 0; parent = 0 })) refl

pub found_done : (form : Form) (s : Selection) (count place : ℕ) (pod : List ℕ) (events : List Event) (number refused more : ℕ) (a b c : List ℕ) →
    number < length events → more ≤ 1 → AddsParts form (found_at s count place pod events number (event_at events number)) b c more →
    FoundSoFar form s count place pod events number a b refused → FoundSoFar form s count place pod events (number + 1) a c (refused + more)
found_done form s count place pod events number refused more a b c there one added so =
    let few = so.few in
    record {
      so = goes_on form _ _ (found_at s count place pod events number (event_at events number)) _ a b c refused more
          (ap (found_from s count place pod events number) (next_left events number there)) so.so added;
      few = omega (arith, few, one);
    }

pub found_end : (form : Form) (s : Selection) (count place : ℕ) (pod : List ℕ) (events : List Event) (number : ℕ) (a b : List ℕ) (refused : ℕ) →
    length events ≤ number → events ≡ events_of pod → FoundSoFar form s count place pod events number a b refused →
    AddsParts form (found_in s count place pod) a b refused
found_end form s count place pod events number a b refused e is so =
    let l = length-drop number events in
    subst (λ es. AddsParts form (found_from s count place pod es 0 es) a b refused) is
    (ends form _ _ a b refused (ap (found_from s count place pod events number) (nil_from_length (drop number events) (omega (arith, e, l)))) so.so)

-- ---- What is printed of a pod

-- an accepted pod counts for none, a refused one for one
pub counted : {X : Type 0} (r : Option X) (n : ℕ) (pod : List ℕ) → n ≡ (if is_some r then 1 else 0) →
    IfNone r ((vs : Trees) × AreMembers vs pod) → IfSome r (λ _. (vs : Trees) → ¬ (AreMembers vs pod)) → IsCounted pod n
counted None n pod e none some = inl (none, e)
counted (Some x) n pod e none some = inr (some, e)

pub few_counted : {X : Type 0} (r : Option X) (n : ℕ) → n ≡ (if is_some r then 1 else 0) → n ≤ 1
few_counted None n e = omega (arith, e)
few_counted (Some x) n e = omega (arith, e)

pub one_part : (f : Form) (part : Part) (a b : List ℕ) (refused : ℕ) → IsCounted part.pod refused → AddsPart f part refused a b →
    AddsParts f (part ∷ []) a b refused
one_part f part a b refused c h = part_added f part a b h.out refused c h.prints h.added

pub lines_printed : {T E : Type 0} (r : Result T E) (f : Form) (part : Part) (refused : ℕ) (a b : List ℕ) → f ≡ of.Lines →
    OnOk r (AddsPodLines part a b) → OnOk r (AddsPart f part refused a b)
lines_printed (Ok x) f part refused a b e h =
    subst (λ z. AddsPart z part refused a b) (sym e) (record { out = h.out; prints = h.lines; added = h.added })
lines_printed (Err x) f part refused a b e h = tt

pub bytes_below : {T E : Type 0} (r : Result T E) (f : Form) (part : Part) (refused : ℕ) (a b c bytes : List ℕ) → f ≡ of.LinesAndBytes →
    AddsPodLines part a b → bytes ≡ part.pod → OnOk r (c ≡ b ++ hex_lines part.place bytes) → OnOk r (AddsPart f part refused a c)
bytes_below (Ok x) f part refused a b c bytes e h p k =
    subst (λ z. AddsPart z part refused a c) (sym e) (record {
      out = h.out ++ hex_lines part.place part.pod;
      prints = (h.out, h.lines, refl);
      added = k ∙ ap (λ z. b ++ hex_lines part.place z) p ∙ ap (λ z. z ++ hex_lines part.place part.pod) h.added
          ∙ append_assoc a h.out (hex_lines part.place part.pod);
    })
bytes_below (Err x) f part refused a b c bytes e h p k = tt

pub no_text : (f : Form) (layout : Layout) (part : Part) (refused : ℕ) (a : List ℕ) → f ≡ of.Text layout → refused ≢ 0 → AddsPart f part refused a a
no_text f layout part refused a e n =
    subst (λ z. AddsPart z part refused a a) (sym e) (record { out = []; prints = inr (n, refl); added = sym (append-nil a) })

pub bytes_printed : {T E : Type 0} (r : Result T E) (f : Form) (part : Part) (refused : ℕ) (a b path bytes : List ℕ) → f ≡ of.Bytes →
    path ≡ numbered part.count part.path → bytes ≡ part.pod →
    OnOk r (b ≡ a ++ (wrapped path None (quote ∷ (encode_lower bytes ++ (quote ∷ []))) ++ 10 ∷ [])) → OnOk r (AddsPart f part refused a b)
bytes_printed (Ok x) f part refused a b path bytes e q p h =
    let line : List ℕ → List ℕ → List ℕ = λ at z. wrapped at None (quote ∷ (encode_lower z ++ (quote ∷ []))) ++ 10 ∷ [] in
    subst (λ z. AddsPart z part refused a b) (sym e)
    (record {
      out = line (numbered part.count part.path) part.pod;
      prints = refl;
      added = h ∙ ap (λ z. a ++ line path z) p ∙ ap (λ z. a ++ line z part.pod) q;
    })
bytes_printed (Err x) f part refused a b path bytes e q p h = tt

pub pods_printed : {T E : Type 0} (r : Result T E) (f : Form) (part : Part) (refused : ℕ) (a b bytes : List ℕ) → f ≡ of.Pods → bytes ≡ part.pod →
    b ≡ (if is_ok r then a ++ bytes else a) → OnOk r (AddsPart f part refused a b)
pods_printed (Ok x) f part refused a b bytes e p h =
    subst (λ z. AddsPart z part refused a b) (sym e) (record { out = part.pod; prints = refl; added = h ∙ ap (λ z. a ++ z) p })
pods_printed (Err x) f part refused a b bytes e p h = tt

-- the line of a string at its path
pub string_added : (path old begun quoted digits closed wrapped_up new bytes ending : List ℕ) → IsBegun path None old begun ending → quoted ≡ begun ++ (quote ∷ []) →
    digits ≡ quoted ++ encode_lower bytes → closed ≡ digits ++ (quote ∷ []) → wrapped_up ≡ closed ++ ending → new ≡ wrapped_up ++ (10 ∷ []) →
    new ≡ old ++ (wrapped path None (quote ∷ (encode_lower bytes ++ (quote ∷ []))) ++ 10 ∷ [])
string_added path old begun quoted digits closed wrapped_up new bytes ending b q d c w n =
    let hex = encode_lower bytes in
    let text = quote ∷ (hex ++ (quote ∷ [])) in
    let said : closed ≡ begun ++ text =
    c ∙ ap (λ z. z ++ (quote ∷ [])) (d ∙ ap (λ z. z ++ hex) q ∙ append_assoc begun (quote ∷ []) hex) ∙ append_assoc begun (quote ∷ hex) (quote ∷ []) in
    n ∙ ap (λ z. z ++ (10 ∷ [])) (w ∙ ap (λ z. z ++ ending) (said ∙ ap (λ z. z ++ text) b.1) ∙ append_assoc (old ++ b.0) text ending
    ∙ append_assoc old b.0 (text ++ ending) ∙ ap (λ z. old ++ z) (sym (b.2 text)))
    ∙ append_assoc old (wrapped path None text) (10 ∷ [])
