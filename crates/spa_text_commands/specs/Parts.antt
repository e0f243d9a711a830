-- What is printed and shown of pods that come in two parts.
use Rattle.std.proofs.Common.{◌≡◌, ◌∙◌, ◌+◌, ℕ, List, [], ◌∷◌, ◌++◌, append_assoc, ap, arith, inl, inr, length, length-append, length-drop, refl, subst, sym, take, drop}
use Rattle.std.proofs.lemmas.Bool.{cases_lt}
use Rattle.std.proofs.lemmas.List.{drop-append-le, length-take-le, nil_from_length, take-append-le}
use Rattle.spa_format.specs.Fixation.{walk_size}
use Rattle.spa_format.specs.Front.{HasFront, front_of, rest_of}
use Rattle.spa_format.specs.Tree.{Tree, Trees, no_trees, member, join_members}
use Rattle.spa_format.specs.Walk.{walk}
use Rattle.spa_format.specs.Words.{extent, word_at}
use Rattle.spa_format.proofs.Sequences.{members_joined}
use Rattle.spa_format.proofs.WalkLemmas.{walk-end, walk-there}
use Rattle.spa_format.proofs.WordLemmas.{word_at-append}
use Rattle.spa_text_commands.specs.Lines.{PrintsParts, PrintsSelected}
use Rattle.spa_text_commands.specs.Selection.{Part, selected, selected_of}
use Rattle.spa_text_commands.specs.Texts.{AreTexts, IsTextAt, Prints}
use Rattle.spa_text_commands.specs.declared.printing.Layout.{Layout}
use Rattle.spa_text_commands.specs.declared.selection.Form.{Form}
use Rattle.spa_text_commands.specs.declared.selection.Printout.{Printout}
use Rattle.spa_text_commands.specs.declared.selection.Selection.{Selection}

-- ---- Texts

pub texts_joined : (IsText : Tree → List ℕ → Type 0) (vs ws : Trees) (out more : List ℕ) → AreTexts IsText vs out → AreTexts IsText ws more →
    AreTexts IsText (join_members vs ws) (out ++ more)
texts_joined IsText no_trees ws out more h k = subst (AreTexts IsText ws) (sym (ap (λ l. l ++ more) h)) k
texts_joined IsText (member v vs) ws out more h k = (
  h.0,
  h.1 ++ more,
  ap (λ l. l ++ more) h.2 ∙ append_assoc h.0 (10 ∷ h.1) more,
  h.3,
  texts_joined IsText vs ws h.1 more h.4 k,
)

pub nothing_printed : (layout : Layout) → Prints layout [] []
nothing_printed layout = (no_trees, refl, refl)

pub printed_more : (layout : Layout) (first others out more : List ℕ) → Prints layout first out → Prints layout others more →
    Prints layout (first ++ others) (out ++ more)
printed_more layout first others out more h k =
    (join_members h.0 k.0, members_joined h.0 k.0 first others h.1 k.1, texts_joined (IsTextAt layout []) h.0 k.0 out more h.2 k.2)

-- ---- Lines

nothing_there : ¬ (HasFront [])
nothing_there f = let h = f.header in omega (arith, h)

none_walked : walk [] ≡ []
none_walked = walk-end [] nothing_there

-- where a walk has a first pod, it is the front
front_walked : (a p : List ℕ) (ps : List (List ℕ)) → walk a ≡ p ∷ ps → HasFront a × (p ≡ front_of a) × (ps ≡ walk (rest_of a))
front_walked a p ps e = elim (cases_lt (length a) (extent (word_at a 0))) [
  | inl l ↦
      let none = walk-end a (λ f. (let w = f.whole in omega (arith, l, w))) in
      let z = ap length (sym e ∙ none) in absurd (omega (arith, z))
  | inr l ↦
      let there : HasFront a = record { header = omega (arith, l); whole = l } in
      let same = sym e ∙ walk-there a there in
      (there, cc, cc)
]

-- whole pods are walked before what follows them
pub walk_joined : (ps : List (List ℕ)) (a b : List ℕ) → walk a ≡ ps → walk_size ps ≡ length a → walk (a ++ b) ≡ ps ++ walk b
walk_joined [] a b e s = ap (λ z. walk (z ++ b)) (nil_from_length a (sym s))
walk_joined (p ∷ ps) a b e s =
    let w = front_walked a p ps e in
    let there = w.0 in
    let h = there.header in
    let x = there.whole in
    let n = extent (word_at a 0) in
    let size : word_at (a ++ b) 0 ≡ word_at a 0 = word_at-append a b 0 (omega (arith, h)) in
    let long = length-append a b in
    let same : extent (word_at (a ++ b) 0) ≡ n = ap extent size in
    let both : HasFront (a ++ b) = record { header = omega (arith, h, long); whole = omega (arith, same, x, long) } in
    let front : front_of (a ++ b) ≡ p = ap (λ m. take m (a ++ b)) same ∙ take-append-le n a b x ∙ sym w.1 in
    let behind : rest_of (a ++ b) ≡ rest_of a ++ b = ap (λ m. drop m (a ++ b)) same ∙ drop-append-le n a b x in
    let d = length-drop n a in
    let t = length-take-le n a x in
    let l = ap length w.1 in
    let left : walk_size ps ≡ length (rest_of a) = omega (arith, s, d, t, l, x) in
    walk-there (a ++ b) both ∙ ap (λ z. z ∷ walk (rest_of (a ++ b))) front
    ∙ ap (λ z. p ∷ z) (ap walk behind ∙ walk_joined ps (rest_of a) b (sym w.2) left)

sizes_joined : (ps qs : List (List ℕ)) → walk_size (ps ++ qs) ≡ walk_size ps + walk_size qs
sizes_joined [] qs = let e : walk_size qs ≡ 0 + walk_size qs = omega arith in e
sizes_joined (p ∷ ps) qs = let e = sizes_joined ps qs in omega (arith, e)

-- what is printed of two lists of pods is that of both
pub parts_joined : (form : Form) (ps qs : List Part) (out more : List ℕ) (m n : ℕ) → PrintsParts form ps out m → PrintsParts form qs more n →
    PrintsParts form (ps ++ qs) (out ++ more) (m + n)
parts_joined form [] qs out more m n h k =
    let z = h.1 in
    let e : n ≡ m + n = omega (arith, z) in
    subst (PrintsParts form qs (out ++ more)) e (subst (λ l. PrintsParts form qs l n) (sym (ap (λ l. l ++ more) h.0)) k)
parts_joined form (p ∷ ps) qs out more m n h k =
    let s = h.5 in (
      h.0,
      h.1 ++ more,
      h.2,
      h.3 + n,
      ap (λ l. l ++ more) h.4 ∙ append_assoc h.0 h.1 more,
      omega (arith, s),
      h.6,
      h.7,
      parts_joined form ps qs h.1 more h.3 n h.8 k,
    )

selected_joined : (s : Selection) (count place : ℕ) (ps qs : List (List ℕ)) →
    selected s count place (ps ++ qs) ≡ selected s count place ps ++ selected s (count + length ps) (place + walk_size ps) qs
selected_joined s count place [] qs =
    let c : count ≡ count + 0 = omega arith in
    let p : place ≡ place + 0 = omega arith in
    ap (λ i. selected s i place qs) c ∙ ap (λ i. selected s (count + 0) i qs) p
selected_joined s count place (p ∷ ps) qs =
    let first = selected_of s count place p in
    let others = selected s (count + 1) (place + length p) ps in
    let c : (count + 1) + length ps ≡ count + length (p ∷ ps) = omega arith in
    let at : (place + length p) + walk_size ps ≡ place + walk_size (p ∷ ps) = omega arith in
    ap (λ l. first ++ l) (selected_joined s (count + 1) (place + length p) ps qs)
    ∙ ap (λ i. first ++ (others ++ selected s i ((place + length p) + walk_size ps) qs)) c
    ∙ ap (λ i. first ++ (others ++ selected s (count + length (p ∷ ps)) i qs)) at
    ∙ sym (append_assoc first others (selected s (count + length (p ∷ ps)) (place + walk_size (p ∷ ps)) qs))

-- the pods are whole, and this is printed of them; so many pods and bytes of the input stand before them, and so many of the printed ones are refused
abbrev pub ShowsPods : Printout → (count place : ℕ) → (pods out : List ℕ) → (refused : ℕ) → Type 0
ShowsPods printout count place pods out refused =
    (walk_size (walk pods) ≡ length pods) × PrintsSelected printout count place (walk pods) out refused

pub nothing_shown : (printout : Printout) (count place : ℕ) → ShowsPods printout count place [] [] 0
nothing_shown printout count place =
    (ap walk_size none_walked, subst (λ ps. PrintsSelected printout count place ps [] 0) (sym none_walked) (refl, refl))

pub shown_more : (printout : Printout) (count place : ℕ) (first others out more : List ℕ) (m n : ℕ) → ShowsPods printout count place first out m →
    ShowsPods printout (count + length (walk first)) (place + length first) others more n →
    ShowsPods printout count place (first ++ others) (out ++ more) (m + n)
shown_more printout count place first others out more m n h k =
    let sel = printout.selection in
    let all = walk_joined (walk first) first others refl h.0 in
    let s = ap walk_size all ∙ sizes_joined (walk first) (walk others) in
    let a = h.0 in
    let b = k.0 in
    let l = length-append first others in
    let parts = ap (selected sel count place) all ∙ selected_joined sel count place (walk first) (walk others) in
    let at : ℕ → List Part = λ z. selected sel (count + length (walk first)) z (walk others) in (
      omega (arith, s, a, b, l),
      subst (λ ps. PrintsParts printout.form ps (out ++ more) (m + n)) (sym parts)
          (parts_joined printout.form (selected sel count place (walk first)) (at (place + walk_size (walk first))) out more m n h.1
          (subst (λ z. PrintsParts printout.form (at z) more n) (ap (λ z. place + z) (sym a)) k.1)),
    )
