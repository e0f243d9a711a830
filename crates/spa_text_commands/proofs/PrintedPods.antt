-- What is printed, pod by pod.
use Rattle.std.proofs.Common.{◌≡◌, ℕ, List, [], ◌∷◌, ◌++◌, refl, sym, arith, length, ◌∙◌, ap, subst, append_assoc, append-nil}
use Rattle.std.specs.Prelude.{Option, None, Some, codes}
use Rattle.std.proofs.lemmas.List.{take-append-drop, nil_from_length}
use Rattle.spa_format.specs.Words.{extent, word_at}
use Rattle.spa_format.specs.Front.{Begins, front_of, rest_of}
use Rattle.spa_format.specs.Pod.{AreMembers}
use Rattle.spa_format.specs.Tree.{Tree, Trees, no_trees, member, join_members}
use Rattle.spa_format.proofs.Refused.{refused_behind_members}
use Rattle.spa_format.proofs.Sequences.{members_joined, members_push}
use Rattle.spa_text_commands.specs.Unread.{AddsLine, AddsTextLine, AddsTexts, IsBegun, IsMarked, IsNoFront}
use Rattle.spa_text_commands.specs.Parts.{texts_joined}
use Rattle.spa_text_commands.specs.Texts.{AreTexts, RefusesPods, head_field, in_fields, path_field, wrapped}
use Rattle.spa_text_commands.specs.declared.answer.Failure.{Failure}
use Rattle.spa_text_commands.specs.declared.answer.Failure.TheVariants.{NoPods, OutOfMemory}

-- how far the loop over pods is: some first ones are printed, and this is left
pub record PrintedSoFar (IsText : Tree → List ℕ → Type 0) (start left old out : List ℕ) : Type 0 where
  pub first : List ℕ
  pub values : Trees
  pub lines : List ℕ
  pub whole : start ≡ first ++ left
  pub members : AreMembers values first
  pub texts : AreTexts IsText values lines
  pub made : out ≡ old ++ lines

pub begins : (IsText : Tree → List ℕ → Type 0) (start old out : List ℕ) → out ≡ old → PrintedSoFar IsText start start old out
begins IsText start old out e =
    record { first = []; values = no_trees; lines = []; whole = refl; members = refl; texts = refl; made = e ∙ sym (append-nil old) }

pub marked_added : (mark : List ℕ) (v : Tree) (old new : List ℕ) → AddsLine mark v old new → AddsTextLine (IsMarked mark) v old new
marked_added mark v old new h =
    (mark ++ h.0, h.1 ∙ ap (λ l. old ++ l) (sym (append_assoc mark h.0 (10 ∷ []))), (h.0, refl, h.2))

-- what stands before a text, the text, what stands behind it, and an end
pub text_added : (old path text begun printed closed reserved ended ending : List ℕ) (head : Option (List ℕ)) → IsBegun path head old begun ending →
    printed ≡ begun ++ text → closed ≡ printed ++ ending → reserved ≡ closed → ended ≡ reserved ++ (10 ∷ []) →
    ended ≡ old ++ (wrapped path head text ++ 10 ∷ [])
text_added old path text begun printed closed reserved ended ending head b p c r e =
    e
    ∙ ap (λ l. l ++ (10 ∷ [])) (r ∙ c ∙ ap (λ l. l ++ ending) (p ∙ ap (λ l. l ++ text) b.1) ∙ append_assoc (old ++ b.0) text ending
    ∙ append_assoc old b.0 (text ++ ending) ∙ ap (λ l. old ++ l) (sym (b.2 text)))
    ∙ append_assoc old (wrapped path head text) (10 ∷ [])

-- nothing stands before the text of a top-level pod without a head
pub begun_bare : (path old : List ℕ) → length path ≡ 0 → IsBegun path None old old []
begun_bare [] old e = ([], sym (append-nil old), λ text. sym (append-nil text))
begun_bare (x ∷ xs) old e = absurd (omega (arith, e))

-- fields stand before another one
in_fields_begun : (fields old first second new : List ℕ) → first ≡ old ++ codes "{" → second ≡ first ++ fields → new ≡ second ++ codes "\"value\":" →
    (mark : List ℕ) × (new ≡ old ++ mark) × ((text : List ℕ) → in_fields fields text ≡ mark ++ (text ++ codes "}"))
in_fields_begun fields old first second new a b c =
    let value = codes "\"value\":" in (
      codes "{" ++ (fields ++ value),
      c ∙ ap (λ l. l ++ value) (b ∙ ap (λ l. l ++ fields) a ∙ append_assoc old (codes "{") fields) ∙ append_assoc old (codes "{" ++ fields) value,
      λ text. ap (λ l. codes "{" ++ l) (sym (append_assoc fields value (text ++ codes "}"))),
    )

pub begun_at : (path old first second new ending : List ℕ) → ¬ (length path ≡ 0) → first ≡ old ++ codes "{" → second ≡ first ++ path_field path →
    new ≡ second ++ codes "\"value\":" → ending ≡ codes "}" → IsBegun path None old new ending
begun_at [] old first second new ending some a b c d = absurd (some refl)
begun_at (x ∷ xs) old first second new ending some a b c d =
    let fields = path_field (x ∷ xs) in
    let begun = in_fields_begun (fields ++ []) old first second new a (b ∙ ap (λ l. first ++ l) (sym (append-nil fields))) c in
    (begun.0, begun.1, λ text. begun.2 text ∙ ap (λ l. begun.0 ++ (text ++ l)) (sym d))

pub begun_headed : (path head old first second third new ending : List ℕ) → first ≡ old ++ codes "{" → second ≡ first ++ path_field path →
    third ≡ second ++ head_field (Some head) → new ≡ third ++ codes "\"value\":" → ending ≡ codes "}" → IsBegun path (Some head) old new ending
begun_headed path head old first second third new ending a b h c d =
    let its = head_field (Some head) in
    let begun = in_fields_begun (path_field path ++ its) old first third new a
    (h ∙ ap (λ l. l ++ its) b ∙ append_assoc first (path_field path) its) c in
    (begun.0, begun.1, λ text. fields_of path text ∙ begun.2 text ∙ ap (λ l. begun.0 ++ (text ++ l)) (sym d))
  where
    fields_of : (path text : List ℕ) → wrapped path (Some head) text ≡ in_fields (path_field path ++ head_field (Some head)) text
    fields_of [] text = refl
    fields_of (x ∷ xs) text = refl

pub no_path_added : (path old : List ℕ) → length path ≡ 0 → old ≡ old ++ path_field path
no_path_added [] old e = sym (append-nil old)
no_path_added (x ∷ xs) old e = absurd (omega (arith, e))

pub head_added : (head old first second new : List ℕ) → first ≡ old ++ codes "\"head\":" → second ≡ first ++ head → new ≡ second ++ codes "," →
    new ≡ old ++ head_field (Some head)
head_added head old first second new a b c =
    let name = codes "\"head\":" in
    c ∙ ap (λ l. l ++ codes ",") (b ∙ ap (λ l. l ++ head) a) ∙ append_assoc (old ++ name) head (codes ",") ∙ append_assoc old name (head ++ codes ",")

-- one line more
pub texts_push : (IsText : Tree → List ℕ → Type 0) (vs : Trees) (v : Tree) (out text : List ℕ) → AreTexts IsText vs out → IsText v text →
    AreTexts IsText (join_members vs (member v no_trees)) (out ++ (text ++ 10 ∷ []))
texts_push IsText vs v out text h t = texts_joined IsText vs (member v no_trees) out (text ++ 10 ∷ []) h (text, [], refl, t, refl)

-- the front is passed
pub front_passed : (input first left rest : List ℕ) → input ≡ first ++ left → rest ≡ rest_of left → input ≡ (first ++ front_of left) ++ rest
front_passed input first left rest whole behind =
    whole
    ∙ ap (λ l. first ++ l) (sym (take-append-drop (extent (word_at left 0)) left) ∙ ap (λ l. front_of left ++ l) (sym behind))
    ∙ sym (append_assoc first (front_of left) rest)

pub goes_on : (IsText : Tree → List ℕ → Type 0) (start left rest old out more : List ℕ) (v : Tree) → PrintedSoFar IsText start left old out →
    Begins left v → rest ≡ rest_of left → AddsTextLine IsText v out more → PrintedSoFar IsText start rest old more
goes_on IsText start left rest old out more v so b behind t =
    let line = t.0 ++ 10 ∷ [] in
    record {
      first = so.first ++ front_of left;
      values = join_members so.values (member v no_trees);
      lines = so.lines ++ line;
      whole = front_passed start so.first left rest so.whole behind;
      members = members_push so.values v so.first (front_of left) so.members b.pod;
      texts = texts_push IsText so.values v so.lines t.0 so.texts t.2;
      made = t.1 ∙ ap (λ l. l ++ line) so.made ∙ append_assoc old so.lines line;
    }

pub ends : (IsText : Tree → List ℕ → Type 0) (start left old out : List ℕ) → PrintedSoFar IsText start left old out → length left ≡ 0 →
    AddsTexts IsText start old out
ends IsText start left old out so e =
    let all : start ≡ so.first = so.whole ∙ ap (λ l. so.first ++ l) (nil_from_length left e) ∙ append-nil so.first in
    (so.values, so.lines, subst (AreMembers so.values) (sym all) so.members, so.texts, so.made)

-- where no pod begins behind some first ones, the whole isn't pods
pub front_refused : (input first left : List ℕ) (vs : Trees) (why : Failure) → input ≡ first ++ left → AreMembers vs first → ¬ (length left ≡ 0) →
    IsNoFront left why → RefusesPods input why
front_refused input first left vs NoPods whole members some h =
    let more = λ (d : left ≡ []). some (ap length d) in
    record {
      left = left;
      behind = (vs, first, whole, members, more);
      no_pod = h;
      refused = λ us m. refused_behind_members vs us first left members more h (subst (AreMembers us) whole m);
    }
front_refused input first left vs OutOfMemory whole members some h = tt
front_refused input first left vs _ whole members some h = absurd h

-- nor where what follows them isn't
pub rest_refused : (input first left : List ℕ) (vs : Trees) (why : Failure) → input ≡ first ++ left → AreMembers vs first → RefusesPods left why →
    RefusesPods input why
rest_refused input first left vs NoPods whole members h =
    let b = h.behind in
    front_refused input (first ++ b.1) h.left (join_members vs b.0) NoPods
    (whole ∙ ap (λ l. first ++ l) b.2 ∙ sym (append_assoc first b.1 h.left)) (members_joined vs b.0 first b.1 members b.3)
    (λ z. b.4 (nil_from_length h.left z)) h.no_pod
rest_refused input first left vs OutOfMemory whole members h = tt
rest_refused input first left vs _ whole members h = absurd h

pub stops : (IsText : Tree → List ℕ → Type 0) (start left old out : List ℕ) (why : Failure) → PrintedSoFar IsText start left old out →
    ¬ (length left ≡ 0) → IsNoFront left why → RefusesPods start why
stops IsText start left old out why so some h = front_refused start so.first left so.values why so.whole so.members some h

pub runs_out : (start : List ℕ) (why : Failure) → why ≡ OutOfMemory → RefusesPods start why
runs_out start why e = subst (RefusesPods start) (sym e) tt

-- all of an input, behind nothing
pub printed_all : (IsText : Tree → List ℕ → Type 0) (input old out : List ℕ) → AddsTexts IsText input old out → old ≡ [] →
    (vs : Trees) × AreMembers vs input × AreTexts IsText vs out
printed_all IsText input old out h o = (h.0, h.2, subst (AreTexts IsText h.0) (sym (h.4 ∙ ap (λ l. l ++ h.1) o)) h.3)
