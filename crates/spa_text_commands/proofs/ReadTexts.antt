-- Texts that are read, one by one.
use Rattle.std.proofs.Common.{◌≡◌, ◌≢◌, ◌≤◌, ℕ, ◌+◌, ◌-◌, List, [], ◌∷◌, ◌++◌, refl, sym, inl, inr, arith, length, take, drop, ◌∙◌, ap, subst, length-append, append_assoc, append-nil}
use Rattle.std.specs.Prelude.{◌⊎◌}
use Rattle.spa_format.specs.Encoding.{encoding_of, member_encodings}
use Rattle.spa_format.specs.Tree.{Tree, Trees, no_trees, member, join_members}
use Rattle.spa_format.specs.Writable.{HasNul, IsTooLarge}
use Rattle.spa_format.proofs.Encodings.{member_encodings-join}
use Rattle.std.proofs.Math.Seq.{take-append_seam}
use Rattle.std.proofs.lemmas.List.{length-take-le, take-append-drop, nil_from_length}
use Rattle.spa_text_commands.specs.Extent.{BeginsText, column_behind, line_behind}
use Rattle.spa_text_forms.specs.Forms.{IsTextAs, IsTextAsItStands}
use Rattle.spa_text_forms.specs.declared.form.Form.{Form}
use Rattle.spa_text_forms.specs.declared.form.Form.TheVariants.{Named}
use Rattle.spa_text_read.specs.declared.fitting.Strictness.{Strictness}
use Rattle.spa_text_commands.specs.Texts.{BeginTexts, HasNoPod, IsRefusedAt, ReadsTexts, RefusesTexts, blank_line, nothing_read, one_text, pods_in}
use Rattle.spa_value.specs.View.{view}
use Rattle.spa_text_commands.specs.Hexadecimal.{behind_line, first_line}
use Rattle.spa_text_commands.specs.Unread.{AddsText, AreUnwritable, IsFor, IsFound, IsNoPod, IsNoText}
use Rattle.spa_text_commands.specs.declared.reading.Found.{Found}
use Rattle.spa_text_commands.specs.declared.reading.Found.TheVariants as found
use Rattle.spa_text_commands.specs.declared.answer.Failure.{Failure}
use Rattle.spa_text_commands.specs.declared.answer.Failure.TheVariants.{Line, OutOfMemory}
use Rattle.spa_text_commands.specs.declared.reading.Unread.{Unread}
use Rattle.spa_text_commands.specs.declared.reading.Unread.TheVariants as unread
use Rattle.spa_text_read.specs.declared.cause.Cause.{Cause}
use Rattle.spa_text_read.specs.declared.cause.Cause.TheVariants as cause
use Rattle.spa_text_commands.proofs.Extents.{some_item, text_fits, whole_of}
use Rattle.spa_text_commands.proofs.WholeLines.{line_begins}

-- ---- Values

-- how far the loop over texts is: the values of some first ones are encoded, and this is left
pub record ReadSoFar (f : Form) (input left pods : List ℕ) : Type 0 where
  pub values : Trees
  pub before : List ℕ
  pub whole : input ≡ before ++ left
  pub texts : BeginTexts f input values left
  pub made : pods ≡ member_encodings values

pub begins : (f : Form) (input pods : List ℕ) → pods ≡ [] → ReadSoFar f input input pods
begins f input pods e = record { values = no_trees; before = []; whole = refl; texts = nothing_read; made = e }

pub encodings_push : (vs : Trees) (v : Tree) → member_encodings (join_members vs (member v no_trees)) ≡ member_encodings vs ++ encoding_of v
encodings_push vs v = member_encodings-join vs (member v no_trees) ∙ ap (λ l. member_encodings vs ++ l) (append-nil (encoding_of v))

more_made : (vs ws : Trees) (pods more : List ℕ) → pods ≡ member_encodings vs → more ≡ pods ++ member_encodings ws →
    more ≡ member_encodings (join_members vs ws)
more_made vs ws pods more e m = m ∙ ap (λ l. l ++ member_encodings ws) e ∙ sym (member_encodings-join vs ws)

-- what stands before what is left, with one text more
passed : (input before left text behind : List ℕ) → input ≡ before ++ left → BeginsText left text behind → (more : List ℕ) × (input ≡ more ++ behind)
passed input before left text [] whole b = (input, sym (append-nil input))
passed input before left text (y ∷ ys) whole b = (
  before ++ (text ++ 10 ∷ []),
  whole
      ∙ ap (λ l. before ++ l) (whole_of left text (y ∷ ys) b (some_item y ys) ∙ sym (append_assoc text (10 ∷ []) (y ∷ ys)))
      ∙ sym (append_assoc before (text ++ 10 ∷ []) (y ∷ ys)),
)

pub goes_on : (f : Form) (input left text behind pods more : List ℕ) → ReadSoFar f input left pods → BeginsText left text behind →
    AddsText f text pods more → ReadSoFar f input behind more
goes_on f input left text behind pods more so b (inl k) =
    let p = passed input so.before left text behind so.whole b in
    record { values = so.values; before = p.0; whole = p.1; texts = blank_line so.values left text behind so.texts b k.0; made = k.1 ∙ so.made }
goes_on f input left text behind pods more so b (inr k) =
    let p = passed input so.before left text behind so.whole b in
    record {
      values = join_members so.values (pods_in f k.0);
      before = p.0;
      whole = p.1;
      texts = one_text so.values k.0 left text behind so.texts b k.1;
      made = more_made so.values (pods_in f k.0) pods more so.made k.2;
    }

whole_length : (f : Form) (input left pods : List ℕ) (so : ReadSoFar f input left pods) → length input ≡ length so.before + length left
whole_length f input left pods so = ap length so.whole ∙ length-append so.before left

pub left_fits : (f : Form) (input left pods : List ℕ) → ReadSoFar f input left pods → length left ≤ length input
left_fits f input left pods so = let l = whole_length f input left pods so in omega (arith, l)

-- lines can be counted
pub counted : (f : Form) (input left text behind pods : List ℕ) (line : ℕ) → ReadSoFar f input left pods → BeginsText left text behind →
    line ≤ 1 + length (take (length input - length left) input) → line + length text ≤ length input + 1
counted f input left text behind pods line so b bound =
    let l = left_fits f input left pods so in
    let t = text_fits left text behind b in
    let k = length-take-le (length input - length left) input (omega arith) in
    omega (arith, l, t, k, bound)

-- what stands before what is left
before_is : (f : Form) (input left pods : List ℕ) (so : ReadSoFar f input left pods) → take (length input - length left) input ≡ so.before
before_is f input left pods so =
    let l = whole_length f input left pods so in
    let n : length input - length left ≡ length so.before = omega (arith, l) in
    ap (λ k. take k input) n ∙ ap (λ l. take (length so.before) l) so.whole ∙ take-append_seam so.before left

pub ends : (f : Form) (input left pods : List ℕ) → ReadSoFar f input left pods → length left ≡ 0 → ReadsTexts f input pods
ends f input left pods so e = (so.values, subst (BeginTexts f input so.values) (nil_from_length left e) so.texts, so.made)

-- ---- Refusals

pub refused_at : (f : Form) (text part : List ℕ) (k first line column : ℕ) → HasNoPod f text → part ≡ take k text → line ≡ line_behind first part →
    column ≡ column_behind 1 part → IsRefusedAt f text first line column
refused_at f text part k first line column none cut l c = record {
  against = none;
  part = part;
  rest = drop k text;
  cut = sym (ap (λ p. p ++ drop k text) cut ∙ take-append-drop k text);
  its_line = l;
  its_column = c;
}

pub not_read : (f : Form) (input left text behind pods : List ℕ) (line : ℕ) (why : Failure) → ReadSoFar f input left pods → BeginsText left text behind →
    line ≡ line_behind 1 (take (length input - length left) input) → IsNoText f text line why → RefusesTexts f input why
not_read f input left text behind pods line (Line l c k w p m) so b is h = record {
  values = so.values;
  before = so.before;
  left = left;
  whole = so.whole;
  texts = so.texts;
  text = text;
  others = behind;
  begins = b;
  refused = subst (λ n. IsRefusedAt f text n l c) (is ∙ ap (line_behind 1) (before_is f input left pods so)) h;
}
not_read f input left text behind pods line OutOfMemory so b is h = tt
not_read f input left text behind pods line _ so b is h = absurd h

-- ---- Why a text has no pod

-- of a struct that was read member by member
pub struct_added : (s : Strictness) (text old new : List ℕ) → ((v : Tree) × IsTextAsItStands s v text × (new ≡ old ++ encoding_of v)) →
    (v : Tree) × IsTextAs (Named s) v text × (new ≡ old ++ member_encodings (pods_in (Named s) v))
struct_added s text old new a = (a.0, inl a.1, a.2 ∙ ap (λ l. old ++ l) (sym (append-nil (encoding_of a.0))))

-- a refusal that memory isn't the cause of
pub is_for : (f : Form) (line : List ℕ) (u : Unread) → HasNoPod f line → IsFor u → IsNoPod f line u
is_for f line unread.OutOfMemory h w = tt
is_for f line (unread.For kind words offset path misfit) h w = h

pub no_value : (f : Form) (line text : List ℕ) (c : Cause) → text ≡ line → (c ≢ cause.OutOfMemory → (v : Tree) → ¬ (IsTextAs f v text)) →
    c ≢ cause.OutOfMemory → HasNoPod f line
no_value f line text c e h w = inr (inl (λ v t. h w v (subst (IsTextAs f v) (sym e) t)))

-- ---- What has no pod

-- a value that isn't written, for another reason than want of memory
pub one_unwritable : (v : Tree) (u : Unread) → HasNul v ⊎ IsTooLarge v → AreUnwritable (member v no_trees) u
one_unwritable v unread.OutOfMemory h = tt
one_unwritable v (unread.For kind words offset path misfit) h = inl h

-- ---- The first line

-- where the first line was read, it is the first text
pub found_begins : (f : Form) (left line others old new : List ℕ) (found : Found) → line ≡ first_line left → others ≡ behind_line left →
    IsFound f line found old new → left ≢ [] → BeginsText left line others
found_begins f left line others old new found.Added l o (inl a) some = line_begins f left line others l o (inl a.0) some
found_begins f left line others old new found.Added l o (inr a) some = line_begins f left line others l o (inr (a.0, a.1)) some
found_begins f left line others old new (found.Value v) l o a some = line_begins f left line others l o (inr (view v, a.0)) some
