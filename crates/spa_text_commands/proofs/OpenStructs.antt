-- Structs that are read member by member: which are open, and what their ends make of them.
use Rattle.std.proofs.Common.{◌≡◌, ◌≢◌, ℕ, ◌+◌, ◌≤◌, Bool, true, false, List, [], ◌∷◌, ◌++◌, length, take, reverse, refl, sym, ap, ◌∙◌, subst, arith, append_assoc, append-nil, length-append}
use Rattle.std.proofs.lemmas.List.{length-reverse, reverse-append}
use Rattle.std.specs.Borrow.{Bor}
use Rattle.std.specs.Prelude.{Some, codes}
use Rattle.std.proofs.Math.Seq.{take-append_seam}
use Rattle.json.specs.Json.{after_end_array}
use Rattle.json.specs.Lex.{tokens}
use Rattle.json.specs.Reads.{token_of}
use Rattle.json.specs.Token.{Token}
use Rattle.json.specs.declared.token.Token as Rust
use Rattle.json.specs.declared.token.Token.TheVariants as rust
use Rattle.spa_format.specs.Encoding.{encoding_of, member_encodings}
use Rattle.spa_format.specs.Tree.{Tree, struct, struct_type, Trees, no_trees, member, join_members}
use Rattle.spa_format.specs.Words.{header_size, word_bytes}
use Rattle.spa_format.proofs.Encodings.{two_words_length, whole_members}
use Rattle.spa_format.proofs.Sequences.{join_members-none}
use Rattle.spa_text_read.specs.Fitting.{Admits}
use Rattle.spa_text_read.specs.Grammar.{AreMembers, ReadsAs, a_struct, begun, close, nothing, opens, tag_named, tagged_at}
use Rattle.spa_text_read.specs.Tokens.{after_end_object, first_key, head}
use Rattle.spa_text_read.specs.declared.fitting.Strictness.{Strictness}
use Rattle.spa_text_read.specs.declared.tag.Tag.TheVariants as tag
use Rattle.spa_text_read.specs.declared.fitting.Strictness.TheVariants.{Plain, Strict}
use Rattle.spa_text_read.proofs.Completeness.{join_one}
use Rattle.spa_text_read.proofs.Strictly.{all_one}
use Rattle.spa_text_forms.specs.Forms.{IsTextAsItStands}
use Rattle.spa_write.specs.Nesting.{closed_at}
use Rattle.spa_write.proofs.Nesting.{closed_whole}
use Rattle.spa_text_commands.specs.Structs.{AddsFront, BeginsStruct, EndsStruct, IsLonger}
use Rattle.spa_text_commands.specs.declared.structs.Open.{Open}
use Rattle.spa_text_commands.proofs.ReadTexts.{encodings_push}
use Rattle.spa_text.proofs.Listed.{not_ended}

-- ---- Tokens

-- a value ended within these structs, the innermost first, of which these members are read: what follows it are the others of each, and these
-- make this value of the whole
abbrev pub Ends : List Open → List Trees → Tree → List Token → Tree → List Token → Type 0
Ends [] [] w ts v rest = (w ≡ v) × (ts ≡ rest)
Ends (o ∷ k) (vs ∷ fs) w ts v rest =
    (ws : Trees) × (us : List Token) × (xs : List Token) × AreMembers ws ts us × (close o.braced us ≡ Some xs)
    × Ends k fs (struct (join_members vs (member w ws))) xs v rest
Ends _ _ w ts v rest = ⊥

-- where other members follow in the innermost, and so on, the whole reads as one value; nothing was read where none is open
abbrev pub Leads : List Token → List Open → List Trees → List Token → Type 0
Leads all [] [] ts = ts ≡ all
Leads all (o ∷ k) (vs ∷ fs) ts =
    (v : Tree) (rest : List Token) (ws : Trees) (us xs : List Token) → AreMembers ws ts us → close o.braced us ≡ Some xs →
    Ends k fs (struct (join_members vs ws)) xs v rest → ReadsAs nothing v all rest
Leads all _ _ ts = ⊥

-- ---- Bytes

-- the bytes end with the headers of these structs, each before the pods of its members
abbrev pub AreMade : Strictness → List ℕ → List Open → List Trees → List ℕ → Type 0
AreMade s base [] [] out = out ≡ base
AreMade s base (o ∷ k) (vs ∷ fs) out =
    (front : List ℕ) × AreMade s base k fs front × (o.start ≡ length front) × Admits s (struct vs)
    × (out ≡ front ++ ((word_bytes 0 ++ word_bytes struct_type) ++ member_encodings vs))
AreMade s base _ _ out = ⊥

-- ---- Both

-- these structs are open, the innermost first
pub record IsIn (s : Strictness) (all : List Token) (base : List ℕ) (opens : List Open) (ts : List Token) (out : List ℕ) : Type 0 where
  pub frames : List Trees
  pub leads : Leads all opens frames ts
  pub made : AreMade s base opens frames out

-- or the outermost has ended
abbrev pub IsBehind : Strictness → List Token → List ℕ → List Open → List Token → List ℕ → Type 0
IsBehind s all base [] ts out = AddsFront s all ts base out
IsBehind s all base (o ∷ k) ts out = IsIn s all base (o ∷ k) ts out

admits_more : (s : Strictness) (vs : Trees) (v : Tree) → Admits s (struct vs) → Admits s v → Admits s (struct (join_members vs (member v no_trees)))
admits_more Plain vs v a w = tt
admits_more Strict vs v a w = all_one vs v a w

admits_none : (s : Strictness) → Admits s (struct no_trees)
admits_none Plain = tt
admits_none Strict = tt

-- the pod of one more member
made_more : (front out new : List ℕ) (vs : Trees) (v : Tree) → out ≡ front ++ ((word_bytes 0 ++ word_bytes struct_type) ++ member_encodings vs) →
    new ≡ out ++ encoding_of v →
    new ≡ front ++ ((word_bytes 0 ++ word_bytes struct_type) ++ member_encodings (join_members vs (member v no_trees)))
made_more front out new vs v e n =
    let h = word_bytes 0 ++ word_bytes struct_type in
    n ∙ ap (λ l. l ++ encoding_of v) e ∙ append_assoc front (h ++ member_encodings vs) (encoding_of v)
    ∙ ap (λ l. front ++ l) (append_assoc h (member_encodings vs) (encoding_of v) ∙ ap (λ l. h ++ l) (sym (encodings_push vs v)))

-- a member is read
pub member_read : (s : Strictness) (all ts us : List Token) (base out new : List ℕ) (o : Open) (k : List Open) → IsIn s all base (o ∷ k) ts out →
    AddsFront s ts us out new → IsIn s all base (o ∷ k) us new
member_read s all ts us base out new o k so a = by_frames so.frames so.leads so.made
  where
    by_frames : (fs : List Trees) → Leads all (o ∷ k) fs ts → AreMade s base (o ∷ k) fs out → IsIn s all base (o ∷ k) us new
    by_frames [] l m = absurd m
    by_frames (vs ∷ fs) l m = record {
      frames = join_members vs (member a.0 no_trees) ∷ fs;
      leads = λ w rest ws ls xs ms c e.
          l w rest (member a.0 ws) ls xs (a.1.0, a.1.1, us, not_ended ts (a.1.0, a.1.1) a.1.2, a.1.2, a.1.3, ms) c
          (subst (λ x. Ends k fs (struct x) xs w rest) (join_one vs a.0 ws) e);
      made = (m.0, m.1, m.2, admits_more s vs a.0 m.3 a.2, made_more m.0 out new vs a.0 m.4 a.3);
    }

-- a struct begins
pub struct_begun : (s : Strictness) (all ts us : List Token) (base out new : List ℕ) (o : Open) (k : List Open) → IsIn s all base k ts out →
    BeginsStruct o.braced ts us → o.start ≡ length out → new ≡ out ++ (word_bytes 0 ++ word_bytes struct_type) → IsIn s all base (o ∷ k) us new
struct_begun s all ts us base out new o k so b start n = by_opens k so.frames so.leads so.made
  where
    by_opens : (k : List Open) (fs : List Trees) → Leads all k fs ts → AreMade s base k fs out → IsIn s all base (o ∷ k) us new
    by_opens [] [] l m = record {
      frames = no_trees ∷ [];
      leads = λ v rest ws ls xs ms c e.
          subst (λ r. ReadsAs nothing v all r) e.1
          (subst (λ w. ReadsAs nothing w all xs) e.0
          (subst (λ t. ReadsAs nothing (struct ws) t xs) l (b.0, b.1, b.2, (o.braced, us, ls, b.3, ms, c))));
      made = (out, m, start, admits_none s, n ∙ ap (λ l. out ++ l) (sym (append-nil (word_bytes 0 ++ word_bytes struct_type))));
    }
    by_opens [] (vs ∷ fs) l m = absurd m
    by_opens (p ∷ k) [] l m = absurd m
    by_opens (p ∷ k) (vs ∷ fs) l m = record {
      frames = no_trees ∷ vs ∷ fs;
      leads = λ v rest ws ls xs ms c e.
          l v rest (member (struct ws) e.0) e.1 e.2
          (b.0, b.1, xs, not_ended ts (b.0, b.1) b.2, b.2, (o.braced, us, ls, b.3, ms, c), e.3) e.4 e.5;
      made = (out, m, start, admits_none s, n ∙ ap (λ l. out ++ l) (sym (append-nil (word_bytes 0 ++ word_bytes struct_type))));
    }

-- the innermost ends
pub struct_ended : (s : Strictness) (all ts us : List Token) (base out new : List ℕ) (o : Open) (k : List Open) → IsIn s all base (o ∷ k) ts out →
    EndsStruct o.braced ts us →
    new ≡ closed_at o.start out → IsBehind s all base k us new
struct_ended s all ts us base out new o k so b n = by_opens k so.frames so.leads so.made
  where
    closed : (vs : Trees) (front : List ℕ) → o.start ≡ length front →
        out ≡ front ++ ((word_bytes 0 ++ word_bytes struct_type) ++ member_encodings vs) → new ≡ front ++ encoding_of (struct vs)
    closed vs front e m = n ∙ closed_whole front out (member_encodings vs) struct_type o.start e m (whole_members vs)

    by_opens : (k : List Open) (fs : List Trees) → Leads all (o ∷ k) fs ts → AreMade s base (o ∷ k) fs out → IsBehind s all base k us new
    by_opens k [] l m = absurd m
    by_opens [] (vs ∷ []) l m = (
      struct vs,
      l (struct vs) us no_trees b.0 us b.1 b.2 (ap struct (join_members-none vs), refl),
      m.3,
      closed vs m.0 m.2 m.4 ∙ ap (λ x. x ++ encoding_of (struct vs)) m.1,
    )
    by_opens [] (vs ∷ ws ∷ fs) l m = absurd m.1
    by_opens (p ∷ k) (vs ∷ []) l m = absurd m.1
    by_opens (p ∷ k) (vs ∷ ws ∷ fs) l m = record {
      frames = join_members ws (member (struct vs) no_trees) ∷ fs;
      leads = λ v rest xs ls ys ms c e.
          l v rest no_trees b.0 us b.1 b.2 (
            xs,
            ls,
            ys,
            ms,
            c,
            subst (λ t. Ends k fs (struct (join_members ws (member (struct t) xs))) ys v rest) (sym (join_members-none vs))
                (subst (λ t. Ends k fs (struct t) ys v rest) (join_one ws (struct vs) xs) e),
          );
      made = (
        m.1.0,
        m.1.1,
        m.1.2,
        admits_more s ws (struct vs) m.1.3 m.3,
        made_more m.1.0 m.0 new ws (struct vs) m.1.4 (closed vs m.0 m.2 m.4),
      );
    }

-- ---- The list of those that are open, the outermost first

pub last_first : (items all : List Open) (o : Open) → all ≡ items ++ o ∷ [] → reverse all ≡ o ∷ reverse items
last_first items all o e = ap reverse e ∙ reverse-append items (o ∷ [])

pub begins_in : (s : Strictness) (all ts us : List Token) (base out new : List ℕ) (items now : List Open) (o : Open) →
    IsIn s all base (reverse items) ts out → BeginsStruct o.braced ts us → o.start ≡ length out →
    new ≡ out ++ (word_bytes 0 ++ word_bytes struct_type) → now ≡ items ++ o ∷ [] → IsIn s all base (reverse now) us new
begins_in s all ts us base out new items now o so b start n e =
    subst (λ k. IsIn s all base k us new) (sym (last_first items now o e)) (struct_begun s all ts us base out new o (reverse items) so b start n)

pub innermost_in : (s : Strictness) (all ts : List Token) (base out : List ℕ) (items left : List Open) (o : Open) →
    IsIn s all base (reverse items) ts out → items ≡ left ++ o ∷ [] → IsIn s all base (o ∷ reverse left) ts out
innermost_in s all ts base out items left o so e = subst (λ k. IsIn s all base k ts out) (last_first left items o e) so

pub first_in : (s : Strictness) (all ts us : List Token) (base out new : List ℕ) (items : List Open) → length items ≢ 0 →
    IsIn s all base (reverse items) ts out → AddsFront s ts us out new → IsIn s all base (reverse items) us new
first_in s all ts us base out new items some so a = by_opens (reverse items) refl so
  where
    by_opens : (k : List Open) → reverse items ≡ k → IsIn s all base k ts out → IsIn s all base k us new
    by_opens [] e h = absurd (some (sym (length-reverse items) ∙ ap length e))
    by_opens (o ∷ k) e h = member_read s all ts us base out new o k h a

pub goes_on_in : (s : Strictness) (all us : List Token) (base new : List ℕ) (items : List Open) → length items ≢ 0 →
    IsBehind s all base (reverse items) us new → IsIn s all base (reverse items) us new
goes_on_in s all us base new items some so = by_opens (reverse items) refl so
  where
    by_opens : (k : List Open) → reverse items ≡ k → IsBehind s all base k us new → IsIn s all base k us new
    by_opens [] e h = absurd (some (sym (length-reverse items) ∙ ap length e))
    by_opens (o ∷ k) e h = h

pub moved : (s : Strictness) (all ts ts' : List Token) (base out out' : List ℕ) (items items' : List Open) → items' ≡ items → ts' ≡ ts → out' ≡ out →
    IsIn s all base (reverse items) ts out → IsIn s all base (reverse items') ts' out'
moved s all ts ts' base out out' items items' i t o so =
    subst (λ l. IsIn s all base (reverse l) ts' out') (sym i)
    (subst (λ l. IsIn s all base (reverse items) l out') (sym t) (subst (λ l. IsIn s all base (reverse items) ts l) (sym o) so))

pub all_ended : (s : Strictness) (all us : List Token) (base new : List ℕ) (items : List Open) → length items ≡ 0 →
    IsBehind s all base (reverse items) us new → AddsFront s all us base new
all_ended s all us base new [] e so = so
all_ended s all us base new (o ∷ items) e so = absurd (grind arith)

-- the header of the innermost stands in the bytes
pub has_header : (s : Strictness) (all ts : List Token) (base out : List ℕ) (o : Open) (k : List Open) → IsIn s all base (o ∷ k) ts out →
    o.start + header_size ≤ length out
has_header s all ts base out o k so = by_frames so.frames so.made
  where
    by_frames : (fs : List Trees) → AreMade s base (o ∷ k) fs out → o.start + header_size ≤ length out
    by_frames [] m = absurd m
    by_frames (vs ∷ fs) m =
        let l = ap length m.4 ∙ length-append m.0 ((word_bytes 0 ++ word_bytes struct_type) ++ member_encodings vs) in
        let h = length-append (word_bytes 0 ++ word_bytes struct_type) (member_encodings vs) in
        let two = two_words_length 0 struct_type in
        let start = m.2 in
        omega (arith, l, h, two, start)

pub ends_in : (s : Strictness) (all ts us : List Token) (base out new : List ℕ) (items left : List Open) (o : Open) →
    IsIn s all base (reverse items) ts out → items ≡ left ++ o ∷ [] → EndsStruct o.braced ts us → new ≡ closed_at o.start out →
    IsBehind s all base (reverse left) us new
ends_in s all ts us base out new items left o so e b n =
    struct_ended s all ts us base out new o (reverse left) (innermost_in s all ts base out items left o so e) b n

pub header_in : (s : Strictness) (all ts : List Token) (base out : List ℕ) (items left : List Open) (o : Open) →
    IsIn s all base (reverse items) ts out → items ≡ left ++ o ∷ [] → o.start + header_size ≤ length out
header_in s all ts base out items left o so e = has_header s all ts base out o (reverse left) (innermost_in s all ts base out items left o so e)

-- the bytes before all of them are as they were
pub is_longer : (s : Strictness) (base : List ℕ) (opens : List Open) (fs : List Trees) (out : List ℕ) → AreMade s base opens fs out → IsLonger base out
is_longer s base [] [] out m = ([], m ∙ sym (append-nil base))
is_longer s base (o ∷ k) (vs ∷ fs) out m =
    let r = is_longer s base k fs m.0 m.1 in
    let more = (word_bytes 0 ++ word_bytes struct_type) ++ member_encodings vs in
    (r.0 ++ more, m.4 ∙ ap (λ l. l ++ more) r.1 ∙ append_assoc base r.0 more)
is_longer s base _ _ out m = absurd m

pub in_longer : (s : Strictness) (all ts : List Token) (base out : List ℕ) (opens : List Open) → IsIn s all base opens ts out → IsLonger base out
in_longer s all ts base out opens so = is_longer s base opens so.frames out so.made

pub in_longer_on : (s : Strictness) (all ts : List Token) (base out new : List ℕ) (opens : List Open) → IsIn s all base opens ts out →
    IsLonger out new → IsLonger base new
in_longer_on s all ts base out new opens so b =
    let a = in_longer s all ts base out opens so in (a.0 ++ b.0, b.1 ∙ ap (λ l. l ++ b.0) a.1 ∙ append_assoc base a.0 b.0)

pub in_longer_same : (s : Strictness) (all ts : List Token) (base out new : List ℕ) (opens : List Open) → IsIn s all base opens ts out →
    new ≡ out → IsLonger base new
in_longer_same s all ts base out new opens so e = subst (IsLonger base) (sym e) (in_longer s all ts base out opens so)

pub same_longer : (old new : List ℕ) → new ≡ old → IsLonger old new
same_longer old new e = ([], e ∙ sym (append-nil old))

pub appended_longer : (old new more : List ℕ) → new ≡ old ++ more → IsLonger old new
appended_longer old new more e = (more, e)

-- the whole is read
pub whole : (s : Strictness) (text : List ℕ) (all us : List Token) (base out : List ℕ) → all ≡ tokens text → us ≡ [] → AddsFront s all us base out →
    (v : Tree) × IsTextAsItStands s v text × (out ≡ base ++ encoding_of v)
whole s text all us base out e n a =
    (a.0, (subst (λ ts. ReadsAs nothing a.0 ts []) e (subst (λ l. ReadsAs nothing a.0 all l) n a.1), a.2), a.3)

-- what was appended is cut off
pub cut_back : (base out now : List ℕ) (n : ℕ) → IsLonger base out → n ≡ length base → now ≡ take n out → now ≡ base
cut_back base out now n l e t = t ∙ ap (λ m. take m out) e ∙ ap (take (length base)) l.1 ∙ take-append_seam base l.0

-- ---- Tokens of brackets

pub bare_begun : (b : Bool) (t : Rust.Token) (ts us : List Token) → b ≡ false → t ≡ rust.BeginArray → ts ≡ token_of t ∷ us → BeginsStruct b ts us
unfolding opens
bare_begun b t ts us f e h =
    (Token.begin_array, us, ap head (h ∙ ap (λ x. token_of x ∷ us) e), ap (λ c. Some (begun (a_struct c), us)) (sym f))

pub braced_begun : (b : Bool) (ts us : List Token) → b ≡ true → BeginsStruct true ts us → BeginsStruct b ts us
braced_begun b ts us e h = subst (λ c. BeginsStruct c ts us) (sym e) h

pub tagged_begun : (o k a : Rust.Token) (key : Bor (List ℕ)) (ts us vs ws : List Token) → o ≡ rust.BeginObject → ts ≡ token_of o ∷ us →
    k ≡ rust.Key key → us ≡ token_of k ∷ vs → key.now ≡ codes "struct" → a ≡ rust.BeginArray → vs ≡ token_of a ∷ ws → BeginsStruct true ts ws
unfolding opens
tagged_begun o k a key ts us vs ws oe th ke uh n ae vh =
    let v : vs ≡ Token.begin_array ∷ ws = vh ∙ ap (λ x. token_of x ∷ ws) ae in
    let u : us ≡ Token.key key.now ∷ vs = uh ∙ ap (λ x. token_of x ∷ vs) ke in
    let t : ts ≡ Token.begin_object ∷ us = th ∙ ap (λ x. token_of x ∷ us) oe in (
      Token.key key.now,
      vs,
      ap head t ∙ ap first_key u,
      ap (λ s. tagged_at nothing (tag_named s) vs) n ∙ ap (tagged_at nothing tag.Struct) v,
    )

pub bare_ended : (b : Bool) (t : Rust.Token) (ts us : List Token) → b ≡ false → t ≡ rust.EndArray → ts ≡ token_of t ∷ us → EndsStruct b ts us
bare_ended b t ts us f e h = (us, ap after_end_array (h ∙ ap (λ x. token_of x ∷ us) e), ap (λ c. close c us) f)

pub tagged_ended : (b : Bool) (t o : Rust.Token) (ts ws us : List Token) → b ≡ true → t ≡ rust.EndArray → ts ≡ token_of t ∷ ws →
    o ≡ rust.EndObject → ws ≡ token_of o ∷ us → EndsStruct b ts us
tagged_ended b t o ts ws us f e h oe w =
    (ws, ap after_end_array (h ∙ ap (λ x. token_of x ∷ ws) e), ap (λ c. close c ws) f ∙ ap after_end_object (w ∙ ap (λ x. token_of x ∷ us) oe))
