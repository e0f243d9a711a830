-- What the steps come to is what the tokens read as.
use Rattle.std.proofs.Common.{◌≡◌, ℕ, List, [], ◌∷◌, ◌++◌, Bool, true, false, refl, sym, ap, ◌∙◌, subst, append_assoc}
use Rattle.std.proofs.lemmas.List.{append-nil}
use Rattle.std.proofs.lemmas.Option.{same_Some, none-some}
use Rattle.std.specs.Prelude.{Option, Some, None, option_map, if◌then◌else◌}
use Rattle.json.specs.Token.{Token}
use Rattle.json.specs.Json.{after_end_array, read_key}
use Rattle.spa_format.specs.Kind.{Kind, none_kind, Fixed, kind_of}
use Rattle.spa_format.specs.Tree.{Shape, none_choice, range_choice, step_choice, enum_choice, flags_choice, Tree, fixed, array, choice, struct, object, Trees, no_trees, member, Properties, no_properties, property, join_members, join_properties}
use Rattle.spa_format.proofs.Sequences.{join_members-none, join_properties-none}
use Rattle.spa_value.specs.Equality.{kind_eq}
use Rattle.spa_names.specs.declared.entry.Expected.{Expected}
use Rattle.spa_names.specs.declared.table.Table.{Table}
use Rattle.spa_text_read.specs.Names.{keys_of, expected_under}
use Rattle.spa_text_read.specs.Options.{◌>>=◌, and_then}
use Rattle.spa_text_read.specs.Tokens.{after_end_object, head}
use Rattle.spa_text_read.specs.Grammar.{Leaf, a_number, a_text, some_bytes, a_bitmap, a_pointer, tree, Opening, Opened, opens, leaf, begun, an_array, a_choice, a_struct, an_object, close, choice_of, chosen, element, key_number, property_at, ReadsValue, ReadsAs, AreElements, AreMembers, AreProperties}
use Rattle.spa_text_read.specs.Steps.{Frame, in_struct, in_array, in_choice, in_object, frame, Runs, stops, finishes, goes_on, Step, refused, done, goes, Follows, step, Next, ended, wants, expects, ends, value_of, element_of, next, next_item, next_property, give, give_ended, after_next, after_opening, after_put, put, started, ComesTo}
use Rattle.spa_text_read.proofs.Completeness.{join_one, join_one_property}

-- ---- Options

abbrev pub given : {A : Type 0} → A → Option A → A
given d None = d
given d (Some x) = x

-- where the second of two steps gave something, so did the first
pub bound : {A B : Type 0} (o : Option A) (f : A → Option B) (y : B) → (o >>= f) ≡ Some y → (x : A) × (o ≡ Some x) × (f x ≡ Some y)
bound None f y e = absurd (none-some y e)
bound (Some x) f y e = (x, refl, e)

pub mapped : {A B : Type 0} (o : Option A) (f : A → B) (y : B) → option_map f o ≡ Some y → (x : A) × (o ≡ Some x) × (f x ≡ y)
mapped None f y e = absurd (none-some y e)
mapped (Some x) f y e = (x, refl, same_Some (f x) y e)

-- ---- Frames

-- what is left of the frame reads as what makes this value of it, and this follows
abbrev FrameReads : Frame → List Token → Tree → List Token → Type 0
FrameReads (in_struct b before) ts v rest =
    (vs : Trees) × (ws : List Token) × AreMembers vs ts ws × (close b ws ≡ Some rest) × (struct (join_members before vs) ≡ v)
FrameReads (in_array t q before) ts v rest =
    (xs : List Fixed) × (ws : List Token) × AreElements (element t q) q xs ts ws × (after_end_object ws ≡ Some rest) × (array q (before ++ xs) ≡ v)
FrameReads (in_choice s f t q before) ts v rest =
    (xs : List Fixed) × (ws : List Token) × AreElements (element t q) q xs ts ws × (after_end_object ws ≡ Some rest) × (choice_of s f q (before ++ xs) ≡ Some v)
FrameReads (in_object t i before k f b) ts v rest =
    (ps : Properties) × (ws : List Token) × AreProperties (keys_of t) ps ts ws × (after_end_object ws ≡ Some rest)
    × (object t i (join_properties before ps) ≡ v)

-- a value is read within these frames, and what is left of them reads as what makes this value of all
abbrev StackReads : List Frame → Tree → List Token → Tree → List Token → Type 0
StackReads [] v ts w rest = (v ≡ w) × (ts ≡ rest)
StackReads (f ∷ k) v ts w rest =
    (g : Frame) × (us : List Token) × (x : Tree) × (vs : List Token) × (put f v ts ≡ Some (g, us)) × FrameReads g us x vs × StackReads k x vs w rest

-- what a step leads to, where it is read
abbrev StepReads : Step → Tree → List Token → Type 0
StepReads refused w rest = ⊥
StepReads (done v ts) w rest = (v ≡ w) × (ts ≡ rest)
StepReads (goes f k ts) w rest = (x : Tree) × (us : List Token) × FrameReads f ts x us × StackReads k x us w rest

-- after a value was read
given_reads : (v : Tree) (k : List Frame) (ts : List Token) (w : Tree) (rest : List Token) → StepReads (give v k ts) w rest → StackReads k v ts w rest
given_reads v [] ts w rest h = h
given_reads v (f ∷ k) ts w rest h = put_reads (put f v ts) refl h
  where
    put_reads : (o : Option (Frame × List Token)) → put f v ts ≡ o → StepReads (after_put k o) w rest → StackReads (f ∷ k) v ts w rest
    put_reads None e h = absurd h
    put_reads (Some p) e h = (p.0, p.1, h.0, h.1, e, h.2, h.3)

chosen_is : (s : Shape) (f : ℕ) (q : Kind) (xs : List Fixed) (v : Tree) → chosen s f q xs ≡ Some v →
    (x : Fixed) × (ys : List Fixed) × (xs ≡ x ∷ ys) × (v ≡ choice s f q x ys)
chosen_is none_choice f q (x ∷ []) v e = (x, [], refl, sym (same_Some _ _ e))
chosen_is range_choice f q (x ∷ a ∷ b ∷ []) v e = (x, a ∷ b ∷ [], refl, sym (same_Some _ _ e))
chosen_is step_choice f q (x ∷ a ∷ b ∷ c ∷ []) v e = (x, a ∷ b ∷ c ∷ [], refl, sym (same_Some _ _ e))
chosen_is enum_choice f q (x ∷ xs) v e = (x, xs, refl, sym (same_Some _ _ e))
chosen_is flags_choice f q (x ∷ xs) v e = (x, xs, refl, sym (same_Some _ _ e))
chosen_is _ f q _ v e = absurd (none-some v e)

pub choice_is : (s : Shape) (f : ℕ) (q : Kind) (xs : List Fixed) (v : Tree) → choice_of s f q xs ≡ Some v →
    (x : Fixed) × (ys : List Fixed) × (xs ≡ x ∷ ys) × (v ≡ choice s f q x ys)
choice_is s f q xs v e = tested (kind_eq q none_kind) e
  where
    tested : (b : Bool) → (if b then None else chosen s f q xs) ≡ Some v →
        (x : Fixed) × (ys : List Fixed) × (xs ≡ x ∷ ys) × (v ≡ choice s f q x ys)
    tested true d = absurd (none-some v d)
    tested false d = chosen_is s f q xs v d

-- what is opened reads as what is left of it makes of it
opened_reads : (o : Opening) (c : Expected) (h : Token) (ts us rest : List Token) (v : Tree) → opens c h ts ≡ Some (begun o, us) →
    FrameReads (frame o) us v rest → ReadsValue c v h ts rest
opened_reads (a_struct b) c h ts us rest v e r = subst (λ x. ReadsValue c x h ts rest) r.4 (b, us, r.1, e, r.2, r.3)
opened_reads (an_array t q) c h ts us rest v e r = subst (λ x. ReadsValue c x h ts rest) r.4 (t, us, r.1, e, r.2, r.3)
opened_reads (an_object t i) c h ts us rest v e r = subst (λ x. ReadsValue c x h ts rest) r.4 (us, r.1, e, r.2, r.3)
opened_reads (a_choice s f t q) c h ts us rest v e r =
    let i = choice_is s f q r.0 v r.4 in
    let w = choice s f q i.0 i.1 in
    subst (λ x. ReadsValue c x h ts rest) (sym i.3) (
      t,
      us,
      r.1,
      e,
      subst (λ xs. AreElements (element t q) q xs us r.1) i.2 r.2,
      subst (λ xs. choice_of s f q xs ≡ Some w) i.2 (r.4 ∙ ap Some i.3),
      r.3,
    )

leaf_reads : (l : Leaf) (c : Expected) (h : Token) (ts us : List Token) → opens c h ts ≡ Some (leaf l, us) → ReadsValue c (tree l) h ts us
leaf_reads (a_number x) c h ts us e = e
leaf_reads (a_text x) c h ts us e = e
leaf_reads (some_bytes x) c h ts us e = e
leaf_reads (a_bitmap x) c h ts us e = e
leaf_reads (a_pointer t a) c h ts us e = e

-- ---- What is next in a frame

abbrev pub frame_in : Frame → Next → Frame
frame_in d ended = d
frame_in d (wants g c h) = g

abbrev expected_in : Expected → Next → Expected
expected_in d ended = d
expected_in d (wants g c h) = c

abbrev token_in : Token → Next → Token
token_in d ended = d
token_in d (wants g c h) = h

pub ended≢wants : (g : Frame) (c : Expected) (h : Token) → ended ≡ wants g c h → ⊥
ended≢wants g c h e = cc

-- an item is next
pub record IsItem (f : Frame) (ts : List Token) (o : Option (List Token)) (g : Frame) (c : Expected) (h : Token) (us : List Token) : Type 0 where
  pub none : o ≡ None
  pub first : head ts ≡ Some (h, us)
  pub same : f ≡ g
  pub wanted : expects f ≡ c

pub item_back : (f : Frame) (ts : List Token) (o : Option (List Token)) (g : Frame) (c : Expected) (h : Token) (us : List Token) →
    next_item f ts o ≡ Some (wants g c h, us) → IsItem f ts o g c h us
item_back f ts (Some ws) g c h us e =
    let m = mapped (ends f ws) (λ vs. (ended, vs)) (wants g c h, us) e in absurd (ended≢wants g c h (ap (λ p. p.0) m.2))
item_back f ts None g c h us e =
    let m = mapped (head ts) (λ p. (wants f (expects f) p.0, p.1)) (wants g c h, us) e in
    record {
      none = refl;
      first = m.1 ∙ ap (λ p. Some (token_in h p.0, p.1)) m.2;
      same = ap (λ p. frame_in f p.0) m.2;
      wanted = ap (λ p. expected_in c p.0) m.2;
    }

-- the bracket is next
bracket_back : (f : Frame) (ts : List Token) (o : Option (List Token)) (us : List Token) → next_item f ts o ≡ Some (ended, us) →
    (ws : List Token) × (o ≡ Some ws) × (ends f ws ≡ Some us)
bracket_back f ts (Some ws) us e =
    let m = mapped (ends f ws) (λ vs. (ended, vs)) (ended, us) e in (ws, refl, m.1 ∙ ap (λ p. Some p.1) m.2)
bracket_back f ts None us e =
    let m = mapped (head ts) (λ p. (wants f (expects f) p.0, p.1)) (ended, us) e in
    absurd (ended≢wants f (expects f) m.0.0 (sym (ap (λ p. p.0) m.2)))

pub element_is : (q : Kind) (v : Tree) (x : Fixed) → element_of q v ≡ Some x → (v ≡ fixed x) × (kind_eq (kind_of x) q ≡ true)
element_is q (fixed y) x e = tested (kind_eq (kind_of y) q) refl e
  where
    tested : (b : Bool) → kind_eq (kind_of y) q ≡ b → (if b then Some y else None) ≡ Some x → (fixed y ≡ fixed x) × (kind_eq (kind_of x) q ≡ true)
    tested true k d = let s = same_Some y x d in (ap fixed s, subst (λ z. kind_eq (kind_of z) q ≡ true) s k)
    tested false k d = absurd (none-some x d)
element_is q _ x e = absurd (none-some x e)

-- ---- A step back: a value is read, and then the frame reads on

struct_back : (b : Bool) (before : Trees) (ts us ws xs rest : List Token) (g to : Frame) (c : Expected) (h : Token) (v x : Tree) →
    next (in_struct b before) ts ≡ Some (wants g c h, us) → ReadsValue c v h us ws → put g v ws ≡ Some (to, xs) → FrameReads to xs x rest →
    FrameReads (in_struct b before) ts x rest
unfolding next
struct_back b before ts us ws xs rest g to c h v x n r p e =
    let i = item_back (in_struct b before) ts (after_end_array ts) g c h us n in
    let grown = in_struct b (join_members before (member v no_trees)) in
    let q = same_Some (grown, ws) (to, xs) (subst (λ f. put f v ws ≡ Some (to, xs)) (sym i.same) p) in
    let d = subst (λ y. FrameReads y.0 y.1 x rest) (sym q) e in
    let m : AreMembers (member v d.0) ts d.1 = (h, us, ws, i.none, i.first, subst (λ y. ReadsValue y v h us ws) (sym i.wanted) r, d.2) in
    (member v d.0, d.1, m, d.3, ap struct (sym (join_one before v d.0)) ∙ d.4)

array_back : (t : Table) (k : Kind) (before : List Fixed) (ts us ws xs rest : List Token) (g to : Frame) (c : Expected) (h : Token) (v x : Tree) →
    next (in_array t k before) ts ≡ Some (wants g c h, us) → ReadsValue c v h us ws → put g v ws ≡ Some (to, xs) → FrameReads to xs x rest →
    FrameReads (in_array t k before) ts x rest
unfolding next
array_back t k before ts us ws xs rest g to c h v x n r p e =
    let i = item_back (in_array t k before) ts (after_end_array ts) g c h us n in
    let added = λ (y : Fixed). in_array t k (before ++ y ∷ []) in
    let q = put_in (option_map added (element_of k v)) (subst (λ f. put f v ws ≡ Some (to, xs)) (sym i.same) p) in
    let m = mapped (element_of k v) added to q.0 in
    let is = element_is k v m.0 m.1 in
    let d : FrameReads (added m.0) ws x rest = subst (λ l. FrameReads (added m.0) l x rest) q.1 (subst (λ f. FrameReads f xs x rest) (sym m.2) e) in
    let o = subst (λ y. ReadsValue y (fixed m.0) h us ws) (sym i.wanted) (subst (λ y. ReadsValue c y h us ws) is.0 r) in
    (m.0 ∷ d.0, d.1, (h, us, ws, i.none, i.first, o, is.1, d.2), d.3, ap (array k) (sym (append_assoc before (m.0 ∷ []) d.0)) ∙ d.4)
  where
    put_in : (o : Option Frame) → and_then ws o ≡ Some (to, xs) → (o ≡ Some to) × (xs ≡ ws)
    put_in None e = absurd (none-some (to, xs) e)
    put_in (Some f) e = (ap (λ (y : Option (Frame × List Token)). Some (given {A = Frame × List Token} (f, ws) y).0) e, sym (ap (λ (y : Option (Frame × List Token)). (given {A = Frame × List Token} (f, ws) y).1) e))

choice_back : (s : Shape) (n : ℕ) (t : Table) (k : Kind) (before : List Fixed) (ts us ws xs rest : List Token) (g to : Frame) (c : Expected)
    (h : Token) (v x : Tree) → next (in_choice s n t k before) ts ≡ Some (wants g c h, us) → ReadsValue c v h us ws →
    put g v ws ≡ Some (to, xs) → FrameReads to xs x rest → FrameReads (in_choice s n t k before) ts x rest
unfolding next
choice_back s n t k before ts us ws xs rest g to c h v x a r p e =
    let i = item_back (in_choice s n t k before) ts (after_end_array ts) g c h us a in
    let added = λ (y : Fixed). in_choice s n t k (before ++ y ∷ []) in
    let q = put_in (option_map added (element_of k v)) (subst (λ f. put f v ws ≡ Some (to, xs)) (sym i.same) p) in
    let m = mapped (element_of k v) added to q.0 in
    let is = element_is k v m.0 m.1 in
    let d : FrameReads (added m.0) ws x rest = subst (λ l. FrameReads (added m.0) l x rest) q.1 (subst (λ f. FrameReads f xs x rest) (sym m.2) e) in
    let o = subst (λ y. ReadsValue y (fixed m.0) h us ws) (sym i.wanted) (subst (λ y. ReadsValue c y h us ws) is.0 r) in
    (m.0 ∷ d.0, d.1, (h, us, ws, i.none, i.first, o, is.1, d.2), d.3, ap (choice_of s n k) (sym (append_assoc before (m.0 ∷ []) d.0)) ∙ d.4)
  where
    put_in : (o : Option Frame) → and_then ws o ≡ Some (to, xs) → (o ≡ Some to) × (xs ≡ ws)
    put_in None e = absurd (none-some (to, xs) e)
    put_in (Some f) e = (ap (λ (y : Option (Frame × List Token)). Some (given {A = Frame × List Token} (f, ws) y).0) e, sym (ap (λ (y : Option (Frame × List Token)). (given {A = Frame × List Token} (f, ws) y).1) e))

object_back : (t i : ℕ) (before : Properties) (k f : ℕ) (b : Bool) (ts us ws xs rest : List Token) (g to : Frame) (c : Expected)
    (h : Token) (v x : Tree) → next (in_object t i before k f b) ts ≡ Some (wants g c h, us) → ReadsValue c v h us ws →
    put g v ws ≡ Some (to, xs) → FrameReads to xs x rest → FrameReads (in_object t i before k f b) ts x rest
unfolding next
object_back t i before k f b ts us ws xs rest g to c h v x n r p e =
    let m = bound (read_key ts) (next_property t i before) (wants g c h, us) n in property_back m.0.0 m.0.1 m.1 m.2
  where
    property_back : (o : Option (List ℕ)) (ls : List Token) → read_key ts ≡ Some (o, ls) →
        next_property t i before (o, ls) ≡ Some (wants g c h, us) → FrameReads (in_object t i before k f b) ts x rest
    property_back None ls a q =
        let m = mapped (after_end_object ls) (λ vs. (ended, vs)) (wants g c h, us) q in absurd (ended≢wants g c h (ap (λ p. p.0) m.2))
    property_back (Some name) ls a q =
        let keys = keys_of t in
        let m = bound (key_number keys name) (λ l. property_at ls >>= (λ p. Some (wants (in_object t i before l p.0.0 p.0.1.0) (expected_under keys l) p.0.1.1, p.1))) (wants g c h, us) q in
        let l = bound (property_at ls) (λ p. Some (wants (in_object t i before m.0 p.0.0 p.0.1.0) (expected_under keys m.0) p.0.1.1, p.1)) (wants g c h, us) m.2 in
        let flags = l.0.0.0 in
        let braced = l.0.0.1.0 in
        let w = same_Some (wants (in_object t i before m.0 flags braced) (expected_under keys m.0) l.0.0.1.1, l.0.1) (wants g c h, us) l.2 in
        let same : in_object t i before m.0 flags braced ≡ g = ap (λ y. frame_in g y.0) w in
        let grown : List Token → Frame × List Token = λ zs. (in_object t i (join_properties before (property m.0 flags v no_properties)) m.0 flags braced, zs) in
        let z = mapped (close braced ws) grown (to, xs) (subst (λ y. put y v ws ≡ Some (to, xs)) (sym same) p) in
        let d = subst (λ y. FrameReads y.0 y.1 x rest) (sym z.2) e in
        let reads : ReadsValue (expected_under keys m.0) v h us ws = subst (λ y. ReadsValue y v h us ws) (sym (ap (λ y. expected_in c y.0) w)) r in
        let at : property_at ls ≡ Some ((flags, (braced, h)), us) =
        l.1 ∙ ap (λ y. Some ((flags, (braced, token_in h y.0)), y.1)) w in
        let all : AreProperties keys (property m.0 flags v d.0) ts d.1 = (name, ls, braced, h, us, ws, z.0, a, m.1, at, reads, z.1, d.2) in
        (property m.0 flags v d.0, d.1, all, d.3, ap (object t i) (sym (join_one_property before m.0 flags v d.0)) ∙ d.4)

frame_back : (f : Frame) (ts us ws xs rest : List Token) (g to : Frame) (c : Expected) (h : Token) (v x : Tree) →
    next f ts ≡ Some (wants g c h, us) → ReadsValue c v h us ws → put g v ws ≡ Some (to, xs) → FrameReads to xs x rest → FrameReads f ts x rest
frame_back (in_struct b before) = struct_back b before
frame_back (in_array t k before) = array_back t k before
frame_back (in_choice s n t k before) = choice_back s n t k before
frame_back (in_object t i before k f b) = object_back t i before k f b

-- a frame has ended
ended_reads : (f : Frame) (ts us : List Token) (v : Tree) → next f ts ≡ Some (ended, us) → value_of f ≡ Some v → FrameReads f ts v us
unfolding next
ended_reads (in_struct b before) ts us v n e =
    let m = bracket_back (in_struct b before) ts (after_end_array ts) us n in
    (no_trees, m.0, m.1, m.2, ap struct (join_members-none before) ∙ same_Some (struct before) v e)
ended_reads (in_array t k before) ts us v n e =
    let m = bracket_back (in_array t k before) ts (after_end_array ts) us n in
    ([], m.0, m.1, m.2, ap (array k) (append-nil before) ∙ same_Some (array k before) v e)
ended_reads (in_choice s f t k before) ts us v n e =
    let m = bracket_back (in_choice s f t k before) ts (after_end_array ts) us n in
    ([], m.0, m.1, m.2, ap (choice_of s f k) (append-nil before) ∙ e)
ended_reads (in_object t i before k f b) ts us v n e =
    let m = bound (read_key ts) (next_property t i before) (ended, us) n in brace_back m.0.0 m.0.1 m.1 m.2
  where
    brace_back : (o : Option (List ℕ)) (ls : List Token) → read_key ts ≡ Some (o, ls) → next_property t i before (o, ls) ≡ Some (ended, us) →
        FrameReads (in_object t i before k f b) ts v us
    brace_back None ls a q =
        let m = mapped (after_end_object ls) (λ vs. (ended, vs)) (ended, us) q in
        (no_properties, ls, a, m.1 ∙ ap (λ p. Some p.1) m.2, ap (object t i) (join_properties-none before) ∙ same_Some (object t i before) v e)
    brace_back (Some name) ls a q =
        let keys = keys_of t in
        let m = bound (key_number keys name) (λ l. property_at ls >>= (λ p. Some (wants (in_object t i before l p.0.0 p.0.1.0) (expected_under keys l) p.0.1.1, p.1))) (ended, us) q in
        let l = bound (property_at ls) (λ p. Some (wants (in_object t i before m.0 p.0.0 p.0.1.0) (expected_under keys m.0) p.0.1.1, p.1)) (ended, us) m.2 in
        let w = same_Some (wants (in_object t i before m.0 l.0.0.0 l.0.0.1.0) (expected_under keys m.0) l.0.0.1.1, l.0.1) (ended, us) l.2 in
        absurd (ended≢wants (in_object t i before m.0 l.0.0.0 l.0.0.1.0) (expected_under keys m.0) l.0.0.1.1 (sym (ap (λ y. y.0) w)))

-- the next step reads, and so do the frames before it
step_back : (f : Frame) (k : List Frame) (ts : List Token) (w : Tree) (rest : List Token) → StepReads (step f k ts) w rest →
    StepReads (goes f k ts) w rest
unfolding step
step_back f k ts w rest s = by_next (next f ts) refl s
  where
    by_opening : (g : Frame) (c : Expected) (h : Token) (us : List Token) → next f ts ≡ Some (wants g c h, us) →
        (o : Option (Opened × List Token)) → opens c h us ≡ o → StepReads (after_opening (g ∷ k) o) w rest → StepReads (goes f k ts) w rest
    by_opening g c h us n None e s = absurd s
    by_opening g c h us n (Some (leaf l, ws)) e s =
        let d = given_reads (tree l) (g ∷ k) ws w rest s in
        (d.2, d.3, frame_back f ts us ws d.1 d.3 g d.0 c h (tree l) d.2 n (leaf_reads l c h us ws e) d.4 d.5, d.6)
    by_opening g c h us n (Some (begun o, ws)) e s =
        let d = s.3 in
        (d.2, d.3, frame_back f ts us s.1 d.1 d.3 g d.0 c h s.0 d.2 n (opened_reads o c h us ws s.1 s.0 e s.2) d.4 d.5, d.6)

    by_value : (us : List Token) → next f ts ≡ Some (ended, us) → (o : Option Tree) → value_of f ≡ o → StepReads (give_ended o k us) w rest →
        StepReads (goes f k ts) w rest
    by_value us n None e s = absurd s
    by_value us n (Some v) e s = (v, us, ended_reads f ts us v n e, given_reads v k us w rest s)

    by_next : (o : Option (Next × List Token)) → next f ts ≡ o → StepReads (after_next f k o) w rest → StepReads (goes f k ts) w rest
    by_next None n s = absurd s
    by_next (Some (ended, us)) n s = by_value us n (value_of f) refl s
    by_next (Some (wants g c h, us)) n s = by_opening g c h us n (opens c h us) refl s

sound_run : (f : Frame) (k : List Frame) (ts : List Token) (r : Option (Tree × List Token)) → Runs f k ts r → (w : Tree) (rest : List Token) →
    r ≡ Some (w, rest) → StepReads (goes f k ts) w rest
sound_run f k ts _ (stops e) w rest q = absurd (none-some (w, rest) q)
sound_run f k ts _ (finishes {us = us} {v = v} e) w rest q =
    let p = same_Some (v, us) (w, rest) q in
    step_back f k ts w rest (subst (λ s. StepReads s w rest) (sym e) (ap (λ y. y.0) p, ap (λ y. y.1) p))
sound_run f k ts r (goes_on {g = g} {l = l} {us = us} e h) w rest q =
    step_back f k ts w rest (subst (λ s. StepReads s w rest) (sym e) (sound_run g l us r h w rest q))

follows_reads : (s : Step) (w : Tree) (rest : List Token) → Follows s (Some (w, rest)) → StepReads s w rest
follows_reads refused w rest h = absurd (none-some (w, rest) (sym h))
follows_reads (done v ts) w rest h =
    let p = same_Some (w, rest) (v, ts) h in (sym (ap (λ y. y.0) p), sym (ap (λ y. y.1) p))
follows_reads (goes f k ts) w rest h = sound_run f k ts (Some (w, rest)) h w rest refl

-- what the steps come to is what the tokens read as
pub reads_as : (c : Expected) (v : Tree) (ts rest : List Token) → ComesTo c ts (Some (v, rest)) → ReadsAs c v ts rest
reads_as c v ts rest h = by_head (head ts) refl h
  where
    by_opening : (p : Token × List Token) → head ts ≡ Some p → (o : Option (Opened × List Token)) → opens c p.0 p.1 ≡ o →
        StepReads (after_opening [] o) v rest → ReadsAs c v ts rest
    by_opening p e None q s = absurd s
    by_opening p e (Some (leaf l, ws)) q s =
        (p.0, p.1, e, subst (λ l. ReadsValue c v p.0 p.1 l) s.1 (subst (λ x. ReadsValue c x p.0 p.1 ws) s.0 (leaf_reads l c p.0 p.1 ws q)))
    by_opening p e (Some (begun o, ws)) q s =
        (p.0, p.1, e, subst (λ l. ReadsValue c v p.0 p.1 l) s.3.1 (subst (λ x. ReadsValue c x p.0 p.1 s.1) s.3.0 (opened_reads o c p.0 p.1 ws s.1 s.0 q s.2)))

    by_head : (o : Option (Token × List Token)) → head ts ≡ o → Follows (started c o) (Some (v, rest)) → ReadsAs c v ts rest
    by_head None e s = absurd (none-some (v, rest) (sym s))
    by_head (Some p) e s = by_opening p e (opens c p.0 p.1) refl (follows_reads (after_opening [] (opens c p.0 p.1)) v rest s)
