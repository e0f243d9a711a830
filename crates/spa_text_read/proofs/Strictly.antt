-- What is read strictly fits, and of what is refused for a type no value does.
use Rattle.std.proofs.Common.{◌≡◌, ◌≢◌, ℕ, suc, ◌-◌, List, [], ◌∷◌, Bool, true, arith, length, refl, sym, ap, ◌∙◌, subst}
use Rattle.std.proofs.lemmas.Option.{same_Some, none-some}
use Rattle.std.specs.Prelude.{slice_get}
use Rattle.std.specs.Prelude.{IfErr, Option, Some, None, Result, Ok, Err, ⊤}
use Rattle.json.specs.Token.{Token}
use Rattle.json.specs.Json.{after_end_array, read_key}
use Rattle.spa_format.specs.Tree.{Tree, array, struct, object, Trees, no_trees, member, Properties, no_properties, property, join_members, join_properties}
use Rattle.spa_names.specs.declared.entry.Expected.{Expected}
use Rattle.spa_text_read.specs.Names.{keys_of, expected_under}
use Rattle.spa_text_read.specs.Options.{◌>>=◌, and_then}
use Rattle.spa_text_read.specs.Tokens.{after_end_object, head}
use Rattle.spa_value.proofs.ViewLaws.{view-fields}
use Rattle.spa_value.specs.View.{object_view, view}
use Rattle.spa_value.specs.Views.{property_views}
use Rattle.spa_value.specs.declared.object.Object.{Object, out-Object}
use Rattle.spa_value.specs.declared.object.Property.{Property}
use Rattle.spa_value.specs.declared.value.Value.{Value}
use Rattle.spa_text_read.specs.Begun.{stack_of}
use Rattle.spa_text_read.specs.Fitting.{Admits, AllFit, Fits, PropertiesFit, fits_under, full, full_type}
use Rattle.spa_text_read.specs.FramesFit.{AdmitsFrames, AdmitsLast, AdmitsNone, FrameFits, StackFits, last_fits}
use Rattle.spa_text_read.specs.Grammar.{Leaf, a_number, a_text, some_bytes, a_bitmap, a_pointer, tree, Opening, Opened, opens, leaf, begun, an_array, a_choice, a_struct, an_object, key_number, property_at, close, nothing, ReadsAs}
use Rattle.spa_text_read.specs.Seen.{IsFresh, frame_of, opening_of}
use Rattle.spa_text_read.specs.Steps.{Frame, in_struct, in_array, in_choice, in_object, frame, Runs, stops, finishes, goes_on, Step, refused, done, goes, Follows, step, Next, ended, wants, value_of, element_of, next, next_property, give, give_ended, after_next, after_opening, after_put, put, started, ComesTo}
use Rattle.spa_text_read.specs.declared.cause.Cause.TheVariants as cause
use Rattle.spa_text_read.specs.declared.error.TextError.{TextError}
use Rattle.spa_text_read.specs.declared.fitting.Strictness.{Strictness}
use Rattle.spa_text_read.specs.declared.fitting.Strictness.TheVariants.{Plain, Strict}
use Rattle.spa_text_read.specs.declared.inside.Inside.{Inside}
use Rattle.spa_text_read.proofs.Completeness.{comes_to, to_step}
use Rattle.spa_text_read.proofs.Nesting.{Leads, leads_on, opened_begun, reads_none}
use Rattle.spa_text_read.proofs.Soundness.{bound, choice_is, element_is, ended≢wants, frame_in, item_back, mapped}

-- the type of an object
pub object_full : (o : Object) → full_type (object_view o) ≡ full (out-Object o).type_ 0
object_full o = ap full_type (view-fields o)

-- the last property of a list
pub last_is : (t : ℕ) (ps : List Property) (p : Property) → Some p ≡ slice_get ps (length ps - 1) →
    last_fits t (property_views ps) ≡ fits_under t p.key (view p.value)
last_is t [] p e = absurd (none-some p (sym e))
last_is t (q ∷ []) p e = ap (λ x. fits_under t x.key (view x.value)) (sym (same_Some p q e))
last_is t (q ∷ r ∷ ps) p e =
    let next : length (q ∷ r ∷ ps) - 1 ≡ suc (length (r ∷ ps) - 1) = omega arith in
    last_is t (r ∷ ps) p (e ∙ ap (slice_get (q ∷ r ∷ ps)) next)

-- ---- One more member, and one more property

pub all_one : (vs : Trees) (v : Tree) → AllFit vs → Fits v → AllFit (join_members vs (member v no_trees))
all_one no_trees v a w = (w, tt)
all_one (member u vs) v a w = (a.0, all_one vs v a.1 w)

all_back : (vs : Trees) (v : Tree) → AllFit (join_members vs (member v no_trees)) → AllFit vs × Fits v
all_back no_trees v a = (tt, a.0)
all_back (member u vs) v a = let r = all_back vs v a.1 in ((a.0, r.0), r.1)

last_more : (t j g : ℕ) (u : Tree) (ps : Properties) (k f : ℕ) (v : Tree) →
    last_fits t (property j g u (join_properties ps (property k f v no_properties))) ≡ last_fits t (join_properties ps (property k f v no_properties))
last_more t j g u no_properties k f v = refl
last_more t j g u (property _ _ _ _) k f v = refl

properties_one : (t : ℕ) (ps : Properties) (k f : ℕ) (v : Tree) → PropertiesFit t ps → Fits v →
    last_fits t (join_properties ps (property k f v no_properties)) ≡ true → PropertiesFit t (join_properties ps (property k f v no_properties))
properties_one t no_properties k f v a w e = (e, w, tt)
properties_one t (property j g u ps) k f v a w e =
    (a.0, a.1, properties_one t ps k f v a.2 w (sym (last_more t j g u ps k f v) ∙ e))

properties_back : (t : ℕ) (ps : Properties) (k f : ℕ) (v : Tree) → PropertiesFit t (join_properties ps (property k f v no_properties)) →
    PropertiesFit t ps × Fits v
properties_back t no_properties k f v a = (tt, a.1)
properties_back t (property j g u ps) k f v a = let r = properties_back t ps k f v a.2 in ((a.0, a.1, r.0), r.1)

last_of : (t : ℕ) (ps : Properties) → PropertiesFit t ps → last_fits t ps ≡ true
last_of t no_properties a = refl
last_of t (property k f v no_properties) a = a.0
last_of t (property k f v (property j g u ps)) a = last_of t (property j g u ps) a.2

frame_last : (f : Frame) → FrameFits f → AdmitsLast Strict f
frame_last (in_struct b vs) a = tt
frame_last (in_array t k xs) a = tt
frame_last (in_choice s f t k xs) a = tt
frame_last (in_object t i ps k f b) a = last_of t ps a

-- ---- A value is put into a frame, and made of one

added_frame : (o : Option Frame) (ts : List Token) (p : Frame × List Token) → and_then ts o ≡ Some p → o ≡ Some p.0
added_frame None ts p e = absurd (none-some p e)
added_frame (Some f) ts p e = ap (λ q. Some q.0) (same_Some (f, ts) p e)

put_fits : (a g : Frame) (v : Tree) (ts us : List Token) → put a v ts ≡ Some (g, us) → FrameFits a → Fits v → AdmitsLast Strict g → FrameFits g
put_fits (in_struct b vs) g v ts us e a w l =
    subst (λ p. FrameFits p.0) (same_Some (in_struct b (join_members vs (member v no_trees)), ts) (g, us) e) (all_one vs v a w)
put_fits (in_array t k xs) g v ts us e a w l =
    subst FrameFits (mapped (element_of k v) _ g (added_frame _ ts (g, us) e)).2 tt
put_fits (in_choice s f t k xs) g v ts us e a w l =
    subst FrameFits (mapped (element_of k v) _ g (added_frame _ ts (g, us) e)).2 tt
put_fits (in_object t i ps k f b) g v ts us e a w l =
    let m = mapped (close b ts) _ (g, us) e in
    let same = ap (λ p. p.0) m.2 in
    subst FrameFits same (properties_one t ps k f v a w (subst (AdmitsLast Strict) (sym same) l))

put_back : (a g : Frame) (v : Tree) (ts us : List Token) → put a v ts ≡ Some (g, us) → FrameFits g → FrameFits a × Fits v
put_back (in_struct b vs) g v ts us e h =
    all_back vs v (subst (λ p. FrameFits p.0) (sym (same_Some (in_struct b (join_members vs (member v no_trees)), ts) (g, us) e)) h)
put_back (in_array t k xs) g v ts us e h =
    let m = mapped (element_of k v) _ g (added_frame _ ts (g, us) e) in (tt, subst Fits (sym (element_is k v m.0 m.1).0) tt)
put_back (in_choice s f t k xs) g v ts us e h =
    let m = mapped (element_of k v) _ g (added_frame _ ts (g, us) e) in (tt, subst Fits (sym (element_is k v m.0 m.1).0) tt)
put_back (in_object t i ps k f b) g v ts us e h =
    let m = mapped (close b ts) _ (g, us) e in
    properties_back t ps k f v (subst FrameFits (sym (ap (λ p. p.0) m.2)) h)

value_fits : (f : Frame) (v : Tree) → value_of f ≡ Some v → FrameFits f → Fits v
value_fits (in_struct b vs) v e a = subst Fits (same_Some (struct vs) v e) a
value_fits (in_array t k xs) v e a = subst Fits (same_Some (array k xs) v e) tt
value_fits (in_choice s f t k xs) v e a = subst Fits (sym (choice_is s f k xs v e).3) tt
value_fits (in_object t i ps k f b) v e a = subst Fits (same_Some (object t i ps) v e) a

value_back : (f : Frame) (v : Tree) → value_of f ≡ Some v → Fits v → FrameFits f
value_back (in_struct b vs) v e w = subst Fits (sym (same_Some (struct vs) v e)) w
value_back (in_array t k xs) v e w = tt
value_back (in_choice s f t k xs) v e w = tt
value_back (in_object t i ps k f b) v e w = subst Fits (sym (same_Some (object t i ps) v e)) w

-- ---- What is opened, and what is next

leaf_fits : (l : Leaf) → Fits (tree l)
leaf_fits (a_number x) = tt
leaf_fits (a_text s) = tt
leaf_fits (some_bytes s) = tt
leaf_fits (a_bitmap s) = tt
leaf_fits (a_pointer t a) = tt

fresh_fits : (o : Opening) → FrameFits (frame o)
fresh_fits (a_struct b) = tt
fresh_fits (an_array t k) = tt
fresh_fits (a_choice s f t k) = tt
fresh_fits (an_object t i) = tt

-- the object in which a property is next, but for the key and flags
object_next : (t i : ℕ) (before : Properties) (k f : ℕ) (b : Bool) (ts us : List Token) (g : Frame) (c : Expected) (h : Token) →
    next (in_object t i before k f b) ts ≡ Some (wants g c h, us) → (j n : ℕ) × (d : Bool) × (in_object t i before j n d ≡ g)
unfolding next
object_next t i before k f b ts us g c h n =
    let m = bound (read_key ts) (next_property t i before) (wants g c h, us) n in by_key m.0.0 m.0.1 m.2
  where
    by_key : (o : Option (List ℕ)) (ls : List Token) → next_property t i before (o, ls) ≡ Some (wants g c h, us) →
        (j n : ℕ) × (d : Bool) × (in_object t i before j n d ≡ g)
    by_key None ls q =
        let m = mapped (after_end_object ls) (λ vs. (ended, vs)) (wants g c h, us) q in absurd (ended≢wants g c h (ap (λ p. p.0) m.2))
    by_key (Some name) ls q =
        let keys = keys_of t in
        let m = bound (key_number keys name) (λ l. property_at ls >>= (λ p. Some (wants (in_object t i before l p.0.0 p.0.1.0) (expected_under keys l) p.0.1.1, p.1))) (wants g c h, us) q in
        let l = bound (property_at ls) (λ p. Some (wants (in_object t i before m.0 p.0.0 p.0.1.0) (expected_under keys m.0) p.0.1.1, p.1)) (wants g c h, us) m.2 in
        let w = same_Some (wants (in_object t i before m.0 l.0.0.0 l.0.0.1.0) (expected_under keys m.0) l.0.0.1.1, l.0.1) (wants g c h, us) l.2 in
        (m.0, l.0.0.0, l.0.0.1.0, ap (λ y. frame_in g y.0) w)

next_fits : (f g : Frame) (c : Expected) (h : Token) (ts us : List Token) → next f ts ≡ Some (wants g c h, us) → FrameFits f → FrameFits g
unfolding next
next_fits (in_struct b vs) g c h ts us n a = subst FrameFits (item_back (in_struct b vs) ts (after_end_array ts) g c h us n).same a
next_fits (in_array t k xs) g c h ts us n a = subst FrameFits (item_back (in_array t k xs) ts (after_end_array ts) g c h us n).same tt
next_fits (in_choice s f t k xs) g c h ts us n a = subst FrameFits (item_back (in_choice s f t k xs) ts (after_end_array ts) g c h us n).same tt
next_fits (in_object t i ps k f b) g c h ts us n a = subst FrameFits (object_next t i ps k f b ts us g c h n).3 a

next_back : (f g : Frame) (c : Expected) (h : Token) (ts us : List Token) → next f ts ≡ Some (wants g c h, us) → FrameFits g → FrameFits f
unfolding next
next_back (in_struct b vs) g c h ts us n a = subst FrameFits (sym (item_back (in_struct b vs) ts (after_end_array ts) g c h us n).same) a
next_back (in_array t k xs) g c h ts us n a = tt
next_back (in_choice s f t k xs) g c h ts us n a = tt
next_back (in_object t i ps k f b) g c h ts us n a = subst FrameFits (sym (object_next t i ps k f b ts us g c h n).3) a

-- ---- A step on: what it leads to fits, where the last property does

abbrev Onward : Step → Type 0
Onward refused = ⊤
Onward (done v ts) = Fits v
Onward (goes g l us) = AdmitsLast Strict g → FrameFits g × StackFits l

given_on : (v : Tree) (k : List Frame) (ts : List Token) → Fits v → StackFits k → Onward (give v k ts)
given_on v [] ts w s = w
given_on v (a ∷ k) ts w s = put_on (put a v ts) refl
  where
    put_on : (o : Option (Frame × List Token)) → put a v ts ≡ o → Onward (after_put k o)
    put_on None e = tt
    put_on (Some p) e = λ l. (put_fits a p.0 v ts p.1 e s.0 w l, s.1)

onward : (f : Frame) (k : List Frame) (ts : List Token) → FrameFits f → StackFits k → Onward (step f k ts)
unfolding step
onward f k ts a s = by_next (next f ts) refl
  where
    by_opening : (g : Frame) (c : Expected) (h : Token) (us : List Token) → next f ts ≡ Some (wants g c h, us) →
        (o : Option (Opened × List Token)) → Onward (after_opening (g ∷ k) o)
    by_opening g c h us n None = tt
    by_opening g c h us n (Some (leaf l, ws)) = given_on (tree l) (g ∷ k) ws (leaf_fits l) (next_fits f g c h ts us n a, s)
    by_opening g c h us n (Some (begun o, ws)) = λ l. (fresh_fits o, (next_fits f g c h ts us n a, s))

    by_value : (us : List Token) (o : Option Tree) → value_of f ≡ o → Onward (give_ended o k us)
    by_value us None e = tt
    by_value us (Some v) e = given_on v k us (value_fits f v e a) s

    by_next : (o : Option (Next × List Token)) → next f ts ≡ o → Onward (after_next f k o)
    by_next None n = tt
    by_next (Some (ended, us)) n = by_value us (value_of f) refl
    by_next (Some (wants g c h, us)) n = by_opening g c h us n (opens c h us)

-- ---- A step back: where what it leads to fits, so did the frames before it

abbrev StepFits : Step → Type 0
StepFits refused = ⊥
StepFits (done v ts) = Fits v
StepFits (goes f k ts) = FrameFits f × StackFits k

given_back : (v : Tree) (k : List Frame) (ts : List Token) → StepFits (give v k ts) → Fits v × StackFits k
given_back v [] ts h = (h, tt)
given_back v (a ∷ k) ts h = from_put (put a v ts) refl h
  where
    from_put : (o : Option (Frame × List Token)) → put a v ts ≡ o → StepFits (after_put k o) → Fits v × StackFits (a ∷ k)
    from_put None e h = absurd h
    from_put (Some p) e h = let r = put_back a p.0 v ts p.1 e h.0 in (r.1, (r.0, h.1))

step_back : (f : Frame) (k : List Frame) (ts : List Token) → StepFits (step f k ts) → FrameFits f × StackFits k
unfolding step
step_back f k ts h = by_next (next f ts) refl h
  where
    by_opening : (g : Frame) (c : Expected) (h : Token) (us : List Token) → next f ts ≡ Some (wants g c h, us) →
        (o : Option (Opened × List Token)) → StepFits (after_opening (g ∷ k) o) → FrameFits f × StackFits k
    by_opening g c h us n None s = absurd s
    by_opening g c h us n (Some (leaf l, ws)) s =
        let r = given_back (tree l) (g ∷ k) ws s in (next_back f g c h ts us n r.1.0, r.1.1)
    by_opening g c h us n (Some (begun o, ws)) s = (next_back f g c h ts us n s.1.0, s.1.1)

    by_value : (us : List Token) (o : Option Tree) → value_of f ≡ o → StepFits (give_ended o k us) → FrameFits f × StackFits k
    by_value us None e s = absurd s
    by_value us (Some v) e s = let r = given_back v k us s in (value_back f v e r.0, r.1)

    by_next : (o : Option (Next × List Token)) → next f ts ≡ o → StepFits (after_next f k o) → FrameFits f × StackFits k
    by_next None n s = absurd s
    by_next (Some (ended, us)) n s = by_value us (value_of f) refl s
    by_next (Some (wants g c h, us)) n s = by_opening g c h us n (opens c h us) s

run_back : (f : Frame) (k : List Frame) (ts : List Token) (r : Option (Tree × List Token)) → Runs f k ts r → (w : Tree) (rest : List Token) →
    r ≡ Some (w, rest) → Fits w → FrameFits f × StackFits k
run_back f k ts _ (stops e) w rest q a = absurd (none-some (w, rest) q)
run_back f k ts _ (finishes {us = us} {v = v} e) w rest q a =
    step_back f k ts (subst StepFits (sym e) (subst Fits (sym (ap (λ y. y.0) (same_Some (v, us) (w, rest) q))) a))
run_back f k ts r (goes_on {g = g} {l = l} {us = us} e h) w rest q a =
    step_back f k ts (subst StepFits (sym e) (run_back g l us r h w rest q a))

-- ---- The whole

-- these frames are what the whole has come to, and admitted
pub Comes : List Token → Frame → List Frame → List Token → Type 0
Comes all f k ts = (r : Option (Tree × List Token)) → ComesTo nothing all r → Runs f k ts r

pub record IsReading (s : Strictness) (all : List Token) (f : Frame) (k : List Frame) (ts : List Token) : Type 0 where
  pub leads : Leads all f k ts
  pub comes : Comes all f k ts
  pub admitted : AdmitsFrames s f k

begun_comes : (ts us ws : List Token) (h : Token) (i : Inside) → head ts ≡ Some (h, us) →
    opens nothing h us ≡ Some (begun (opening_of i), ws) → IsFresh i → Comes ts (frame_of i) [] ws
unfolding Comes
begun_comes ts us ws h i e d l r s =
    subst (λ x. Runs x [] ws r) (sym l) (subst (λ x. Follows (after_opening [] x) r) d (subst (λ x. Follows (started nothing x) r) e s))

fresh_admitted : (s : Strictness) (i : Inside) → IsFresh i → AdmitsFrames s (frame_of i) []
fresh_admitted Plain i l = tt
fresh_admitted Strict i l = (subst FrameFits (sym l) (fresh_fits (opening_of i)), tt)

pub begun_reading : (s : Strictness) (ts us ws : List Token) (h : Token) (i : Inside) (outer : List Inside) → head ts ≡ Some (h, us) →
    opens nothing h us ≡ Some (begun (opening_of i), ws) → IsFresh i → outer ≡ [] → IsReading s ts (frame_of i) (stack_of outer) ws
begun_reading s ts us ws h i outer e d l none =
    subst (λ o. IsReading s ts (frame_of i) (stack_of o) ws) (sym none) (record {
      leads = opened_begun ts us ws h i e d l;
      comes = begun_comes ts us ws h i e d l;
      admitted = fresh_admitted s i l;
    })

comes_on : (all : List Token) (f g : Frame) (k l : List Frame) (ts us : List Token) → Comes all f k ts → step f k ts ≡ goes g l us →
    Comes all g l us
unfolding Comes
comes_on all f g k l ts us h e r s = subst (λ x. Follows x r) e (to_step f k ts r (h r s))

admitted_on : (s : Strictness) (f g : Frame) (k l : List Frame) (ts us : List Token) → AdmitsFrames s f k → step f k ts ≡ goes g l us →
    AdmitsLast s g → AdmitsFrames s g l
admitted_on Plain f g k l ts us a e w = tt
admitted_on Strict f g k l ts us a e w = subst Onward e (onward f k ts a.0 a.1) w

pub reading_on : (s : Strictness) (all : List Token) (f g : Frame) (k l : List Frame) (ts us : List Token) → IsReading s all f k ts →
    step f k ts ≡ goes g l us → AdmitsLast s g → IsReading s all g l us
reading_on s all f g k l ts us r e w = record {
  leads = leads_on all f g k l ts us r.leads e;
  comes = comes_on all f g k l ts us r.comes e;
  admitted = admitted_on s f g k l ts us r.admitted e w;
}

-- the value of the whole is admitted
pub whole_admitted : (s : Strictness) (f e : Frame) (k : List Frame) (ts us : List Token) (v : Tree) → AdmitsFrames s f k →
    step f k ts ≡ give_ended (value_of e) [] us → value_of e ≡ Some v → Admits s v
whole_admitted Plain f e k ts us v a q p = tt
whole_admitted Strict f e k ts us v a q p = subst Onward (q ∙ ap (λ o. give_ended o [] us) p) (onward f k ts a.0 a.1)

-- where the last property isn't admitted, no value of the whole is
pub none_admitted : (s : Strictness) (all : List Token) (f g : Frame) (k l : List Frame) (ts us : List Token) → IsReading s all f k ts →
    step f k ts ≡ goes g l us → ¬ (AdmitsLast s g) → AdmitsNone s all
unfolding Comes
none_admitted Plain all f g k l ts us r e n v rest d a = absurd (n tt)
none_admitted Strict all f g k l ts us r e n v rest d a =
    let runs = comes_on all f g k l ts us r.comes e (Some (v, rest)) (comes_to nothing v all rest d) in
    n (frame_last g (run_back g l us (Some (v, rest)) runs v rest refl a).0)

-- where none is read, none is admitted
pub none_read : (s : Strictness) (ts : List Token) → ComesTo nothing ts None → AdmitsNone s ts
none_read s ts h v rest r a = reads_none ts rest h v r

-- where each value is admitted, none is read
pub plainly_refused : (r : Result Value TextError) (ts : List Token) →
    IfErr r (λ e. e.cause ≢ cause.OutOfMemory → (v : Tree) → ReadsAs nothing v ts [] → ¬ (Admits Plain v)) →
    IfErr r (λ e. e.cause ≢ cause.OutOfMemory → (v : Tree) → ¬ (ReadsAs nothing v ts []))
plainly_refused (Ok v) ts h = tt
plainly_refused (Err e) ts h = λ m v d. h m v d tt
