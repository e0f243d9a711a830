-- Steps within the values that are begun.
use Rattle.std.proofs.Common.{◌≡◌, ◌≢◌, List, [], ◌∷◌, ◌++◌, Bool, true, false, Result, refl, sym, ap, ◌∙◌, subst}
use Rattle.std.specs.Prelude.{IfErr, IfOk, Ok, Err, Option, Some, None, map, reverse}
use Rattle.std.proofs.lemmas.List.{reverse-append, map_push}
use Rattle.json.specs.Token.{Token}
use Rattle.spa_format.specs.Tree.{Tree}
use Rattle.spa_names.specs.declared.entry.Expected.{Expected}
use Rattle.spa_text_read.specs.Tokens.{head}
use Rattle.spa_text_read.specs.Grammar.{Opened, begun, opens, nothing, ReadsAs}
use Rattle.spa_text_read.specs.Steps.{Frame, Next, refused, done, goes, Follows, Runs, ComesTo, started, ended, wants, next, value_of, put, give_ended, after_put, after_opening, after_next, step}
use Rattle.spa_text_read.specs.Seen.{KeepsAtEnd, frame_of, next_of, opening_of, IsFresh}
use Rattle.spa_text_read.specs.declared.inside.Next as Inner
use Rattle.spa_text_read.specs.declared.inside.Next.TheVariants as inner
use Rattle.spa_text_read.specs.Begun.{Begins, EndsWithin, Steps, stack_of}
use Rattle.spa_text_read.specs.declared.cause.Cause.{Cause}
use Rattle.spa_text_read.specs.declared.cause.Cause.TheVariants as cause
use Rattle.spa_text_read.specs.declared.nest.Nest.{Nest}
use Rattle.spa_text_read.specs.declared.inside.Inside.{Inside}
use Rattle.spa_text_read.proofs.Completeness.{comes_to, from_step, same_follows}

-- one more around the innermost
pub stack_one : (outer : List Inside) (i : Inside) → stack_of (outer ++ i ∷ []) ≡ frame_of i ∷ stack_of outer
stack_one outer i = ap reverse (map_push frame_of outer i) ∙ reverse-append (map frame_of outer) (frame_of i ∷ [])

-- the innermost is put into the one around it
pub end_put : (e : Frame) (v : Tree) (a g : Frame) (k : List Frame) (ts us : List Token) → value_of e ≡ Some v → put a v ts ≡ Some (g, us) →
    give_ended (value_of e) (a ∷ k) ts ≡ goes g k us
end_put e v a g k ts us p q = ap (λ o. give_ended o (a ∷ k) ts) p ∙ ap (after_put k) q

pub end_no_value : (e : Frame) (k : List Frame) (ts : List Token) → value_of e ≡ None → give_ended (value_of e) k ts ≡ refused
end_no_value e k ts p = ap (λ o. give_ended o k ts) p

pub end_not_put : (e : Frame) (v : Tree) (a : Frame) (k : List Frame) (ts : List Token) → value_of e ≡ Some v → put a v ts ≡ None →
    give_ended (value_of e) (a ∷ k) ts ≡ refused
end_not_put e v a k ts p q = ap (λ o. give_ended o (a ∷ k) ts) p ∙ ap (after_put k) q

-- a step, by what is next
pub step_not_next : (f : Frame) (k : List Frame) (ts : List Token) → next f ts ≡ None → step f k ts ≡ refused
unfolding step
step_not_next f k ts e = ap (after_next f k) e

pub step_ended : (f : Frame) (k : List Frame) (ts us : List Token) → next f ts ≡ Some (ended, us) → step f k ts ≡ give_ended (value_of f) k us
unfolding step
step_ended f k ts us e = ap (after_next f k) e

step_wants : (f g : Frame) (k : List Frame) (c : Expected) (h : Token) (ts us : List Token) (o : Option (Opened × List Token)) →
    next f ts ≡ Some (wants g c h, us) → opens c h us ≡ o → step f k ts ≡ after_opening (g ∷ k) o
unfolding step
step_wants f g k c h ts us o e d = ap (after_next f k) e ∙ ap (after_opening (g ∷ k)) d

-- the innermost is put into the one around it, the last of a list
pub end_within : (outer rest : List Inside) (a e was : Inside) (v : Tree) (g : Frame) (ts us : List Token) → outer ≡ rest ++ a ∷ [] → e ≡ was →
    value_of (frame_of e) ≡ Some v → put (frame_of a) v ts ≡ Some (g, us) →
    give_ended (value_of (frame_of was)) (stack_of outer) ts ≡ goes g (stack_of rest) us
end_within outer rest a e was v g ts us o w q r =
    ap (λ i. give_ended (value_of (frame_of i)) (stack_of outer) ts) (sym w)
    ∙ ap (λ l. give_ended (value_of (frame_of e)) (stack_of l) ts) o
    ∙ ap (λ k. give_ended (value_of (frame_of e)) k ts) (stack_one rest a)
    ∙ end_put (frame_of e) v (frame_of a) g (stack_of rest) ts us q r

pub end_without_value : (outer : List Inside) (e was : Inside) (ts : List Token) → e ≡ was → value_of (frame_of e) ≡ None →
    give_ended (value_of (frame_of was)) (stack_of outer) ts ≡ refused
end_without_value outer e was ts w q =
    ap (λ i. give_ended (value_of (frame_of i)) (stack_of outer) ts) (sym w) ∙ end_no_value (frame_of e) (stack_of outer) ts q

pub end_unput : (outer rest : List Inside) (a e was : Inside) (v : Tree) (ts : List Token) → outer ≡ rest ++ a ∷ [] → e ≡ was →
    value_of (frame_of e) ≡ Some v → put (frame_of a) v ts ≡ None → give_ended (value_of (frame_of was)) (stack_of outer) ts ≡ refused
end_unput outer rest a e was v ts o w q r =
    ap (λ i. give_ended (value_of (frame_of i)) (stack_of outer) ts) (sym w)
    ∙ ap (λ l. give_ended (value_of (frame_of e)) (stack_of l) ts) o
    ∙ ap (λ k. give_ended (value_of (frame_of e)) k ts) (stack_one rest a)
    ∙ end_not_put (frame_of e) v (frame_of a) (stack_of rest) ts q r

-- what is next, where the reader answers that it has ended, or that a value is wanted
pub ended_next : (n : Inner.Next) (f : Frame) (o : Option (Next × List Token)) (us : List Token) → n ≡ inner.Ended → o ≡ Some (next_of f n, us) →
    o ≡ Some (ended, us)
ended_next n f o us e d = d ∙ ap (λ m. Some (next_of f m, us)) e

pub ended_kept : (n : Inner.Next) (old new : Inside) → n ≡ inner.Ended → KeepsAtEnd n old new → new ≡ old
ended_kept n old new e k = subst (λ m. KeepsAtEnd m old new) e k

-- ---- Steps of the nest, by what its parts answer

-- the end of what is now the innermost is that of what was
at_the_end : (old mid : Nest) (ts us : List Token) → next (frame_of old.inner) ts ≡ Some (ended, us) → mid.inner ≡ old.inner →
    stack_of mid.outer.items ≡ stack_of old.outer.items →
    step (frame_of old.inner) (stack_of old.outer.items) ts ≡ give_ended (value_of (frame_of mid.inner)) (stack_of mid.outer.items) us
at_the_end old mid ts us n i o =
    step_ended (frame_of old.inner) (stack_of old.outer.items) ts us n
    ∙ ap (λ x. give_ended (value_of (frame_of x)) (stack_of old.outer.items) us) (sym i)
    ∙ ap (λ k. give_ended (value_of (frame_of mid.inner)) k us) (sym o)

pub to_end : (r : Result Bool Cause) (old mid new : Nest) (ts us ws : List Token) → next (frame_of old.inner) ts ≡ Some (ended, us) →
    mid.inner ≡ old.inner → stack_of mid.outer.items ≡ stack_of old.outer.items → IfOk r (λ b. EndsWithin b mid us new ws) →
    IfOk r (λ b. Steps b old ts new ws)
to_end (Ok true) old mid new ts us ws n i o e = at_the_end old mid ts us n i o ∙ e
to_end (Ok false) old mid new ts us ws n i o e =
    at_the_end old mid ts us n i o ∙ ap (λ k. give_ended (value_of (frame_of mid.inner)) k us) e.0
    ∙ ap (λ x. give_ended (value_of (frame_of x)) [] us) (sym e.1) ∙ ap (λ x. give_ended (value_of (frame_of new.inner)) [] x) (sym e.2)
to_end (Err e) old mid new ts us ws n i o h = tt

pub to_end_refused : (r : Result Bool Cause) (old mid : Nest) (ts us : List Token) → next (frame_of old.inner) ts ≡ Some (ended, us) →
    mid.inner ≡ old.inner → stack_of mid.outer.items ≡ stack_of old.outer.items →
    IfErr r (λ e. e ≢ cause.OutOfMemory → give_ended (value_of (frame_of mid.inner)) (stack_of mid.outer.items) us ≡ refused) →
    IfErr r (λ e. e ≢ cause.OutOfMemory → step (frame_of old.inner) (stack_of old.outer.items) ts ≡ refused)
to_end_refused (Ok b) old mid ts us n i o h = tt
to_end_refused (Err e) old mid ts us n i o h = λ m. at_the_end old mid ts us n i o ∙ h m

at_the_value : (old mid : Nest) (c : Expected) (h : Token) (ts us : List Token) →
    next (frame_of old.inner) ts ≡ Some (wants (frame_of mid.inner) c h, us) → stack_of mid.outer.items ≡ stack_of old.outer.items →
    step (frame_of old.inner) (stack_of old.outer.items) ts ≡ after_opening (frame_of mid.inner ∷ stack_of mid.outer.items) (opens c h us)
at_the_value old mid c h ts us n o =
    step_wants (frame_of old.inner) (frame_of mid.inner) (stack_of old.outer.items) c h ts us (opens c h us) n refl
    ∙ ap (λ k. after_opening (frame_of mid.inner ∷ k) (opens c h us)) (sym o)

pub to_begin : (r : Result Bool Cause) (old mid new : Nest) (c : Expected) (h : Token) (ts us ws : List Token) →
    next (frame_of old.inner) ts ≡ Some (wants (frame_of mid.inner) c h, us) → stack_of mid.outer.items ≡ stack_of old.outer.items →
    IfOk r (λ b. Begins b mid c h us new ws) → IfOk r (λ b. Steps b old ts new ws)
to_begin (Ok true) old mid new c h ts us ws n o e = at_the_value old mid c h ts us n o ∙ e
to_begin (Ok false) old mid new c h ts us ws n o e = absurd e
to_begin (Err e) old mid new c h ts us ws n o x = tt

pub to_begin_refused : (r : Result Bool Cause) (old mid : Nest) (c : Expected) (h : Token) (ts us : List Token) →
    next (frame_of old.inner) ts ≡ Some (wants (frame_of mid.inner) c h, us) → stack_of mid.outer.items ≡ stack_of old.outer.items →
    IfErr r (λ e. e ≢ cause.OutOfMemory → after_opening (frame_of mid.inner ∷ stack_of mid.outer.items) (opens c h us) ≡ refused) →
    IfErr r (λ e. e ≢ cause.OutOfMemory → step (frame_of old.inner) (stack_of old.outer.items) ts ≡ refused)
to_begin_refused (Ok b) old mid c h ts us n o x = tt
to_begin_refused (Err e) old mid c h ts us n o x = λ m. at_the_value old mid c h ts us n o ∙ x m

-- ---- The whole

pub started_at : (ts us : List Token) (h : Token) (o : Option (Opened × List Token)) (r : Option (Tree × List Token)) → head ts ≡ Some (h, us) →
    opens nothing h us ≡ o → Follows (after_opening [] o) r → ComesTo nothing ts r
started_at ts us h o r e d s = subst (λ x. Follows (started nothing x) r) (sym e) (subst (λ x. Follows (after_opening [] x) r) (sym d) s)

-- what comes of these steps comes of the whole
pub Leads : List Token → Frame → List Frame → List Token → Type 0
Leads all f k ts = (r : Option (Tree × List Token)) → Runs f k ts r → ComesTo nothing all r

pub opened_begun : (ts us ws : List Token) (h : Token) (i : Inside) → head ts ≡ Some (h, us) →
    opens nothing h us ≡ Some (begun (opening_of i), ws) → IsFresh i → Leads ts (frame_of i) [] ws
unfolding Leads
opened_begun ts us ws h i e d l r s =
    started_at ts us h (Some (begun (opening_of i), ws)) r e d (subst (λ x. Runs x [] ws r) l s)

pub leads_on : (all : List Token) (f g : Frame) (k l : List Frame) (ts us : List Token) → Leads all f k ts → step f k ts ≡ goes g l us →
    Leads all g l us
unfolding Leads
leads_on all f g k l ts us h e r s = h r (from_step (goes g l us) f k ts r e s)

pub leads_refused : (all : List Token) (f : Frame) (k : List Frame) (ts : List Token) → Leads all f k ts → step f k ts ≡ refused → ComesTo nothing all None
unfolding Leads
leads_refused all f k ts h e = h None (from_step refused f k ts None e refl)

pub leads_to : (all : List Token) (f e : Frame) (k : List Frame) (ts us : List Token) (v : Tree) → Leads all f k ts →
    step f k ts ≡ give_ended (value_of e) [] us → value_of e ≡ Some v → ComesTo nothing all (Some (v, us))
unfolding Leads
leads_to all f e k ts us v h s p =
    h (Some (v, us)) (from_step (done v us) f k ts (Some (v, us)) (s ∙ ap (λ o. give_ended o [] us) p) refl)

pub leads_nowhere : (all : List Token) (f e : Frame) (k : List Frame) (ts us : List Token) → Leads all f k ts →
    step f k ts ≡ give_ended (value_of e) [] us → value_of e ≡ None → ComesTo nothing all None
unfolding Leads
leads_nowhere all f e k ts us h s p =
    h None (from_step refused f k ts None (s ∙ ap (λ o. give_ended o [] us) p) refl)

-- where it comes to nothing, no value reads so
nothing_is : (o p : Option (Tree × List Token)) (q : Tree × List Token) → o ≡ p → o ≡ None → p ≡ Some q → ⊥
nothing_is o p q e d f = cc

pub reads_none : (ts rest : List Token) → ComesTo nothing ts None → (v : Tree) → ¬ (ReadsAs nothing v ts rest)
reads_none ts rest h v r =
    nothing_is None (Some (v, rest)) (v, rest) (same_follows (started nothing (head ts)) None (Some (v, rest)) h (comes_to nothing v ts rest r)) refl refl

-- where something follows the value, no value is the whole
pub reads_more : (ts us : List Token) (t : Token) (w : Tree) → ComesTo nothing ts (Some (w, t ∷ us)) → (v : Tree) → ¬ (ReadsAs nothing v ts [])
reads_more ts us t w h v r =
    differ (ap rest_of (same_follows (started nothing (head ts)) (Some (w, t ∷ us)) (Some (v, [])) h (comes_to nothing v ts [] r)))
  where
    rest_of : Option (Tree × List Token) → List Token
    rest_of None = []
    rest_of (Some p) = p.1

    differ : t ∷ us ≡ [] → ⊥
    differ e = cc

-- where it comes to a value behind which more stands, no value is the whole
pub reads_behind : (ts left us : List Token) (t : Token) (w : Tree) → ComesTo nothing ts (Some (w, left)) → left ≡ t ∷ us → (v : Tree) →
    ¬ (ReadsAs nothing v ts [])
reads_behind ts left us t w h e = reads_more ts us t w (subst (λ l. ComesTo nothing ts (Some (w, l))) e h)
