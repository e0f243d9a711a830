-- A pod that is at hand: where its value may come next, and what its bytes say of it.
use Rattle.std.proofs.Common.{◌≡◌, ◌≢◌, ℕ, ◌+◌, ◌<◌, List, [], ◌∷◌, length, refl, sym, ap, ◌∙◌, subst, arith, Bool, true, false, inl, inr, Err}
use Rattle.std.specs.Prelude.{Option, Some, None, Result, is_some}
use Rattle.spa_format.specs.Faults.{Fault, Stands}
use Rattle.spa_format.specs.Faults as fault
use Rattle.spa_format.specs.Kind.{Fixed, Kind, kind_of, type_number}
use Rattle.spa_format.specs.Tree.{Tree, Trees, fixed, type_of}
use Rattle.spa_format.specs.Words.{extent, word_at}
use Rattle.spa_format.specs.Pod.{IsPod, IsWhole}
use Rattle.spa_format.specs.Encoding.{encoded_body, encoding_of}
use Rattle.spa_format.specs.Front.{Begins, rest_of}
use Rattle.spa_format.specs.Typed.{IsBytes}
use Rattle.spa_format.proofs.Back.{body_fits, type_fits, whole_frame}
use Rattle.spa_format.proofs.Fronts.{length-body_of, own_front}
use Rattle.spa_format.proofs.Origin.{writable}
use Rattle.spa_format.proofs.Refused.{refused}
use Rattle.spa_format.proofs.Shapes.{fixed_only}
use Rattle.spa_format.proofs.Unique.{one_value}
use Rattle.spa_fixed_sized.specs.declared.fault.Refusal.{Refusal}
use Rattle.spa_fixed_sized.specs.declared.fault.Refusal.TheVariants as R
use Rattle.spa_canonical.specs.Canonical.{BeginsCanonical}
use Rattle.spa_canonical.specs.Depth.{depth_of, levels_looked_into}
use Rattle.spa_read.specs.Nesting.{RefusesAt}
use Rattle.spa_builder.specs.State.{Partial, State}
use Rattle.spa_builder.specs.Step.{add, has_nul, state_with_value, outcome_with_value, step}
use Rattle.spa_builder.specs.Fields.{BuilderFields, all_so_far, what_of}
use Rattle.spa_builder.specs.Innermost.{has_elements, innermost_of, takes_element, takes_elements}
use Rattle.spa_builder.specs.Answers.{IsCopied, Makes, MakesPod, MakesValue}
use Rattle.spa_builder.specs.declared.begun.BegunPod.{BegunPod}
use Rattle.spa_builder.proofs.Members.{element_not, element_placed}
use Rattle.spa_builder.proofs.Steps.{without_nul}
use Rattle.spa_builder.proofs.Valued.{clean, made_value, misplaced}
use Rattle.spa_utils.specs.declared.errno.Errno.{Errno}
use Rattle.spa_utils.specs.declared.errno.TheConstants.Errno.{INVAL, NOMEM}

-- ---- where it may come next

-- the innermost open tree
pub its_innermost : (base : ℕ) (ps : List Partial) (o : BegunPod) → Some o ≡ innermost_of base ps →
    (p : Partial) × (rest : List Partial) × (ps ≡ p ∷ rest) × (o.what ≡ what_of p)
its_innermost base [] o e = absurd (cc)
its_innermost base (p ∷ ps) o e =
    let is : o ≡ record { start = base + length (all_so_far ps); what = what_of p } = cc in
    (p, ps, refl, ap (λ (x : BegunPod). x.what) is)

element_decides : (closed : Trees) (p : Partial) (rest : List Partial) (x : Fixed) (b : Bool) →
    has_elements p ≡ true → takes_element p x ≡ b → is_some (state_with_value closed (p ∷ rest) (fixed x)) ≡ b
element_decides closed p rest x true h e = ap is_some (element_placed closed p rest x h e)
element_decides closed p rest x false h e = ap is_some (element_not closed p rest x h e)

-- a type of fixed size
pub element_may : (base : ℕ) (closed : Trees) (ps : List Partial) (v : Tree) (o : BegunPod) (k : Kind)
    (t : ℕ) (b : Bool) → Some o ≡ innermost_of base ps → takes_elements ps ≡ true → type_of v ≡ t →
    t ≡ type_number k → ((p : Partial) (x : Fixed) → o.what ≡ what_of p →
    t ≡ type_number (kind_of x) → b ≡ takes_element p x) → b ≡ is_some (state_with_value closed ps v)
element_may base closed ps v o k t b at e of is takes =
    let inner = its_innermost base ps o at in
    let p = inner.0 in
    let rest = inner.1 in
    let y = fixed_only v k (of ∙ is) in
    let x = y.0 in
    let h : has_elements p ≡ true = ap takes_elements (sym inner.2) ∙ e in
    let d = element_decides closed p rest x b h
    (sym (takes p x inner.3 (sym of ∙ ap type_of y.2))) in
    sym (ap (λ l. is_some (state_with_value closed l v)) inner.2
    ∙ ap (λ w. is_some (state_with_value closed (p ∷ rest) w)) y.2 ∙ d)

pub is_nowhere : (o : Option State) → false ≡ is_some o → o ≡ None
is_nowhere None e = refl
is_nowhere (Some s) e = absurd (cc)

pub is_somewhere : (o : Option State) → true ≡ is_some o → o ≢ None
is_somewhere None e f = absurd (cc)
is_somewhere (Some s) e f = cc

-- ---- what its bytes say

pub own_pod : (b : List ℕ) (v : Tree) → length b ≡ extent (word_at b 0) → Begins b v → IsPod b v
own_pod b v l h = subst (λ c. IsPod c v) (own_front b l) h.pod

own_begins : (b : List ℕ) (v : Tree) → length b ≡ extent (word_at b 0) → IsPod b v → Begins b v
own_begins b v l p = record {
  there = record {
    header = omega (arith, l);
    whole = omega (arith, l);
  };
  pod = subst (λ c. IsPod c v) (sym (own_front b l)) p;
}

-- a canonical pod is found
pub looked_into : (s : State) (b : List ℕ) (v : Tree) → length b ≡ extent (word_at b 0) →
    IsCopied s b v →
    ((rest : List ℕ) (c : BeginsCanonical b rest) → levels_looked_into < depth_of c.value) → ⊥
looked_into s b v l k missed =
    let c : BeginsCanonical b (rest_of b) =
    record {
      value = v;
      begins = record { begins = own_begins b v l k.pod; follows = refl };
      same = own_front b l ∙ k.own;
    } in
    let m = missed (rest_of b) c in
    let d = k.shallow in omega arith

-- what is found is copied: its size, and its bytes
pub found_size : (b rest : List ℕ) → IsBytes b → length b ≡ extent (word_at b 0) →
    (c : BeginsCanonical b rest) → length (encoded_body c.value) ≡ word_at b 0
found_size b rest h l c =
    let v = c.value in
    let p = own_pod b v l c.begins.begins in
    let w = whole_frame (type_of v) (encoded_body v) (λ x. x ≡ encoded_body v) (type_fits v)
    (body_fits v (writable b v h p).fits) refl in
    let u = subst (λ x. IsWhole x (type_of v) (λ y. y ≡ encoded_body v))
    (sym c.same ∙ own_front b l) w in
    ap length (sym u.content) ∙ length-body_of b c.begins.begins.there

pub found_bytes : (b rest : List ℕ) → length b ≡ extent (word_at b 0) →
    (c : BeginsCanonical b rest) → encoding_of c.value ≡ b
found_bytes b rest l c = sym c.same ∙ own_front b l

-- a fault that stands
no_value : (b place : List ℕ) (k : Fault) → length b ≡ extent (word_at b 0) → Stands k place b →
    (v : Tree) → ¬ (IsPod b v)
no_value b place k l f v p = refused k place b f v (own_begins b v l p)

pub refused_read : (b place : List ℕ) (n : ℕ) (why : Refusal) → length b ≡ extent (word_at b 0) →
    why ≢ R.OutOfMemory → RefusesAt b place n why → (v : Tree) → ¬ (IsPod b v)
refused_read b place n R.Short l m f = no_value b place fault.Short l f.0
refused_read b place n R.Text l m f = no_value b place fault.Text l f.0
refused_read b place n R.InvalidType l m f = no_value b place fault.InvalidType l f.0
refused_read b place n R.InvalidChoiceType l m f = no_value b place fault.InvalidChoiceType l f.0
refused_read b place n R.MissingChoiceValues l m f = no_value b place fault.MissingChoiceValues l f.0
refused_read b place n R.WrongSize l m f = no_value b place fault.WrongSize l f.0
refused_read b place n R.OutOfMemory l m f = absurd (m refl)

pub copied_step : (s : State) (b rest : List ℕ) (old new : BuilderFields) (r : Result (Unit {0}) Errno) →
    IsBytes b → length b ≡ extent (word_at b 0) → (c : BeginsCanonical b rest) →
    Makes (outcome_with_value s c.value) old new r → Makes (step s (add c.value)) old new r
copied_step s b rest old new r h l c m =
    let w = writable b c.value h (own_pod b c.value l c.begins.begins) in
    without_nul (has_nul c.value) _ old new r (clean c.value w.no_nul) m

-- ---- what is made of it

-- it may not come next
pub out_of_place : (s : State) (b : List ℕ) (old : BuilderFields) →
    ((v : Tree) → word_at b 4 ≡ type_of v → state_with_value s.closed s.opened v ≡ None) →
    MakesPod s b old old (Err INVAL)
out_of_place s b old h = record {
  value = λ v p. made_value s v old old (Err INVAL) (misplaced s v old (h v p.its_type));
  none = λ n. (inl refl, refl);
}

-- its value was added, or what is in it stopped that
pub added_value : (s : State) (b : List ℕ) (w : Tree) (old new : BuilderFields)
    (r : Result (Unit {0}) Errno) → IsPod b w → MakesValue s w old new r → MakesPod s b old new r
added_value s b w old new r q m = record {
  value = λ v p. subst (λ u. MakesValue s u old new r) (one_value b w v q p) m;
  none = λ h. absurd (h w q);
}

-- it was not read: memory ran out, or it is a pod of no value
pub not_read : (s : State) (b place : List ℕ) (n : ℕ) (old : BuilderFields) (why : Refusal) (e : Errno) →
    length b ≡ extent (word_at b 0) → RefusesAt b place n why →
    ((v : Tree) → word_at b 4 ≡ type_of v → state_with_value s.closed s.opened v ≢ None) →
    (why ≡ R.OutOfMemory → e ≡ NOMEM) → (why ≢ R.OutOfMemory → e ≡ INVAL) →
    MakesPod s b old old (Err e)
not_read s b place n old R.OutOfMemory e l f h m i =
    subst (λ x. MakesPod s b old old (Err x)) (sym (m refl))
    (record {
      value = λ v p. inr (record { place = h v p.its_type; cause = inl refl; same = refl });
      none = λ k. (inr refl, refl);
    })
not_read s b place n old why e l f h m i =
    let other : why ≢ R.OutOfMemory = λ x. cc in
    let no = refused_read b place n why l other f in
    subst (λ x. MakesPod s b old old (Err x)) (sym (i other))
    (record { value = λ v p. absurd (no v p); none = λ k. (inl refl, refl) })
