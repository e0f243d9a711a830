-- The steps of passing a list, and of looking for the first pair of two.
use Rattle.std.proofs.Common.{◌≡◌, ◌<◌, ◌+◌, ◌-◌, ℕ, List, [], ◌∷◌, ◌++◌, refl, sym, inl, inr, arith, drop, get_or, length, ◌∙◌, ap, subst, length-drop, append_assoc, append-nil}
use Rattle.std.specs.Prelude.{Result}
use Rattle.std.proofs.lemmas.List.{drop-drop, drop_more, length-take-le, take-append-drop}
use Rattle.spa_format.specs.Words.{extent, word_at}
use Rattle.spa_format.specs.Front.{HasFront, front_of, rest_of}
use Rattle.spa_format.specs.Walk.{walk}
use Rattle.spa_format.specs.Fixation.{walk_size}
use Rattle.spa_format.proofs.WalkLemmas.{walk-end, walk-there}
use Rattle.spa_format.proofs.Fronts.{pod_begins}
use Rattle.spa_filter.specs.declared.error.FilterError.{FilterError}
use Rattle.spa_filter.specs.declared.error.FilterError.TheVariants as cause
use Rattle.spa_object_view.specs.Fronts.{BeginsObjectOf}
use Rattle.spa_object_view.specs.declared.front.ObjectPod.{ObjectPod}
use Rattle.spa_object_view.specs.declared.front.ObjectPod.TheVariants.{Borrowed, Rewritten}
use Rattle.spa_object_view.proofs.ObjectPods.{begins_object}
use Rattle.spa_filter_pods.specs.Fronts.{OfViewed}
use Rattle.spa_meet_commands.specs.Agreeing.{Agree, ArentAgreed}
use Rattle.spa_meet_commands.specs.Lists.{AgreesWithNone, AreApart, AreOfObjects, AreViewed, FirstGives, FirstPairGives, Gives, IsBehindObjects, IsList, IsOfDisagreement, NoneAgree, OfBoth, OfOne}
use Rattle.spa_meet_commands.specs.declared.pair.Work.{Work}

-- the object at the front of an input is that of its front
front_viewed : (left : List ℕ) (object : ObjectPod) → BeginsObjectOf left object → BeginsObjectOf (front_of left) object
front_viewed left (Borrowed view) h = record { values = h.values; begins = pod_begins (front_of left) _ h.begins.pod; written = h.written }
front_viewed left (Rewritten bytes) h =
    record { type = h.type; id = h.id; values = h.values; begins = pod_begins (front_of left) _ h.begins.pod; written = h.written }

viewed_more : (ps : List (List ℕ)) (objects : List ObjectPod) (p : List ℕ) (object : ObjectPod) → AreViewed ps objects → BeginsObjectOf p object →
    AreViewed (ps ++ p ∷ []) (objects ++ object ∷ [])
viewed_more [] [] p object h i = (i, tt)
viewed_more (q ∷ ps) (other ∷ objects) p object h i = (h.0, viewed_more ps objects p object h.1 i)
viewed_more [] (other ∷ objects) p object h i = absurd h
viewed_more (q ∷ ps) [] p object h i = absurd h

-- how far a list was passed: up to what is left, some first pods, all of objects, which were viewed
pub record Passed (input left : List ℕ) (viewed : List ObjectPod) : Type 0 where
  pub before : List (List ℕ)
  pub objects : AreOfObjects before
  pub views : AreViewed before viewed
  pub order : walk input ≡ before ++ walk left
  pub size : walk_size before + length left ≡ length input
  pub rest : left ≡ drop (walk_size before) input

pub begins : (input : List ℕ) → Passed input input []
begins input = record { before = []; objects = tt; views = tt; order = refl; size = omega arith; rest = refl }

objects_more : (ps : List (List ℕ)) (p : List ℕ) → AreOfObjects ps → AreOfObjects (p ∷ []) → AreOfObjects (ps ++ p ∷ [])
objects_more [] p h i = i
objects_more (q ∷ ps) p h i = (h.0, objects_more ps p h.1 i)

size_more : (ps : List (List ℕ)) (p : List ℕ) → walk_size (ps ++ p ∷ []) ≡ walk_size ps + length p
size_more [] p = omega arith
size_more (q ∷ ps) p = let r = size_more ps p in omega (arith, r)

-- one more was passed
pub passes : (input left behind : List ℕ) (viewed : List ObjectPod) (next : ObjectPod) → Passed input left viewed → BeginsObjectOf left next →
    behind ≡ rest_of left → Passed input behind (viewed ++ next ∷ [])
passes input left behind viewed next so there is =
    let object = begins_object left next there in
    let begun = object.begins in
    let front = front_of left in
    let n = extent (word_at left 0) in
    let l : length front ≡ n = length-take-le n left begun.there.whole in
    let w = size_more so.before front in
    let whole = begun.there.whole in
    let d = length-drop n left in
    let b = ap length is in
    let s = so.size in
    record {
      before = so.before ++ front ∷ [];
      objects = objects_more so.before front so.objects (record { value = object.value; pod = begun.pod; object = object.is_object }, tt);
      views = viewed_more so.before viewed front next so.views (front_viewed left next there);
      order =
          so.order
          ∙ ap (λ z. so.before ++ z) (walk-there left begun.there)
          ∙ ap (λ z. so.before ++ (front ∷ walk z)) (sym is)
          ∙ sym (append_assoc so.before (front ∷ []) (walk behind));
      size = omega (arith, w, l, s, whole, d, b);
      rest =
          is
          ∙ ap (drop n) so.rest
          ∙ drop-drop n (walk_size so.before) input
          ∙ ap (λ m. drop m input) (omega (arith, w, l));
    }

-- the whole list was
passed_whole : (input left : List ℕ) (viewed : List ObjectPod) → left ≡ [] → (so : Passed input left viewed) → walk input ≡ so.before
passed_whole input left viewed none so =
    let none_behind : walk left ≡ [] = ap walk none ∙ walk-end [] (λ f. let x = f.header in absurd (omega arith)) in
    so.order ∙ ap (λ z. so.before ++ z) none_behind ∙ append-nil so.before

pub ends : (input left : List ℕ) (viewed : List ObjectPod) → left ≡ [] → Passed input left viewed → IsList input
ends input left viewed none so =
    let same = passed_whole input left viewed none so in
    let l = ap length none in
    let s = so.size in
    record { whole = ap walk_size same ∙ omega (arith, l, s); objects = subst AreOfObjects (sym same) so.objects }

pub all_viewed : (input left : List ℕ) (viewed : List ObjectPod) → left ≡ [] → Passed input left viewed → AreViewed (walk input) viewed
all_viewed input left viewed none so = subst (λ ps. AreViewed ps viewed) (sym (passed_whole input left viewed none so)) so.views

-- or it stops where something is left
behind : (input left : List ℕ) (viewed : List ObjectPod) (place : ℕ) → place ≡ length input - length left → 0 < length left →
    Passed input left viewed → IsBehindObjects input place × (left ≡ drop place input)
behind input left viewed place is some so =
    let s = so.size in
    let same : place ≡ walk_size so.before = omega (arith, is, s) in
    let rest : left ≡ drop place input = so.rest ∙ ap (λ m. drop m input) (sym same) in (
      record {
        before = so.before;
        objects = so.objects;
        order = subst (λ z. walk input ≡ so.before ++ walk z) rest so.order;
        its_place = same;
        some = omega (arith, same, s, some);
      },
      rest,
    )

-- the next object is the first of those that are left
pub next_is : (objects : List ObjectPod) (i : ℕ) (object : ObjectPod) → i < length objects → object ≡ get_or objects i object →
    drop i objects ≡ object ∷ drop (i + 1) objects
next_is objects i object more is = drop_more objects i object more ∙ ap (λ z. z ∷ drop (i + 1) objects) (sym is)

-- how far the second list was looked through: what comes of one object and those that are left comes of it and all, and where it agrees
-- with none that is left it does with none
pub record Sought (work : Work) (ours : ObjectPod) (all left : List ObjectPod) : Type 0 where
  pub gives : (r : Result (List ℕ) FilterError) → OfOne ours left (λ p qs. FirstGives work p qs r) → OfOne ours all (λ p qs. FirstGives work p qs r)
  pub none : OfOne ours left AgreesWithNone → OfOne ours all AgreesWithNone

-- the next one disagrees
pub seeks_on : (work : Work) (ours : ObjectPod) (all left : List ObjectPod) (next : ObjectPod) (behind : List ObjectPod) →
    Sought work ours all left → left ≡ next ∷ behind → OfViewed ours next (λ p q. ¬ (Agree p q)) → Sought work ours all behind
seeks_on work ours all left next behind so e apart =
    record {
      gives = λ r h. so.gives r (subst (λ objects. OfOne ours objects (λ p qs. FirstGives work p qs r)) (sym e) (gives r h));
      none = λ h. so.none (subst (λ objects. OfOne ours objects AgreesWithNone) (sym e) (none h));
    }
  where
    gives : (r : Result (List ℕ) FilterError) → OfOne ours behind (λ p qs. FirstGives work p qs r) → (p : List ℕ) (qs : List (List ℕ)) →
        BeginsObjectOf p ours → AreViewed qs (next ∷ behind) → FirstGives work p qs r
    gives r h p [] o t = absurd t
    gives r h p (q ∷ qs) o t = inr (apart p q o t.0, h p qs o t.1)

    none : OfOne ours behind AgreesWithNone → (p : List ℕ) (qs : List (List ℕ)) → BeginsObjectOf p ours → AreViewed qs (next ∷ behind) →
        AgreesWithNone p qs
    none h p [] o t = absurd t
    none h p (q ∷ qs) o t = (apart p q o t.0, h p qs o t.1)

-- or gives something
pub seeks_found : (work : Work) (ours : ObjectPod) (all left : List ObjectPod) (next : ObjectPod) (behind : List ObjectPod)
    (r : Result (List ℕ) FilterError) → Sought work ours all left → left ≡ next ∷ behind → OfViewed ours next (λ p q. Gives work p q r) →
    OfOne ours all (λ p qs. FirstGives work p qs r)
seeks_found work ours all left next behind r so e gives =
    so.gives r (subst (λ objects. OfOne ours objects (λ p qs. FirstGives work p qs r)) (sym e) found)
  where
    found : (p : List ℕ) (qs : List (List ℕ)) → BeginsObjectOf p ours → AreViewed qs (next ∷ behind) → FirstGives work p qs r
    found p [] o t = absurd t
    found p (q ∷ qs) o t = inl (gives p q o t.0)

pub seeks_none : (work : Work) (ours : ObjectPod) (all left : List ObjectPod) → Sought work ours all left → left ≡ [] → OfOne ours all AgreesWithNone
seeks_none work ours all left so e = so.none (subst (λ objects. OfOne ours objects AgreesWithNone) (sym e) ended)
  where
    ended : (p : List ℕ) (qs : List (List ℕ)) → BeginsObjectOf p ours → AreViewed qs [] → AgreesWithNone p qs
    ended p [] o t = tt
    ended p (q ∷ qs) o t = absurd t

-- a search for a pair that agrees has come to `left` of the first list's objects, and found none so far
pub record Paired (work : Work) (theirs all left : List ObjectPod) : Type 0 where
  pub gives : (r : Result (List ℕ) FilterError) → OfBoth left theirs (λ ps qs. FirstPairGives work ps qs r) →
      OfBoth all theirs (λ ps qs. FirstPairGives work ps qs r)
  pub none : OfBoth left theirs NoneAgree → OfBoth all theirs NoneAgree

pub pairs_on : (work : Work) (theirs all left : List ObjectPod) (next : ObjectPod) (behind : List ObjectPod) → Paired work theirs all left →
    left ≡ next ∷ behind → OfOne next theirs AgreesWithNone → Paired work theirs all behind
pairs_on work theirs all left next behind so e apart =
    record {
      gives = λ r h. so.gives r (subst (λ objects. OfBoth objects theirs (λ ps qs. FirstPairGives work ps qs r)) (sym e) (gives r h));
      none = λ h. so.none (subst (λ objects. OfBoth objects theirs NoneAgree) (sym e) (none h));
    }
  where
    gives : (r : Result (List ℕ) FilterError) → OfBoth behind theirs (λ ps qs. FirstPairGives work ps qs r) → (ps qs : List (List ℕ)) →
        AreViewed ps (next ∷ behind) → AreViewed qs theirs → FirstPairGives work ps qs r
    gives r h [] qs o t = absurd o
    gives r h (p ∷ ps) qs o t = inr (apart p qs o.0 t, h ps qs o.1 t)

    none : OfBoth behind theirs NoneAgree → (ps qs : List (List ℕ)) → AreViewed ps (next ∷ behind) → AreViewed qs theirs → NoneAgree ps qs
    none h [] qs o t = absurd o
    none h (p ∷ ps) qs o t = (apart p qs o.0 t, h ps qs o.1 t)

pub pairs_found : (work : Work) (theirs all left : List ObjectPod) (next : ObjectPod) (behind : List ObjectPod) (r : Result (List ℕ) FilterError) →
    Paired work theirs all left → left ≡ next ∷ behind → OfOne next theirs (λ p qs. FirstGives work p qs r) →
    OfBoth all theirs (λ ps qs. FirstPairGives work ps qs r)
pairs_found work theirs all left next behind r so e gives =
    so.gives r (subst (λ objects. OfBoth objects theirs (λ ps qs. FirstPairGives work ps qs r)) (sym e) found)
  where
    found : (ps qs : List (List ℕ)) → AreViewed ps (next ∷ behind) → AreViewed qs theirs → FirstPairGives work ps qs r
    found [] qs o t = absurd o
    found (p ∷ ps) qs o t = inl (gives p qs o.0 t)

pub pairs_none : (work : Work) (theirs all left : List ObjectPod) → Paired work theirs all left → left ≡ [] → OfBoth all theirs NoneAgree
pairs_none work theirs all left so e = so.none (subst (λ objects. OfBoth objects theirs NoneAgree) (sym e) ended)
  where
    ended : (ps qs : List (List ℕ)) → AreViewed ps [] → AreViewed qs theirs → NoneAgree ps qs
    ended [] qs o t = tt
    ended (p ∷ ps) qs o t = absurd o

-- a refusal for such a cause says that the two don't agree
pub disagrees : (work : Work) (p q : List ℕ) (e : FilterError) → ArentAgreed work p q e → IsOfDisagreement e → ¬ (Agree p q)
disagrees work p q cause.TypeMismatch r h = r.apart
disagrees work p q (cause.Missing k) r h = r.apart
disagrees work p q (cause.Unsupported k) r h = r.apart
disagrees work p q (cause.Disjoint k) r h = r.apart
disagrees work p q (cause.Unread s) r h = absurd h
disagrees work p q (cause.NotObject s) r h = absurd h
disagrees work p q cause.TooLarge r h = absurd h
disagrees work p q cause.OutOfMemory r h = absurd h

-- the walk over one pod finds that pod alone
single : (a : List ℕ) → HasFront a → rest_of a ≡ [] → walk a ≡ a ∷ []
single a there none =
    let whole : front_of a ≡ a = sym (append-nil (front_of a)) ∙ ap (λ z. front_of a ++ z) (sym none) ∙ take-append-drop (extent (word_at a 0)) a in
    let nothing : walk (rest_of a) ≡ [] = ap walk none ∙ walk-end [] (λ f. let x = f.header in absurd (omega arith)) in
    walk-there a there ∙ ap (λ z. front_of a ∷ z) nothing ∙ ap (λ z. z ∷ []) whole

-- of two lists of one object each no two agree: then these don't
pub one_apart : (a b : List ℕ) → AreApart a b → rest_of a ≡ [] → rest_of b ≡ [] → ¬ (Agree a b)
one_apart a b apart one other agree =
    let none = subst (NoneAgree (walk a)) (single b agree.second.there other) apart.none in
    let pair = subst (λ z. NoneAgree z (b ∷ [])) (single a agree.first.there one) none in
    pair.0.0 agree
