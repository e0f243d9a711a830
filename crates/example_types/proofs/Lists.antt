-- A list of properties, parted at one of them.
use Rattle.std.proofs.Common.{◌≡◌, ◌≢◌, ◌==◌, Some, None, ℕ, suc, ◌≤◌, ◌<◌, List, [], ◌∷◌, ◌++◌, length, take, drop, get_or, sym, ap, ◌∙◌, append_assoc, arith, length-drop, length-take, true≢false}
use Rattle.std.specs.Cmp.{unsigned_Decides}
use Rattle.std.specs.List.{All, position, position_or_len}
use Rattle.std.proofs.lemmas.Grind.{common_steps}
use Rattle.std.proofs.lemmas.List.Sums.{fails_before_first}
use Rattle.std.proofs.lemmas.List.{take-append-drop, get_or-drop, get_or-take}
use Rattle.std.proofs.lemmas.List.Quantifiers.{position-Some}
use Rattle.libspa.specs.Tree.{Tree, Properties, join_properties, no_properties, property}
use Rattle.libspa.specs.Property.{Property}
use Rattle.libspa.specs.View.{view}
use Rattle.libspa.specs.Views.{property_views}

-- a list that grows by one property, and then by others
pub put_back : (before more all behind : List Property) (p : Property) → more ≡ before ++ p ∷ [] → all ≡ more ++ behind → all ≡ before ++ p ∷ behind
put_back before more all behind p e f = f ∙ ap (λ qs. qs ++ behind) e ∙ append_assoc before (p ∷ []) behind

first_and : (qs : List Property) (p : Property) → 0 < length qs → p ≡ get_or qs 0 p → qs ≡ p ∷ drop 1 qs
first_and [] p n e = absurd (omega (arith, n))
first_and (q ∷ qs) p n e = ap (λ x. x ∷ qs) (sym e)

-- the first property behind a cut stood there
pub at_cut : (ps tail : List Property) (i : ℕ) (p : Property) → tail ≡ drop i ps → p ≡ get_or tail 0 p → p ≡ get_or ps i p
at_cut ps tail i p t e = e ∙ ap (λ qs. get_or qs 0 p) t ∙ get_or-drop i ps 0 p ∙ ap (λ k. get_or ps k p) (omega arith)

-- a list that is cut at a place, and the first property behind the cut taken off
pub parted : (ps before tail behind : List Property) (i : ℕ) (p : Property) → i < length ps →
    before ≡ take i ps → tail ≡ drop i ps → p ≡ get_or tail 0 p → behind ≡ drop 1 tail → ps ≡ before ++ p ∷ behind
parted ps before tail behind i p l b t e r =
    let there : 0 < length tail = omega (arith, l, ap length t, length-drop i ps) in
    let cut : drop i ps ≡ p ∷ behind = sym t ∙ first_and tail p there e ∙ ap (λ qs. p ∷ qs) (sym r) in
    sym (take-append-drop i ps) ∙ ap (λ qs. take i ps ++ qs) cut ∙ ap (λ qs. qs ++ p ∷ behind) (sym b)

-- the trees of some properties, and of others from one on whose key and value are these
pub with_key : (before behind : List Property) (p : Property) (key : ℕ) (v : Tree) → p.key ≡ key → view p.value ≡ v →
    join_properties (property_views before) (property_views (p ∷ behind))
    ≡ join_properties (property_views before) (property key p.flags.0 v (property_views behind))
with_key before behind p key v k w =
    ap (λ n. join_properties (property_views before) (property n p.flags.0 (view p.value) (property_views behind))) k
    ∙ ap (λ x. join_properties (property_views before) (property key p.flags.0 x (property_views behind))) w

-- no property before the first one with a key has that key
pub none_before : (ps before : List Property) (i key : ℕ) → before ≡ take i ps →
    position (λ (q : Property). q.key == key) ps ≡ Some i → All (λ (q : Property). q.key ≢ key) before
none_before ps before i key b found = λ k d l.
    let below : k < i = omega (arith, l, ap length b, length-take i ps) in
    let other = (position-Some (λ (q : Property). q.key == key) ps i d found).2 k below in
    let same : get_or before k d ≡ get_or ps k d = ap (λ qs. get_or qs k d) b ∙ get_or-take i ps k d below in
    λ e. true≢false (sym ((unsigned_Decides (get_or ps k d).key key).1 (ap (λ (q : Property). q.key) (sym same) ∙ e)) ∙ other)

-- where no property is found under a key, none is under it
pub none_found : (key : ℕ) (ps : List Property) → position (λ (q : Property). q.key == key) ps ≡ None →
    All (λ (q : Property). q.key ≢ key) ps
none_found key ps e = λ k d l e2.
    let all : length ps ≤ position_or_len (λ (q : Property). q.key == key) ps = grind (arith, common_steps) in
    let other = fails_before_first (λ (q : Property). q.key == key) ps k d (omega (arith, l, all)) in
    true≢false (sym ((unsigned_Decides (get_or ps k d).key key).1 e2) ∙ other)

tail_none : (key : ℕ) (p : Property) (ps : List Property) → All (λ (q : Property). q.key ≢ key) (p ∷ ps) →
    All (λ (q : Property). q.key ≢ key) ps
tail_none key p ps a = λ k d l. a (suc k) d (omega (arith, l))

-- a list whose trees have a property under the key has one
pub key_there : (key flags : ℕ) (v : Tree) (ps : List Property) (bs qs : Properties) →
    property_views ps ≡ join_properties bs (property key flags v qs) → ¬ (All (λ (q : Property). q.key ≢ key) ps)
key_there key f v [] no_properties qs e a = absurd (cc e)
key_there key f v [] (property k g w bs) qs e a = absurd (cc e)
key_there key f v (p ∷ ps) no_properties qs e a = a 0 p (omega arith) (cc e)
key_there key f v (p ∷ ps) (property k g w bs) qs e a = key_there key f v ps bs qs (cc e) (tail_none key p ps a)

-- the first property under the key, of two lists before which none is under it
pub same_first : (key flags : ℕ) (v : Tree) (ps bs : List Property) (p : Property) (qs : List Property) (rs : Properties) →
    property_views (ps ++ p ∷ qs) ≡ join_properties (property_views bs) (property key flags v rs) → p.key ≡ key →
    All (λ (q : Property). q.key ≢ key) ps → All (λ (q : Property). q.key ≢ key) bs → view p.value ≡ v
same_first key f v [] [] p qs rs e k a b = cc e
same_first key f v [] (c ∷ bs) p qs rs e k a b = absurd (b 0 c (omega arith) (cc (e, k)))
same_first key f v (c ∷ ps) [] p qs rs e k a b = absurd (a 0 c (omega arith) (cc e))
same_first key f v (c ∷ ps) (d ∷ bs) p qs rs e k a b =
    same_first key f v ps bs p qs rs (cc e) k (tail_none key c ps a) (tail_none key d bs b)
