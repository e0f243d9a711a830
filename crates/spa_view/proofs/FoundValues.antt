-- Properties of accepted objects, found by their keys, and what their values say settled.
use Rattle.std.proofs.Common.{inl, ⊎_elim, ◌≡◌, ℕ, List, [], ◌∷◌, Bool, true, false, Some, None, Option, drop, refl, sym, ap, ◌∙◌, subst}
use Rattle.std.specs.Prelude.{IfNone, IsSomeAnd, if◌then◌else◌, nat_eq}
use Rattle.spa_format.specs.Words.{header_size, word_at}
use Rattle.spa_format.specs.Tree.{Tree, Properties, no_properties, property, object}
use Rattle.spa_format.specs.Pod.{IsPod}
use Rattle.spa_format.specs.Walk.{ArePropertiesOf, first_with_key, property_walk, properties_of}
use Rattle.spa_format.specs.Lenient.{ReplacesNoneChoice}
use Rattle.spa_format.proofs.Conveyed.{one_value, pod_conveys}
use Rattle.spa_format.proofs.Shapes.{choice_only}
use Rattle.spa_format.proofs.WalkedMembers.{object_walked}
use Rattle.spa_view.specs.Found.{first_value, property_at, IsSettledUnder, StandsUnder}
use Rattle.spa_view.specs.Settled.{Says, settled_bytes, settled_of}
use Rattle.spa_view.proofs.SettledPods.{settled_pod}

-- a property of this value is found
abbrev pub Finds : Option (List ℕ) → Tree → Type 0
Finds o v = (p : List ℕ) × (o ≡ Some p) × IsPod (drop header_size p) v

found_by : (b : Bool) (v w : Tree) (p : List ℕ) (o : Option Tree) (q : Option (List ℕ)) →
    IsPod (drop header_size p) v → (o ≡ Some w → Finds q w) →
    (if b then Some v else o) ≡ Some w → Finds (if b then Some p else q) w
found_by true v w p o q h f e = let i : v ≡ w = cc in (p, refl, subst (IsPod (drop header_size p)) i h)
found_by false v w p o q h f e = f e

pub finds : (key : ℕ) (ps : Properties) (bs : List (List ℕ)) (v : Tree) → ArePropertiesOf ps bs →
    first_value key ps ≡ Some v → Finds (first_with_key key bs) v
finds key no_properties bs v h e = absurd (cc)
finds key (property k f w ps) [] v h e = absurd h
finds key (property k f w ps) (p ∷ bs) v h e =
    found_by (nat_eq (word_at p 0) key) w v p (first_value key ps) (first_with_key key bs) h.2
    (λ g. finds key ps bs v h.3 g)
    (ap (λ n. if nat_eq n key then Some w else first_value key ps) (sym h.0) ∙ e)

lacks_by : (b : Bool) (v : Tree) (p : List ℕ) (o : Option Tree) (q : Option (List ℕ)) →
    (o ≡ None → q ≡ None) → (if b then Some v else o) ≡ None → (if b then Some p else q) ≡ None
lacks_by true v p o q f e = absurd (cc)
lacks_by false v p o q f e = f e

pub lacks : (key : ℕ) (ps : Properties) (bs : List (List ℕ)) → ArePropertiesOf ps bs →
    first_value key ps ≡ None → first_with_key key bs ≡ None
lacks key no_properties bs h e = ap (first_with_key key) h
lacks key (property k f w ps) [] h e = absurd h
lacks key (property k f w ps) (p ∷ bs) h e =
    lacks_by (nat_eq (word_at p 0) key) w p (first_value key ps) (first_with_key key bs)
    (λ g. lacks key ps bs h.3 g)
    (ap (λ n. if nat_eq n key then Some w else first_value key ps) (sym h.0) ∙ e)

pub finds_value : (key : ℕ) (b : List ℕ) (type id : ℕ) (ps : Properties) (v : Tree) →
    IsPod b (object type id ps) → first_value key ps ≡ Some v → Finds (property_at key b) v
finds_value key b type id ps v h e =
    finds key ps (property_walk (properties_of b)) v (object_walked type id ps b h) e

pub lacks_value : (key : ℕ) (b : List ℕ) (type id : ℕ) (ps : Properties) →
    IsPod b (object type id ps) → first_value key ps ≡ None → property_at key b ≡ None
lacks_value key b type id ps h e =
    lacks key ps (property_walk (properties_of b)) (object_walked type id ps b h) e

-- What stands under a key, settled.

-- a pod says its value
pub pod_says : (v : Tree) (b : List ℕ) → IsPod b v → Says v b
pod_says v b h =
    ⊎_elim
    (λ q. record { whole = h.whole; its_type = q.0; content = q.1 })
    (λ q. let c = choice_only v (sym h.its_type ∙ q.0) in absurd (subst ReplacesNoneChoice c.5 q.1))
    (pod_conveys b v h).content

-- and no other
one_said : (v w : Tree) (b : List ℕ) → IsPod b v → Says w b → v ≡ w
one_said v w b h i =
    one_value b v w (pod_conveys b v h) (record { whole = i.whole; content = inl (i.its_type, i.content) })

settled_is : (o : Option (List ℕ)) (p : Option Tree) (v : Tree) → ((w : Tree) → p ≡ Some w → Finds o w) →
    IsSomeAnd p (λ w. settled_of w ≡ v) → IsSomeAnd o (λ q. Says v (settled_bytes (drop header_size q)))
settled_is o (Some w) v f h =
    let found = f w refl in
    let q = found.0 in
    let b = drop header_size q in
    let is : IsPod (settled_bytes b) v = subst (IsPod (settled_bytes b)) h (settled_pod w b found.2) in
    subst (λ r. IsSomeAnd r (λ z. Says v (settled_bytes (drop header_size z)))) (sym found.1) (pod_says v (settled_bytes b) is)
settled_is o None v f h = absurd h

is_settled_of : (o : Option (List ℕ)) (p : Option Tree) (v : Tree) → ((w : Tree) → p ≡ Some w → Finds o w) → (p ≡ None → o ≡ None) →
    IsSomeAnd o (λ q. Says v (settled_bytes (drop header_size q))) → IsSomeAnd p (λ w. settled_of w ≡ v)
is_settled_of o (Some w) v f g h =
    let found = f w refl in
    let q = found.0 in
    let b = drop header_size q in
    let says : Says v (settled_bytes b) = subst (λ r. IsSomeAnd r (λ z. Says v (settled_bytes (drop header_size z)))) found.1 h in
    one_said (settled_of w) v (settled_bytes b) (settled_pod w b found.2) says
is_settled_of o None v f g h =
    absurd (subst (λ r. IsSomeAnd r (λ z. Says v (settled_bytes (drop header_size z)))) (g refl) h)

pub stands_under : (key : ℕ) (v : Tree) (b : List ℕ) (type id : ℕ) (ps : Properties) → IsPod b (object type id ps) →
    IsSettledUnder key v ps → StandsUnder key v b
stands_under key v b type id ps h s =
    settled_is (property_at key b) (first_value key ps) v (λ w e. finds_value key b type id ps w h e) s

pub settled_under : (key : ℕ) (v : Tree) (b : List ℕ) (type id : ℕ) (ps : Properties) → IsPod b (object type id ps) →
    StandsUnder key v b → IsSettledUnder key v ps
settled_under key v b type id ps h s =
    is_settled_of (property_at key b) (first_value key ps) v (λ w e. finds_value key b type id ps w h e)
    (λ e. lacks_value key b type id ps h e) s

pub never_some : {A : Type 0} (r : Option A) {P Q : Type 0} → (P → Q) → IfNone r P → IfNone r Q
never_some (Some x) f h = tt
never_some None f h = f h

pub stands_in : (key : ℕ) (v : Tree) (b p q : List ℕ) → property_at key b ≡ Some p → q ≡ settled_bytes (drop header_size p) → Says v q →
    StandsUnder key v b
stands_in key v b p q e f h =
    subst (λ o. IsSomeAnd o (λ z. Says v (settled_bytes (drop header_size z)))) (sym e) (subst (Says v) f h)

pub says_in : (key : ℕ) (v : Tree) (b p q : List ℕ) → property_at key b ≡ Some p → q ≡ settled_bytes (drop header_size p) →
    StandsUnder key v b → Says v q
says_in key v b p q e f h =
    subst (Says v) (sym f) (subst (λ o. IsSomeAnd o (λ z. Says v (settled_bytes (drop header_size z)))) e h)

pub stands_nowhere : (key : ℕ) (v : Tree) (b : List ℕ) → property_at key b ≡ None → StandsUnder key v b → ⊥
stands_nowhere key v b e h = subst (λ o. IsSomeAnd o (λ z. Says v (settled_bytes (drop header_size z)))) e h
