-- Properties that were passed, and those that are left of a list.
use Rattle.std.proofs.Common.{◌≡◌, ℕ, ◌<◌, ◌≤◌, ◌==◌, List, length, drop, refl, sym, ap, ◌∙◌, subst, arith, Bool, true, false, not, true≢false, if◌then◌else◌, None}
use Rattle.std.specs.Cmp.{unsigned_Decides}
use Rattle.spa_format.specs.Words.{header_size}
use Rattle.spa_format.specs.Tree.{Tree, Properties, no_properties, property, join_properties}
use Rattle.spa_format.specs.Front.{rest_of}
use Rattle.spa_format.specs.Typed.{IsBytes}
use Rattle.spa_object_view.specs.Written.{AreWritten, HasFirst}
use Rattle.spa_object_view.specs.KeyOrder.{AreBelow, ArePassed, bytes_behind, length_behind}
use Rattle.spa_object_view.proofs.Listed.{AreListed, listed, has_key-none}
use Rattle.spa_object_view.proofs.KeyOrders.{rest_short}
use Rattle.spa_keyed_objects.specs.Keys.{offered_at, has_key}

-- a key among properties and others behind them
pub has_key-join : (k : ℕ) (ps qs : Properties) → has_key k (join_properties ps qs) ≡ (if has_key k ps then true else has_key k qs)
has_key-join k no_properties qs = refl
has_key-join k (property j f v ps) qs = of_key (j == k) (has_key-join k ps qs)
  where
    of_key : (b : Bool) → has_key k (join_properties ps qs) ≡ (if has_key k ps then true else has_key k qs) →
        (if b then true else has_key k (join_properties ps qs)) ≡ (if (if b then true else has_key k ps) then true else has_key k qs)
    of_key true e = refl
    of_key false e = e

pub has_key-first : (k f : ℕ) (v : Tree) (ps : Properties) → has_key k (property k f v ps) ≡ true
has_key-first k f v ps = ap (λ b. if b then true else has_key k ps) ((unsigned_Decides k k).1 refl)

pub bytes_behind-join : (ps qs : Properties) (b : List ℕ) → bytes_behind (join_properties ps qs) b ≡ bytes_behind qs (bytes_behind ps b)
bytes_behind-join no_properties qs b = refl
bytes_behind-join (property k f v ps) qs b = bytes_behind-join ps qs (rest_of (drop header_size b))

left_listed : (ds rs : Properties) (b : List ℕ) → AreListed (join_properties ds rs) b → AreListed rs (bytes_behind ds b)
left_listed no_properties rs b m = m
left_listed (property k f v ds) rs b m = left_listed ds rs (rest_of (drop header_size b)) m.1

left_short : (ds rs : Properties) (b : List ℕ) → AreListed (join_properties ds rs) b → length (bytes_behind ds b) ≤ length b
left_short no_properties rs b m = omega arith
left_short (property k f v ds) rs b m =
    let shorter = rest_short b m.0.header m.0.there in
    let more = left_short ds rs (rest_of (drop header_size b)) m.1 in
    omega arith

-- what stands behind the first property with a key, where that is new
behind_new : (key j g : ℕ) (v : Tree) (ds ts : Properties) (b : List ℕ) → j ≡ key → has_key key ds ≡ false →
    length_behind key (join_properties ds (property j g v ts)) b ≡ length (rest_of (drop header_size (bytes_behind ds b)))
behind_new key j g v no_properties ts b e n =
    let same : (j == key) ≡ true = (unsigned_Decides j key).1 e in
    ap (λ t. if t then length (rest_of (drop header_size b)) else length_behind key ts (rest_of (drop header_size b))) same
behind_new key j g v (property k f w ds) ts b e n = of_key (k == key) n (λ m. behind_new key j g v ds ts (rest_of (drop header_size b)) e m)
  where
    of_key : (t : Bool) → (if t then true else has_key key ds) ≡ false →
        (has_key key ds ≡ false → length_behind key (join_properties ds (property j g v ts)) (rest_of (drop header_size b)) ≡ length (rest_of (drop header_size (bytes_behind ds (rest_of (drop header_size b)))))) →
        (if t then length (rest_of (drop header_size b)) else length_behind key (join_properties ds (property j g v ts)) (rest_of (drop header_size b)))
        ≡ length (rest_of (drop header_size (bytes_behind ds (rest_of (drop header_size b)))))
    of_key true m more = absurd (true≢false m)
    of_key false m more = more m

-- and where it isn't
behind_seen : (key j g : ℕ) (v : Tree) (ds ts : Properties) (b : List ℕ) → AreListed (join_properties ds (property j g v ts)) b → has_key key ds ≡ true →
    length (rest_of (drop header_size (bytes_behind ds b))) < length_behind key (join_properties ds (property j g v ts)) b
behind_seen key j g v no_properties ts b m h = absurd (true≢false (sym h))
behind_seen key j g v (property k f w ds) ts b m h =
    let r = rest_of (drop header_size b) in
    let here = left_listed ds (property j g v ts) r m.1 in
    let shorter = rest_short (bytes_behind ds r) here.0.header here.0.there in
    let within = left_short ds (property j g v ts) r m.1 in
    of_key (k == key) h (omega arith) (λ n. behind_seen key j g v ds ts r m.1 n)
  where
    of_key : (t : Bool) → (if t then true else has_key key ds) ≡ true →
        length (rest_of (drop header_size (bytes_behind ds (rest_of (drop header_size b))))) < length (rest_of (drop header_size b)) →
        (has_key key ds ≡ true → length (rest_of (drop header_size (bytes_behind ds (rest_of (drop header_size b))))) < length_behind key (join_properties ds (property j g v ts)) (rest_of (drop header_size b))) →
        length (rest_of (drop header_size (bytes_behind ds (rest_of (drop header_size b)))))
        < (if t then length (rest_of (drop header_size b)) else length_behind key (join_properties ds (property j g v ts)) (rest_of (drop header_size b)))
    of_key true n less more = less
    of_key false n less more = more n

-- a key that is no less than the bound is new
pub new_above : (key bound : ℕ) (done : Properties) → AreBelow bound done → bound ≤ key → has_key key done ≡ false
new_above key bound done h l = of_key (has_key key done) refl
  where
    of_key : (b : Bool) → has_key key done ≡ b → b ≡ false
    of_key true e = absurd (let less = h key e in omega arith)
    of_key false e = refl

-- a key is new where the first property with it is this one
pub new_first : (key f n : ℕ) (ps done : Properties) (b left pod rest : List ℕ) → IsBytes b → AreWritten ps b → ArePassed ps done b left → HasFirst left key f pod rest →
    n ≡ length_behind key ps b → has_key key done ≡ not (n == length rest)
new_first key f n ps done b left pod rest h w p i e =
    let list = subst (λ qs. AreListed qs b) p.all (listed ps b h w.properties w.same) in
    let same : n ≡ length_behind key (join_properties done p.rest) b = e ∙ ap (λ qs. length_behind key qs b) p.all in
    let its_key = i.its_key in
    of_rest p.rest list (subst (AreListed p.rest) (sym p.left_is) (left_listed done p.rest b list)) same
  where
    of_new : (t : Bool) → has_key key done ≡ t → (t ≡ false → n ≡ length rest) → (t ≡ true → length rest < n) → has_key key done ≡ not (n == length rest)
    of_new true e new old =
        let differ : (n == length rest) ≡ false = of_test (n == length rest) refl in
        e ∙ ap not (sym differ)
      where
        of_test : (c : Bool) → (n == length rest) ≡ c → c ≡ false
        of_test true t = absurd (let s = (unsigned_Decides n (length rest)).0 t in let l = old refl in omega arith)
        of_test false t = refl
    of_new false e new old = e ∙ ap not (sym ((unsigned_Decides n (length rest)).1 (new refl)))

    of_rest : (rs : Properties) → AreListed (join_properties done rs) b → AreListed rs left → n ≡ length_behind key (join_properties done rs) b → has_key key done ≡ not (n == length rest)
    of_rest no_properties m l s = absurd (let z = ap length l in let long = i.header in omega arith)
    of_rest (property j g v ts) m l s =
        let its : j ≡ key = l.0.key ∙ sym i.its_key in
        let here : length rest ≡ length (rest_of (drop header_size (bytes_behind done b))) =
        ap length (i.its_rest ∙ ap (λ x. rest_of (drop header_size x)) p.left_is) in
        of_new (has_key key done) refl
        (λ t. s ∙ behind_new key j g v done ts b its t ∙ sym here)
        (λ t. let less = behind_seen key j g v done ts b m t in omega arith)

-- a property of the list has a key that is found
pub found_left : (key f : ℕ) (ps done : Properties) (b left pod rest : List ℕ) → IsBytes b → AreWritten ps b → ArePassed ps done b left → HasFirst left key f pod rest →
    ¬ (offered_at key ps ≡ None)
found_left key f ps done b left pod rest h w p i e =
    let list = subst (λ qs. AreListed qs b) p.all (listed ps b h w.properties w.same) in
    of_rest p.rest (subst (AreListed p.rest) (sym p.left_is) (left_listed done p.rest b list)) (ap (has_key key) (sym p.all) ∙ has_key-none key ps e)
  where
    of_key : (c : Bool) → (if c then true else true) ≡ true
    of_key true = refl
    of_key false = refl

    of_rest : (rs : Properties) → AreListed rs left → has_key key (join_properties done rs) ≡ false → ⊥
    of_rest no_properties l n = let z = ap length l in let long = i.header in omega arith
    of_rest (property j g v ts) l n =
        let its : j ≡ key = l.0.key ∙ sym i.its_key in
        let there : has_key key (property j g v ts) ≡ true = ap (λ k. has_key key (property k g v ts)) its ∙ has_key-first key g v ts in
        let all : has_key key (join_properties done (property j g v ts)) ≡ true =
        has_key-join key done (property j g v ts) ∙ ap (λ t. if has_key key done then true else t) there ∙ of_key (has_key key done) in
        true≢false (sym all ∙ n)

-- a key that neither side has
pub new_beside : (key : ℕ) (ps done : Properties) → has_key key ps ≡ false → has_key key (join_properties ps done) ≡ has_key key done
new_beside key ps done e = has_key-join key ps done ∙ ap (λ t. if t then true else has_key key done) e

-- a key that the one side has
pub old_beside : (key : ℕ) (ps done : Properties) → has_key key ps ≡ true → has_key key (join_properties ps done) ≡ true
old_beside key ps done e = has_key-join key ps done ∙ ap (λ t. if t then true else has_key key done) e

-- one more property is below a higher bound
pub below_on : (bound next key f : ℕ) (v : Tree) (done : Properties) → AreBelow bound done → bound ≤ next → key < next →
    AreBelow next (join_properties done (property key f v no_properties))
below_on bound next key f v done h l m = λ k e. of_key k (has_key k done) refl (key == k) refl (sym (has_key-join k done (property key f v no_properties)) ∙ e)
  where
    of_key : (k : ℕ) (a : Bool) → has_key k done ≡ a → (c : Bool) → (key == k) ≡ c → (if has_key k done then true else if key == k then true else false) ≡ true → k < next
    of_key k true e c t s = let less = h k e in omega arith
    of_key k false e true t s = let same = (unsigned_Decides key k).0 t in omega arith
    of_key k false e false t s =
        absurd (true≢false (sym s ∙ ap (λ a. if a then true else if key == k then true else false) e ∙ ap (λ c. if c then true else false) t))

-- one more property is passed
pub passed_on : (done : Properties) (b left rest : List ℕ) (key f : ℕ) (v : Tree) → left ≡ bytes_behind done b → rest ≡ rest_of (drop header_size left) →
    rest ≡ bytes_behind (join_properties done (property key f v no_properties)) b
passed_on done b left rest key f v e r =
    r ∙ ap (λ x. rest_of (drop header_size x)) e ∙ sym (bytes_behind-join done (property key f v no_properties) b)
