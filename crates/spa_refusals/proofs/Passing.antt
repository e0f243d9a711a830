-- Members, and properties, passed one after another.
use Rattle.std.proofs.Common.{◌≡◌, ◌≢◌, ◌≤◌, ◌+◌, ◌∙◌, ℕ, List, [], ◌++◌, length, take, drop, ap, arith, append_assoc, length-append, refl, subst, sym}
use Rattle.std.proofs.lemmas.List.{append-nil, drop_at, length-take-le, take-append-drop}
use Rattle.spa_format.specs.Front.{Begins, HasFront, front_of, rest_of}
use Rattle.spa_format.specs.Pod.{AreMembers, AreProperties, IsBody}
use Rattle.spa_format.specs.Tree.{Tree, Trees, Properties, join_members, join_properties, member, no_properties, no_trees, property, type_of}
use Rattle.spa_format.specs.Walk.{walk}
use Rattle.spa_format.specs.Words.{word_at}
use Rattle.spa_format.proofs.Fronts.{front_and_rest, front_of_whole}
use Rattle.spa_format.proofs.Sequences.{members_push, props_joined}
use Rattle.spa_format.proofs.WalkLemmas.{walk-end, walk-there}
use Rattle.spa_recordings.proofs.Holding.{WholeSoFar, count_joined, walk_begins, walk_goes_on}
use Rattle.spa_refusals.specs.Paths.{HoldsMember, member_step}

-- some first ones are read, and this is left
pub record Passed (properties left : List ℕ) : Type 0 where
  pub values : Properties
  pub first : List ℕ
  pub whole : properties ≡ first ++ left
  pub read : AreProperties values first

pub begins : (properties : List ℕ) → Passed properties properties
begins properties = record { values = no_properties; first = []; whole = refl; read = refl }

-- one alone
one : (left : List ℕ) (v : Tree) → 8 ≤ length left → Begins (drop 8 left) v →
    (let b = take 8 left ++ front_of (drop 8 left) in AreProperties (property (word_at b 0) (word_at b 4) v no_properties) b)
one left v long begun =
    let value = front_of (drop 8 left) in
    let l = length-take-le 8 left long in
    let a = length-append (take 8 left) value in (
      omega (arith, l, a),
      refl,
      refl,
      value,
      [],
      drop_at (take 8 left) value 8 l ∙ sym (append-nil value),
      begun.pod,
      refl,
    )

pub goes_on : (properties left value rest : List ℕ) (v : Tree) → Passed properties left → 8 ≤ length left → value ≡ drop 8 left → Begins value v →
    rest ≡ rest_of value → Passed properties rest
goes_on properties left value rest v so long is begun behind =
    let d = drop 8 left in
    let b = take 8 left ++ front_of d in
    let its : Begins d v = subst (λ z. Begins z v) is begun in
    let parts : left ≡ b ++ rest =
    sym (take-append-drop 8 left) ∙ ap (λ z. take 8 left ++ z) (front_and_rest d)
    ∙ sym (append_assoc (take 8 left) (front_of d) (rest_of d)) ∙ ap (λ z. b ++ z) (sym (behind ∙ ap rest_of is)) in
    record {
      values = join_properties so.values (property (word_at b 0) (word_at b 4) v no_properties);
      first = so.first ++ b;
      whole = so.whole ∙ ap (λ z. so.first ++ z) parts ∙ sym (append_assoc so.first b rest);
      read = props_joined so.values (property (word_at b 0) (word_at b 4) v no_properties) so.first b so.read (one left v long its);
    }

-- ---- Members

walked : (vs : Trees) (b c : List ℕ) → AreMembers vs b → length (walk (b ++ c)) ≡ length (walk b) + length (walk c)
walked no_trees b c m =
    let n : ¬ (HasFront b) = λ f. (let h = f.header in let l = ap length m in omega (arith, h, l)) in
    let e = ap (λ z. length (walk (z ++ c))) m in
    let d = ap length (walk-end b n) in
    omega (arith, e, d)
walked (member v vs) b c m =
    let whole : b ++ c ≡ m.0 ++ (m.1 ++ c) = ap (λ z. z ++ c) m.2 ∙ append_assoc m.0 m.1 c in
    let f = front_of_whole b m.0 m.1 (type_of v) (IsBody v) m.2 m.3 in
    let g = front_of_whole (b ++ c) m.0 (m.1 ++ c) (type_of v) (IsBody v) whole m.3 in
    let n = ap length (walk-there b f.0) in
    let o = ap length (walk-there (b ++ c) g.0) in
    let p = ap (λ z. length (walk z)) f.2 in
    let q = ap (λ z. length (walk z)) g.2 in
    let r = walked vs m.1 c m.4 in
    omega (arith, n, o, p, q, r)

-- some first ones are read and counted, and this is left
pub record PassedMembers (members left : List ℕ) (count : ℕ) : Type 0 where
  pub values : Trees
  pub first : List ℕ
  pub whole : members ≡ first ++ left
  pub read : AreMembers values first
  pub counted : WholeSoFar members left count

pub none_passed : (members : List ℕ) → PassedMembers members members 0
none_passed members = record { values = no_trees; first = []; whole = refl; read = refl; counted = walk_begins members }

pub one_passed : (members left rest : List ℕ) (count : ℕ) (v : Tree) → PassedMembers members left count → Begins left v → rest ≡ rest_of left →
    PassedMembers members rest (count + 1)
one_passed members left rest count v so begun is =
    let parts : left ≡ front_of left ++ rest = front_and_rest left ∙ ap (λ z. front_of left ++ z) (sym is) in
    record {
      values = join_members so.values (member v no_trees);
      first = so.first ++ front_of left;
      whole = so.whole ∙ ap (λ z. so.first ++ z) parts ∙ sym (append_assoc so.first (front_of left) rest);
      read = members_push so.values v so.first (front_of left) so.read begun.pod;
      counted = walk_goes_on members left rest count begun.there is so.counted;
    }

pub member_found : (members left path new : List ℕ) (count : ℕ) → PassedMembers members left count → left ≢ [] → new ≡ path ++ member_step count →
    HoldsMember members path left new
member_found members left path new count so some step =
    let o = so.counted.counted in
    let j = count_joined so.counted.before left so.counted.whole in
    let w = walked so.values so.first left so.read in
    let e = ap (λ z. length (walk z)) (sym so.counted.parts ∙ so.whole) in
    let same : count ≡ length (walk so.first) = omega (arith, o, j, w, e) in
    record {
      values = so.values;
      first = so.first;
      whole = so.whole;
      read = so.read;
      some = some;
      step = step ∙ ap (λ z. path ++ member_step z) same;
    }
