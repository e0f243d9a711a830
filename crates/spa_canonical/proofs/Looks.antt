-- A look at pods: what is passed, what is opened, and what waits.
use Rattle.std.proofs.Common.{◌≡◌, ◌≢◌, ℕ, suc, ◌+◌, ◌-◌, ◌<◌, ◌≤◌, ◌%◌, inl, inr, List, [], ◌∷◌, ◌++◌, length, take, drop, reverse, refl, sym, ap, ◌∙◌, subst, arith, append_assoc, length-drop}
use Rattle.std.specs.Prelude.{Bool, true, false, cond, get_or, not, replicate, set, ◌==◌}
use Rattle.std.specs.Borrow.{Bor}
use Rattle.std.proofs.lemmas.List.{append-nil, drop_at, length-reverse, length-take-le, reverse-append, take-append-drop, take_at, take_more, take_more_set}
use Rattle.spa_format.specs.Words.{body_of, extent, header_size, padded_size, word_at}
use Rattle.spa_format.specs.Tree.{Tree, no_trees, member, no_properties, property, object_type, struct}
use Rattle.spa_format.specs.Pod.{AreMembers, AreProperties}
use Rattle.spa_format.specs.Front.{HasFront, front_of, rest_of}
use Rattle.spa_format.specs.Faults.{Fault, Stands, in_member, in_key, in_property}
use Rattle.spa_format.specs.Typed.{IsBytes}
use Rattle.spa_format.proofs.Fronts.{length-body_of}
use Rattle.spa_format.proofs.Sequences.{props_joined}
use Rattle.spa_format.proofs.WordLemmas.{IsBytes-drop, word_at-append}
use Rattle.spa_bytes.specs.Opening.{Opens}
use Rattle.spa_bodies.specs.Reading.{BeginsWith}
use Rattle.spa_bodies.specs.Refusing.{StandsInMembers}
use Rattle.spa_canonical.specs.Canonical.{AreCanonical, AreCanonicalProperties, BeginsCanonical, HasZeros, IsCanonicalBody}
use Rattle.spa_canonical.proofs.Frames.{body_bytes, canonical_front, none_left, none_left_either, object_of, one_more, one_more_property}
use Rattle.spa_canonical.proofs.Made.{made_body, made_members, made_properties}
use Rattle.spa_canonical.proofs.Opened.{object_inside, struct_inside}
use Rattle.spa_canonical.specs.Depth.{NestsDeeperInside}
use Rattle.spa_canonical.specs.Look.{AreCanonicalInside, Awaits, BeginsAsked, Fits, IsFound, Onward, OpensInside, Passes, StandsAt, StandsInside, scope_of}
use Rattle.spa_canonical.specs.Rewriting.{BeginsShorter}
use Rattle.spa_events.specs.Inside.{IsBehindKey, IsInside, key_size}
use Rattle.spa_canonical.specs.declared.inside.Waiting.{Waiting}
use Rattle.spa_canonical.specs.declared.inside.Found.{Found}
use Rattle.spa_canonical.specs.declared.inside.Found.TheVariants as result
use Rattle.spa_canonical.proofs.Offsets.{body_long, key_long, offset_behind, offset_first, offset_opened}
use Rattle.spa_canonical.proofs.ShorterLemmas.{shorter_inside, shorter_none, shorter_opened, shorter_room, shorter_step, whole_keyed, whole_list}
use Rattle.spa_canonical.proofs.Levels.{as_deep_inside, deep_behind, deep_here, deep_inside}
use Rattle.spa_format.specs.Encoding.{encoding_of}
use Rattle.spa_format.proofs.Unique.{one_value}
use Rattle.spa_canonical.proofs.Lengths.{lengths}
use Rattle.spa_bodies.proofs.Steps.{parted}

-- a canonical pod in front of others
own_step : (keyed : Bool) (left here rest : List ℕ) → IsBytes left → IsBehindKey keyed left here → BeginsCanonical here rest →
    AreCanonicalInside keyed rest → AreCanonicalInside keyed left
own_step true left here rest h k c r = one_more_property left here rest h k.0 k.1 c r
own_step false left here rest h k c r = subst AreCanonical k (one_more here rest c r)

-- the first of canonical ones, and the others
pub record FirstOwn (keyed : Bool) (here rest : List ℕ) : Type 0 where
  pub first : BeginsCanonical here rest
  pub others : AreCanonicalInside keyed rest

pub first_own : (keyed : Bool) (left here rest : List ℕ) → IsBytes left → 0 < length left → IsBehindKey keyed left here → rest ≡ rest_of here →
    AreCanonicalInside keyed left → FirstOwn keyed here rest
first_own true left here rest h l k e c =
    let m = made_properties left h l c in
    subst (FirstOwn true here) (sym e) (subst (λ x. FirstOwn true x (rest_of x)) (sym k.1) (record { first = m.first; others = m.others }))
first_own false left here rest h l k e c =
    let m = made_members left h l c in
    subst (FirstOwn false here) (sym e) (subst (λ x. FirstOwn false x (rest_of x)) (sym k) (record { first = m.first; others = m.others }))

-- the first property
record FirstProperty (left here rest : List ℕ) (v : Tree) : Type 0 where
  first : List ℕ
  parts : left ≡ first ++ rest
  its : AreProperties (property (word_at left 0) (word_at left 4) v no_properties) first

first_property : (left here rest : List ℕ) (v : Tree) → IsBehindKey true left here → BeginsWith here v rest → FirstProperty left here rest v
first_property left here rest v k b =
    let head = take 8 left in
    let front = front_of here in
    let first = head ++ front in
    let long : length head ≡ 8 = length-take-le 8 left k.0 in
    let whole : left ≡ first ++ rest =
    sym (take-append-drop 8 left) ∙ ap (λ y. head ++ y) (sym k.1 ∙ parted here v rest b) ∙ sym (append_assoc head front rest) in
    let w0 : word_at left 0 ≡ word_at first 0 = ap (λ y. word_at y 0) whole ∙ word_at-append first rest 0 (omega lengths) in
    let w4 : word_at left 4 ≡ word_at first 4 = ap (λ y. word_at y 4) whole ∙ word_at-append first rest 4 (omega lengths) in
    let value : drop 8 first ≡ front ++ [] = drop_at head front 8 long ∙ sym (append-nil front) in
    let enough : 8 ≤ length first = omega lengths in
    record { first = first; parts = whole; its = (enough, w0, w4, front, [], value, b.begins.pod, refl) }

-- a fault behind an accepted pod
stands_behind : (keyed : Bool) (left here rest : List ℕ) (v : Tree) (k : Fault) (place : List ℕ) → IsBehindKey keyed left here → BeginsWith here v rest →
    StandsInside keyed rest place k → StandsInside keyed left place k
stands_behind true left here rest v k place i b s =
    let f = first_property left here rest v i b in
    let one = property (word_at left 0) (word_at left 4) v no_properties in (
      property (word_at left 0) (word_at left 4) v s.0,
      f.first ++ s.1,
      s.2,
      f.parts ∙ ap (λ l. f.first ++ l) s.3 ∙ sym (append_assoc f.first s.1 s.2),
      props_joined one s.0 f.first s.1 f.its s.4,
      s.5,
    )
stands_behind false left here rest v k place i b s =
    subst (λ x. StandsInMembers x place k) i (
      member v s.0,
      front_of here ++ s.1,
      s.2,
      parted here v rest b ∙ ap (λ l. front_of here ++ l) s.3 ∙ sym (append_assoc (front_of here) s.1 s.2),
      (front_of here, s.1, refl, b.begins.pod, s.4),
      s.5,
      s.6,
    )

-- a fault of the first pod
pub stands_first : (keyed : Bool) (left here : List ℕ) (k : Fault) (place : List ℕ) → IsBehindKey keyed left here → 0 < length left → Stands k place here →
    StandsInside keyed left place k
stands_first true left here k place i l s = (no_properties, [], left, refl, refl, inr (i.0, subst (Stands k place) i.1 s))
stands_first false left here k place i l s =
    let n : left ≢ [] = λ e. let z = ap length e in omega arith in
    (no_trees, [], left, refl, refl, n, subst (Stands k place) i s)

-- a fault inside the first pod
pub stands_opened : (type : ℕ) (here body rest inside : List ℕ) (inner : Bool) (k : Fault) (place : List ℕ) → Opens here type body rest →
    IsInside type body inner inside → StandsInside inner inside place k → Stands k place here
stands_opened type here body rest inside false k place o i s =
    in_member here s.0 s.1 s.2 o.there (sym o.its_type ∙ i.0) (sym o.its_body ∙ sym i.1 ∙ s.3) s.4 s.5 s.6
stands_opened type here body rest inside true k place o i s =
    let t : word_at here 4 ≡ object_type = sym o.its_type ∙ i.0 in
    let b = o.its_body in
    let long : header_size ≤ length (body_of here) = subst (λ x. header_size ≤ length x) b i.1 in
    let behind : drop header_size (body_of here) ≡ s.1 ++ s.2 = ap (drop header_size) (sym b) ∙ sym i.2 ∙ s.3 in
    elim s.5 [
      | inl x ↦
          in_key here s.0 s.1 o.there t long (behind ∙ ap (λ y. s.1 ++ y) (sym x.1)) s.4 (λ n. x.2 (sym x.1 ∙ n))
          (subst (λ y. length y < header_size) (sym x.1) x.3) x.0
      | inr x ↦ in_property here s.0 s.1 s.2 o.there t long behind s.4 x.0 x.1
    ]

pub behind_bytes : (keyed : Bool) (left here : List ℕ) → IsBytes left → IsBehindKey keyed left here → IsBytes here
behind_bytes true left here h k = subst IsBytes (sym k.1) (IsBytes-drop header_size left h)
behind_bytes false left here h k = subst IsBytes (sym k) h

pub behind_shorter : (keyed : Bool) (left here : List ℕ) → IsBehindKey keyed left here → length here ≤ length left
behind_shorter true left here k = let e = ap length k.1 ∙ length-drop 8 left in omega arith
behind_shorter false left here k = let e = ap length k in omega arith

rest_bytes : (here rest : List ℕ) → IsBytes here → rest ≡ rest_of here → IsBytes rest
rest_bytes here rest h e = subst IsBytes (sym e) (IsBytes-drop (extent (word_at here 0)) here h)

-- none is passed
pub passes_none : (keyed canonical : Bool) (left : List ℕ) → IsBytes left → Passes keyed canonical left left 0
passes_none keyed canonical left h = record {
  bytes = h;
  ends = λ m s. subst (Fits canonical keyed left) (omega arith) s;
  kept = λ c. c;
  stands = λ k place s. s;
  offset = λ k m s. (let e : m ≡ length left - (length left + 0) + m = omega arith in subst (λ m. StandsAt k (scope_of keyed) m left) e s);
  deep = λ n d. subst (λ m. NestsDeeperInside m keyed left) (omega arith) d;
  room = omega arith;
}

-- and some more
pub goes_on : (canonical all keyed : Bool) (pods left rest : List ℕ) (Then : ℕ → Type 0) (waiting behind surplus n : ℕ) →
    Awaits canonical all pods Then waiting keyed left behind surplus → Passes keyed canonical left rest n →
    Awaits canonical all pods Then waiting keyed rest behind (surplus + n)
goes_on canonical all keyed pods left rest Then waiting behind surplus n w p = record {
  bytes = p.bytes;
  ends = λ m s. subst Then (omega arith) (w.ends (n + m) (p.ends m s));
  kept = λ c. p.kept (w.kept c);
  stands = λ k place s. w.stands k place (p.stands k place s);
  offset = λ k at s.
      subst (λ m. StandsAt k (scope_of all) m pods) (omega arith) (w.offset k (length left - (length rest + 0) + at) (p.offset k at s));
  deep = λ m s. w.deep m (subst (λ n. NestsDeeperInside n keyed left) (omega arith) (p.deep m s));
  room = (let a = w.room in let b = p.room in omega arith);
}

-- where something follows a pod, something is left
pub some_left : (keyed : Bool) (left here : List ℕ) → IsBehindKey keyed left here → HasFront here → 0 < length left
some_left keyed left here k h = let d = behind_shorter keyed left here k in let e = h.header in omega arith

-- a pod that the look asks for is passed
pub passes_pod : (keyed canonical : Bool) (left here rest : List ℕ) (n : ℕ) → IsBytes left → IsBehindKey keyed left here → BeginsAsked canonical here rest n →
    Passes keyed canonical left rest n
passes_pod keyed canonical left here rest n h k a =
    let b = a.shorter in
    let l = some_left keyed left here k b.begins.begins.there in
    let e = b.begins.follows in
    let r = shorter_room here rest n b in
    let d = behind_shorter keyed left here k in
    record {
      ends = λ m s.
          record { shorter = shorter_step keyed left here rest n m k b s.shorter; own = λ t. own_step keyed left here rest h k (a.own t) (s.own t) };
      kept = λ s. (first_own keyed left here rest h l k e s).others;
      stands = λ f place s. stands_behind keyed left here rest b.value f place k b.begins s;
      offset = λ f at s. subst (λ m. StandsAt f (scope_of keyed) m left) (omega arith) (offset_behind keyed left here rest b.value f at k b.begins s);
      deep = λ m s.
          subst (λ n. NestsDeeperInside n keyed left) (omega arith) (deep_behind m keyed left here k b.begins.begins.there (subst (NestsDeeperInside m keyed) e s));
      bytes = rest_bytes here rest (behind_bytes keyed left here h k) e;
      room = omega arith;
    }

-- a canonical one is as long as its encoding
pub own_shorter : (here rest : List ℕ) → BeginsCanonical here rest → BeginsShorter here rest 0
own_shorter here rest c = let l = ap length c.same in record { value = c.value; begins = c.begins; long = omega arith }

-- a canonical pod, where the look asks for it
pub asked_own : (canonical : Bool) (here rest : List ℕ) → BeginsCanonical here rest → BeginsAsked canonical here rest 0
asked_own canonical here rest c = record { shorter = own_shorter here rest c; own = λ _. c }

-- these wait, and this is left of the innermost list
abbrev pub AwaitsAll : Bool → Bool → List ℕ → List Waiting → Bool → List ℕ → ℕ → ℕ → Type 0
AwaitsAll canonical all pods outer = Awaits canonical all pods (Onward canonical all pods outer) (length outer)

-- how a list says that a key and flags stand before each pod
word_kept : (keyed : Bool) → keyed ≡ not (cond keyed 1 0 == 0)
word_kept true = refl
word_kept false = refl

-- what is left of a list
abbrev pub list_of : Bool → ℕ → Bor (List ℕ) → Waiting
list_of keyed behind left = record { keyed = cond keyed 1 0; behind = behind; pods = left }

pub in_list : (canonical all keyed : Bool) (pods : List ℕ) (left : Bor (List ℕ)) (here : Waiting) (outer : List Waiting) (behind surplus : ℕ) →
    here ≡ list_of keyed behind left → AwaitsAll canonical all pods outer keyed left.now behind surplus → Onward canonical all pods (here ∷ outer) surplus
in_list canonical all keyed pods left here outer behind surplus e w =
    subst (λ l. Onward canonical all pods (l ∷ outer) surplus) (sym e)
    (subst (λ k. AwaitsAll canonical all pods outer k left.now behind surplus) (word_kept keyed) w)

pub inside_bytes : (type : ℕ) (body inside : List ℕ) (inner : Bool) → IsBytes body → IsInside type body inner inside → IsBytes inside
inside_bytes type body inside true h i = subst IsBytes (sym i.2) (IsBytes-drop header_size body h)
inside_bytes type body inside false h i = subst IsBytes (sym i.1) h

-- the body of a struct or of an object whose members or properties are accepted is whole
body_whole : (type : ℕ) (body inside : List ℕ) (inner : Bool) → IsInside type body inner inside → AreCanonicalInside inner inside → length body % 8 ≡ 0
body_whole type body inside true i c =
    let w = whole_keyed c.values inside c.properties in
    let e = ap length i.2 ∙ length-drop 8 body in
    omega arith
body_whole type body inside false i c = let w = whole_list c.values inside c.members in let e = ap length i.1 in omega arith

own_body : (type : ℕ) (body inside : List ℕ) (inner : Bool) → IsBytes body → IsInside type body inner inside → AreCanonicalInside inner inside →
    IsCanonicalBody type body
own_body type body inside true h i c = object_of body inside type h i.1 i.2 i.0 c
own_body type body inside false h i c =
    record { value = struct c.values; its_type = sym i.0; its_body = subst (AreMembers c.values) i.1 c.members; same = sym i.1 ∙ c.same }

no_padding : (behind : List ℕ) (size : ℕ) → size % 8 ≡ 0 → HasZeros behind size
no_padding behind size w =
    let z : padded_size size - size ≡ 0 = omega arith in
    ap (λ n. take n (drop size behind)) z ∙ sym (ap (λ n. replicate n 0) z)

-- canonical members or properties in a canonical struct or object
pub own_opened : (type : ℕ) (here body rest inside : List ℕ) (inner : Bool) → IsBytes here → Opens here type body rest → IsInside type body inner inside →
    AreCanonicalInside inner inside → BeginsCanonical here rest
own_opened type here body rest inside inner h o i c =
    let b = own_body type body inside inner (body_bytes here body rest type h o) i c in
    let z = no_padding (drop 8 here) (length body) (body_whole type body inside inner i c) in
    canonical_front here (drop 8 here) body rest type h o refl z b

pub inside_own : (type : ℕ) (here body rest behind inside : List ℕ) (inner : Bool) → IsBytes here → Opens here type body rest → IsInside type body inner inside →
    BeginsCanonical here behind → AreCanonicalInside inner inside
inside_own type here body rest behind inside true h o i c =
    let m = made_body here behind body rest type h c o in
    subst AreCanonicalProperties (sym i.2) (object_inside type body i.0 m.canonical)
inside_own type here body rest behind inside false h o i c =
    let m = made_body here behind body rest type h c o in
    subst AreCanonical (sym i.1) (struct_inside type body i.0 m.canonical)

-- keys and headers stand before what is inside the first of them, and so many bytes behind it
abbrev pub Surround : Bool → List ℕ → Bool → List ℕ → ℕ → Type 0
Surround keyed left inner inside behind = length left ≡ key_size keyed + (header_size + (key_size inner + (length inside + behind)))

-- a struct or an object is opened, in which so many more wait
goes_inside : (canonical all keyed inner : Bool) (pods left inside rest : List ℕ) (Then : ℕ → Type 0) (waiting more behind after surplus : ℕ) →
    Awaits canonical all pods Then waiting keyed left behind surplus → OpensInside keyed left inner inside rest → Surround keyed left inner inside after →
    ((n : ℕ) → NestsDeeperInside n inner inside → NestsDeeperInside (n + more) all pods) →
    Awaits canonical all pods (Awaits canonical all pods Then waiting keyed rest behind) more inner inside (behind + after) surplus
goes_inside canonical all keyed inner pods left inside rest Then waiting more behind after surplus w x long deeper =
    let at = x.here in
    let o = x.opens in
    let i = x.its_inside in
    let h = behind_bytes keyed left at w.bytes x.its_key in
    let some = some_left keyed left at x.its_key o.there in
    record {
      bytes = inside_bytes x.type x.body inside inner (body_bytes at x.body rest x.type h o) i;
      ends = λ m s.
          let one = shorter_opened at x.body rest x.type m o (shorter_inside x.type x.body inside inner m i s.shorter) in
          goes_on canonical all keyed pods left rest Then waiting behind surplus m w
          (passes_pod keyed canonical left at rest m w.bytes x.its_key
          (record { shorter = one; own = λ e. own_opened x.type at x.body rest inside inner h o i (s.own e) }));
      kept = λ c. inside_own x.type at x.body rest rest inside inner h o i (first_own keyed left at rest w.bytes some x.its_key o.its_rest (w.kept c)).first;
      stands = λ f place s. w.stands f place (stands_first keyed left at f place x.its_key some (stands_opened x.type at x.body rest inside inner f place o i s));
      room = (let a = w.room in omega arith);
      offset = λ f n s.
          let head = header_size + (key_size inner + n) in
          subst (λ m. StandsAt f (scope_of all) m pods) (omega arith)
          (w.offset f (key_size keyed + head) (offset_first keyed left at f head some x.its_key (offset_opened x.type at x.body rest inside inner f n o i s)));
      deep = deeper;
    }

-- what follows it waits
pub list_waits : (canonical all keyed inner : Bool) (pods left inside : List ℕ) (rest : Bor (List ℕ)) (next : Waiting) (outer : List Waiting)
    (behind after surplus : ℕ) → next ≡ list_of keyed behind rest → AwaitsAll canonical all pods outer keyed left behind surplus →
    OpensInside keyed left inner inside rest.now → Surround keyed left inner inside after →
    AwaitsAll canonical all pods (next ∷ outer) inner inside (behind + after) surplus
list_waits canonical all keyed inner pods left inside rest next outer behind after surplus e w x long =
    subst (λ l. AwaitsAll canonical all pods (l ∷ outer) inner inside (behind + after) surplus) (sym e)
    (subst (λ k. Awaits canonical all pods (AwaitsAll canonical all pods outer k rest.now behind) (suc (length outer)) inner inside (behind + after) surplus)
    (word_kept keyed)
    (goes_inside canonical all keyed inner pods left inside rest.now (Onward canonical all pods outer) (length outer) (suc (length outer)) behind after surplus w x
    long (λ n d. subst (λ m. NestsDeeperInside m all pods) (omega arith) (w.deep (suc n) (deep_inside n keyed inner left inside rest.now x d)))))

-- there is no room for one more
pub no_room : (canonical all keyed inner : Bool) (pods left inside rest : List ℕ) (frames : List Waiting) (waiting behind surplus room : ℕ) →
    AwaitsAll canonical all pods (reverse (take waiting frames)) keyed left behind surplus → OpensInside keyed left inner inside rest →
    waiting + 1 ≡ length frames → room ≡ waiting → NestsDeeperInside room all pods
no_room canonical all keyed inner pods left inside rest frames waiting behind surplus room w x full e =
    let l = length-reverse (take waiting frames) ∙ length-take-le waiting frames (omega arith) in
    subst (λ n. NestsDeeperInside n all pods) (omega arith) (w.deep 0 (deep_here keyed inner left inside rest x))

pub none_own : (keyed : Bool) (left : List ℕ) → length left ≡ 0 → AreCanonicalInside keyed left
none_own true left z = none_left_either left z
none_own false left z = none_left left z

pub none_fits : (canonical keyed : Bool) (left : List ℕ) → length left ≡ 0 → Fits canonical keyed left 0
none_fits canonical keyed left z = record { shorter = shorter_none keyed left z; own = λ _. none_own keyed left z }

-- the innermost list has ended
pub list_ends : (canonical all keyed : Bool) (pods left : List ℕ) (Then : ℕ → Type 0) (waiting behind surplus : ℕ) →
    Awaits canonical all pods Then waiting keyed left behind surplus → length left ≡ 0 → Then surplus
list_ends canonical all keyed pods left Then waiting behind surplus w z = subst Then (omega arith) (w.ends 0 (none_fits canonical keyed left z))

-- nothing follows the struct or object, and nothing more waits
pub goes_in_last : (canonical all keyed inner : Bool) (pods left inside rest : List ℕ) (Then : ℕ → Type 0) (waiting behind after surplus : ℕ) →
    Awaits canonical all pods Then waiting keyed left behind surplus → OpensInside keyed left inner inside rest → Surround keyed left inner inside after →
    length rest ≡ 0 → Awaits canonical all pods Then waiting inner inside (behind + after) surplus
goes_in_last canonical all keyed inner pods left inside rest Then waiting behind after surplus w x long z =
    let n = goes_inside canonical all keyed inner pods left inside rest Then waiting waiting behind after surplus w x long (λ m d.
    w.deep m (as_deep_inside m keyed inner left inside rest x d)) in
    record {
      bytes = n.bytes;
      ends = λ m s. list_ends canonical all keyed pods rest Then waiting behind (surplus + m) (n.ends m s) z;
      kept = n.kept;
      stands = n.stands;
      room = n.room;
      offset = n.offset;
      deep = n.deep;
    }

-- how much is left in those that wait
abbrev pub left_waiting : List Waiting → ℕ
left_waiting [] = 0
left_waiting (next ∷ outer) = left_waiting outer + (length next.pods.now + 1)

-- a list more waits
pub pushed : {A : Type 0} (frames new : List A) (waiting more : ℕ) (next : A) → new ≡ set frames waiting next → more ≡ waiting + 1 → waiting < length frames →
    reverse (take more new) ≡ next ∷ reverse (take waiting frames)
pushed frames new waiting more next e m l =
    ap (λ n. reverse (take n new)) m ∙ ap (λ x. reverse (take (waiting + 1) x)) e ∙ ap reverse (take_more_set frames waiting next l)
    ∙ reverse-append (take waiting frames) (next ∷ [])

-- one less
pub popped : {A : Type 0} (frames : List A) (waiting fewer : ℕ) (other : A) → fewer + 1 ≡ waiting → fewer < length frames →
    reverse (take waiting frames) ≡ get_or frames fewer other ∷ reverse (take fewer frames)
popped frames waiting fewer other e l =
    ap (λ n. reverse (take n frames)) (sym e) ∙ ap reverse (take_more frames fewer other l) ∙ reverse-append (take fewer frames) (get_or frames fewer other ∷ [])

-- the first list of an array, around which none waits
pub first_list : (canonical keyed : Bool) (pods : List ℕ) (left : Bor (List ℕ)) (frames : List Waiting) (here : Waiting) (surplus : ℕ) → 0 < length frames →
    here ≡ list_of keyed 0 left → Passes keyed canonical pods left.now surplus → Onward canonical keyed pods (reverse (take 1 (set frames 0 here))) surplus
first_list canonical keyed pods left frames here surplus l e w =
    subst (λ lists. Onward canonical keyed pods lists surplus) (sym (pushed frames (set frames 0 here) 0 1 here refl refl l))
    (in_list canonical keyed keyed pods left here [] 0 surplus e w)

-- what is inside of a pod as such a list
pub inside_listed : (input body rest : List ℕ) (type : ℕ) (keyed : Bool) (inside : Bor (List ℕ)) (frames : List Waiting) (here : Waiting) → IsBytes input →
    Opens input type body rest → IsInside type body keyed inside.now → length frames ≢ 0 → here ≡ list_of keyed 0 inside →
    Onward false keyed inside.now (reverse (take 1 (set frames 0 here))) 0
inside_listed input body rest type keyed inside frames here h o i n e =
    let bytes = inside_bytes type body inside.now keyed (body_bytes input body rest type h o) i in
    first_list false keyed inside.now inside frames here 0 (omega (arith, n)) e (passes_none keyed false inside.now bytes)

-- lists that were put at the front of a longer array
pub copied : {A : Type 0} (frames new rest : List A) (n : ℕ) → length frames ≡ n → new ≡ frames ++ rest → take n new ≡ frames
copied frames new rest n l e = ap (take n) e ∙ take_at frames rest n l

-- what is found holds with any array that isn't full
pub found_with : (canonical keyed : Bool) (pods : List ℕ) (few many : ℕ) (found : Found) → ((n : ℕ) → found ≢ result.Full n) →
    IsFound canonical few keyed pods found → IsFound canonical many keyed pods found
found_with canonical keyed pods few many (result.Fits n) other f = f
found_with canonical keyed pods few many (result.Stops place behind) other f = f
found_with canonical keyed pods few many (result.Full n) other f = absurd (other n refl)

-- what stands inside and what follows are shorter
pub opened_shorter : (keyed inner : Bool) (left inside rest : List ℕ) → OpensInside keyed left inner inside rest → length inside + (length rest + 8) ≤ length left
opened_shorter keyed inner left inside rest x =
    let at = x.here in
    let o = x.opens in
    let a = ap length o.its_rest ∙ length-drop (extent (word_at at 0)) at in
    let b = ap length o.its_body ∙ length-body_of at o.there in
    let c = behind_shorter keyed left at x.its_key in
    let d = inside_shorter inner x.its_inside in
    omega arith
  where
    inside_shorter : (inner : Bool) → IsInside x.type x.body inner inside → length inside ≤ length x.body
    inside_shorter true i = let e = ap length i.2 ∙ length-drop 8 x.body in omega arith
    inside_shorter false i = let e = ap length i.1 in omega arith

-- a struct or an object opened
pub opens_inside : (keyed inner : Bool) (left at body rest inside : List ℕ) (type : ℕ) → IsBehindKey keyed left at → Opens at type body rest →
    IsInside type body inner inside → OpensInside keyed left inner inside rest
opens_inside keyed inner left at body rest inside type k o i = record { here = at; type = type; body = body; its_key = k; opens = o; its_inside = i }

-- and how many bytes stand behind what is inside
pub surround : (keyed inner : Bool) (left at body rest inside : List ℕ) (type after : ℕ) → IsBehindKey keyed left at → Opens at type body rest →
    IsInside type body inner inside → after ≡ length at - header_size - length body → Surround keyed left inner inside after
surround keyed inner left at body rest inside type after k o i e =
    let a = key_long keyed left at k in
    let b = body_long type body inside inner i in
    omega arith

-- of a canonical pod no byte goes
pub asked_none : (canonical : Bool) (here rest : List ℕ) (n : ℕ) → canonical ≡ true → BeginsAsked canonical here rest n → n ≡ 0
asked_none canonical here rest n t a =
    let c = a.own t in
    let s = a.shorter in
    let same = one_value (front_of here) s.value c.value s.begins.begins.pod c.begins.begins.pod in
    let own = ap length c.same ∙ ap (λ v. length (encoding_of v)) (sym same) in
    let l = s.long in
    omega arith
