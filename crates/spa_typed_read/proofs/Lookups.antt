-- Properties that are looked up by their keys, and those that are skipped.
use Rattle.std.proofs.Common.{◌≡◌, ◌≢◌, ℕ, ◌<◌, ◌≤◌, List, [], length, drop, refl, sym, ap, ◌∙◌, subst, arith, ⊎_elim, Some, None, false}
use Rattle.std.specs.Prelude.{Bool, IfNone, Option, MatchOption, ◌==◌, if◌then◌else◌, true}
use Rattle.std.specs.Option.{unwrap_or}
use Rattle.std.specs.Cmp.{unsigned_Decides}
use Rattle.std.specs.Borrow.{Bor}
use Rattle.std.proofs.lemmas.Bool.{cases_lt}
use Rattle.spa_format.specs.Words.{header_size, word_at}
use Rattle.spa_format.specs.Tree.{Tree, Properties, no_properties, property}
use Rattle.spa_format.specs.Pod.{AreProperties, IsPod}
use Rattle.spa_format.specs.Front.{HasFront, Begins, IsRefused, front_of, rest_of}
use Rattle.spa_format.proofs.Fronts.{front_of_whole}
use Rattle.spa_format.proofs.Sequences.{props_left}
use Rattle.spa_format.proofs.Unique.{one_value}
use Rattle.spa_fixed_sized.specs.declared.fault.DeserializeError.{DeserializeError}
use Rattle.spa_typed_read.specs.ExactlyLaws.{fault_there, fault_to, memory_to}
use Rattle.spa_typed_read.proofs.Causes.{short_no_memory}
use Rattle.spa_typed_read.specs.Exactly.{IsUnread, RefusesExactly}
use Rattle.spa_typed_read.specs.Lookup.{AreNoProperties, FindsFirst, FindsIn, HasFirst, IsUnder, LacksProperty, LeadsTo, LeadsToAll, NoneRead, RefusesUnder, arrived, behind_another, place_or, short_key, short_pod, under_key, value_under}
use Rattle.spa_typed_read.specs.Members.{FurtherIn, ObjectReader}
use Rattle.spa_bodies.specs.Reading.{IsRead, OnFault, OnMemory, RefusesInput}

-- The first one is under the key, or another is.

is_under : (key k : ℕ) (v : Tree) (o : Option Tree) (b : Bool) → (k ≡ key → b ≡ true) → k ≡ key → (if b then Some v else o) ≡ Some v
is_under key k v o true is e = refl
is_under key k v o false is e = absurd (cc (is e))

is_another : (key k : ℕ) (v : Tree) (o : Option Tree) (b : Bool) → (b ≡ true → k ≡ key) → k ≢ key → (if b then Some v else o) ≡ o
is_another key k v o true is n = absurd (n (is refl))
is_another key k v o false is n = refl

first_under : (key k flags : ℕ) (v : Tree) (ps : Properties) → k ≡ key → value_under key (property k flags v ps) ≡ Some v
first_under key k flags v ps e = is_under key k v (value_under key ps) (k == key) (unsigned_Decides k key).1 e

behind_first : (key k flags : ℕ) (v : Tree) (ps : Properties) → k ≢ key → value_under key (property k flags v ps) ≡ value_under key ps
behind_first key k flags v ps n = is_another key k v (value_under key ps) (k == key) (unsigned_Decides k key).0 n

-- from here to there no property is under the key
pub record Passes (key : ℕ) (b c : List ℕ) : Type 0 where
  pub each : (ps : Properties) → AreProperties ps b → (qs : Properties) × AreProperties qs c × (value_under key ps ≡ value_under key qs)

pub passes_none : (key : ℕ) (b : List ℕ) → Passes key b b
passes_none key b = record { each = λ ps m. (ps, m, refl) }

-- the first property of what is left: its key, its flags, the pod of its value, and what follows it
pub record First (c : List ℕ) (qs : Properties) : Type 0 where
  pub key : ℕ
  pub flags : ℕ
  pub value : Tree
  pub others : Properties
  pub is : qs ≡ property key flags value others
  pub long : header_size ≤ length c
  pub its_key : key ≡ word_at c 0
  pub its_flags : flags ≡ word_at c 4
  pub begins : Begins (drop header_size c) value
  pub are : AreProperties others (rest_of (drop header_size c))

pub first_of_all : (c : List ℕ) (qs : Properties) → c ≢ [] → AreProperties qs c → First c qs
first_of_all c no_properties n m = absurd (n m)
first_of_all c (property k f v qs) n m =
    let a = front_of_whole (drop header_size c) m.3 m.4 _ _ m.5 m.6 in
    record {
      key = k;
      flags = f;
      value = v;
      others = qs;
      is = refl;
      long = m.0;
      its_key = m.1;
      its_flags = m.2;
      begins = record { there = a.0; pod = subst (λ l. IsPod l v) a.1 m.6 };
      are = subst (AreProperties qs) a.2 m.7;
    }

-- one with another key is passed
pub passes_one : (key : ℕ) (b c rest : List ℕ) → Passes key b c → c ≢ [] → word_at c 0 ≢ key →
    rest ≡ rest_of (drop header_size c) → Passes key b rest
passes_one key b c rest p n other e = record {
  each = λ ps m.
      let h = p.each ps m in
      let f = first_of_all c h.0 n h.1 in (
        f.others,
        subst (AreProperties f.others) (sym e) f.are,
        h.2 ∙ ap (value_under key) f.is ∙ behind_first key f.key f.flags f.value f.others (λ i. other (sym f.its_key ∙ i)),
      );
}

-- the first one under the key
pub found_first : (key : ℕ) (b c : List ℕ) (P : Tree → Type 0) → Passes key b c → c ≢ [] → word_at c 0 ≡ key →
    ((v : Tree) → Begins (drop header_size c) v → P v) → (ps : Properties) → AreProperties ps b → HasFirst key P ps
found_first key b c P p n same holds ps m =
    let h = p.each ps m in
    let f = first_of_all c h.0 n h.1 in
    let found = h.2 ∙ ap (value_under key) f.is ∙ first_under key f.key f.flags f.value f.others (f.its_key ∙ same) in
    subst (λ o. MatchOption o ⊥ P) (sym found) (holds f.value f.begins)

-- there is none
pub found_none : (key : ℕ) (b c : List ℕ) → Passes key b c → c ≡ [] → (ps : Properties) → AreProperties ps b → LacksProperty key ps
found_none key b c p e ps m =
    let h = p.each ps m in
    h.2 ∙ ap (value_under key) (nothing c h.0 e h.1)
  where
    nothing : (c : List ℕ) (qs : Properties) → c ≡ [] → AreProperties qs c → qs ≡ no_properties
    nothing c no_properties e m = refl
    nothing c (property k f v qs) e m = absurd (let none = ap length e in let long = m.0 in omega (arith, none, long))

-- a property isn't there
pub cut_key : (key : ℕ) (b c : List ℕ) → Passes key b c → c ≢ [] → length c < header_size → AreNoProperties b
cut_key key b c p n short ps m =
    let h = p.each ps m in
    let f = first_of_all c h.0 n h.1 in
    let long = f.long in
    absurd (omega (arith, short, long))

pub cut_pod : (key : ℕ) (b c : List ℕ) → Passes key b c → c ≢ [] → ¬ (HasFront (drop header_size c)) → AreNoProperties b
cut_pod key b c p n short ps m =
    let h = p.each ps m in
    let f = first_of_all c h.0 n h.1 in
    short f.begins.there

-- Where a walk over whole properties leads to.

pub some_long : (c : List ℕ) → header_size ≤ length c → c ≢ []
some_long c l none = absurd (let e = ap length none in omega (arith, l, e))

passes_trans : (key : ℕ) (b c d : List ℕ) → Passes key b c → Passes key c d → Passes key b d
passes_trans key b c d p q = record {
  each = λ ps m.
      let h = p.each ps m in
      let k = q.each h.0 h.1 in
      (k.0, k.1, h.2 ∙ k.2);
}

-- of properties it leads past those that aren't under the key
pub leads_passes : (key : ℕ) (left b : List ℕ) → LeadsTo key left b → Passes key b left
leads_passes key left b (arrived _ e) = subst (Passes key b) e (passes_none key b)
leads_passes key left b (behind_another _ l n h more) =
    passes_trans key b (rest_of (drop header_size b)) left (passes_one key b b _ (passes_none key b) (some_long b l) n refl)
    (leads_passes key left _ more)

-- and on from where another one led
pub leads_from : (key : ℕ) (c d b : List ℕ) → LeadsTo key c b → LeadsTo key d c → LeadsTo key d b
leads_from key c d b (arrived _ e) more = subst (LeadsTo key d) (sym e) more
leads_from key c d b (behind_another _ l n h on) more = behind_another b l n h (leads_from key c d _ on more)

-- and over one more
pub leads_on : (key : ℕ) (c d b : List ℕ) → LeadsTo key c b → header_size ≤ length c → word_at c 0 ≢ key →
    HasFront (drop header_size c) → d ≡ rest_of (drop header_size c) → LeadsTo key d b
leads_on key c d b led l n h r = leads_from key c d b led (behind_another c l n h (arrived _ (sym r)))

-- Where the search for several keys is led to.

pub all_from : (asks others : ℕ → Type 0) (c d b : List ℕ) → ((key : ℕ) → others key → asks key) → LeadsToAll asks c b →
    LeadsToAll others d c → LeadsToAll others d b
all_from asks others c d b to led more = record { each = λ key a. leads_from key c d b (led.each key (to key a)) (more.each key a) }

-- from the place that was met, or from what is left behind one more that is under none of them
pub all_on : (asks : ℕ → Type 0) (met : Option (Bor (List ℕ))) (c d b : List ℕ) → LeadsToAll asks (place_or met c) b →
    IfNone met (¬ (asks (word_at c 0))) → header_size ≤ length c → HasFront (drop header_size c) →
    d ≡ rest_of (drop header_size c) → LeadsToAll asks (place_or met d) b
all_on asks None c d b led none l h e =
    record { each = λ key a. leads_on key c d b (led.each key a) l (λ i. none (subst asks (sym i) a)) h e }
all_on asks (Some p) c d b led none l h e = led

pub unwrapped : (met : Option (Bor (List ℕ))) (left : Bor (List ℕ)) → place_or met left.now ≡ (unwrap_or met left).now
unwrapped None left = refl
unwrapped (Some p) left = refl

-- What is found from there on is found from the front on.

pub finds_from : {X : Type 0} (reads : Tree → X → Type 0) (key : ℕ) (c b : List ℕ) (read : Option X) → LeadsTo key c b →
    FindsIn reads key c read → FindsIn reads key b read
finds_from reads key c b None led f = leads_from key c [] b led f
finds_from reads key c b (Some x) led f =
    record { left = f.left; leads = leads_from key c f.left b led f.leads; header = f.header; its_key = f.its_key; rest = f.rest; value = f.value }

pub refused_from : (refuses : List ℕ → DeserializeError (Bor (List ℕ)) → Type 0) (key : ℕ) (c b : List ℕ)
    (e : DeserializeError (Bor (List ℕ))) → LeadsTo key c b → RefusesUnder refuses key c e → RefusesUnder refuses key b e
refused_from refuses key c b e led (short_key left l n s i) = short_key left (leads_from key c left b led l) n s i
refused_from refuses key c b e led (short_pod left l long s i) = short_pod left (leads_from key c left b led l) long s i
refused_from refuses key c b e led (under_key left l long k r) = under_key left (leads_from key c left b led l) long k r

-- What is skipped.

-- where what is left is no properties, neither was what was left before
pub none_further : (a b : ObjectReader) → FurtherIn a b → b.reader.failed ≡ false → AreNoProperties b.reader.left → AreNoProperties a.reader.left
none_further a b f good n ps m =
    let h = f.ahead good in
    let k = props_left h.properties ps h.seen b.reader.left h.are (subst (AreProperties ps) h.left m) in
    n k.0 k.2

-- the first one's key is short, or its value is refused
pub none_short : (c : List ℕ) → c ≢ [] → length c < header_size → AreNoProperties c
none_short c n short ps m = (let long = (first_of_all c ps n m).long in absurd (omega (arith, short, long)))

pub none_refused : (c : List ℕ) → c ≢ [] → IsRefused (drop header_size c) → AreNoProperties c
none_refused c n refused ps m = (let f = first_of_all c ps n m in refused f.value f.begins)

-- What is asked of the first one under a key.

-- facts of a first one that can't hold together
pub no_first : (key : ℕ) (P Q : Tree → Type 0) (ps : Properties) → HasFirst key P ps → HasFirst key Q ps →
    ((v : Tree) → P v → ¬ (Q v)) → ⊥
no_first key P Q ps p q n = by (value_under key ps) p q
  where
    by : (o : Option Tree) → MatchOption o ⊥ P → ¬ (MatchOption o ⊥ Q)
    by None p q = p
    by (Some v) p q = n v p q

-- there is one and there is none
pub no_none : (key : ℕ) (P : Tree → Type 0) (ps : Properties) → HasFirst key P ps → ¬ (LacksProperty key ps)
no_none key P ps p l = subst (λ o. MatchOption o ⊥ P) l p

-- what was read of a front is read of the value that it is a pod of
pub read_first : (input rest : List ℕ) (P : Tree → Type 0) (v : Tree) → IsRead input rest P → Begins input v → P v
read_first input rest P v r b = subst P (one_value (front_of input) r.value v r.begins.pod b.pod) r.holds

-- what is found is the first one
pub finds_first : {X : Type 0} (reads : Tree → X → Type 0) (key : ℕ) (b : List ℕ) (read : Option X) → FindsIn reads key b read →
    FindsFirst reads key b read
finds_first reads key b None f = λ ps m. found_none key b [] (leads_passes key [] b f) refl ps m
finds_first reads key b (Some x) f = λ ps m.
    found_first key b f.left (λ v. reads v x) (leads_passes key f.left b f.leads) (some_long f.left f.header) f.its_key
    (λ v g. read_first _ _ (λ w. reads w x) v f.value g) ps m

-- skipping is refused at a property that isn't there, or whose value is refused
pub none_behind : (a b : ObjectReader) (e : DeserializeError (Bor (List ℕ))) → FurtherIn a b → b.reader.failed ≡ false →
    b.reader.left ≢ [] → (header_size ≤ length b.reader.left → RefusesInput (drop header_size b.reader.left) e) →
    OnFault (AreNoProperties a.reader.left) e
none_behind a b e f good some refuses =
    ⊎_elim
    (λ short. fault_there (AreNoProperties a.reader.left) e (none_further a b f good (none_short b.reader.left some short)))
    (λ long.
    fault_to (IsRefused (drop header_size b.reader.left)) (AreNoProperties a.reader.left) e
    (λ n. none_further a b f good (none_refused b.reader.left some n)) (refuses long).refused)
    (cases_lt (length b.reader.left) header_size)

-- nothing is read of properties that is not read where the first value under the key is not
under_refused : {A Y : Type 0} (reads : Tree → A → Type 0) (refuses : List ℕ → DeserializeError (Bor (List ℕ)) → Type 0)
    (takes : List ℕ → Type 0) (key : ℕ) (Reads : Properties → Y → Type 0) (b : List ℕ) (e : DeserializeError (Bor (List ℕ))) →
    ((place : List ℕ) (f : DeserializeError (Bor (List ℕ))) → refuses place f → RefusesExactly reads (takes place) place f) →
    ((place : List ℕ) (ps : Properties) (y : Y) → IsUnread reads place → HasFirst key (λ v. Begins place v) ps → ¬ (Reads ps y)) →
    RefusesUnder refuses key b e → OnFault (NoneRead Reads b) e
under_refused reads refuses takes key Reads b e law unread (short_key left l n s i) =
    fault_there (NoneRead Reads b) e (λ ps y m r. cut_key key b left (leads_passes key left b l) n s ps m)
under_refused reads refuses takes key Reads b e law unread (short_pod left l long s i) =
    fault_there (NoneRead Reads b) e (λ ps y m r. cut_pod key b left (leads_passes key left b l) (some_long left long) s ps m)
under_refused reads refuses takes key Reads b e law unread (under_key left l long k r) =
    let place = drop header_size left in
    fault_to (IsUnread reads place) (NoneRead Reads b) e
    (λ n ps y m.
    unread place ps y n
    (found_first key b left (λ v. Begins place v) (leads_passes key left b l) (some_long left long) k (λ v g. g) ps m)) (law place e r).unread

-- the value that has to be there, or may be, is refused
pub required_refused : {A R X : Type 0} (reads : Tree → A → Type 0) (refuses : List ℕ → DeserializeError (Bor (List ℕ)) → Type 0)
    (takes : List ℕ → Type 0) (key : ℕ) (made : X → A) (others : Properties → R → Type 0) (b : List ℕ) (e : DeserializeError (Bor (List ℕ))) →
    ((place : List ℕ) (f : DeserializeError (Bor (List ℕ))) → refuses place f → RefusesExactly reads (takes place) place f) →
    RefusesUnder refuses key b e →
    OnFault (NoneRead (λ ps (x : X × R). HasFirst key (λ v. reads v (made x.0)) ps × others ps x.1) b) e
required_refused {R = R} {X = X} reads refuses takes key made others b e law =
    under_refused reads refuses takes key (λ ps (x : X × R). HasFirst key (λ v. reads v (made x.0)) ps × others ps x.1) b e law
    (λ place ps x n h q.
    no_first key (λ v. Begins place v) (λ v. reads v (made x.0)) ps h q.0 (λ v g i. n v (made x.0) g i))

pub optional_refused : {A R X : Type 0} (reads : Tree → A → Type 0) (refuses : List ℕ → DeserializeError (Bor (List ℕ)) → Type 0)
    (takes : List ℕ → Type 0) (key : ℕ) (made : X → Option A) (others : Properties → R → Type 0) (b : List ℕ) (e : DeserializeError (Bor (List ℕ))) →
    ((place : List ℕ) (f : DeserializeError (Bor (List ℕ))) → refuses place f → RefusesExactly reads (takes place) place f) →
    RefusesUnder refuses key b e →
    OnFault
    (NoneRead
    (λ ps (x : X × R). MatchOption (made x.0) (LacksProperty key ps) (λ a. HasFirst key (λ v. reads v a) ps) × others ps x.1)
    b) e
optional_refused {A = A} {R = R} {X = X} reads refuses takes key made others b e law =
    under_refused reads refuses takes key
    (λ ps (x : X × R). MatchOption (made x.0) (LacksProperty key ps) (λ a. HasFirst key (λ v. reads v a) ps) × others ps x.1)
    b e law (λ place ps x n h q. unread ps place (made x.0) n h q.0)
  where
    unread : (ps : Properties) (place : List ℕ) (o : Option A) → IsUnread reads place → HasFirst key (λ v. Begins place v) ps →
        ¬ (MatchOption o (LacksProperty key ps) (λ a. HasFirst key (λ v. reads v a) ps))
    unread ps place None n h q = no_none key (λ v. Begins place v) ps h q
    unread ps place (Some a) n h q = no_first key (λ v. Begins place v) (λ v. reads v a) ps h q (λ v g i. n v a g i)

-- memory runs out only as for its type
pub under_memory : {A : Type 0} (reads : Tree → A → Type 0) (refuses : List ℕ → DeserializeError (Bor (List ℕ)) → Type 0)
    (takes : List ℕ → Type 0) (key : ℕ) (b : List ℕ) (e : DeserializeError (Bor (List ℕ))) →
    ((place : List ℕ) (f : DeserializeError (Bor (List ℕ))) → refuses place f → RefusesExactly reads (takes place) place f) →
    RefusesUnder refuses key b e → OnMemory (IsUnder key takes b) e
under_memory reads refuses takes key b e law (short_key left l n s i) = short_no_memory (IsUnder key takes b) left e i
under_memory reads refuses takes key b e law (short_pod left l long s i) =
    short_no_memory (IsUnder key takes b) (drop header_size left) e i
under_memory reads refuses takes key b e law (under_key left l long k r) =
    let place = drop header_size left in
    memory_to (takes place × HasFront place) (IsUnder key takes b) e
    (λ m. record { left = left; leads = l; header = long; its_key = k; holds = m.0 }) (law place e r).memory
