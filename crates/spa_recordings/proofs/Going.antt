-- How far the work on an input is.
use Rattle.std.proofs.Common.{◌≡◌, ◌≢◌, ◌∙◌, ◌+◌, ◌-◌, ◌^◌, ◌<◌, ◌≤◌, Bool, true, false, inl, inr, ℕ, List, [], ◌∷◌, ◌++◌, append_assoc, append-nil, ap, arith, drop, length, length-append, length-drop, length-take, refl, subst, sym, take}
use Rattle.std.specs.Prelude.{Decides, if◌then◌else◌, max, nat_lt}
use Rattle.std.proofs.lemmas.List.{nil_from_length, take_at}
use Rattle.spa_fixed_sized.specs.declared.fault.Refusal.{Refusal}
use Rattle.spa_bodies.proofs.Refusals.{said}
use Rattle.spa_format.specs.Faults.{Fault}
use Rattle.spa_format.specs.Front.{IsRefused, front_of}
use Rattle.spa_format.specs.Pod.{AreMembers, IsBody, IsPod}
use Rattle.spa_format.specs.Tree.{Trees, member, no_trees, struct, struct_type, type_of}
use Rattle.spa_format.specs.Walk.{walk}
use Rattle.spa_format.specs.Words.{extent, word_at}
use Rattle.spa_format.proofs.Fronts.{front_of_whole}
use Rattle.spa_lenient.proofs.Structs.{struct_conveyed}
use Rattle.spa_canonical.specs.Look.{IsFaultAt, StandsAt, from_pod}
use Rattle.spa_canonical.specs.Rewriting.{IsLeft}
use Rattle.spa_bytes.specs.Opening.{Opens}
use Rattle.spa_recordings.specs.Plausible.{IsPlausible, a_struct, an_object}
use Rattle.spa_recordings.specs.Reading.{IsAccepted, IsNoPod, IsUnreadAt}
use Rattle.spa_recordings.specs.GoingOn.{AddsMade, BeginsWithNone, GoesOnFrom, GoesOnBehind, IsReadTo, IsWellFollowed, MakesLast, MakesNext, MakesOf, PassesPod, Resyncs, at_end, at_plausible, behind_pod, ends, kept_of, left_out_by, passes, to_fault}
use Rattle.spa_recordings.specs.declared.going_on.Overlap.{Overlap}
use Rattle.spa_recordings.specs.declared.going_on.Progress.{Progress}
use Rattle.spa_recordings.specs.declared.going_on.Refused.{Refused}
use Rattle.spa_recordings.specs.declared.going_on.Refused.TheVariants.{LeftOut, Kept, Resynced}
use Rattle.spa_recordings.specs.declared.going_on.RefusedPod.{RefusedPod}
use Rattle.spa_recordings.specs.declared.reading.Reading.{Reading}
use Rattle.spa_recordings.specs.declared.reading.Reading.TheVariants.{Exact, Lenient}
use Rattle.spa_recordings.proofs.Holding.{few_whole}

-- what is left from a pod on that isn't read isn't empty, and some bytes stand before it
pub before_unread : (reading : Reading) (input left kind : List ℕ) → IsUnreadAt reading input left kind →
    (first : List ℕ) × (input ≡ first ++ left) × (left ≢ [])
before_unread Exact input left kind h = (h.0.1, h.0.2, h.0.4)
before_unread Lenient input left kind h = (h.0.1, h.0.2, h.0.4)

-- ---- Where a refused pod is malformed

-- what is left behind pods that these bytes begin with is all of them, if they begin with none
pub none_before : (vs : Trees) (input first left : List ℕ) → input ≡ first ++ left → AreMembers vs first → IsRefused input → left ≡ input
none_before no_trees input first left e m r = sym (e ∙ ap (λ z. z ++ left) m)
none_before (member v vs) input first left e m r =
    let f = front_of_whole input m.0 (m.1 ++ left) (type_of v) (IsBody v) (e ∙ ap (λ z. z ++ left) m.2 ∙ append_assoc m.0 m.1 left) m.3 in
    absurd (r v (record { there = f.0; pod = subst (λ z. IsPod z v) f.1 m.3 }))

-- some bytes that begin with no pod aren't pods
pub not_members : (input kind : List ℕ) → BeginsWithNone Exact input kind → ¬ ((vs : Trees) × AreMembers vs input)
not_members input kind h m = h.0 (sym (none_before m.0 input input [] (sym (append-nil input)) m.1 h.1.0))

-- the fault that is found behind pods is the first one's
pub found_at : (input kind left place : List ℕ) (at : ℕ) (why : Refusal) → BeginsWithNone Exact input kind → IsLeft input left →
    IsFaultAt left place at why → IsReadTo Exact input at × (at ≤ length input)
found_at input kind left place at why h l f =
    let same = none_before l.0 input l.1 left l.2 l.3 h.1.0 in
    let stands : Fault → Type 0 = λ k. StandsAt k from_pod at left in
    let s = said stands ⊥ ((k : Fault) × stands k) (λ k h. (k, h)) (λ n. absurd n) why f.offset in
    subst (λ z. IsReadTo Exact z at × (at ≤ length z)) same (to_fault left at s.0 s.1, f.within)

-- a struct that isn't read leniently has a member that isn't
pub not_conveyed : (left body rest kind : List ℕ) (type : ℕ) → Opens left type body rest → type ≡ struct_type → BeginsWithNone Lenient left kind →
    ¬ (IsAccepted Lenient body)
not_conveyed left body rest kind type o t h m = h.1.0 (struct m.0) (struct_conveyed left body rest type m.0 o t m.1).begins

-- ---- How far it goes on

some_bytes : (left : List ℕ) → left ≢ [] → 0 < length left
some_bytes [] n = absurd (n refl)
some_bytes (x ∷ xs) n = omega arith

front_some : (left : List ℕ) (n : ℕ) → 0 < length left → n ≡ length (front_of left) → (0 < n) × (n ≤ length left)
front_some left n s e = let t = length-take (extent (word_at left 0)) left in (omega (arith, s, e, t), omega (arith, e, t))

plausible_fits : (left : List ℕ) (n : ℕ) → IsPlausible (drop n left) → n ≤ length left
plausible_fits left n (a_struct front is whole) = let h = front.header in let d = length-drop n left in omega (arith, h, d)
plausible_fits left n (an_object there is whole) = let h = there.front.header in let d = length-drop n left in omega (arith, h, d)

-- what is sought begins behind the first header
sought_behind : (none : Bool) (n : ℕ) → 8 ≤ (if none then 8 else max 8 n)
sought_behind true n = omega arith
sought_behind false n = omega arith

resyncs_some : (reading : Reading) (place : ℕ) (left : List ℕ) (before these : Overlap) (n : ℕ) → 0 < length left →
    Resyncs reading place left before n these → (0 < n) × (n ≤ length left)
resyncs_some reading place left before these n s (behind_pod m f e) = front_some left n s e
resyncs_some reading place left before these n s (at_plausible m read _ f r o next) =
    let b = next.behind in
    let from = sought_behind (nat_lt 0 these.more) (these.end - place) in
    (omega (arith, b, from), plausible_fits left n next.plausible)
resyncs_some reading place left before these n s (at_end m read _ f r o none e) = (omega (arith, s, e), omega (arith, e))

-- some bytes are passed with a refused pod, at most all that are left
pub passed_some : (refused : Refused) (reading : Reading) (place : ℕ) (left : List ℕ) (before these : Overlap) (n : ℕ) → left ≢ [] →
    GoesOnBehind refused reading place left before n these → (0 < n) × (n ≤ length left)
passed_some LeftOut reading place left before these n s g = front_some left n (some_bytes left s) g.0
passed_some Kept reading place left before these n s g = front_some left n (some_bytes left s) g.0
passed_some Resynced reading place left before these n s g = resyncs_some reading place left before these n (some_bytes left s) g

-- whether it is well followed
pub followed_end : (left body rest : List ℕ) (type : ℕ) (is : Bool) → Opens left type body rest → length rest ≡ 0 → is ≡ true →
    Decides is (IsWellFollowed left)
followed_end left body rest type is o none t = (λ e. (o.there, inl (sym o.its_rest ∙ nil_from_length rest none)), λ w. t)

pub followed_by : (left body rest : List ℕ) (type : ℕ) (is : Bool) → Opens left type body rest → length rest ≢ 0 → Decides is (IsPlausible rest) →
    Decides is (IsWellFollowed left)
followed_by left body rest type is o some d = (
  λ e. (o.there, inr (subst IsPlausible o.its_rest (d.0 e))),
  λ w. elim w.1 [
    | inl e ↦ absurd (some (ap length (o.its_rest ∙ e)))
    | inr p ↦ d.1 (subst IsPlausible (sym o.its_rest) p)
  ],
)

-- ---- Steps

-- what is counted fits
pub numbered : (reading : Reading) (left at before kind : List ℕ) (count pods : ℕ) → IsUnreadAt reading left at kind →
    length before ≡ length left - length at → pods ≡ length (walk before) → count + length left < 2 ^ 64 → (count + pods) + 1 < 2 ^ 64
numbered reading left at before kind count pods u b p r =
    let parts = before_unread reading left at kind u in
    let e = ap length parts.1 ∙ length-append parts.0 at in
    let s = some_bytes at parts.2 in
    let f = few_whole before in
    omega (arith, e, s, f, b, p, r)

pub gap_fits : (reading : Reading) (left at kind : List ℕ) (place before n : ℕ) → IsUnreadAt reading left at kind → before ≡ length left - length at →
    n ≤ length at → place + length left < 2 ^ 64 → (place + before) + n < 2 ^ 64
gap_fits reading left at kind place before n u b l r =
    let parts = before_unread reading left at kind u in
    let e = ap length parts.1 ∙ length-append parts.0 at in
    omega (arith, e, b, l, r)

pub steps : (reading : Reading) (refused : Refused) (Makes : List ℕ → List ℕ → Type 0) (start behind : Progress) (n pods : ℕ)
    (left at rest before passed kind old mid new : List ℕ) (olds news : List RefusedPod) (its : RefusedPod) → IsUnreadAt reading left at kind →
    before ≡ take (length left - length at) left → its.place ≡ start.place + length before →
    GoesOnBehind refused reading its.place at start.overlap n behind.overlap → passed ≡ take n at → rest ≡ drop n at →
    AddsMade reading Makes before old mid → new ≡ mid ++ kept_of refused passed → pods ≡ length (walk before) →
    its.number ≡ start.count + pods + 1 → its.kind.now ≡ kind → its.name.now ≡ start.name.now → its.left_out ≡ left_out_by refused its.place n →
    news ≡ olds ++ (its ∷ []) → behind.name.now ≡ start.name.now → behind.count ≡ its.number → behind.place ≡ its.place + n →
    MakesNext reading refused Makes start left behind rest old new olds news
steps reading refused Makes start behind n pods left at rest before passed kind old mid new olds news its u b pl g p r m w c ni k na lo t bn bc bp =
    let parts = before_unread reading left at kind u in
    let some = passed_some refused reading its.place at start.overlap behind.overlap n parts.2 g in
    let more = some.0 in
    let fits = some.1 in
    let e : length left ≡ length parts.0 + length at = ap length parts.1 ∙ length-append parts.0 at in
    let is_first : before ≡ parts.0 =
    b ∙ ap (λ z. take z left) (let z : length left - length at ≡ length parts.0 = omega (arith, e) in z) ∙ ap (take (length parts.0)) parts.1
    ∙ take_at parts.0 at (length parts.0) refl in
    let lb = ap length is_first in
    let lr = ap length r ∙ length-drop n at in
    let few = few_whole before in
    let its_pod : PassesPod start.name.now reading refused start.overlap start.count start.place parts.0 at n behind.overlap its = record {
      some = parts.2;
      nothing = subst (IsNoPod reading at) (sym k) u.1;
      passed = g;
      its_name = na;
      its_number = ni ∙ ap (λ z. start.count + z + 1) (c ∙ ap (λ z. length (walk z)) is_first);
      its_place = pl ∙ ap (λ z. start.place + length z) is_first;
      left_out = lo;
    } in
    record {
      made = m.0 ++ kept_of refused passed;
      pod = its;
      written = w ∙ ap (λ z. z ++ kept_of refused passed) m.2 ∙ append_assoc old m.0 (kept_of refused passed);
      listed = t;
      named = bn;
      shorter = omega (arith, e, lr, more, fits);
      few = omega (arith, e, lr, lb, few, c, ni, bc, more, fits);
      placed = omega (arith, e, lr, lb, pl, bp, fits);
      goes_on = λ others rests on.
          subst (λ z. GoesOnFrom start.name.now reading refused Makes start.overlap start.count start.place left z (its ∷ rests))
          (sym (append_assoc m.0 (kept_of refused passed) others))
          (subst (λ z. GoesOnFrom start.name.now reading refused Makes start.overlap start.count start.place left (m.0 ++ (kept_of refused z ++ others))
          (its ∷ rests)) (sym p)
          (subst (λ z. GoesOnFrom start.name.now reading refused Makes start.overlap start.count start.place z
          (m.0 ++ (kept_of refused (take n at) ++ others)) (its ∷ rests)) (sym parts.1)
          (passes start.overlap behind.overlap start.count start.place n parts.0 at m.0 others its rests
          (subst (λ z. MakesOf reading Makes z m.0) is_first m.1) its_pod
          (subst (λ z. GoesOnFrom start.name.now reading refused Makes behind.overlap z (its.place + n) (drop n at) others rests) bc
          (subst (λ z. GoesOnFrom start.name.now reading refused Makes behind.overlap behind.count z (drop n at) others rests) bp
          (subst (λ z. GoesOnFrom start.name.now reading refused Makes behind.overlap behind.count behind.place z others rests) r on))))));
    }

module _ (reading : Reading) (refused : Refused) (Makes : List ℕ → List ℕ → Type 0) (start : Progress) (input old : List ℕ) (olds : List RefusedPod) where
  -- something was made and pods were listed; with what is made and listed of what is left it is all
  pub record MadeSoFar (at : Progress) (left new : List ℕ) (news : List RefusedPod) : Type 0 where
    pub made : List ℕ
    pub pods : List RefusedPod
    pub written : new ≡ old ++ made
    pub listed : news ≡ olds ++ pods
    pub named : at.name.now ≡ start.name.now
    pub fits : length left ≤ length input
    pub few : at.count + length left ≤ start.count + length input
    pub placed : at.place + length left ≡ start.place + length input
    pub goes_on : (others : List ℕ) (more : List RefusedPod) →
        GoesOnFrom start.name.now reading refused Makes at.overlap at.count at.place left others more →
        GoesOnFrom start.name.now reading refused Makes start.overlap start.count start.place input (made ++ others) (pods ++ more)

  pub begins : MadeSoFar start input old olds
  begins = record {
    made = [];
    pods = [];
    written = sym (append-nil old);
    listed = sym (append-nil olds);
    named = refl;
    fits = omega arith;
    few = omega arith;
    placed = refl;
    goes_on = λ others more g. g;
  }

  -- up to the next refused pod, with it
  pub goes_further : (at behind : Progress) (left rest mid new : List ℕ) (mids news : List RefusedPod) →
      MakesNext reading refused Makes at left behind rest mid new mids news → MadeSoFar at left mid mids → MadeSoFar behind rest new news
  goes_further at behind left rest mid new mids news s so =
      let shorter = s.shorter in
      let few = s.few in
      let placed = s.placed in
      let fits = so.fits in
      let so_few = so.few in
      let so_placed = so.placed in
      let Goes : (name : List ℕ) → (made : List ℕ) → (pods : List RefusedPod) → Type 0 = λ name made pods.
      GoesOnFrom name reading refused Makes start.overlap start.count start.place input made pods in
      record {
        made = so.made ++ s.made;
        pods = so.pods ++ (s.pod ∷ []);
        written = s.written ∙ ap (λ z. z ++ s.made) so.written ∙ append_assoc old so.made s.made;
        listed = s.listed ∙ ap (λ z. z ++ (s.pod ∷ [])) so.listed ∙ append_assoc olds so.pods (s.pod ∷ []);
        named = s.named ∙ so.named;
        fits = omega (arith, shorter, fits);
        few = omega (arith, few, so_few);
        placed = placed ∙ so_placed;
        goes_on = λ others more g.
            subst (λ z. Goes start.name.now z ((so.pods ++ (s.pod ∷ [])) ++ more)) (sym (append_assoc so.made s.made others))
            (subst (λ z. Goes start.name.now (so.made ++ (s.made ++ others)) z) (sym (append_assoc so.pods (s.pod ∷ []) more))
            (so.goes_on (s.made ++ others) (s.pod ∷ more)
            (subst (λ z. GoesOnFrom z reading refused Makes at.overlap at.count at.place left (s.made ++ others) (s.pod ∷ more)) so.named
            (s.goes_on others more
            (subst (λ z. GoesOnFrom z reading refused Makes behind.overlap behind.count behind.place rest others more) (sym so.named) g)))));
      }

  pub finished : (at : Progress) (left mid new : List ℕ) (mids news : List RefusedPod) → MadeSoFar at left mid mids →
      MakesLast reading Makes left mid new mids news → (out : List ℕ) × (pods : List RefusedPod)
      × GoesOnFrom start.name.now reading refused Makes start.overlap start.count start.place input out pods × (new ≡ old ++ out) × (news ≡ olds ++ pods)
  finished at left mid new mids news so s = (
    so.made ++ s.0.0,
    so.pods ++ [],
    so.goes_on s.0.0 [] (ends at.overlap at.count at.place left s.0.0 s.0.1),
    s.0.2 ∙ ap (λ z. z ++ s.0.0) so.written ∙ append_assoc old so.made s.0.0,
    s.1 ∙ so.listed ∙ ap (λ z. olds ++ z) (sym (append-nil so.pods)),
  )
