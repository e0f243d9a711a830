-- Why pods aren't rewritten in place; and what was written elsewhere and copied back.
use Rattle.std.proofs.Common.{◌≡◌, ℕ, ◌+◌, ◌-◌, List, [], ◌++◌, length, drop, refl, sym, ap, ◌∙◌, subst, arith}
use Rattle.std.specs.Borrow.{Bor}
use Rattle.std.specs.Prelude.{Option, Some}
use Rattle.std.proofs.lemmas.List.{drop_at}
use Rattle.spa_format.specs.Faults.{Short, Text}
use Rattle.spa_fixed_sized.specs.Faults.{kind_text}
use Rattle.spa_format.specs.Pod.{AreMembers}
use Rattle.spa_format.specs.Tree.{Trees}
use Rattle.spa_fixed_sized.specs.declared.fault.Refusal.{Refusal}
use Rattle.spa_fixed_sized.specs.declared.fault.Refusal.TheVariants as refusal
use Rattle.spa_bodies.specs.Reading.{OnFault}
use Rattle.spa_bodies.specs.Refusing.{error_of}
use Rattle.spa_rewrite.specs.Refusals.{NamesOffset, RefusesListAt}
use Rattle.spa_rewrite.specs.Refusals.{AsksMemory}
use Rattle.spa_canonical.specs.Look.{IsFaultAt, StandsAt, from_pod}
use Rattle.spa_canonical.specs.Canonical.{AreCanonical}
use Rattle.spa_format.specs.Encoding.{member_encodings}
use Rattle.spa_format.proofs.Unique.{same_members}
use Rattle.spa_canonical.specs.Rewriting.{AreRewritten, AreRewrittenAs, AreShorter, IsLeft, RefusesFront, RefusesList}
use Rattle.spa_canonical.proofs.FirstPods.{left_behind_pods}
use Rattle.spa_canonical.proofs.Lengths.{lengths}
use Rattle.spa_canonical.proofs.Stretches.{list_refused}

-- what is left begins behind so many bytes
left_at : (input left : List ℕ) (at : ℕ) → IsLeft input left → at ≡ length input - length left → drop at input ≡ left
left_at input left at l e =
    let a = ap length l.2 in
    ap (drop at) l.2 ∙ drop_at l.1 left at (omega lengths)

-- a refusal says the same with another place
same_elsewhere : {I J : Type 0} (F : Type 0) (place : I) (other : J) (why : Refusal) → OnFault F (error_of place why) →
    (kind_text (error_of other why) ≡ kind_text (error_of place why)) × OnFault F (error_of other why)
same_elsewhere F place other refusal.OutOfMemory h = (refl, tt)
same_elsewhere F place other _ h = (refl, h)

-- the offset that the look gives
pub offset_known : (input left : List ℕ) (top at : ℕ) (place : Bor (List ℕ)) (why : Refusal) → drop top input ≡ left → IsFaultAt left place.now at why →
    NamesOffset input top (error_of (Some (top + at)) why)
offset_known input left top at place refusal.Short d f = (at, refl, subst (StandsAt Short from_pod at) (sym d) f.offset)
offset_known input left top at place refusal.Text d f = (at, refl, subst (StandsAt Text from_pod at) (sym d) f.offset)
offset_known input left top at place _ d f = tt

pub refused_behind : (input first others left : List ℕ) (at : ℕ) (offset : Option ℕ) (place : Bor (List ℕ)) (why : Refusal) → input ≡ first ++ others →
    AreCanonical first → RefusesList others left (error_of place why) → at ≡ length input - length left → NamesOffset input at (error_of offset why) →
    RefusesListAt input at (error_of offset why)
refused_behind input first others left at offset place why i k f n o =
    let r = list_refused input left (error_of place why) (left_behind_pods input first others left k.values i k.members f.behind) f.front in
    let d = left_at input left at r.behind n in
    let s = same_elsewhere ((vs : Trees) → ¬ (AreMembers vs input)) place offset why r.refused in
    record {
      behind = subst (IsLeft input) (sym d) r.behind;
      refused = s.1;
      placed = error_of place why;
      front = subst (λ l. RefusesFront l (error_of place why)) (sym d) r.front;
      same = s.0;
      offset = o;
    }

-- what is left of the others begins behind so many bytes of all
pub left_behind : (input first others left : List ℕ) (at : ℕ) → input ≡ first ++ others → AreCanonical first → IsLeft others left →
    at ≡ length input - length left → drop at input ≡ left
left_behind input first others left at i k l n = left_at input left at (left_behind_pods input first others left k.values i k.members l) n

-- the bytes behind the first pods
pub others_left : (input first others : List ℕ) → input ≡ first ++ others → drop (length first) input ≡ others
others_left input first others i = ap (drop (length first)) i ∙ drop_at first others (length first) refl

-- how long a rewriting is
pub rewritten_long : (pods out : List ℕ) (n : ℕ) → AreShorter pods n → AreRewritten pods [] out → n + length out ≡ length pods
rewritten_long pods out n s w =
    let one = ap member_encodings (same_members w.0 s.values pods w.1 s.members) in
    let e = ap length (w.2 ∙ one) in
    omega arith

-- the length that is answered
pub into_counted : (input : List ℕ) (n len : ℕ) → AreShorter input n → len ≡ length input - n → AreRewrittenAs input len
into_counted input n len s e = record { values = s.values; members = s.members; long = omega arith }

-- what memory is asked for behind the first pods
pub asks_behind : (input first others : List ℕ) → input ≡ first ++ others → AreCanonical first → AsksMemory others → AsksMemory input
asks_behind input first others i k d = (d.0, left_behind_pods input first others d.0 k.values i k.members d.1, d.2)
