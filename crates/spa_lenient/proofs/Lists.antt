-- Fronts that are rewritten one after another.
use Rattle.std.proofs.Common.{◌≡◌, ◌≢◌, ℕ, ◌-◌, List, [], ◌∷◌, ◌++◌, length, take, refl, sym, ap, ◌∙◌, subst, arith, length-append, append_assoc}
use Rattle.std.proofs.lemmas.List.{append-nil, take_at}
use Rattle.std.specs.Borrow.{Bor}
use Rattle.spa_fixed_sized.specs.declared.fault.DeserializeError.{DeserializeError}
use Rattle.spa_fixed_sized.specs.declared.fault.DeserializeError.TheVariants as error
use Rattle.spa_format.specs.Tree.{Trees, no_trees, member, join_members}
use Rattle.spa_format.specs.Pod.{AreMembers}
use Rattle.spa_format.specs.Encoding.{encoding_of, member_encodings}
use Rattle.spa_format.specs.Front.{HasFront, front_of}
use Rattle.spa_format.specs.Lenient.{ConveyMembers}
use Rattle.spa_format.proofs.Conveyed.{pod_conveys}
use Rattle.spa_format.proofs.Fronts.{front_and_rest, front_of_whole}
use Rattle.spa_format.proofs.Encodings.{member_encodings-join}
use Rattle.spa_bodies.specs.Reading.{OnFault}
use Rattle.spa_read.specs.Reading.{ConveysNothing}
use Rattle.spa_read.proofs.Conveying.{members_joined, none_behind}
use Rattle.spa_canonical.specs.Rewriting.{AreRewritten, IsLeft}
use Rattle.spa_lenient.specs.Rewriting.{AppendsFirst, AppendsFront, AreRewrittenLeniently, IsLeftLeniently, RefusesFront, RefusesList}

-- pods convey their values
pub members_convey : (vs : Trees) (b : List ℕ) → AreMembers vs b → ConveyMembers vs b
members_convey no_trees b h = h
members_convey (member v vs) b h = (h.0, h.1, h.2, pod_conveys h.0 v h.3, members_convey vs h.1 h.4)

-- some first bytes convey values, this is left behind them, and their encodings were appended
pub record IsUpTo (input left old now : List ℕ) : Type 0 where
  pub values : Trees
  pub first : List ℕ
  pub parts : input ≡ first ++ left
  pub convey : ConveyMembers values first
  pub written : now ≡ old ++ member_encodings values

pub at_start : (input old : List ℕ) → IsUpTo input input old old
at_start input old = record { values = no_trees; first = []; parts = refl; convey = refl; written = sym (append-nil old) }

-- some more
further : (input left rest old now new before : List ℕ) (vs : Trees) → IsUpTo input left old now → left ≡ before ++ rest →
    ConveyMembers vs before → new ≡ now ++ member_encodings vs → IsUpTo input rest old new
further input left rest old now new before vs h e m w = record {
  values = join_members h.values vs;
  first = h.first ++ before;
  parts = h.parts ∙ ap (λ l. h.first ++ l) e ∙ sym (append_assoc h.first before rest);
  convey = members_joined h.values vs h.first before h.convey m;
  written = w ∙ ap (λ l. l ++ member_encodings vs) h.written ∙ append_assoc old (member_encodings h.values) (member_encodings vs)
      ∙ ap (λ l. old ++ l) (sym (member_encodings-join h.values vs));
}

-- those that are pods
with_accepted : (input left before pod old now new : List ℕ) → IsUpTo input left old now → left ≡ before ++ pod →
    AreRewritten before now new → IsUpTo input pod old new
with_accepted input left before pod old now new h e r =
    further input left pod old now new before r.0 h e (members_convey r.0 before r.1) r.2

-- one that isn't
pub with_front : (input pod rest old now new : List ℕ) → IsUpTo input pod old now → AppendsFront pod rest now new → IsUpTo input rest old new
with_front input pod rest old now new h r =
    let v = r.0 in
    let front = front_of pod in
    let parts : pod ≡ front ++ rest = front_and_rest pod ∙ ap (λ l. front ++ l) (sym r.1.follows) in
    further input pod rest old now new front (member v no_trees) h parts
    (front, [], sym (append-nil front), r.1.begins.conveys, refl)
    (r.2 ∙ ap (λ l. now ++ l) (sym (append-nil (encoding_of v))))

-- some first pods
pub with_first : (input left pod old now new : List ℕ) → IsUpTo input left old now → AppendsFirst left pod now new → IsUpTo input pod old new
with_first input left pod old now new h r = with_accepted input left r.0 pod old now new h r.1 r.2

-- all of them
pub to_end : (input left old now : List ℕ) → IsUpTo input left old now → length left ≡ 0 → AreRewrittenLeniently input old now
to_end input left old now u n =
    let e = nothing left n in
    (u.values, subst (ConveyMembers u.values) (sym (u.parts ∙ ap (λ l. u.first ++ l) e ∙ append-nil u.first)) u.convey, u.written)
  where
    nothing : (l : List ℕ) → length l ≡ 0 → l ≡ []
    nothing [] e = refl
    nothing (x ∷ l) e = cc

-- What is left.

pub is_left : (input left old now : List ℕ) → IsUpTo input left old now → left ≢ [] → IsLeftLeniently input left
is_left input left old now h n = (h.values, h.first, h.parts, h.convey, n)

-- behind further pods
pub left_further : (input left pod old now : List ℕ) → IsUpTo input left old now → IsLeft left pod → IsLeftLeniently input pod
left_further input left pod old now h p = (
  join_members h.values p.0,
  h.first ++ p.1,
  h.parts ∙ ap (λ l. h.first ++ l) p.2 ∙ sym (append_assoc h.first p.1 pod),
  members_joined h.values p.0 h.first p.1 h.convey (members_convey p.0 p.1 p.3),
  p.4,
)

pub refused_list : (input left : List ℕ) (e : DeserializeError (Bor (List ℕ))) → IsLeftLeniently input left → RefusesFront left e →
    RefusesList input left e
refused_list input left e h f = record { behind = h; refused = whole input left e h f.refused; front = f }
  where
    nothing : (input left : List ℕ) → IsLeftLeniently input left → ConveysNothing left → (vs : Trees) → ¬ (ConveyMembers vs input)
    nothing input left h n vs m = none_behind h.0 vs h.1 left h.3 h.4 n (subst (ConveyMembers vs) h.2 m)

    whole : (input left : List ℕ) (e : DeserializeError (Bor (List ℕ))) → IsLeftLeniently input left → OnFault (ConveysNothing left) e →
        OnFault ((vs : Trees) → ¬ (ConveyMembers vs input)) e
    whole input left error.OutOfMemory h n = tt
    whole input left _ h n = nothing input left h n

-- the pods before a refused one, by its length
pub before_left : (left pod : List ℕ) (h : IsLeft left pod) → take (length left - length pod) left ≡ h.1
before_left left pod h =
    let e = ap length h.2 ∙ length-append h.1 pod in
    ap (λ n. take n left) (let z : length left - length pod ≡ length h.1 = omega arith in z)
    ∙ ap (take (length h.1)) h.2 ∙ take_at h.1 pod (length h.1) refl

pub some_left : (left pod : List ℕ) → IsLeft left pod → left ≢ []
some_left left pod h n = h.4 (nothing h.1 pod (sym h.2 ∙ n))
  where
    nothing : (a b : List ℕ) → a ++ b ≡ [] → b ≡ []
    nothing [] b e = e
    nothing (x ∷ a) b e = cc

-- where the pods before it are some, the front is there
pub front_left : (left pod before : List ℕ) (h : IsLeft left pod) → before ≡ take (length left - length pod) left → before ≢ [] → HasFront left
front_left left pod before h e n =
    let some : h.1 ≢ [] = λ z. n (e ∙ before_left left pod h ∙ z) in
    of_members h.0 h.1 pod left h.2 h.3 some
  where
    of_members : (vs : Trees) (first pod left : List ℕ) → left ≡ first ++ pod → AreMembers vs first → first ≢ [] → HasFront left
    of_members no_trees first pod left e m n = absurd (n m)
    of_members (member v vs) first pod left e m n =
        (front_of_whole left m.0 (m.1 ++ pod) _ _ (e ∙ ap (λ l. l ++ pod) m.2 ∙ append_assoc m.0 m.1 pod) m.3).0
