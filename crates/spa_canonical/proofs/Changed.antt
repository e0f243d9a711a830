-- Pods up to the last one that isn't canonical.
use Rattle.std.proofs.Common.{◌≡◌, ℕ, ◌+◌, ◌-◌, List, ◌++◌, [], length, take, drop, refl, sym, ap, ◌∙◌, subst, arith, append-nil, length-append, append_assoc}
use Rattle.std.proofs.Math.Seq.{drop-append-add, take-append-add}
use Rattle.std.proofs.lemmas.List.{drop_at, nil_from_length, take-append-drop, take_at}
use Rattle.spa_format.specs.Tree.{Trees, join_members}
use Rattle.spa_format.specs.Pod.{AreMembers}
use Rattle.spa_format.specs.Encoding.{member_encodings}
use Rattle.spa_format.proofs.Sequences.{members_joined}
use Rattle.spa_canonical.specs.Canonical.{AreCanonical, IsStretch}
use Rattle.spa_canonical.proofs.Frames.{no_stretch}
use Rattle.spa_canonical.specs.Look.{AreAccepted, AreChanged}
use Rattle.spa_canonical.specs.Rewriting.{AreShorter, BeginsShorter}
use Rattle.spa_canonical.specs.declared.look.AcceptedPods.{AcceptedPods}
use Rattle.spa_format.specs.Front.{front_of}
use Rattle.spa_canonical.proofs.Stretches.{FirstMembers}
use Rattle.spa_canonical.proofs.Lengths.{lengths}
use Rattle.spa_canonical.proofs.ShorterLemmas.{canonical_shorter, front_shorter, shorter_joined, shorter_none}
use Rattle.std.specs.Prelude.{false}
use Rattle.spa_format.proofs.Encodings.{member_encodings-join}
use Rattle.spa_bodies.proofs.Steps.{parted}

-- All pods before what is left are accepted, and those behind so many first bytes are canonical.
pub record ChangesUpTo (pods left : List ℕ) (changed surplus : ℕ) : Type 0 where
  pub first : List ℕ
  pub tail : List ℕ
  pub parts : pods ≡ first ++ tail
  pub many : length first ≡ changed
  pub shorter : AreShorter first surplus
  pub last : IsStretch tail left

pub no_changes : (pods : List ℕ) → ChangesUpTo pods pods 0 0
no_changes pods = record { first = []; tail = pods; parts = refl; many = refl; shorter = shorter_none false [] refl; last = no_stretch pods }

-- these are first pods
pub first_pods : (pods left : List ℕ) (changed surplus : ℕ) → ChangesUpTo pods left changed surplus → FirstMembers pods left
first_pods pods left changed surplus h =
    let s = h.last in
    record {
      values = join_members h.shorter.values s.2.values;
      first = h.first ++ s.0;
      parts = h.parts ∙ ap (λ l. h.first ++ l) s.1 ∙ sym (append_assoc h.first s.0 left);
      members = members_joined h.shorter.values s.2.values h.first s.0 h.shorter.members s.2.members;
    }

-- canonical pods change nothing
pub stretch_passed : (pods left rest : List ℕ) (changed surplus : ℕ) → ChangesUpTo pods left changed surplus → IsStretch left rest →
    ChangesUpTo pods rest changed surplus
stretch_passed pods left rest changed surplus h s =
    let t = h.last in
    record {
      first = h.first;
      tail = h.tail;
      parts = h.parts;
      many = h.many;
      shorter = h.shorter;
      last = (
        t.0 ++ s.0,
        t.1 ∙ ap (λ l. t.0 ++ l) s.1 ∙ sym (append_assoc t.0 s.0 rest),
        record {
          values = join_members t.2.values s.2.values;
          members = members_joined t.2.values s.2.values t.0 s.0 t.2.members s.2.members;
          same = ap (λ x. x ++ s.0) t.2.same ∙ ap (λ x. member_encodings t.2.values ++ x) s.2.same ∙ sym (member_encodings-join t.2.values s.2.values);
        },
      );
    }

append_four : (a b c d : List ℕ) → a ++ (b ++ (c ++ d)) ≡ ((a ++ b) ++ c) ++ d
append_four a b c d = simp append_assoc

-- one that isn't, or may not be
pub others_more : (pods left rest : List ℕ) (changed surplus more : ℕ) → ChangesUpTo pods left changed surplus → BeginsShorter left rest more →
    ChangesUpTo pods rest (length pods - length rest) (surplus + more)
others_more pods left rest changed surplus more h s =
    let before = h.first ++ h.last.0 in
    let first = before ++ front_of left in
    let seen = shorter_joined before h.first h.last.0 surplus 0 refl h.shorter (canonical_shorter h.last.0 h.last.2) in
    let parts : pods ≡ first ++ rest =
    h.parts ∙ ap (λ l. h.first ++ l) (h.last.1 ∙ ap (λ l. h.last.0 ++ l) (parted left s.value rest s.begins)) ∙ append_four h.first h.last.0 (front_of left) rest in
    let all = ap length parts in
    record {
      first = first;
      tail = rest;
      parts = parts;
      many = omega lengths;
      shorter = shorter_joined first before (front_of left) surplus more refl (subst (AreShorter before) (omega arith) seen) (front_shorter left rest more s);
      last = no_stretch rest;
    }

pub all_changed : (pods left : List ℕ) (changed surplus : ℕ) → ChangesUpTo pods left changed surplus → length left ≡ 0 →
    AreAccepted pods (record { changed = changed; surplus = surplus })
all_changed pods left changed surplus h z =
    let t = h.last in
    let whole : h.tail ≡ t.0 = t.1 ∙ ap (λ x. t.0 ++ x) (nil_from_length left z) ∙ append-nil t.0 in
    let all = ap length h.parts in
    let shorter = subst (λ x. AreShorter x surplus) (sym (ap (take changed) h.parts ∙ take_at h.first h.tail changed h.many)) h.shorter in
    record {
      first = record {
        within = omega lengths;
        first = (shorter.values, shorter.members);
        canonical = subst AreCanonical (sym (ap (drop changed) h.parts ∙ drop_at h.first h.tail changed h.many ∙ whole)) t.2;
      };
      shorter = shorter;
    }

-- all of them are accepted
pub accepted_shorter : (pods : List ℕ) (all : AcceptedPods) → AreAccepted pods all → AreShorter pods all.surplus
accepted_shorter pods all h =
    subst (AreShorter pods) (omega arith)
    (shorter_joined pods (take all.changed pods) (drop all.changed pods) all.surplus 0 (sym (take-append-drop all.changed pods)) h.shorter
    (canonical_shorter (drop all.changed pods) h.first.canonical))

-- behind accepted pods
pub changed_behind : (pods first left : List ℕ) (vs : Trees) (all : AcceptedPods) → pods ≡ first ++ left → AreMembers vs first → AreAccepted left all →
    AreChanged pods (length pods - length left + all.changed)
changed_behind pods first left vs all e m h =
    let l = ap length e ∙ length-append first left in
    let within = h.first.within in
    let front : take (length first + all.changed) pods ≡ first ++ take all.changed left = ap (take (length first + all.changed)) e ∙ take-append-add first left all.changed in
    let back : drop (length first + all.changed) pods ≡ drop all.changed left = ap (drop (length first + all.changed)) e ∙ drop-append-add first left all.changed in
    let ws = join_members vs h.shorter.values in
    subst (AreChanged pods) (sym (omega arith)) (record {
      within = omega arith;
      first = (ws, subst (AreMembers ws) (sym front) (members_joined vs h.shorter.values first (take all.changed left) m h.shorter.members));
      canonical = subst AreCanonical (sym back) h.first.canonical;
    })

pub changed_members : (pods : List ℕ) (changed : ℕ) → AreChanged pods changed → (vs : Trees) × AreMembers vs pods
changed_members pods changed h =
    let vs = join_members h.first.0 h.canonical.values in
    (vs, subst (AreMembers vs) (take-append-drop changed pods) (members_joined h.first.0 h.canonical.values (take changed pods) (drop changed pods) h.first.1 h.canonical.members))
