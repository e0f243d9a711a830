-- Pods that are rewritten one after another: canonical ones, accepted ones, and what follows them.
use Rattle.std.proofs.Common.{◌≡◌, ℕ, List, [], ◌++◌, length, refl, sym, ap, ◌∙◌, subst}
use Rattle.std.proofs.lemmas.List.{append-nil, nil_from_length}
use Rattle.std.specs.Borrow.{Bor}
use Rattle.spa_format.specs.Tree.{Trees, no_trees, join_members}
use Rattle.spa_format.specs.Pod.{AreMembers}
use Rattle.spa_format.specs.Encoding.{member_encodings}
use Rattle.spa_format.proofs.Sequences.{members_joined}
use Rattle.spa_fixed_sized.specs.declared.fault.DeserializeError.{DeserializeError}
use Rattle.spa_canonical.specs.Canonical.{AreCanonical}
use Rattle.spa_canonical.specs.Rewriting.{AreRewritten, IsLeft, RefusesFront, RefusesList}
use Rattle.spa_canonical.proofs.FirstPods.{left_behind_pods}
use Rattle.spa_canonical.proofs.Rewritten.{no_members}
use Rattle.spa_format.proofs.Encodings.{member_encodings-join}

pub canonical_rewritten : (pods : List ℕ) → AreCanonical pods → AreRewritten pods [] pods
canonical_rewritten pods k = (k.values, k.members, k.same)

-- nothing is left behind canonical pods
pub all_canonical : (input first others : List ℕ) → input ≡ first ++ others → length others ≡ 0 → AreCanonical first → AreCanonical input
all_canonical input first others parts z c = subst AreCanonical (sym (parts ∙ ap (λ o. first ++ o) (nil_from_length others z) ∙ append-nil first)) c

pub both_rewritten : (input first rest before out : List ℕ) → input ≡ first ++ rest → AreRewritten first [] before →
    AreRewritten rest [] out → AreRewritten input [] (before ++ out)
both_rewritten input first rest before out e f r =
    let vs = join_members f.0 r.0 in
    let members = members_joined f.0 r.0 first rest f.1 r.1 in
    let same : before ++ out ≡ member_encodings vs =
    ap (λ l. l ++ out) f.2 ∙ ap (λ l. member_encodings f.0 ++ l) r.2
    ∙ sym (member_encodings-join f.0 r.0) in
    (vs, subst (AreMembers vs) (sym e) members, same)

-- what is left behind canonical pods, and others
pub left_behind : (input first rest left : List ℕ) → input ≡ first ++ rest → AreCanonical first →
    IsLeft rest left → IsLeft input left
left_behind input first rest left e k l = left_behind_pods input first rest left k.values e k.members l

pub list_refused : (input left : List ℕ) (e : DeserializeError (Bor (List ℕ))) →
    IsLeft input left → RefusesFront left e → RefusesList input left e
list_refused input left e l r = record { behind = l; refused = no_members input left l e r.refused; front = r }

-- some first pods, and this is left
pub record FirstMembers (input left : List ℕ) : Type 0 where
  pub values : Trees
  pub first : List ℕ
  pub parts : input ≡ first ++ left
  pub members : AreMembers values first

pub no_first_member : (input : List ℕ) → FirstMembers input input
no_first_member input = record { values = no_trees; first = []; parts = refl; members = refl }
