-- The bodies of truth values.
use Rattle.std.proofs.Common.{◌≡◌, ℕ, ◌+◌, ◌%◌, ◌<◌, ◌≤◌, List, [], ◌∷◌, ◌++◌, length, drop, take, refl, sym, ap, ◌∙◌, subst, arith}
use Rattle.std.proofs.Math.Seq.{take-add}
use Rattle.std.proofs.lemmas.List.{drop-drop, take_all}
use Rattle.std.proofs.lemmas.Slice.{drop-put_mid, take-put_mid}
use borrow.Rule.Slice.PartMut.{put_mid}
use Rattle.spa_format.specs.Kind.{Fixed, bool_kind, content, fixed_body}
use Rattle.spa_format.specs.Pod.{AreElements}
use Rattle.spa_format.specs.Encoding.{fixed_bodies}
use Rattle.spa_format.proofs.Elements.{bodies_push, elements_push}
use Rattle.spa_fixed_sized.specs.Reading.{AreWhole}
use Rattle.spa_canonical.proofs.Lengths.{lengths}

-- the first words are as they are written, and the others as they were
pub record AreTurned (old now : List ℕ) (at : ℕ) : Type 0 where
  pub whole : at % 4 ≡ 0
  pub within : at ≤ length old
  pub values : List Fixed
  pub its_values : AreElements bool_kind values (take at old)
  pub bodies : take at now ≡ fixed_bodies values
  pub rest : drop at now ≡ drop at old
  pub long : length now ≡ length old

pub none_turned : (old : List ℕ) → AreTurned old old 0
none_turned old = record { whole = refl; within = omega arith; values = []; its_values = refl; bodies = refl; rest = refl; long = refl }

pub one_turned : (old now piece word : List ℕ) (x : Fixed) (at k n : ℕ) → AreTurned old now at → AreWhole 4 old → at < length now →
    word ≡ take k (drop at now) → k ≡ 4 → x ≡ content bool_kind word → piece ≡ fixed_body x → n ≡ at + 4 → length piece ≡ k →
    length (put_mid at k now piece) ≡ length now → AreTurned old (put_mid at k now piece) n
one_turned old now piece word x at k n h w l e four c p m long same =
    let room : at + 4 ≤ length old = omega arith in
    let here : word ≡ take 4 (drop at old) = e ∙ ap (λ i. take i (drop at now)) four ∙ ap (take 4) h.rest in
    let more : take n old ≡ take at old ++ word = ap (λ i. take i old) m ∙ take-add at 4 old ∙ ap (λ y. take at old ++ y) (sym here) in
    let size = ap length here in
    record {
      whole = omega arith;
      within = omega arith;
      values = h.values ++ x ∷ [];
      its_values = subst (AreElements bool_kind (h.values ++ x ∷ [])) (sym more)
          (elements_push bool_kind h.values x (take at old) word (omega arith) h.its_values (record { whole = omega lengths; says = c }));
      bodies = take-put_mid at k now piece n (omega arith) (omega arith) ∙ ap (λ y. y ++ piece) h.bodies
          ∙ ap (λ y. fixed_bodies h.values ++ y) p ∙ sym (bodies_push h.values x);
      rest = drop-put_mid at k now piece n (omega arith) (omega arith) long ∙ ap (λ i. drop i now) m ∙ sym (drop-drop 4 at now)
          ∙ ap (drop 4) h.rest ∙ drop-drop 4 at old ∙ ap (λ i. drop i old) (sym m);
      long = same ∙ h.long;
    }

pub all_turned : (old now : List ℕ) (at : ℕ) → AreTurned old now at → length now ≤ at →
    (values : List Fixed) × AreElements bool_kind values old × (now ≡ fixed_bodies values)
all_turned old now at h l = (
  h.values,
  subst (AreElements bool_kind h.values) (take_all at old (omega arith)) h.its_values,
  sym (take_all at now (omega arith)) ∙ h.bodies,
)
