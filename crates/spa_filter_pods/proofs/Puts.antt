-- Properties that are put, and why they aren't.
use Rattle.std.proofs.Common.{◌≡◌, ◌≢◌, ◌⊎◌, inr, ℕ, ◌<◌, ◌^◌, List, ◌++◌, refl, sym, ap, ◌∙◌, subst, append_assoc, true, Option, Some}
use Rattle.std.specs.Prelude.{MatchBool, bit_and}
use Rattle.spa_format.specs.Words.{word_bytes}
use Rattle.spa_format.specs.Tree.{Tree}
use Rattle.spa_format.specs.Writable.{IsTooLarge}
use Rattle.spa_filter.specs.CommonPods as common
use Rattle.spa_filter_offers.specs.Admits.{plain_of}
use Rattle.spa_filter.specs.Refusals.{IsKeyRefusal}
use Rattle.spa_filter.specs.declared.error.FilterError.{FilterError}
use Rattle.spa_filter.specs.declared.error.FilterError.TheVariants.{Unsupported, Disjoint, TooLarge, OutOfMemory}
use Rattle.spa_keyed_objects.specs.CanonicalPods.{IsCanonicalPod}
use Rattle.spa_keyed_objects.specs.Keys.{Offered, offered}
use Rattle.spa_object_view.specs.Answers.{IsPutBehind, IsPutBy}
use Rattle.spa_object_view.specs.declared.answer.Answer.{Answer}
use Rattle.spa_object_view.proofs.Rules.{put_of}
use Rattle.spa_filter_pods.specs.Fronts.{FiltersAt}

-- a key with flags was put, and then a pod
pub put_behind : (ours theirs : Option Offered) (key flags : ℕ) (value : Tree) (pod mid : List ℕ) (old new : Answer) → FiltersAt ours theirs flags value →
    flags < 2 ^ 32 → mid ≡ old.bytes.items ++ (word_bytes key ++ word_bytes flags) → new.bytes.items ≡ mid ++ pod → new.is_large ≡ old.is_large →
    IsCanonicalPod value pod → IsPutBy FiltersAt ours theirs key old new
put_behind ours theirs key flags value pod mid old new h l m p =
    put_of FiltersAt ours theirs key flags value pod old new h l
    (p ∙ ap (λ x. x ++ pod) m ∙ append_assoc old.bytes.items (word_bytes key ++ word_bytes flags) pod)

-- what two properties filter to
pub put_of_both : (v w : Tree) (f g h key : ℕ) (old new : Answer) (mid : List ℕ) → h ≡ bit_and f g → h < 2 ^ 32 → mid ≡ old.bytes.items ++ (word_bytes key ++ word_bytes h) →
    new.is_large ≡ old.is_large → (c : common.IsCommonAppended v w mid new.bytes.items) → IsPutBy FiltersAt (Some (offered f v)) (Some (offered g w)) key old new
put_of_both v w f g h key old new mid e l m z c =
    put_behind _ _ key h c.value c.appended.pod mid old new ((c.supported, (plain_of c.value, c.meeting.admitted)), (e, c.meeting)) l m
    c.appended.parts z c.appended.written

-- a property that is put, where its value can't be written
pub left_of_both : (v w : Tree) (f g key : ℕ) (old new : Answer) → new.is_large ≡ true → (c : common.IsCommonTooLarge v w) →
    IsPutBy FiltersAt (Some (offered f v)) (Some (offered g w)) key old new
left_of_both v w f g key old new z c =
    let left : MatchBool true ((old.is_large ≡ true) ⊎ IsTooLarge c.value) (IsPutBehind key (bit_and f g) c.value old new) = inr c.large in
    record {
      flags = bit_and f g;
      value = c.value;
      holds = ((c.supported, (plain_of c.value, c.meeting.admitted)), (refl, c.meeting));
      put = subst (λ b. MatchBool b ((old.is_large ≡ true) ⊎ IsTooLarge c.value) (IsPutBehind key (bit_and f g) c.value old new)) (sym z) left;
    }

-- why two properties aren't put
pub refused_both : (v w : Tree) (f g key : ℕ) (e : FilterError) → e ≢ TooLarge → common.IsPodRefusal key v w e →
    IsKeyRefusal key (Some (offered f v)) (Some (offered g w)) e
refused_both v w f g key (Unsupported k) n h = h
refused_both v w f g key (Disjoint k) n h = (h.0, (h.1, h.2))
refused_both v w f g key TooLarge n h = absurd (n refl)
refused_both v w f g key OutOfMemory n h = tt
refused_both v w f g key _ n h = absurd h
