-- Keys are settled, one property after another.
use Rattle.std.proofs.Common.{◌≡◌, ℕ, List, [], ◌∷◌, ◌++◌, Bool, true, false, refl, sym, ap, ◌∙◌, subst, append_assoc, Option, Some}
use Rattle.std.proofs.lemmas.List.{append-nil}
use Rattle.std.proofs.lemmas.List.Elements.{All-pop}
use Rattle.std.specs.List.{All}
use Rattle.spa_format.specs.Tree.{Tree, object, Properties, property, join_properties}
use Rattle.spa_keyed_objects.specs.Keys.{AtKey, HoldsAtKeys, HoldsOfEach, Offered, contains, distinct_of, key_list, offered, offered_at}
use Rattle.spa_keyed_objects.proofs.KeyLists.{distinct_of-new, distinct_of-seen, key_list-join}
use Rattle.spa_keyed_objects.proofs.Holding.{IsFirstRefused-next}
use Rattle.spa_keyed_objects.proofs.Lookups.{offered_at-absent, offered_at-joined}
use Rattle.spa_object_view.proofs.Rules.{all_agree}
use Rattle.spa_negotiate.specs.Meeting.{Agree, CanMeet, IsMetAt, Meet}
use Rattle.spa_negotiate.specs.Refusals.{AreUnsupported, AreDisjoint, IsRefusedAt, IsKeyRefusal, IsRefusal}
use Rattle.spa_negotiate.specs.declared.error.NegotiateError.{NegotiateError}
use Rattle.spa_negotiate.specs.declared.error.NegotiateError.TheVariants.{Unsupported, Disjoint, OutOfMemory}

-- the two sides agree under each key that is settled
agree_settled : (ps qs rs : Properties) → HoldsOfEach IsMetAt ps qs rs → All (AtKey Agree ps qs) (key_list rs)
agree_settled = all_agree {Holds = IsMetAt} {Agree = Agree} (λ o p f x h. h.2)

-- what is so at each of these numbers is so at each of the first of them
all_first : (P : ℕ → Type 0) (js ks : List ℕ) → All P (distinct_of (ks ++ js)) → All P (distinct_of ks)
all_first P [] ks h = subst (λ l. All P (distinct_of l)) (append-nil ks) h
all_first P (j ∷ js) ks h =
    by_seen (all_first P js (ks ++ j ∷ []) (subst (λ l. All P (distinct_of l)) (sym (append_assoc ks (j ∷ []) js)) h)) (contains j ks) refl
  where
    by_seen : All P (distinct_of (ks ++ j ∷ [])) → (b : Bool) → contains j ks ≡ b → All P (distinct_of ks)
    by_seen more true e = subst (All P) (distinct_of-seen j ks e) more
    by_seen more false e = (All-pop P (distinct_of (ks ++ j ∷ [])) (distinct_of ks) (Some j) (distinct_of-new j ks e) more).0

-- two objects that meet in a third can meet
pub can_meet : (v w met : Tree) → Meet v w met → CanMeet v w
can_meet (object t i ps) (object u j qs) (object s l met) h = (
  h.0,
  all_first (AtKey Agree ps qs) (key_list qs) (key_list ps)
      (subst (All (AtKey Agree ps qs)) (h.3.keys ∙ ap distinct_of (key_list-join ps qs)) (agree_settled ps qs met h.3.values)),
)
can_meet (object t i ps) (object u j qs) met h = absurd h
can_meet (object t i ps) w met h = absurd h
can_meet v w met h = absurd h

-- a key that isn't settled yet is refused, where the first side's properties go on behind ss with it
module _ (ps qs ss rs ts : Properties) (k f : ℕ) (v : Tree) (at : ps ≡ join_properties ss (property k f v ts))
    (h : HoldsAtKeys IsMetAt ps qs ss rs) (n : contains k (key_list ss) ≡ false) where
  refused_at : (Stands : Option Offered → Option Offered → Type 0) → Stands (Some (offered f v)) (offered_at k qs) →
      IsRefusedAt Stands ps qs k
  refused_at Stands s =
      let ours = offered_at-joined k f v ss ts ps at (offered_at-absent k ss n) in
      IsFirstRefused-next Agree Stands ps qs ps ss rs ts k f v at h.keys (agree_settled ps qs rs h.values) n
      (subst (λ o. Stands o (offered_at k qs)) (sym ours) s)

  pub IsRefusal-first : (e : NegotiateError) → IsKeyRefusal k (Some (offered f v)) (offered_at k qs) e → IsRefusal ps qs e
  IsRefusal-first (Unsupported j) r = subst (λ m. IsRefusedAt AreUnsupported ps qs m) (sym r.0) (refused_at AreUnsupported r.1)
  IsRefusal-first (Disjoint j) r = subst (λ m. IsRefusedAt AreDisjoint ps qs m) (sym r.0) (refused_at AreDisjoint r.1)
  IsRefusal-first OutOfMemory r = tt
  IsRefusal-first _ r = r
