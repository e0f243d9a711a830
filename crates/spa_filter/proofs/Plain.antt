-- Values that aren't choices.
use Rattle.std.proofs.Common.{false, ◌≡◌, ◌≢◌, refl, subst, sym, ◌∙◌}
use Rattle.spa_format.specs.Tree.{Tree}
use Rattle.spa_value.specs.declared.array.ValueArray.{ValueArray}
use Rattle.spa_value.specs.declared.array.ValueArray.TheVariants as A
use Rattle.spa_value.specs.declared.object.Object.{Object'}
use Rattle.spa_value.specs.declared.value.Value.{Value}
use Rattle.spa_value.specs.declared.value.Value.TheVariants as V
use Rattle.spa_value.specs.View.{view, array_view}
use Rattle.spa_filter_offers.specs.Admits.{plain_of, choice_flags_of}
use Rattle.spa_filter_offers.specs.Admits.{Admits, IsSupported, HasCommon, IsMeeting, is_flags, is_bounded}

-- its tree is supported, its own default, and admits itself alone
pub record IsPlainTree (t : Tree) : Type 0 where
  pub supported : IsSupported t
  pub own : plain_of t ≡ t
  pub alone : (x : Tree) → Admits t x → x ≡ t
  pub itself : Admits t t
  pub unflagged : is_flags t ≡ false
  pub unbounded : is_bounded t ≡ false
  pub no_flags : choice_flags_of t ≡ 0

plain_array : (a : ValueArray) → IsPlainTree (array_view a)
plain_array (A.None xs) = record { supported = tt; own = refl; alone = λ x h. h; itself = refl; unflagged = refl; unbounded = refl; no_flags = refl }
plain_array _ = record { supported = tt; own = refl; alone = λ x h. h; itself = refl; unflagged = refl; unbounded = refl; no_flags = refl }

-- such is that of another variant than a choice
pub IsPlainTree-view : (v : Value) → ((c : _) → v ≢ V.Choice c) → IsPlainTree (view v)
IsPlainTree-view (V.Choice c) n = absurd (n c refl)
IsPlainTree-view (V.ValueArray a) n = plain_array a
IsPlainTree-view (V.Object (Object' t i s ps)) n = record { supported = tt; own = refl; alone = λ x h. h; itself = refl; unflagged = refl; unbounded = refl; no_flags = refl }
IsPlainTree-view _ n = record { supported = tt; own = refl; alone = λ x h. h; itself = refl; unflagged = refl; unbounded = refl; no_flags = refl }

-- two plain values meet where they are the same,
IsMeeting-itself : (v : Tree) → IsPlainTree v → IsMeeting v v v
IsMeeting-itself v p =
    let own = subst (Admits v) (sym p.own) p.itself in
    record {
      each = λ x. (λ h. (h, h), λ h. h.0);
      admitted = (own, own);
      first = λ h. refl;
      second = λ n h. refl;
      no_flags = p.no_flags;
    }

pub IsMeeting-same : (v w y : Tree) → IsPlainTree v → v ≡ w → y ≡ v → IsMeeting v w y
IsMeeting-same v w y p same copy =
    subst (λ u. IsMeeting v u y) same (subst (λ u. IsMeeting v v u) (sym copy) (IsMeeting-itself v p))

-- and else nothing is common
pub none-apart : (v w : Tree) → IsPlainTree v → IsPlainTree w → ¬ (v ≡ w) → ¬ (HasCommon v w)
none-apart v w p q n h = n (sym (p.alone h.0 h.1.0) ∙ q.alone h.0 h.1.1)
