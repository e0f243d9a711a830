-- A choice and a plain value meet in either order.
use Rattle.std.proofs.Common.{◌≡◌, ◌&&◌, Bool, true, false, refl, sym, ◌∙◌, Option, Some, None, Result, Ok, Err, IfOk}
use Rattle.spa_format.specs.Tree.{Tree}
use Rattle.spa_value.specs.declared.value.Value.{Value}
use Rattle.spa_value.specs.View.{view}
use Rattle.spa_filter_offers.specs.Admits.{Admits, AreSupported, IsCommon, IsMeeting, is_bounded, is_flags, plain_of}
use Rattle.spa_filter.specs.Values.{AreApart, ValuesMeet}

and_swapped : (a b : Bool) → (a && b) ≡ false → (b && a) ≡ false
and_swapped true true h = h
and_swapped true false h = refl
and_swapped false true h = refl
and_swapped false false h = refl

-- two values are supported in either order,
pub AreSupported-swapped : (v w : Tree) → AreSupported v w → AreSupported w v
AreSupported-swapped v w s =
    (s.1, s.0, (and_swapped (is_bounded v) (is_flags w) s.2.1, and_swapped (is_flags v) (is_bounded w) s.2.0))

-- and apart in either order
pub AreApart-swapped : (v w : Tree) → AreApart v w → AreApart w v
AreApart-swapped v w a s h = a (AreSupported-swapped w v s) (h.0, (h.1.1, h.1.0))

-- w admits itself alone
module _ (v w : Tree) (own : plain_of w ≡ w) (alone : (x : Tree) → Admits w x → x ≡ w) where
  swapped : (x : Tree) → IsCommon v w x → IsCommon w v x
  swapped x h = (h.1, h.0)

  back : (x : Tree) → IsCommon w v x → IsCommon v w x
  back x h = (h.1, h.0)

  pub IsMeeting-swapped : (y : Tree) → IsMeeting v w y → IsMeeting w v y
  IsMeeting-swapped y m =
      let is : plain_of y ≡ w = alone (plain_of y) m.admitted.1 in
      record {
        each = λ x. (λ h. swapped x ((m.each x).0 h), λ h. (m.each x).1 (back x h));
        admitted = swapped (plain_of y) m.admitted;
        first = λ h. is ∙ sym own;
        second = λ n h. is ∙ sym (alone (plain_of v) h.0);
        no_flags = m.no_flags;
      }

  pub ValuesMeet-swapped : {E : Type 0} (r : Result (Option Value) E) → IfOk r (ValuesMeet v w) → IfOk r (ValuesMeet w v)
  ValuesMeet-swapped (Ok None) n = AreApart-swapped v w n
  ValuesMeet-swapped (Ok (Some y)) m = (AreSupported-swapped v w m.0, IsMeeting-swapped (view y) m.1)
  ValuesMeet-swapped (Err why) h = tt
