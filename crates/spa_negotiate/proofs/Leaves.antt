-- Values without members, read from borrowed pods, and beside values with members.
use Rattle.std.proofs.Common.{◌≡◌, ◌≢◌, ℕ, List, refl, sym, ◌∙◌, subst}
use Rattle.spa_format.specs.Pod.{IsBody, IsPod}
use Rattle.spa_format.specs.Tree.{Tree, struct, object, struct_type, object_type, type_of}
use Rattle.spa_format.proofs.Shapes.{object_only, struct_only}
use Rattle.spa_bytes.specs.Opening.{Opens}
use Rattle.spa_bodies.specs.Written.{IsLeaf}
use Rattle.spa_negotiate.specs.Admits.{IsSupported}
use Rattle.spa_negotiate.specs.Refusals.{IsValueRefusal}
use Rattle.spa_negotiate.specs.declared.error.NegotiateError.TheVariants.{Disjoint}
use Rattle.spa_negotiate.proofs.Agreeing.{IsSupported-plain}
use Rattle.spa_negotiate.proofs.Putting.{none_beside, plain_with_members}

-- a pod of a struct's type, or of an object's, is of a value with members,
pub struct_read : (pod body rest : List ℕ) (type : ℕ) → Opens pod type body rest → type ≡ struct_type → (v : Tree) → IsPod pod v → ¬ (IsLeaf v)
struct_read pod body rest type o e v p =
    let i = struct_only v (sym p.its_type ∙ sym o.its_type ∙ e) in
    subst (λ w. ¬ (IsLeaf w)) (sym i.1) (λ h. h)

pub object_read : (pod body rest : List ℕ) (type : ℕ) → Opens pod type body rest → type ≡ object_type → (v : Tree) → IsPod pod v → ¬ (IsLeaf v)
object_read pod body rest type o e v p =
    let i = object_only v (sym p.its_type ∙ sym o.its_type ∙ e) in
    subst (λ w. ¬ (IsLeaf w)) (sym i.3) (λ h. h)

-- a value of another type has none
pub no_members : (v : Tree) → type_of v ≢ struct_type → type_of v ≢ object_type → IsLeaf v
no_members (struct vs) n m = n refl
no_members (object t i ps) n m = m refl
no_members _ n m = tt

-- the value of a body is that of the pod
pub leaf_read : ((b : List ℕ) (v w : Tree) → IsPod b v → IsPod b w → v ≡ w) → (pod body rest : List ℕ) (type : ℕ) (read : Tree) → Opens pod type body rest →
    type_of read ≡ type → IsBody read body → (v : Tree) → IsPod pod v → read ≡ v
leaf_read one pod body rest type read o t b v p =
    one pod read v (record { whole = p.whole; its_type = sym o.its_type ∙ sym t; content = subst (IsBody read) o.its_body b }) p

-- beside a value with members, on either side, a value without them is disjoint, where it is supported
pub disjoint_beside : (key : ℕ) (leaf v : Tree) → IsLeaf leaf → IsSupported leaf → ¬ (IsLeaf v) →
    IsValueRefusal key v leaf (Disjoint key) × IsValueRefusal key leaf v (Disjoint key)
disjoint_beside key leaf v n s h =
    let plain = IsSupported-plain v (plain_with_members v h) in
    let none = none_beside v leaf h n in
    ((refl, (plain, s), λ x. none x.0 x.1.0 x.1.1), (refl, (s, plain), λ x. none x.0 x.1.1 x.1.0))
