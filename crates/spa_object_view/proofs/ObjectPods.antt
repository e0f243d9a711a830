-- The pods of objects at the fronts of inputs.
use Rattle.std.proofs.Common.{inl, inr, ◌≡◌, ◌≢◌, ℕ, List, refl, sym, ap, ◌∙◌, subst}
use Rattle.spa_format.specs.Words.{word_at}
use Rattle.spa_format.specs.Tree.{Tree, object, object_type, type_of}
use Rattle.spa_format.specs.Pod.{IsPod}
use Rattle.spa_format.specs.Encoding.{encoding_of}
use Rattle.spa_format.specs.Front.{Begins, IsRefused, front_of, rest_of}
use Rattle.spa_format.specs.Typed.{IsBytes}
use Rattle.spa_format.proofs.Fronts.{type_of_front, own_front, pod_begins}
use Rattle.spa_format.proofs.Shapes.{object_only}
use Rattle.spa_format.proofs.Unique.{one_value}
use Rattle.spa_bytes.specs.Opening.{Opens}
use Rattle.spa_fixed_sized.specs.declared.fault.Refusal.{Refusal}
use Rattle.spa_bodies.specs.Reading.{TakesMemory}
use Rattle.spa_canonical.specs.Canonical.{BeginsCanonical}
use Rattle.spa_canonical.specs.Depth.{NestsDeeper, levels_looked_into}
use Rattle.spa_canonical.proofs.Deeper.{its_container}
use Rattle.spa_canonical.specs.Look.{IsRejected}
use Rattle.spa_canonical.specs.Rewriting.{IsRewriting}
use Rattle.spa_canonical.specs.declared.look.Rejected.{Rejected}
use Rattle.spa_canonical.specs.declared.look.Rejected.TheVariants as rejected
use Rattle.std.specs.Borrow.{Bor}
use Rattle.std.specs.Prelude.{IfOk, Result, Ok, Err}
use Rattle.spa_object_view.specs.Fronts.{BeginsObject, BeginsObjectIn, BeginsObjectOf, BeginsOther, BeginsView, IsNoObject, IsObject, IsObjectBody, IsUnread}
use Rattle.spa_object_view.specs.declared.front.ObjectPod.{ObjectPod}
use Rattle.spa_object_view.specs.declared.front.ObjectPod.TheVariants.{Borrowed, Rewritten}
use Rattle.spa_object_view.specs.declared.object_view.ObjectView.{ObjectView}
use Rattle.spa_object_view.specs.declared.front.NoObject.{NoObject}
use Rattle.spa_object_view.specs.declared.front.NoObject.TheVariants.{Unread, Other, OutOfMemory}
use Rattle.spa_object_view.proofs.Opening.{begins_view}

-- the type of the value with which an input begins
pub begun_type : (input : List ℕ) (v : Tree) → Begins input v → type_of v ≡ word_at input 4
begun_type input v b = sym b.pod.its_type ∙ type_of_front input

pub no_object : (v : Tree) → type_of v ≢ object_type → ¬ (IsObject v)
no_object (object t i ps) n h = n refl
no_object _ n h = h

-- an input with the pod of an object begins with one
pub begins_object : (input : List ℕ) (pod : ObjectPod) → BeginsObjectOf input pod → BeginsObject input
begins_object input (Borrowed view) b = record { value = object view.type_ view.id b.values; begins = b.begins; is_object = tt }
begins_object input (Rewritten bytes) b = record { value = object b.type b.id b.values; begins = b.begins; is_object = tt }

-- the rewriting of a front
pub rewritten_object : (input out : List ℕ) → (r : IsRewriting input out) → word_at input 4 ≡ object_type → BeginsObjectIn input out
rewritten_object input out r t =
    let i = object_only r.value (begun_type input r.value r.begins ∙ t) in
    record {
      type = i.0;
      id = i.1;
      values = i.2;
      begins = subst (Begins input) i.3 r.begins;
      written = record { its_pod = subst (IsPod out) i.3 r.again; same = r.written ∙ ap encoding_of i.3 };
    }

-- the view of an object's pod, opened
pub view_inside : (input pod body behind : List ℕ) (type : ℕ) (view : ObjectView) → IsBytes pod → Opens pod type body behind → IsObjectBody body view →
    BeginsObjectIn input pod → BeginsView input view
view_inside input pod body behind type view h o i b =
    let v = object b.type b.id b.values in
    let p = b.written.its_pod in
    let whole : front_of pod ≡ pod = own_front pod p.whole in
    let begins : Begins pod v = pod_begins pod v p in
    let canonical : BeginsCanonical pod (rest_of pod) =
    record { value = v; begins = record { begins = begins; follows = refl }; same = whole ∙ b.written.same } in
    let opened = subst (λ n. Opens pod n body behind) (o.its_type ∙ p.its_type) o in
    let m = begins_view pod (rest_of pod) body behind view h canonical opened i in
    let same = one_value (front_of pod) v (object view.type_ view.id m.values) begins.pod m.begins.pod in
    record { values = m.values; begins = subst (Begins input) same b.begins; written = m.written }

-- the rewriting of a front that is no object's
pub other_rewritten : (input out : List ℕ) → word_at input 4 ≢ object_type → (r : IsRewriting input out) → BeginsOther input
other_rewritten input out t r =
    record { value = r.value; begins = r.begins; no_object = no_object r.value (λ e. t (sym (begun_type input r.value r.begins) ∙ e)) }

pub no_object_of : (input : List ℕ) (why : NoObject) → IsUnread input why → IsNoObject input why
no_object_of input Unread h = h
no_object_of input Other h = absurd h
no_object_of input OutOfMemory h = h

-- a result that is no refusal
pub of_ok : {T E P : Type 0} {Q : T → Type 0} (r : Result T E) → ((e : E) → r ≡ Err e → ⊥) → ((v : T) → Q v → P) → IfOk r Q → P
of_ok (Ok v) n f h = f v h
of_ok (Err e) n f h = absurd (n e refl)

-- a front that is a pod of another type than an object's
pub begins_other : (input : List ℕ) (v : Tree) → word_at input 4 ≢ object_type → Begins input v → BeginsOther input
begins_other input v t b = record { value = v; begins = b; no_object = no_object v (λ e. t (sym (begun_type input v b) ∙ e)) }

-- a fault that stands refuses the front
pub refused_front : (input : List ℕ) (r : Rejected) (place : Bor (List ℕ)) (at : ℕ) (why : Refusal) → r ≡ rejected.Fault place at why → IsRejected input r →
    IsRefused input
refused_front input r place at why e h = (subst (IsRejected input) e h).refused

pub too_deep : (input : List ℕ) (r : Rejected) → r ≡ rejected.TooDeep → IsRejected input r → NestsDeeper levels_looked_into input
too_deep input r e h = subst (IsRejected input) e h

-- a pod that nests deep is a struct or an object
pub deep_takes_memory : (input : List ℕ) → NestsDeeper levels_looked_into input → TakesMemory (word_at input 4)
deep_takes_memory input d = elim (its_container levels_looked_into input d) [
  | inl s ↦ inr (inr (inr (inr (inl s))))
  | inr o ↦ inr (inr (inr (inr (inr (inl o)))))
]
