-- The frames of open trees, by place.
use Rattle.std.proofs.Common.{◌≡◌, ℕ, ◌+◌, ◌<◌, List, [], ◌∷◌, ◌++◌, length, refl, ap, ◌∙◌, arith, length-append}
use Rattle.std.specs.Prelude.{Some, slice_get, true, false}
use Rattle.spa_builder.specs.State.{Partial, open_object, open_property, with_property}
use Rattle.spa_format.specs.Tree.{Tree}
use Rattle.spa_builder.specs.declared.begun.Stage.TheVariants.{Object}
use Rattle.spa_builder.specs.Framed.{at_stage}
use Rattle.spa_builder.specs.Fields.{all_so_far, frames_of, what_of}
use Rattle.spa_builder.specs.Innermost.{trees_with_value, waits}
use Rattle.spa_builder.specs.declared.begun.BegunPod.{BegunPod}
use Rattle.spa_builder.specs.declared.begun.What.{What}

pub length-frames_of : (base : ℕ) (ps : List Partial) → length (frames_of base ps) ≡ length ps
length-frames_of base [] = refl
length-frames_of base (p ∷ ps) =
    let e = length-append (frames_of base ps)
    ((record { start = base + length (all_so_far ps); what = what_of p }) ∷ []) in
    let f = length-frames_of base ps in
    omega arith

get_first : (xs : List BegunPod) (y x : BegunPod) → slice_get xs 0 ≡ Some x →
    slice_get (xs ++ y ∷ []) 0 ≡ Some x
get_first [] y x e = cc
get_first (z ∷ zs) y x e = e

pub first_frame : (base : ℕ) (p : Partial) (ps : List Partial) →
    (w : What) × (slice_get (frames_of base (p ∷ ps)) 0 ≡ Some (record { start = base; what = w }))
first_frame base p [] = (
  what_of p,
  ap (λ n. Some (record { start = n; what = what_of p }))
      (let e : base + 0 ≡ base = omega arith in e),
)
first_frame base p (q ∷ qs) =
    let h = first_frame base q qs in (
      h.0,
      get_first (frames_of base (q ∷ qs))
          (record { start = base + length (all_so_far (q ∷ qs)); what = what_of p })
          (record { start = base; what = h.0 }) h.1,
    )

-- the first frame is the outermost tree's
pub outermost_is : (frames : List BegunPod) (base : ℕ) (ps : List Partial) (o : BegunPod) →
    frames ≡ frames_of base ps → Some o ≡ slice_get frames 0 →
    (o.start ≡ base) × (length frames ≡ length ps) × (0 < length ps)
outermost_is frames base [] o e f = let g = ap (λ l. slice_get l 0) e in absurd (cc)
outermost_is frames base (p ∷ ps) o e f =
    let g = first_frame base p ps in
    let h = f ∙ ap (λ l. slice_get l 0) e ∙ g.1 in
    let i : o ≡ record { start = base; what = g.0 } = cc in
    (ap (λ (x : BegunPod). x.start) i, ap length e ∙ length-frames_of base (p ∷ ps), omega arith)

-- where a key waits, it gets its value; in a struct the frame stays
pub filled_frames : (old new : List BegunPod) (base : ℕ) (ps : List Partial) (v : Tree) →
    waits ps ≡ true → old ≡ frames_of base ps →
    ((b : ℕ) (p q : Partial) (rs : List Partial) → old ≡ frames_of b (p ∷ rs) →
    at_stage (what_of p) Object ≡ what_of q → new ≡ frames_of b (q ∷ rs)) →
    new ≡ frames_of base (trees_with_value ps v)
filled_frames old new base (open_property t i qs k fl ∷ ps) v h e f =
    f base (open_property t i qs k fl) (open_object t i (with_property qs k fl v)) ps e refl
filled_frames old new base _ v h e f = absurd (cc)

pub unfilled_frames : (base : ℕ) (ps : List Partial) (v : Tree) → waits ps ≡ false →
    frames_of base ps ≡ frames_of base (trees_with_value ps v)
unfilled_frames base (open_property t i qs k fl ∷ ps) v h = absurd (cc)
unfilled_frames base _ v h = refl
