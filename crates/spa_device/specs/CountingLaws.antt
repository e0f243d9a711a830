-- The laws of a sink, for one over a device.
use Rattle.std.specs.Prelude.{◌≡◌, ℕ, ◌+◌, ◌≤◌, List, ◌++◌, length, Option, Some, None}
use Rattle.std.specs.Io.KnownBytes.{Appends, Keeps}
use Rattle.std.proofs.Common.{arith, inl, inr, length-append, append_assoc, append-nil, ◌∙◌}
use Rattle.std.proofs.Common.{take}
use Rattle.spa_sink.specs.declared.gen_error.GenError.{GenError}
use Rattle.spa_sink.specs.declared.gen_error.GenError.TheVariants.{Io, Failed}
use Rattle.spa_device.specs.Counting.{Counted, RefusesBytes, Took}

pub known_more : (a b c : Option (List ℕ)) (xs ys : List ℕ) → Appends a b xs → Appends b c ys →
    Appends a c (xs ++ ys)
known_more None b c xs ys p q = tt
known_more (Some a) None c xs ys p q = absurd p
known_more (Some a) (Some b) None xs ys p q = absurd q
known_more (Some a) (Some b) (Some c) xs ys p q = rw (q, p) (append_assoc a xs ys)

-- what is taken behind what was taken
pub took_more : {W : Type 0} {contents : W → Option (List ℕ)} {a b c : Counted W}
    (xs ys : List ℕ) → Took contents a xs b → Took contents b ys c → Took contents a (xs ++ ys) c
took_more {contents = contents} {a = a} {b = b} {c = c} xs ys p q =
    record {
      counted = omega (arith, p.counted, q.counted, length-append xs ys);
      grew = omega (arith, p.grew, q.grew);
      known =
          known_more (contents a.device) (contents b.device) (contents c.device) xs ys p.known q.known;
    }

-- what refuses some bytes refuses more
pub refuses_longer : {W : Type 0} (a b : Counted W) (m n : ℕ) (e : GenError) → m ≤ n →
    RefusesBytes a m b e → RefusesBytes a n b e
refuses_longer a b m n e h r =
    elim r [
      | inl p ↦ inl p
      | inr p ↦ inr (p.0, elim p.1 [ inl q ↦ inl (omega (arith, h, q)) | inr q ↦ inr q ])
    ]

-- bytes refused behind others that were taken are refused with them
pub refuses_after : {W : Type 0} {contents : W → Option (List ℕ)} (a b c : Counted W)
    (xs : List ℕ) (n : ℕ) (e : GenError) → Took contents a xs b → RefusesBytes b n c e →
    RefusesBytes a (length xs + n) c e
refuses_after a b c xs n x p r =
    let h = p.counted in
    let g = p.grew in
    elim r [
      | inl q ↦ inl (q.0, (let l = q.1 in omega (arith, g, l)))
      | inr q ↦ inr (q.0, elim q.1 [ inl l ↦ inl (omega (arith, h, l)) | inr l ↦ inr l ])
    ]

-- a refusal is one of two
pub no_other : {W : Type 0} (a b : Counted W) (n : ℕ) (e : GenError) → RefusesBytes a n b e →
    (e ≡ Io → ⊥) → (e ≡ Failed → ⊥) → ⊥
no_other a b n e r f g = elim r [ inl p ↦ f p.0 | inr p ↦ g p.0 ]

-- bytes of which none was taken stay as they were
pub nothing_kept : (a b : Option (List ℕ)) (xs : List ℕ) → Appends a b (take 0 xs) → Keeps a b
nothing_kept None b xs k = tt
nothing_kept (Some a) None xs k = absurd k
nothing_kept (Some a) (Some b) xs k = k ∙ append-nil a
