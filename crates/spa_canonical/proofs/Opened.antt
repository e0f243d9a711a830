-- Canonical pods, opened: what is in their bodies, and what is left behind them.
use Rattle.std.proofs.Common.{◌≡◌, ℕ, ◌<◌, List, length, drop, sym, ap, ◌∙◌, subst, arith, length-append}
use Rattle.spa_format.specs.Words.{word_at, word_bytes, wide_bytes}
use Rattle.spa_format.specs.Tree.{struct_type, object_type, pointer_type}
use Rattle.spa_format.specs.Pod.{IsBody}
use Rattle.spa_format.specs.Encoding.{encoded_body, property_encodings}
use Rattle.spa_format.specs.Front.{rest_of}
use Rattle.spa_format.specs.Typed.{IsBytes}
use Rattle.spa_format.proofs.Shapes.{object_only, pointer_only, struct_only}
use Rattle.spa_format.proofs.WordLemmas.{length-wide_bytes, length-word_bytes, word_inside}
use Rattle.spa_canonical.specs.Canonical.{AreCanonical, AreCanonicalProperties, IsCanonicalBody}
use Rattle.spa_canonical.specs.Depth.{AreShallow}
use Rattle.spa_canonical.proofs.Made.{made_members}
use Rattle.spa_canonical.proofs.Words.{behind_two_words}

-- what is left behind the first
pub shallow_rest : (levels : ℕ) (left rest : List ℕ) → IsBytes left → 0 < length left → rest ≡ rest_of left → AreShallow levels left → AreShallow levels rest
shallow_rest levels left rest h l e s =
    let m = made_members left h l s.pods in
    let d = m.depth in
    let k = s.shallow in
    let c : AreShallow levels (rest_of left) = record { pods = m.others; shallow = omega arith } in
    subst (AreShallow levels) (sym e) c

-- what the bodies of each type hold
pub struct_inside : (type : ℕ) (body : List ℕ) → type ≡ struct_type → IsCanonicalBody type body → AreCanonical body
struct_inside type body t c =
    let i = struct_only c.value (c.its_type ∙ t) in
    record { values = i.0; members = subst (λ x. IsBody x body) i.1 c.its_body; same = c.same ∙ ap encoded_body i.1 }

pub object_inside : (type : ℕ) (body : List ℕ) → type ≡ object_type → IsCanonicalBody type body → AreCanonicalProperties (drop 8 body)
object_inside type body t c =
    let i = object_only c.value (c.its_type ∙ t) in
    let b = subst (λ x. IsBody x body) i.3 c.its_body in
    let rest = behind_two_words body (property_encodings i.2) i.0 i.1 (c.same ∙ ap encoded_body i.3) in
    record { values = i.2; properties = b.3; same = rest }

pub pointer_of_body : (type : ℕ) (body : List ℕ) → type ≡ pointer_type → IsCanonicalBody type body → (length body ≡ 16) × (word_at body 4 ≡ 0)
pointer_of_body type body t c =
    let i = pointer_only c.value (c.its_type ∙ t) in
    let e = c.same ∙ ap encoded_body i.2 in
    let long : length body ≡ 16 = ap length e ∙ simp (length-append, length-word_bytes, length-wide_bytes) in
    (long, ap (λ b. word_at b 4) e ∙ word_inside (word_bytes i.0) (wide_bytes i.1) 0 4 (length-word_bytes i.0) (omega arith))
