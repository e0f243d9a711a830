-- Where the body of a value under a key begins.
use Rattle.std.proofs.Common.{◌≡◌, ℕ, ◌+◌, ◌≤◌, List, length, drop, refl, sym, ap, subst, ◌∙◌, arith, length-drop}
use Rattle.std.specs.Prelude.{Bool, true, false, if◌then◌else◌}
use Rattle.std.proofs.lemmas.Bool.{leb-true, and_parts}
use Rattle.spa_format.specs.Faults.{choice_header_size}
use Rattle.spa_format.specs.Fixation.{is_choice_pod}
use Rattle.spa_format.specs.Front.{HasFront, front_of}
use Rattle.spa_format.specs.Kind.{Kind, body_size, type_number}
use Rattle.spa_format.specs.Words.{word_at}
use Rattle.spa_format.proofs.WordLemmas.{word_at-drop}
use Rattle.spa_format.proofs.Fronts.{size_of_front}
use Rattle.spa_view.specs.Settled.{child_place, holds_value, settled_bytes}
use Rattle.spav.specs.Items.{HasValueAt, settled_at}
use Rattle.spav.specs.Setting.{HasBodyAt, HasOtherAt}

-- a settled body is within the bytes
fits_by : (x : Bool) (value : List ℕ) → HasFront value → holds_value (front_of value) ≡ x →
    (if x then child_place else 0) + 8 + word_at (if x then front_of (drop child_place (front_of value)) else front_of value) 0 ≤ length value
fits_by true value f e =
    let b = front_of value in
    let le = leb-true (choice_header_size + word_at b child_place) (word_at b 0) (and_parts _ _ (and_parts (is_choice_pod b) _ e).1).1 in
    let inner = size_of_front (drop child_place b) ∙ word_at-drop child_place 0 b in
    let outer = size_of_front value in
    let w = f.whole in
    omega (arith, le, inner, outer)
fits_by false value f e =
    let outer = size_of_front value in
    let w = f.whole in
    omega (arith, outer)

pub settled_fits : (value : List ℕ) → HasFront value → settled_at value + 8 + word_at (settled_bytes (front_of value)) 0 ≤ length value
settled_fits value f = fits_by (holds_value (front_of value)) value f refl

-- the body of a value of this kind
pub body_at : (kind : Kind) (key at behind : ℕ) (input value pod set : List ℕ) → HasValueAt key input at → value ≡ drop at input → HasFront value → pod ≡ front_of value →
    set ≡ settled_bytes pod → word_at set 4 ≡ type_number kind → word_at set 0 ≡ body_size kind → behind ≡ at + settled_at value + 8 → HasBodyAt kind key input behind
body_at kind key at behind input value pod set v ev f ep es t s e =
    let settled : set ≡ settled_bytes (front_of (drop at input)) = es ∙ ap settled_bytes ep ∙ ap (λ b. settled_bytes (front_of b)) ev in
    record {
      value_at = at;
      value = v;
      begins = record {
        front = subst HasFront ev f;
        its_kind = (subst (λ b. word_at b 4 ≡ type_number kind) settled t, subst (λ b. word_at b 0 ≡ body_size kind) settled s);
      };
      behind = e ∙ ap (λ b. at + settled_at b + 8) ev;
    }

pub body_within : (size at behind : ℕ) (input value pod set : List ℕ) → at ≤ length input → value ≡ drop at input → HasFront value → pod ≡ front_of value → set ≡ settled_bytes pod →
    word_at set 0 ≡ size → behind ≡ at + settled_at value + 8 → behind + size ≤ length input
body_within size at behind input value pod set l ev f ep es s e =
    let w = settled_fits value f in
    let same = sym s ∙ ap (λ b. word_at b 0) (es ∙ ap settled_bytes ep) in
    let long = ap length ev ∙ length-drop at input in
    omega (arith, w, same, long, e, l)

-- no value of this kind
pub other_at : (kind : Kind) (key at : ℕ) (input value pod set : List ℕ) → HasValueAt key input at → value ≡ drop at input → pod ≡ front_of value → set ≡ settled_bytes pod →
    ¬ ((word_at set 4 ≡ type_number kind) × (word_at set 0 ≡ body_size kind)) → HasOtherAt kind key input
other_at kind key at input value pod set v ev ep es n =
    let settled : set ≡ settled_bytes (front_of (drop at input)) = es ∙ ap settled_bytes ep ∙ ap (λ b. settled_bytes (front_of b)) ev in
    record {
      value_at = at;
      value = v;
      other = λ b. n (subst (λ c. (word_at c 4 ≡ type_number kind) × (word_at c 0 ≡ body_size kind)) (sym settled) b.its_kind);
    }
