-- What the calls of a parser find where the next pod is accepted.
use Rattle.std.proofs.Common.{◌≡◌, ℕ, List, Some, None, length, refl, sym, ap, subst, arith}
use Rattle.std.specs.Prelude.{IsSomeAnd, IsUtf8, false}
use Rattle.spa_format.specs.Words.{body_of}
use Rattle.spa_format.specs.Tree.{Tree, Trees, no_trees, member, string, bytes, struct}
use Rattle.spa_format.specs.Pod.{IsPod, AreMembers}
use Rattle.spa_format.specs.Front.{HasFront, front_of, Begins}
use Rattle.spa_format.proofs.Fronts.{front_of_whole}
use Rattle.spa_view.proofs.ViewedPods.{bytes_test, bytes_value, fixed_test, fixed_value, object_id, object_test, object_type, pointer_address, pointer_test, pointer_type, string_test, string_value, struct_test}
use Rattle.spa_parser.specs.State.{ParserState, next_pod, state_behind}
use Rattle.spa_parser.specs.Steps.{IsTextPod, NextIs, HoldsMembers}
use Rattle.spa_parser.proofs.NextPods.{next_of-there, next_of-end}

pub next_is_there : (s : ParserState) (v : Tree) → next_pod s ≡ None → NextIs v s → ⊥
next_is_there s v e h = subst (λ o. IsSomeAnd o (λ pod. IsPod pod v)) e h

pub next_is : (s : ParserState) (pod : List ℕ) (v : Tree) → next_pod s ≡ Some pod → NextIs v s → IsPod pod v
next_is s pod v e h = subst (λ o. IsSomeAnd o (λ p. IsPod p v)) e h

pub string_is_text : (s : ParserState) (pod b : List ℕ) → next_pod s ≡ Some pod → NextIs (string b) s →
    IsTextPod pod
string_is_text s pod b e h = let p = next_is s pod (string b) e h in let c = p.content in
    (string_test pod b p, subst IsUtf8 (sym (string_value pod b p)) c.0.utf8)

pub struct_holds : (s : ParserState) (pod : List ℕ) (vs : Trees) → next_pod s ≡ Some pod → NextIs (struct vs) s →
    AreMembers vs (body_of pod)
struct_holds s pod vs e h = let p = next_is s pod (struct vs) e h in p.content

-- the front of what is innermost is the next pod
pub front_is_next : (s : ParserState) (v : Tree) → s.innermost.of_object ≡ false → Begins s.innermost.bytes v → NextIs v s
front_is_next s v o h =
    subst (λ next. IsSomeAnd next (λ pod. IsPod pod v)) (sym (next_of-there s.innermost (front_of s.innermost.bytes) o h.there refl)) h.pod

pub first_is_next : (s : ParserState) (v : Tree) (vs : Trees) → HoldsMembers (member v vs) s → NextIs v s
first_is_next s v vs h =
    let m = h.1 in
    let f = front_of_whole s.innermost.bytes m.0 m.1 _ _ m.2 m.3 in
    front_is_next s v h.0 (record { there = f.0; pod = subst (λ b. IsPod b v) f.1 m.3 })

pub others_are_left : (s : ParserState) (v : Tree) (vs : Trees) → HoldsMembers (member v vs) s → HoldsMembers vs (state_behind s)
others_are_left s v vs h =
    let m = h.1 in
    let f = front_of_whole s.innermost.bytes m.0 m.1 _ _ m.2 m.3 in
    (h.0, subst (λ b. AreMembers vs b) f.2 m.4)

pub none_is_left : (s : ParserState) → HoldsMembers no_trees s → next_pod s ≡ None
none_is_left s h =
    let n = ap length h.1 in
    next_of-end s.innermost h.0 (λ (f : HasFront s.innermost.bytes). let l = f.header in absurd (omega arith))

-- what a get of a value of fixed size finds
pub ruleset accepted_fixed = (next_is_there, next_is, fixed_test, fixed_value)

-- what the other gets find
pub ruleset accepted_others = (
  next_is_there,
  next_is,
  string_test,
  string_value,
  string_is_text,
  bytes_test,
  bytes_value,
  pointer_test,
  pointer_type,
  pointer_address,
  object_test,
  object_type,
)

-- what a parser begins with, and what its pushes find
pub ruleset accepted_parts = (
  next_is_there,
  next_is,
  front_is_next,
  struct_test,
  struct_holds,
  object_test,
  object_type,
  object_id,
)
