-- Lists that are rewritten leniently into room of their own length.
use Rattle.std.proofs.Common.{◌≡◌, ℕ, ◌+◌, ◌-◌, ◌≤◌, List, ◌++◌, length, drop, refl, sym, ap, ◌∙◌, subst, arith, length-append}
use Rattle.std.proofs.lemmas.List.{drop_at}
use Rattle.spa_fixed_sized.specs.declared.fault.DeserializeError.{DeserializeError}
use Rattle.spa_fixed_sized.specs.declared.fault.DeserializeError.TheVariants as error
use Rattle.spa_format.specs.Tree.{Trees, no_trees, member}
use Rattle.spa_format.specs.Encoding.{encoding_of, member_encodings}
use Rattle.spa_format.specs.Front.{HasFront}
use Rattle.spa_format.specs.Lenient.{ConveyMembers}
use Rattle.spa_format.specs.Typed.{IsBytes}
use Rattle.spa_format.proofs.Exacted.{no_longer_conveyed}
use Rattle.spa_format.proofs.Origin.{IsBytes-first, IsBytes-others}
use Rattle.spa_bodies.specs.Reading.{OnMemory}
use Rattle.spa_rewrite.specs.Refusals as exact
use Rattle.spa_canonical.specs.Rewriting.{AreRewritten, AreRewrittenAs}
use Rattle.spa_canonical.proofs.Written.{further_behind}
use Rattle.spa_lenient.specs.Rewriting.{AreRewrittenLeniently, AreRewrittenLenientlyAs, RefusesList, RefusesListAt}
use Rattle.spa_lenient.proofs.Causes.{named_memory}
use Rattle.spa_lenient.proofs.Fronts.{lacks_memory}
use Rattle.spa_lenient.proofs.Lists.{members_convey}

-- pods are rewritten as by their values
pub exactly_all : (input old new : List ℕ) → AreRewritten input old new → AreRewrittenLeniently input old new
exactly_all input old new r = (r.0, members_convey r.0 input r.1, r.2)

pub exactly_as : (input : List ℕ) (len : ℕ) → AreRewrittenAs input len → AreRewrittenLenientlyAs input len
exactly_as input len r = (r.values, members_convey r.values input r.members, r.long)

-- no encodings are longer than what conveys the values
pub members_shorter : (vs : Trees) (b : List ℕ) → IsBytes b → ConveyMembers vs b → length (member_encodings vs) ≤ length b
members_shorter no_trees b f h = omega arith
members_shorter (member v vs) b f h =
    let front = no_longer_conveyed h.0 v (IsBytes-first b h.0 h.1 h.2 f) h.3 in
    let others = members_shorter vs h.1 (IsBytes-others b h.0 h.1 h.2 f) h.4 in
    let e = ap length h.2 ∙ length-append h.0 h.1 in
    let l = length-append (encoding_of v) (member_encodings vs) in
    omega arith

pub as_shorter : (input : List ℕ) (len : ℕ) → IsBytes input → AreRewrittenLenientlyAs input len → len ≤ length input
as_shorter input len f r = let s = members_shorter r.0 input f r.1 in let l = r.2 in omega arith

pub are_shorter : (input old new : List ℕ) → IsBytes input → AreRewrittenLeniently input old new → length new ≤ length old + length input
are_shorter input old new f r =
    let s = members_shorter r.0 input f r.1 in
    let l = ap length r.2 ∙ length-append old (member_encodings r.0) in
    omega arith

-- behind what was put at the front of an output it stays
pub put_behind : (bytes old new : List ℕ) (n : ℕ) → new ≡ bytes ++ drop (length bytes) old → length bytes ≤ n → drop n new ≡ drop n old
put_behind bytes old new n e l =
    further_behind new old (length bytes) n l (ap (drop (length bytes)) e ∙ drop_at bytes (drop (length bytes) old) (length bytes) refl)

-- Refusals.

-- where memory ran out already for the exact rewriting
pub lacks_memory_at : (input : List ℕ) (at : ℕ) → exact.RefusesListAt input at error.OutOfMemory → RefusesListAt input at error.OutOfMemory
lacks_memory_at input at r =
    let l = r.behind in
    let front : HasFront (drop at input) = subst (OnMemory (HasFront (drop at input))) (named_memory r.placed (sym r.same)) r.front.memory in
    record {
      placed = error.OutOfMemory;
      list = record {
        behind = (l.0, l.1, l.2, members_convey l.0 l.1 l.3, l.4);
        refused = tt;
        front = lacks_memory (drop at input) front;
      };
      same = refl;
    }
