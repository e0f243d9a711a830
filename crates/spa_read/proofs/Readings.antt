-- Steps that are the same in both readings.
use Rattle.std.proofs.Common.{◌≡◌, ◌≢◌, ℕ, ◌+◌, ◌≤◌, List, ◌++◌, length, refl, sym, ap, ◌∙◌, subst, arith, eqb, not, length-drop, Bool, true, false}
use Rattle.spa_format.specs.Words.{word_at, header_size, extent, body_of}
use Rattle.spa_format.specs.Tree.{Tree, fixed, struct, object, Trees, no_trees, member, Properties, join_members, join_properties, type_of, struct_type, object_type}
use Rattle.spa_format.specs.Pod.{IsBody}
use Rattle.spa_format.specs.Front.{front_of}
use Rattle.spa_format.proofs.Fronts.{front_and_rest, length-body_of}
use Rattle.spa_format.proofs.Sequences as exact
use Rattle.spa_bodies.proofs.Steps as steps
use Rattle.spa_bodies.specs.Reading.{MayLackMemory, TakesMemory}
use Rattle.spa_bytes.specs.Opening.{Opens}
use Rattle.std.proofs.lemmas.Bool.{ne_eqb}
use Rattle.spa_read.specs.Reading.{BeginsIn, IsBodyIn, MembersIn, OpensIn, OpensLeniently, PropertiesIn, ReadsAs}
use Rattle.spa_read.proofs.Conveying as lenient
use Rattle.spa_read.proofs.Replaced.{read_shorter, takes_as}

-- the parameter of a reading, as code has it
abbrev pub is_lenient : ℕ → Bool
is_lenient n = not (eqb n 0)

-- an exact body
exact_body : (v : Tree) (b : List ℕ) → IsBodyIn false v b → IsBody v b
exact_body (fixed x) b h = h
exact_body _ b h = h

-- a body without members is the same in both
pub leaf_in : (m : Bool) (v : Tree) (b : List ℕ) → type_of v ≢ struct_type → type_of v ≢ object_type → IsBody v b → IsBodyIn m v b
leaf_in m (struct vs) b n o h = absurd (n refl)
leaf_in m (object t i ps) b n o h = absurd (o refl)
leaf_in m _ b n o h = h

-- a front that is opened, and what is read in its place
pub lenient_front : (input b c rest after : List ℕ) (t u : ℕ) → Opens input t b rest → ReadsAs t b u c → after ≡ rest →
    OpensLeniently input u c after
lenient_front input b c rest after t u o r e = record {
  there = o.there;
  reads = subst (λ x. ReadsAs x (body_of input) u c) o.its_type (subst (λ y. ReadsAs t y u c) o.its_body r);
  its_rest = e ∙ o.its_rest;
}

pub lenient_opens : (n : ℕ) (input body rest : List ℕ) (type : ℕ) → n ≢ 0 → OpensLeniently input type body rest →
    OpensIn (is_lenient n) input type body rest
lenient_opens n input body rest type e o =
    subst (λ z. OpensIn (not z) input type body rest) (sym (ne_eqb n 0 e)) o

-- the pod at the front, from the type and the body that are read
pub pod_read : (m : Bool) (input body rest : List ℕ) (type : ℕ) (v : Tree) → OpensIn m input type body rest → type_of v ≡ type →
    IsBodyIn m v body → BeginsIn m input v rest
pod_read false input body rest type v o t h = steps.pod_read input body rest type v o t (exact_body v body h)
pod_read true input body rest type v o t h = lenient.front_read input body rest type v o t h

-- an input is the front and what follows it
pub parted : (m : Bool) (input : List ℕ) (v : Tree) (rest : List ℕ) → BeginsIn m input v rest → input ≡ front_of input ++ rest
parted false input v rest r = steps.parted input v rest r
parted true input v rest r = front_and_rest input ∙ ap (λ l. front_of input ++ l) (sym r.follows)

-- the front is one more member
pub members_grown : (m : Bool) (vs : Trees) (v : Tree) (b input rest : List ℕ) → MembersIn m vs b → BeginsIn m input v rest →
    MembersIn m (join_members vs (member v no_trees)) (b ++ front_of input)
members_grown false vs v b input rest h r = exact.members_push vs v b (front_of input) h r.begins.pod
members_grown true vs v b input rest h r = lenient.members_push vs v b (front_of input) h r.begins.conveys

pub properties_joined : (m : Bool) (ps qs : Properties) (b c : List ℕ) → PropertiesIn m ps b → PropertiesIn m qs c →
    PropertiesIn m (join_properties ps qs) (b ++ c)
properties_joined false ps qs b c h k = exact.props_joined ps qs b c h k
properties_joined true ps qs b c h k = lenient.properties_joined ps qs b c h k

-- what is read of a front, and what follows it, are shorter than the input
pub opened_shorter : (m : Bool) (input body rest : List ℕ) (type : ℕ) → OpensIn m input type body rest →
    length body + length rest + header_size ≤ length input
opened_shorter false input body rest type o =
    let whole = o.there.whole in
    let inside = ap length o.its_body ∙ length-body_of input o.there in
    let behind = ap length o.its_rest ∙ length-drop (extent (word_at input 0)) input in
    omega arith
opened_shorter true input body rest type o =
    let whole = o.there.whole in
    let shorter = read_shorter (word_at input 4) (body_of input) type body o.reads in
    let inside = length-body_of input o.there in
    let behind = ap length o.its_rest ∙ length-drop (extent (word_at input 0)) input in
    omega arith

-- where what is read takes memory, the front does
pub memory_of : (m : Bool) (input body rest : List ℕ) (type : ℕ) → OpensIn m input type body rest → TakesMemory type →
    MayLackMemory input
memory_of false input body rest type o t = (o.there, subst TakesMemory o.its_type t)
memory_of true input body rest type o t = (o.there, takes_as (word_at input 4) (body_of input) type body o.reads t)
