-- Fronts that convey values, one after another, and those that convey none.
use Rattle.std.proofs.Common.{◌≡◌, ◌≢◌, ℕ, ◌<◌, ◌≤◌, ◌⊎◌, inl, inr, List, [], ◌++◌, length, drop, refl, sym, ap, ◌∙◌, subst, arith, length-append, append_assoc, true}
use Rattle.std.specs.Prelude.{⊤}
use Rattle.std.proofs.lemmas.List.{append-nil, drop-append-le}
use Rattle.spa_format.specs.Words.{word_at, body_of, header_size}
use Rattle.spa_format.specs.Tree.{Tree, string, struct, object, Trees, no_trees, member, Properties, no_properties, property, join_members, join_properties, type_of, struct_type, object_type}
use Rattle.spa_format.specs.Pod.{IsBody, IsChoice}
use Rattle.spa_format.specs.Front.{Begins, HasFront, front_of}
use Rattle.spa_format.specs.Faults.{Fault, Short, Text, InvalidType, InvalidChoiceType, MissingChoiceValues, WrongSize, IsInvalidType, no_type, of_elements, of_values, IsWrongSize, of_fixed, of_array, of_choice, of_pointer, short_array, short_choice, short_object}
use Rattle.spa_format.specs.Lenient.{ConveyMembers, ConveyProperties, Conveys}
use Rattle.spa_format.proofs.Conveyed.{conveying_front, one_value, pod_conveys}
use Rattle.spa_format.proofs.Choices.{shape_fits}
use Rattle.spa_format.proofs.FixedKinds.{number_is}
use Rattle.spa_format.proofs.Fronts.{body_of_front, type_of_front, whole_front}
use Rattle.spa_format.proofs.Refused.{enough_values, right_size, right_type}
use Rattle.spa_format.proofs.Shapes.{choice_only, object_only, string_only, struct_only}
use Rattle.spa_format.proofs.WordLemmas.{word_at-append}
use Rattle.std.specs.Borrow.{Bor}
use Rattle.spa_fixed_sized.specs.declared.fault.Refusal.{Refusal}
use Rattle.spa_bodies.specs.Reading.{MayLackMemory}
use Rattle.spa_bodies.specs.Refusing.{StandsInBody, error_of}
use Rattle.spa_bodies.proofs.Refusals.{said_so, said_memory, said_short, said_fault}
use Rattle.spa_read.specs.Reading.{ConveysAtFront, ConveysNothing, ConveysWith, IsBodyIn, OpensLeniently, RefusesInput, RefusesLeniently, StandsLeniently, no_front, in_body, in_member, in_key, in_property}
use Rattle.spa_read.proofs.Replaced.{ConveysAs, as_conveyed, conveyed_as}

-- Fronts.

-- a front that is read
pub front_read : (input body rest : List ℕ) (type : ℕ) (v : Tree) → OpensLeniently input type body rest → type_of v ≡ type →
    IsBodyIn true v body → ConveysWith input v rest
front_read input body rest type v o t h =
    let all = whole_front input (word_at input 4) (λ c. ⊤) o.there refl tt in
    let said = as_conveyed (word_at input 4) (body_of input) type body v o.reads t h in
    record {
      begins = record {
        there = o.there;
        conveys = record {
          whole = all.whole;
          content = subst (λ t. ConveysAs t (body_of (front_of input)) v) (sym (type_of_front input))
              (subst (λ b. ConveysAs (word_at input 4) b v) (sym (body_of_front input)) said);
        };
      };
      follows = o.its_rest;
    }

front_conveys : (input : List ℕ) (v : Tree) → ConveysAtFront input v → ConveysAs (word_at input 4) (body_of input) v
front_conveys input v h =
    subst (λ t. ConveysAs t (body_of input) v) (type_of_front input)
    (subst (λ b. ConveysAs (word_at (front_of input) 4) b v) (body_of_front input) h.conveys.content)

at_front : (b first others : List ℕ) (v : Tree) → b ≡ first ++ others → Conveys first v → ConveysAtFront b v
at_front b first others v e h =
    let f = conveying_front b first others _ _ _ e h in
    record { there = f.0; conveys = subst (λ l. Conveys l v) f.1 h }

-- a pod conveys its value
pub conveys_pod : (input : List ℕ) (v : Tree) → Begins input v → ConveysAtFront input v
conveys_pod input v h = record { there = h.there; conveys = pod_conveys (front_of input) v h.pod }

-- the front conveys no other value
pub only_conveyed : (input : List ℕ) (v w : Tree) → ConveysAtFront input v → ConveysAtFront input w → w ≡ v
only_conveyed input v w h i = one_value (front_of input) w v i.conveys h.conveys

-- One after another.

pub members_joined : (vs ws : Trees) (b c : List ℕ) → ConveyMembers vs b → ConveyMembers ws c →
    ConveyMembers (join_members vs ws) (b ++ c)
members_joined no_trees ws b c h k = subst (λ l. ConveyMembers ws (l ++ c)) (sym h) k
members_joined (member v vs) ws b c h k =
    (h.0, h.1 ++ c, ap (λ l. l ++ c) h.2 ∙ append_assoc h.0 h.1 c, h.3, members_joined vs ws h.1 c h.4 k)

pub members_push : (vs : Trees) (v : Tree) (b c : List ℕ) → ConveyMembers vs b → Conveys c v →
    ConveyMembers (join_members vs (member v no_trees)) (b ++ c)
members_push vs v b c h k = members_joined vs (member v no_trees) b c h (c, [], sym (append-nil c), k, refl)

-- what is left behind some first ones
members_left : (vs ws : Trees) (b c : List ℕ) → ConveyMembers vs b → ConveyMembers ws (b ++ c) →
    (us : Trees) × ConveyMembers us c
members_left no_trees ws b c h k = (ws, subst (λ l. ConveyMembers ws (l ++ c)) h k)
members_left (member v vs) no_trees b c h k =
    absurd (let e0 = ap length k in let e1 = length-append b c in let e2 = ap length h.2 in let e3 = length-append h.0 h.1 in let x = h.3.whole in omega arith)
members_left (member v vs) (member w ws) b c h k =
    let d = b ++ c in
    let e : d ≡ h.0 ++ (h.1 ++ c) = ap (λ l. l ++ c) h.2 ∙ append_assoc h.0 h.1 c in
    let f = conveying_front d h.0 (h.1 ++ c) _ _ _ e h.3 in
    let g = conveying_front d k.0 k.1 _ _ _ k.2 k.3 in
    members_left vs ws h.1 c h.4 (subst (ConveyMembers ws) (g.2 ∙ sym f.2) k.4)

pub properties_joined : (ps qs : Properties) (b c : List ℕ) → ConveyProperties ps b → ConveyProperties qs c →
    ConveyProperties (join_properties ps qs) (b ++ c)
properties_joined no_properties qs b c h k = subst (λ l. ConveyProperties qs (l ++ c)) (sym h) k
properties_joined (property p f v ps) qs b c h k =
    let l = h.0 in
    let d = drop-append-le 8 b c l in (
      (let e = length-append b c in let n : 8 ≤ length (b ++ c) = omega arith in n),
      h.1 ∙ sym (word_at-append b c 0 (omega arith)),
      h.2 ∙ sym (word_at-append b c 4 (omega arith)),
      h.3,
      h.4 ++ c,
      d ∙ ap (λ x. x ++ c) h.5 ∙ append_assoc h.3 h.4 c,
      h.6,
      properties_joined ps qs h.4 c h.7 k,
    )

properties_left : (ps qs : Properties) (b c : List ℕ) → ConveyProperties ps b → ConveyProperties qs (b ++ c) →
    (us : Properties) × ConveyProperties us c
properties_left no_properties qs b c h k = (qs, subst (λ l. ConveyProperties qs (l ++ c)) h k)
properties_left (property p f v ps) no_properties b c h k =
    absurd (let e0 = ap length k in let e1 = length-append b c in let l = h.0 in omega arith)
properties_left (property p f v ps) (property q g w qs) b c h k =
    let l = h.0 in
    let e : drop 8 (b ++ c) ≡ h.3 ++ (h.4 ++ c) = drop-append-le 8 b c l ∙ ap (λ x. x ++ c) h.5 ∙ append_assoc h.3 h.4 c in
    let a = conveying_front (drop 8 (b ++ c)) h.3 (h.4 ++ c) _ _ _ e h.6 in
    let z = conveying_front (drop 8 (b ++ c)) k.3 k.4 _ _ _ k.5 k.6 in
    properties_left ps qs h.4 c h.7 (subst (ConveyProperties qs) (z.2 ∙ sym a.2) k.7)

-- Where a fault stands, the front conveys nothing.

in_exact : (k : Fault) (v : Tree) (c : List ℕ) → IsBody v c → ¬ (StandsInBody (type_of v) c k)
in_exact Short v c h s = s
in_exact Text v c h s =
    let i = string_only v s.0 in
    let t : IsBody (string i.0) c = subst (λ w. IsBody w c) i.1 h in
    s.1 i.0 t.0 t.1
in_exact InvalidType v c h s = right_type v c h s
in_exact InvalidChoiceType v c h s =
    let i = choice_only v s.0 in
    let t : IsChoice i.0 i.1 i.2 i.3 i.4 c = subst (λ w. IsBody w c) i.5 h in
    let e = t.shape in
    let f = shape_fits i.0 in
    let l = s.2 in
    omega arith
in_exact MissingChoiceValues v c h s =
    let i = choice_only v s.0 in
    enough_values i.0 i.1 i.2 i.3 i.4 c (subst (λ w. IsBody w c) i.5 h) s.1
in_exact WrongSize v c h s = right_size v c h s

invalid_parts : (t : ℕ) (c : List ℕ) → (t ≡ struct_type) ⊎ (t ≡ object_type) → ¬ (IsInvalidType t c)
invalid_parts t c p (no_type u) = grind arith
invalid_parts t c p (of_elements e l n) = grind arith
invalid_parts t c p (of_values e l n) = grind arith

wrong_parts : (t : ℕ) (c : List ℕ) → (t ≡ struct_type) ⊎ ((t ≡ object_type) × (header_size ≤ length c)) → ¬ (IsWrongSize t c)
wrong_parts t c p (of_fixed k e n) = let i = number_is k in grind arith
wrong_parts t c p (of_array k e w) = grind arith
wrong_parts t c p (of_choice k e l w) = grind arith
wrong_parts t c p (of_pointer e m n) = grind arith
wrong_parts t c p (short_array e l) = grind arith
wrong_parts t c p (short_choice e l) = grind arith
wrong_parts t c p (short_object e l) = grind arith

in_struct : (k : Fault) (c : List ℕ) → ¬ (StandsInBody struct_type c k)
in_struct Short c s = s
in_struct InvalidType c s = invalid_parts struct_type c (inl refl) s
in_struct WrongSize c s = wrong_parts struct_type c (inl refl) s
in_struct _ c s = let e = s.0 in omega arith

in_object : (k : Fault) (c : List ℕ) → header_size ≤ length c → ¬ (StandsInBody object_type c k)
in_object Short c l s = s
in_object InvalidType c l s = invalid_parts object_type c (inr refl) s
in_object WrongSize c l s = wrong_parts object_type c (inr (refl, l)) s
in_object _ c l s = let e = s.0 in omega arith

in_content : (k : Fault) (v : Tree) (c : List ℕ) → IsBodyIn true v c → ¬ (StandsInBody (type_of v) c k)
in_content k (struct vs) c h s = in_struct k c s
in_content k (object t i ps) c h s = in_object k c h.0 s
in_content k v c h s = in_exact k v c h s

-- no values one after another go on with what conveys none
pub none_behind : (vs ws : Trees) (first left : List ℕ) → ConveyMembers vs first → left ≢ [] → ConveysNothing left →
    ¬ (ConveyMembers ws (first ++ left))
none_behind vs ws first left m n s c =
    let r = members_left vs ws first left m c in
    none_of left r.0 n s r.1
  where
    none_of : (left : List ℕ) (us : Trees) → left ≢ [] → ConveysNothing left → ¬ (ConveyMembers us left)
    none_of left no_trees n s m = n m
    none_of left (member u us) n s m = s u (at_front left m.0 m.1 u m.2 m.3)

pub conveys_nothing : (k : Fault) (place b : List ℕ) → StandsLeniently k place b → ConveysNothing b
conveys_nothing k place _ (no_front b e f n) = λ v h. n h.there
conveys_nothing k place _ (in_body b u c e f r s) = λ v h.
    let a = conveyed_as (word_at b 4) (body_of b) u c v r (front_conveys b v h) in
    in_content k v c a.1 (subst (λ t. StandsInBody t c k) (sym a.0) s)
conveys_nothing k place _ (in_member b c vs first left f r e m n s) = λ v h.
    let a = conveyed_as (word_at b 4) (body_of b) struct_type c v r (front_conveys b v h) in
    let i = struct_only v a.0 in
    let all : ConveyMembers i.0 c = subst (λ w. IsBodyIn true w c) i.1 a.1 in
    none_behind vs i.0 first left m n (conveys_nothing k place left s) (subst (ConveyMembers i.0) e all)
conveys_nothing k place _ (in_key b c ps first f r l e m n short _) = λ v h.
    let a = conveyed_as (word_at b 4) (body_of b) object_type c v r (front_conveys b v h) in
    let i = object_only v a.0 in
    let all : IsBodyIn true (object i.0 i.1 i.2) c = subst (λ w. IsBodyIn true w c) i.3 a.1 in
    let behind = properties_left ps i.2 first place m (subst (ConveyProperties i.2) e all.3) in
    none_of place behind.0 n short behind.1
  where
    none_of : (left : List ℕ) (us : Properties) → left ≢ [] → length left < 8 → ¬ (ConveyProperties us left)
    none_of left no_properties n s m = n m
    none_of left (property q g u us) n s m = let l = m.0 in omega arith
conveys_nothing k place _ (in_property b c ps first left f r l e m n s) = λ v h.
    let a = conveyed_as (word_at b 4) (body_of b) object_type c v r (front_conveys b v h) in
    let i = object_only v a.0 in
    let all : IsBodyIn true (object i.0 i.1 i.2) c = subst (λ w. IsBodyIn true w c) i.3 a.1 in
    let behind = properties_left ps i.2 first left m (subst (ConveyProperties i.2) e all.3) in
    none_of left behind.0 n (conveys_nothing k place (drop 8 left) s) behind.1
  where
    none_of : (left : List ℕ) (us : Properties) → 8 ≤ length left → ConveysNothing (drop 8 left) → ¬ (ConveyProperties us left)
    none_of left no_properties n s m = let z = ap length m in omega arith
    none_of left (property q g u us) n s m = s u (at_front (drop 8 left) m.3 m.4 u m.5 m.6)

-- The public refusal that is made of one at a place.

-- where the front isn't there, no fault stands but that it is short
only_short : (k : Fault) (place input : List ℕ) → StandsLeniently k place input → ¬ (HasFront input) → (k ≡ Short) × (place ≡ input)
only_short k place _ (no_front b e f n) m = (f, e)
only_short k place _ (in_body b u c e f r s) m = absurd (m f)
only_short k place _ (in_member b c vs first left f r e n d s) m = absurd (m f)
only_short k place _ (in_key b c ps first f r l e n d short g) m = absurd (m f)
only_short k place _ (in_property b c ps first left f r l e n d s) m = absurd (m f)

pub refused_as : (input : List ℕ) (place : Bor (List ℕ)) (why : Refusal) → RefusesLeniently input place.now why →
    RefusesInput input (error_of place why)
refused_as input place why s =
    let stands : Fault → List ℕ → Type 0 = λ k at. StandsLeniently k at input in
    let lacks = MayLackMemory input in
    record {
      refused = said_so stands lacks place (ConveysNothing input) (λ k. conveys_nothing k place.now input) why s;
      memory = said_memory stands lacks place why s;
      short_first = λ n. said_short stands lacks place input (λ k h. only_short k place.now input h n) (λ h. n h.0) why s;
      named = said_fault stands lacks place why s;
    }
