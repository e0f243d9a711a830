-- What is said of a refused pod, whatever follows it.
use Rattle.std.proofs.Common.{◌≡◌, ◌≢◌, ◌≤◌, ◌<◌, ◌+◌, ◌⊎◌, ◌∙◌, ℕ, List, [], ◌++◌, Option, Some, None, ap, ap₂, append-nil, arith, drop, inl, inr, length, length-append, length-drop, refl, subst, sym, take}
use Rattle.std.proofs.lemmas.List.{drop-append-le, drop_at, take-append-le, take_at}
use Rattle.std.proofs.lemmas.Bool.{le-ltb}
use Rattle.std.specs.Borrow.{Bor}
use Rattle.std.specs.Prelude.{false, if◌then◌else◌, nat_lt, string_bytes}
use Rattle.spa_fixed_sized.specs.Faults.{error_text, kind_text}
use Rattle.spa_fixed_sized.specs.declared.fault.DeserializeError.{DeserializeError}
use Rattle.spa_fixed_sized.specs.declared.fault.DeserializeError.TheVariants as error
use Rattle.spa_fixed_sized.specs.declared.fault.FaultKind.{FaultKind}
use Rattle.spa_fixed_sized.specs.declared.fault.FaultKind.TheVariants as fault_kind
use Rattle.spa_format.specs.Faults.{Fault, IsInvalidType, IsWrongSize, LacksValues, Stands, StandsAtFront, at_front, in_key, in_member, in_property}
use Rattle.spa_format.specs.Faults as fault
use Rattle.spa_format.specs.Front.{HasFront, front_of}
use Rattle.spa_format.specs.Pod.{AreMembers}
use Rattle.spa_format.specs.Walk.{walk}
use Rattle.spa_format.specs.Words.{body_of, extent, word_at}
use Rattle.spa_format.proofs.Refused.{refused_behind_members}
use Rattle.spa_format.proofs.WordLemmas.{word_at-append}
use Rattle.spa_bodies.specs.Reading.{Names, NamesFaultKind}
use Rattle.spa_recordings.specs.Streaming.{EndsAtPod}
use Rattle.spa_read.specs.Reading.{StandsLeniently, in_body, no_front}
use Rattle.spa_read.specs.Reading as leniently
use Rattle.spa_read.proofs.Conveying.{none_behind}
use Rattle.spa_recordings.proofs.Holding.{nothing_longer}
use Rattle.spa_recordings.specs.Reading.{IsAccepted, IsLeftOf, IsNoPod, IsNothing}
use Rattle.spa_recordings.specs.declared.reading.Reading.{Reading}
use Rattle.spa_recordings.specs.declared.reading.Reading.TheVariants.{Exact, Lenient}
use Rattle.spa_refusals.specs.Paths.{HaveRead, HoldsMember, HoldsValue, IsInnermost, LeadsTo, StepsTo, cut_off, further, holds_none, itself, member, members_read, number_of, properties_read, property, short_object, type_name, type_number, type_text}
use Rattle.spa_refusals.specs.Refusals.{IsCutOf, IsFirstRefusal, IsRefusalOf, IsUnreadFor, LeadsBy, StandsBy, wanted}
use Rattle.spa_refusals.specs.declared.refusal.Cut.{Cut}
use Rattle.spa_refusals.specs.declared.refusal.Refusal.{Refusal}
use Rattle.pod_commands.specs.Streaming.{StreamsAs}
use Rattle.pod_commands.specs.declared.request.Streaming.TheVariants as streaming

-- the causes have the same name and the same words
abbrev IsSameCause : DeserializeError (Bor (List ℕ)) → DeserializeError (Bor (List ℕ)) → Type 0
IsSameCause e d = (kind_text e ≡ kind_text d) × (error_text e ≡ error_text d)

-- a whole pod, and what follows it
module _ (pod more : List ℕ) (f : HasFront pod) where
  pub size_longer : word_at (pod ++ more) 0 ≡ word_at pod 0
  size_longer = let h = f.header in word_at-append pod more 0 (omega (arith, h))

  type_longer : word_at (pod ++ more) 4 ≡ word_at pod 4
  type_longer = let h = f.header in word_at-append pod more 4 (omega (arith, h))

  pub front_longer : HasFront (pod ++ more)
  front_longer =
      let s = ap extent size_longer in
      let l = length-append pod more in
      let h = f.header in
      let w = f.whole in
      record { header = omega (arith, h, l); whole = omega (arith, s, l, w) }

  body_longer : body_of (pod ++ more) ≡ body_of pod
  body_longer =
      let n = word_at pod 0 in
      ap (λ s. take s (drop 8 (pod ++ more))) size_longer ∙ ap (take n) (drop-append-le 8 pod more f.header)
      ∙ take-append-le n (drop 8 pod) more (let w = f.whole in let d = length-drop 8 pod in omega (arith, w, d))

  name_longer : type_name (pod ++ more) ≡ type_name pod
  unfolding type_name
  name_longer =
      let l = length-append pod more in
      let h = f.header in
      let long : nat_lt (length (pod ++ more)) 8 ≡ false = le-ltb (length (pod ++ more)) 8 (omega (arith, l, h)) in
      ap (λ z. if z then None else Some (type_text (type_number (pod ++ more)))) long
      ∙ ap₂ (λ t b. Some (type_text (number_of t b))) type_longer body_longer
      ∙ sym (ap (λ z. if z then None else Some (type_text (type_number pod))) (le-ltb (length pod) 8 h))

  wanted_whole : wanted pod ≤ length pod
  wanted_whole =
      let h = f.header in
      let w = f.whole in
      let e = ap (λ z. if z then 8 else extent (word_at pod 0)) (le-ltb (length pod) 8 h) in omega (arith, e, w)

  wanted_longer : wanted (pod ++ more) ≤ length (pod ++ more)
  wanted_longer =
      let h = front_longer.header in
      let w = front_longer.whole in
      let e = ap (λ z. if z then 8 else extent (word_at (pod ++ more) 0)) (le-ltb (length (pod ++ more)) 8 h) in omega (arith, e, w)

  cut_longer : (place : ℕ) (cut : Option Cut) → IsCutOf place pod cut → IsCutOf place (pod ++ more) cut
  cut_longer place None h = wanted_longer
  cut_longer place (Some cut) h = let w = wanted_whole in let l = h.2 in absurd (omega (arith, w, l))

  pub front_same : front_of (pod ++ more) ≡ front_of pod
  front_same =
      ap (λ s. take (extent s) (pod ++ more)) size_longer ∙ take-append-le (extent (word_at pod 0)) pod more f.whole

  innermost_longer : IsInnermost pod → IsInnermost (pod ++ more)
  innermost_longer (cut_off n) = absurd (n f)
  innermost_longer (holds_none s o) =
      holds_none (λ e. s (sym type_longer ∙ e)) (λ e. o (sym type_longer ∙ e))
  innermost_longer (members_read t vs m) =
      members_read (type_longer ∙ t) vs (subst (AreMembers vs) (sym body_longer) m)
  innermost_longer (short_object t l) =
      short_object (type_longer ∙ t) (subst (λ b. length b < 8) (sym body_longer) l)
  innermost_longer (properties_read t h) =
      properties_read (type_longer ∙ t) (subst (λ b. HaveRead (drop 8 b)) (sym body_longer) h)

  step_longer : (path inner new : List ℕ) → StepsTo pod path inner new → StepsTo (pod ++ more) path inner new
  step_longer path inner new (member there t h) =
      member front_longer (type_longer ∙ t) (subst (λ b. HoldsMember b path inner new) (sym body_longer) h)
  step_longer path inner new (property there t h) =
      property front_longer (type_longer ∙ t) (subst (λ b. HoldsValue b path inner new) (sym body_longer) h)

  -- a path leads to the pod itself, or to the same one inside
  leads_longer : (path inner : List ℕ) → LeadsTo pod path inner →
      ((inner ≡ pod) × LeadsTo (pod ++ more) path (pod ++ more)) ⊎ LeadsTo (pod ++ more) path inner
  leads_longer path inner itself = inl (refl, itself)
  leads_longer path inner (further before new next last leads step) =
      elim (leads_longer before next leads) [
        | inl l ↦ inr (further before new (pod ++ more) last l.1
            (step_longer before last new (subst (λ z. StepsTo z before last new) l.0 step)))
        | inr l ↦ inr (further before new next last l step)
      ]

  -- a fault is in it, at the same place or at the front
  stands_longer : (k : Fault) (place : List ℕ) → Stands k place pod → (at : List ℕ) × Stands k at (pod ++ more)
  stands_longer k place (at_front b e s) = (pod ++ more, at_front (pod ++ more) refl (front_stands k s))
    where
      front_stands : (k : Fault) → StandsAtFront k pod → StandsAtFront k (pod ++ more)
      front_stands fault.Short s = absurd (s f)
      front_stands fault.Text s =
          (front_longer, type_longer ∙ s.1, λ t is e. s.2 t is (sym body_longer ∙ e))
      front_stands fault.InvalidType s = (
        front_longer,
        subst (λ b. IsInvalidType (word_at (pod ++ more) 4) b) (sym body_longer)
            (subst (λ t. IsInvalidType t (body_of pod)) (sym type_longer) s.1),
      )
      front_stands fault.InvalidChoiceType s = (
        front_longer,
        type_longer ∙ s.1,
        subst (λ b. 16 ≤ length b) (sym body_longer) s.2,
        subst (λ b. 5 ≤ word_at b 0) (sym body_longer) s.3,
      )
      front_stands fault.MissingChoiceValues s =
          (front_longer, type_longer ∙ s.1, subst LacksValues (sym body_longer) s.2)
      front_stands fault.WrongSize s = (
        front_longer,
        subst (λ b. IsWrongSize (word_at (pod ++ more) 4) b) (sym body_longer)
            (subst (λ t. IsWrongSize t (body_of pod)) (sym type_longer) s.1),
      )
  stands_longer k place (in_member b vs first left there t e m some s) =
      (place, in_member (pod ++ more) vs first left front_longer (type_longer ∙ t) (body_longer ∙ e) m some s)
  stands_longer k place (in_key b ps first there t l e m some short is) = (
    place,
    in_key (pod ++ more) ps first front_longer (type_longer ∙ t) (subst (λ z. 8 ≤ length z) (sym body_longer) l)
        (ap (drop 8) body_longer ∙ e) m some short is,
  )
  stands_longer k place (in_property b ps first left there t l e m long s) = (
    place,
    in_property (pod ++ more) ps first left front_longer (type_longer ∙ t)
        (subst (λ z. 8 ≤ length z) (sym body_longer) l) (ap (drop 8) body_longer ∙ e) m long s,
  )

  reads_longer : (type : ℕ) (read : List ℕ) → leniently.ReadsAs (word_at pod 4) (body_of pod) type read →
      leniently.ReadsAs (word_at (pod ++ more) 4) (body_of (pod ++ more)) type read
  reads_longer type read h =
      subst (λ z. leniently.ReadsAs (word_at (pod ++ more) 4) z type read) (sym body_longer)
      (subst (λ z. leniently.ReadsAs z (body_of pod) type read) (sym type_longer) h)

  stands_leniently : (k : Fault) (place : List ℕ) → StandsLeniently k place pod → (at : List ℕ) × StandsLeniently k at (pod ++ more)
  stands_leniently k place (no_front b e s none) = absurd (none f)
  stands_leniently k place (in_body b type read e there reads s) =
      (pod ++ more, in_body (pod ++ more) type read refl front_longer (reads_longer type read reads) s)
  stands_leniently k place (leniently.in_member b read vs first left there reads e m some s) =
      (place, leniently.in_member (pod ++ more) read vs first left front_longer (reads_longer _ read reads) e m some s)
  stands_leniently k place (leniently.in_key b read ps first there reads l e m some short is) =
      (place, leniently.in_key (pod ++ more) read ps first front_longer (reads_longer _ read reads) l e m some short is)
  stands_leniently k place (leniently.in_property b read ps first left there reads l e m long s) =
      (place, leniently.in_property (pod ++ more) read ps first left front_longer (reads_longer _ read reads) l e m long s)

  stands_by : (reading : Reading) (k : Fault) (place : List ℕ) → StandsBy reading k place pod → (at : List ℕ) × StandsBy reading k at (pod ++ more)
  stands_by Exact k place s = stands_longer k place s
  stands_by Lenient k place s = stands_leniently k place s

  named_longer : (reading : Reading) (k : FaultKind) (place : List ℕ) → NamesFaultKind (λ fault. StandsBy reading fault place pod) k →
      (at : List ℕ) × NamesFaultKind (λ fault. StandsBy reading fault at (pod ++ more)) k
  named_longer reading fault_kind.Short place s = stands_by reading fault.Short place s
  named_longer reading fault_kind.Text place s = stands_by reading fault.Text place s
  named_longer reading fault_kind.Tag place s = absurd s

  same : (reading : Reading) (e : DeserializeError (Bor (List ℕ))) → IsUnreadFor reading pod e →
      Names (λ fault place. StandsBy reading fault place (pod ++ more)) e →
      (d : DeserializeError (Bor (List ℕ))) × IsUnreadFor reading (pod ++ more) d × IsSameCause e d
  same reading e u named = (
    e,
    record {
      nothing = nothing_longer reading pod more f u.nothing;
      fault = u.fault;
      named = named;
      short_first = λ none. absurd (none front_longer);
    },
    (refl, refl),
  )

  unread_longer : (reading : Reading) (e : DeserializeError (Bor (List ℕ))) → IsUnreadFor reading pod e →
      (d : DeserializeError (Bor (List ℕ))) × IsUnreadFor reading (pod ++ more) d × IsSameCause e d
  unread_longer reading (error.Nom x) u =
      let n = named_longer reading x.kind x.input.now u.named in
      let at : Bor (List ℕ) = record { ref_ptr = x.input.ref_ptr; now = n.0 } in (
        error.Nom (record { input = at; kind = x.kind }),
        record {
          nothing = nothing_longer reading pod more f u.nothing;
          fault = tt;
          named = n.1;
          short_first = λ none. absurd (none front_longer);
        },
        (refl, refl),
      )
  unread_longer reading error.InvalidType u =
      same reading error.InvalidType u (stands_by reading fault.InvalidType u.named.0 u.named.1)
  unread_longer reading error.InvalidChoiceType u =
      same reading error.InvalidChoiceType u (stands_by reading fault.InvalidChoiceType u.named.0 u.named.1)
  unread_longer reading error.MissingChoiceValues u =
      same reading error.MissingChoiceValues u (stands_by reading fault.MissingChoiceValues u.named.0 u.named.1)
  unread_longer reading error.WrongSize u =
      same reading error.WrongSize u (stands_by reading fault.WrongSize u.named.0 u.named.1)
  unread_longer reading error.OutOfMemory u = absurd u.fault
  unread_longer reading (error.PropertyWrongKey k) u = absurd u.named
  unread_longer reading error.UnsupportedType u = absurd u.named
  unread_longer reading error.PropertyMissing u = absurd u.named
  unread_longer reading error.UnreadMembers u = absurd u.named
  unread_longer reading error.NoElementLeft u = absurd u.named
  unread_longer reading error.FailedReader u = absurd u.named

  -- no pod is read at its front, whatever follows it, for a reason of the same name
  pub no_pod_longer : (reading : Reading) (kind : List ℕ) → IsNoPod reading pod kind → IsNoPod reading (pod ++ more) kind
  no_pod_longer Exact kind h =
      let u = unread_longer Exact h.1.0 (record { nothing = h.0; fault = h.1.1; named = h.1.2; short_first = λ none. absurd (none f) }) in
      (u.1.nothing, (u.0, u.1.fault, u.1.named, h.1.3 ∙ u.2.0))
  no_pod_longer Lenient kind h =
      let u = unread_longer Lenient h.1.0 (record { nothing = h.0; fault = h.1.1; named = h.1.2; short_first = λ none. absurd (none f) }) in
      (u.1.nothing, (u.0, u.1.fault, u.1.named, h.1.3 ∙ u.2.0))

  -- the path leads to the pod itself, or to the same one inside
  leads_by : (reading : Reading) (path inner : List ℕ) → LeadsBy reading pod path inner →
      ((inner ≡ pod) × LeadsBy reading (pod ++ more) path (pod ++ more)) ⊎ LeadsBy reading (pod ++ more) path inner
  leads_by Exact path inner h =
      elim (leads_longer path inner h.leads) [
        | inl l ↦ inl (l.0, record { leads = l.1; ends = innermost_longer (subst IsInnermost l.0 h.ends) })
        | inr l ↦ inr (record { leads = l; ends = h.ends })
      ]
  leads_by Lenient path inner h = inl (h.1, (h.0, refl))

  pub refusal_longer : (reading : Reading) (r : Refusal) → IsRefusalOf reading pod r → IsRefusalOf reading (pod ++ more) r
  refusal_longer reading r h =
      elim (leads_by reading (string_bytes r.path) h.inner h.path) [
        | inl l ↦
            let u = unread_longer reading h.cause (subst (λ z. IsUnreadFor reading z h.cause) l.0 h.its) in
            record {
              type = h.type ∙ sym name_longer;
              nothing = nothing_longer reading pod more f h.nothing;
              inner = pod ++ more;
              path = l.1;
              inner_type = h.inner_type ∙ ap type_name l.0 ∙ sym name_longer;
              cause = u.0;
              its = u.1;
              kind = h.kind ∙ u.2.0;
              words = h.words ∙ u.2.1;
              short = λ none. absurd (none front_longer);
              cut = cut_longer r.place r.cut h.cut;
            }
        | inr l ↦
            record {
              type = h.type ∙ sym name_longer;
              nothing = nothing_longer reading pod more f h.nothing;
              inner = h.inner;
              path = l;
              inner_type = h.inner_type;
              cause = h.cause;
              its = h.its;
              kind = h.kind;
              words = h.words;
              short = λ none. absurd (none front_longer);
              cut = cut_longer r.place r.cut h.cut;
            }
      ]

-- what is said of a pod, of which at least the whole was read, or all that is left
refusal_ahead : (reading : Reading) (R : Type 0) (left read unread : List ℕ) (r : Refusal) → left ≡ read ++ unread →
    ((HasFront read × R) ⊎ (¬ (HasFront read) × (unread ≡ []))) → IsRefusalOf reading read r → IsRefusalOf reading left r
refusal_ahead reading R left read unread r e (inl w) h =
    subst (λ z. IsRefusalOf reading z r) (sym e) (refusal_longer read unread w.0 reading r h)
refusal_ahead reading R left read unread r e (inr w) h =
    subst (λ z. IsRefusalOf reading z r) (sym (e ∙ ap (λ z. read ++ z) w.1 ∙ append-nil read)) h

-- what is checked is read
accepted : (reading : Reading) (first out : List ℕ) (n : ℕ) → StreamsAs reading streaming.Check first out n → IsAccepted reading first
accepted Exact first out n h = (h.2.1.0, subst (AreMembers h.2.1.0) h.1 h.2.1.1)
accepted Lenient first out n h = (h.1.0, h.1.1)

-- what begins with it isn't, where no pod is read behind it
left_behind : (reading : Reading) (first left : List ℕ) → IsAccepted reading first → left ≢ [] → IsNothing reading left →
    ¬ (IsAccepted reading (first ++ left)) × IsLeftOf reading (first ++ left) left
left_behind Exact first left vs some nothing =
    (λ m. refused_behind_members vs.0 m.0 first left vs.1 some nothing m.1, (vs.0, first, refl, vs.1, some))
left_behind Lenient first left vs some nothing =
    (λ m. none_behind vs.0 m.0 first left vs.1 some nothing m.1, (vs.0, first, refl, vs.1, some))

-- the pod at which a check ends is the first refused one
pub first_refused : (reading : Reading) (R : Type 0) (input out read : List ℕ) (r : Refusal) →
    EndsAtPod reading R (StreamsAs reading streaming.Check) input out r.number r.place read → IsRefusalOf reading read r → IsFirstRefusal reading input r
first_refused reading R input out read r e h =
    let made = e.made in
    let p = e.its_place in
    let l = ap length made.parts ∙ length-append made.first e.left in
    let behind : drop r.place input ≡ e.left =
    ap (drop r.place) made.parts ∙ drop_at made.first e.left r.place (sym p) in
    let before : take r.place input ≡ made.first =
    ap (take r.place) made.parts ∙ take_at made.first e.left r.place (sym p) in
    let rest = left_behind reading made.first e.left (accepted reading made.first out made.refused made.made) e.ahead.some e.ahead.refused in (
      λ m. rest.0 (subst (IsAccepted reading) made.parts m),
      subst (λ z. IsLeftOf reading z (drop r.place input)) (sym made.parts) (subst (IsLeftOf reading (made.first ++ e.left)) (sym behind) rest.1),
      record {
        within = omega (arith, p, l);
        number = e.its_number ∙ ap (λ z. length (walk z) + 1) (sym before);
        its =
            subst (λ z. IsRefusalOf reading z r) (sym behind)
            (refusal_ahead reading R e.left read e.ahead.unread r e.ahead.parts e.ahead.enough h);
      },
    )
