use Rattle.std.proofs.Common.{◌-◌, ◌∙◌, ap, arith, length, refl, subst, sym, take}
use Rattle.std.specs.Prelude.{[], Some}
use Rattle.std.proofs.lemmas.Bool.{eqb-true}
use Rattle.std.proofs.lemmas.List.{take_all, take_at, take_rest}
use Rattle.spa_fixed_sized.specs.declared.fault.Refusal.TheVariants as refusal
use Rattle.spa_canonical.specs.Depth.{levels_looked_into}
use Rattle.spa_canonical.proofs.Deeper.{its_front}
use Rattle.spa_canonical.specs.Rewriting.{ArePodsWithin, AreRewritten}
use Rattle.spa_canonical.specs.Look.{AreChanged, IsRejected}
use Rattle.spa_canonical.proofs.Accepted.{fault_front}
use Rattle.spa_canonical.proofs.Lengths.{lengths}
use Rattle.spa_canonical.proofs.Refusals.{front_refused}
use Rattle.spa_canonical.proofs.ShorterLemmas.{within_behind}
use Rattle.spa_canonical.proofs.Stretches.{all_canonical, canonical_rewritten, list_refused}
use Rattle.spa_rewrite.specs.Refusals.{RefusesListAt}
use Rattle.spa_rewrite.proofs.ChangedPods.{behind_first}
use Rattle.spa_rewrite.proofs.InPlaceLemmas.{asks_behind, left_behind, offset_known, others_left, refused_behind}
use Rattle.spa_rewrite.proofs.in_place.rewrite_in_place.Goals as goal

pub returns-then-is_empty-clause-rewritten : goal.returns-then-is_empty-clause-rewritten
returns-then-is_empty-clause-rewritten c =
    let bytes = c.args.bytes.now in
    let first = c.canonical_stretch.result.0.now in
    let none = eqb-true _ _ (sym c.is_empty.ensures ∙ c.if-is_empty.true) in
    let all = all_canonical bytes first _ c.canonical_stretch.ensures.parts none c.canonical_stretch.ensures.canonical in
    subst (AreRewritten bytes []) (sym (take_all (length bytes) bytes (omega arith))) (canonical_rewritten bytes all)

pub encode_pods-requires : goal.encode_pods-requires
encode_pods-requires c =
    let bytes = c.args.bytes.now in
    let first = c.canonical_stretch.result.0.now in
    subst (λ x. AreChanged x c.in-Ok.changed)
    (sym (take_rest bytes (length first) ∙ others_left bytes first _ c.canonical_stretch.ensures.parts)) c.in-Ok.ensures.accepted

pub returns-in-Ok-clause-rewritten : goal.returns-in-Ok-clause-rewritten
returns-in-Ok-clause-rewritten c =
    let bytes = c.args.bytes.now in
    let first = c.canonical_stretch.result.0.now in
    let others = c.canonical_stretch.result.1.now in
    let parts = c.canonical_stretch.ensures.parts in
    let is = take_rest bytes (length first) ∙ others_left bytes first others parts in
    let long = ap length is in
    let all = ap length parts in
    let sub = c.encode_pods.new.pods in
    let out = take c.encode_pods.result sub in
    behind_first bytes first others bytes sub out (length bytes - length first) _ _ parts c.canonical_stretch.ensures.canonical
    (ap (take (length first)) parts ∙ take_at first others (length first) refl) (omega lengths)
    (subst (λ x. AreRewritten x [] out) is c.encode_pods.ensures.written) refl (omega lengths) refl

pub overflow_add-top : goal.overflow_add-top
overflow_add-top c =
    let pod = c.in-Err.pod.now in
    let within = (subst (IsRejected pod) c.in-Fault.is c.in-Err.ensures.rejected).within in
    let left = ap length c.in-Err.ensures.left.2 in
    let all = ap length c.canonical_stretch.ensures.parts in
    omega lengths

pub returns-in-Fault-clause-refused : goal.returns-in-Fault-clause-refused
returns-in-Fault-clause-refused c =
    let pod = c.in-Err.pod.now in
    let others = c.canonical_stretch.result.1.now in
    let h = c.in-Err.ensures.left in
    let fault = subst (IsRejected pod) c.in-Fault.is c.in-Err.ensures.rejected in
    let bytes = c.args.bytes.now in
    let parts = c.canonical_stretch.ensures.parts in
    let first = c.canonical_stretch.ensures.canonical in
    let front = fault_front pod c.in-Fault.field-0 c.in-Fault.why fault.stands in
    let top = length bytes - length pod in
    let offset = offset_known bytes pod top c.in-Fault.at c.in-Fault.field-0 c.in-Fault.why (left_behind _ _ _ _ top parts first h refl) fault in
    subst (RefusesListAt bytes top) (sym c.error_at.ensures)
    (refused_behind _ _ _ _ top _ c.in-Fault.field-0 c.in-Fault.why parts first (list_refused others pod _ h front) refl offset)

pub returns-in-Fault-clause-missed : goal.returns-in-Fault-clause-missed
returns-in-Fault-clause-missed c = λ w.
    let first = c.canonical_stretch.ensures.canonical in
    c.in-Err.ensures.missed
    (within_behind first.values _ _ _ first.members (subst (ArePodsWithin levels_looked_into) c.canonical_stretch.ensures.parts w))

pub returns-in-TooDeep-clause-refused : goal.returns-in-TooDeep-clause-refused
returns-in-TooDeep-clause-refused c =
    let pod = c.in-Err.pod.now in
    let others = c.canonical_stretch.result.1.now in
    let h = c.in-Err.ensures.left in
    let deep = subst (IsRejected pod) c.in-TooDeep.is c.in-Err.ensures.rejected in
    let front = front_refused pod c.in-Err.pod refusal.OutOfMemory (its_front levels_looked_into pod deep) in
    refused_behind c.args.bytes.now _ others pod _ (Some 0) c.in-Err.pod refusal.OutOfMemory c.canonical_stretch.ensures.parts
    c.canonical_stretch.ensures.canonical (list_refused others pod _ h front) refl tt

pub returns-in-TooDeep-clause-missed : goal.returns-in-TooDeep-clause-missed
returns-in-TooDeep-clause-missed c = λ w.
    let first = c.canonical_stretch.ensures.canonical in
    c.in-Err.ensures.missed
    (within_behind first.values _ _ _ first.members (subst (ArePodsWithin levels_looked_into) c.canonical_stretch.ensures.parts w))

pub returns-in-TooDeep-clause-memory : goal.returns-in-TooDeep-clause-memory
returns-in-TooDeep-clause-memory c =
    let pod = c.in-Err.pod.now in
    asks_behind _ _ _ c.canonical_stretch.ensures.parts c.canonical_stretch.ensures.canonical
    (pod, c.in-Err.ensures.left, subst (IsRejected pod) c.in-TooDeep.is c.in-Err.ensures.rejected)
