-- What is read of a latency's object.
use Rattle.std.proofs.Common.{◌≡◌, ◌∙◌, ap, subst}
use Rattle.libspa.specs.Kind.{float, int, long}
use Rattle.libspa.specs.Lookup.{HasFirst}
use Rattle.libspa.specs.Tree.{Properties, fixed, no_properties, object, property}
use Rattle.spa_names.specs.declared.ids.TheConstants.{PARAM_PROCESS_LATENCY}
use Rattle.spa_names.specs.declared.keys.TheConstants.{PARAM_PROCESS_LATENCY_NS, PARAM_PROCESS_LATENCY_QUANTUM, PARAM_PROCESS_LATENCY_RATE}
use Rattle.spa_names.specs.declared.types.TheConstants.{OBJECT_PARAM_PROCESS_LATENCY}
use Rattle.example_types.specs.declared.latency.Latency.{Latency}

-- the properties that a latency is written as
abbrev pub written : Latency → Properties
written it = property PARAM_PROCESS_LATENCY_QUANTUM 0 (fixed (float it.quantum.0)) (property PARAM_PROCESS_LATENCY_RATE 0 (fixed (int it.rate)) (property PARAM_PROCESS_LATENCY_NS 0 (fixed (long it.ns)) no_properties))

same_latency : (a b : Latency) → a.quantum.0 ≡ b.quantum.0 → a.rate ≡ b.rate → a.ns ≡ b.ns → a ≡ b
same_latency a b q r n =
    ap (λ x. record { quantum = record { 0 = x }; rate = a.rate; ns = a.ns }) q
    ∙ ap (λ x. record { quantum = b.quantum; rate = x; ns = a.ns }) r
    ∙ ap (λ x. record { quantum = b.quantum; rate = b.rate; ns = x }) n

-- what is read of the first properties under its keys is that latency
pub comes_back : (given back : Latency) (ps : Properties) → object OBJECT_PARAM_PROCESS_LATENCY PARAM_PROCESS_LATENCY (written given) ≡ object OBJECT_PARAM_PROCESS_LATENCY PARAM_PROCESS_LATENCY ps →
    HasFirst PARAM_PROCESS_LATENCY_QUANTUM (λ v. v ≡ fixed (float back.quantum.0)) ps → HasFirst PARAM_PROCESS_LATENCY_RATE (λ v. v ≡ fixed (int back.rate)) ps →
    HasFirst PARAM_PROCESS_LATENCY_NS (λ v. v ≡ fixed (long back.ns)) ps → back ≡ given
comes_back given back ps e quantum rate ns =
    let is : ps ≡ written given = cc e in
    let q = subst (HasFirst PARAM_PROCESS_LATENCY_QUANTUM (λ v. v ≡ fixed (float back.quantum.0))) is quantum in
    let r = subst (HasFirst PARAM_PROCESS_LATENCY_RATE (λ v. v ≡ fixed (int back.rate))) is rate in
    let n = subst (HasFirst PARAM_PROCESS_LATENCY_NS (λ v. v ≡ fixed (long back.ns))) is ns in
    same_latency back given (cc q) (cc r) (cc n)
