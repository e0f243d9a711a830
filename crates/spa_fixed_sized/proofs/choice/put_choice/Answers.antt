use Rattle.std.proofs.Common.{◌<◌, refl, subst}
use Rattle.std.proofs.lemmas.Result.{on_ok_weaker}
use Rattle.spa_fixed_sized.proofs.choice.put_choice.Goals as goal

pub returns-in-None-clause-ok : goal.returns-in-None-clause-ok
returns-in-None-clause-ok g c =
    rw (c.in-None.is, ← c.bits-flags.ensures) c.put_values.ensures.ok

pub returns-in-None-clause-typed : goal.returns-in-None-clause-typed
returns-in-None-clause-typed g c =
    let met = g.met.T.CanonicalFixedSizedPod in
    let sized = subst (λ n. 0 < n) met.its_size g.met.T.ChoiceElement.sized in
    rw (c.in-None.is, ← c.bits-flags.ensures)
    (on_ok_weaker c.put_values.result (λ p. (p.0, sized, p.1, refl)) c.put_values.ensures.typed)

pub returns-in-None-clause-fits : goal.returns-in-None-clause-fits
returns-in-None-clause-fits g c =
    rw (c.in-None.is, ← c.bits-flags.ensures) c.put_values.ensures.fits

pub returns-in-None-clause-begun : goal.returns-in-None-clause-begun
returns-in-None-clause-begun g c =
    rw (c.in-None.is, ← c.bits-flags.ensures) c.put_values.ensures.begun

pub returns-in-None-clause-refused : goal.returns-in-None-clause-refused
returns-in-None-clause-refused g c =
    rw (c.in-None.is, ← c.bits-flags.ensures) c.put_values.ensures.refused

pub returns-in-Range-clause-ok : goal.returns-in-Range-clause-ok
returns-in-Range-clause-ok g c =
    rw (c.in-Range.is, ← c.bits-flags.ensures) c.put_values-in-Range.ensures.ok

pub returns-in-Range-clause-typed : goal.returns-in-Range-clause-typed
returns-in-Range-clause-typed g c =
    let met = g.met.T.CanonicalFixedSizedPod in
    let sized = subst (λ n. 0 < n) met.its_size g.met.T.ChoiceElement.sized in
    rw (c.in-Range.is, ← c.bits-flags.ensures)
    (on_ok_weaker c.put_values-in-Range.result (λ p. (p.0, sized, p.1, refl))
    c.put_values-in-Range.ensures.typed)

pub returns-in-Range-clause-fits : goal.returns-in-Range-clause-fits
returns-in-Range-clause-fits g c =
    rw (c.in-Range.is, ← c.bits-flags.ensures) c.put_values-in-Range.ensures.fits

pub returns-in-Range-clause-begun : goal.returns-in-Range-clause-begun
returns-in-Range-clause-begun g c =
    rw (c.in-Range.is, ← c.bits-flags.ensures) c.put_values-in-Range.ensures.begun

pub returns-in-Range-clause-refused : goal.returns-in-Range-clause-refused
returns-in-Range-clause-refused g c =
    rw (c.in-Range.is, ← c.bits-flags.ensures) c.put_values-in-Range.ensures.refused

pub returns-in-Step-clause-ok : goal.returns-in-Step-clause-ok
returns-in-Step-clause-ok g c =
    rw (c.in-Step.is, ← c.bits-flags.ensures) c.put_values-in-Step.ensures.ok

pub returns-in-Step-clause-typed : goal.returns-in-Step-clause-typed
returns-in-Step-clause-typed g c =
    let met = g.met.T.CanonicalFixedSizedPod in
    let sized = subst (λ n. 0 < n) met.its_size g.met.T.ChoiceElement.sized in
    rw (c.in-Step.is, ← c.bits-flags.ensures)
    (on_ok_weaker c.put_values-in-Step.result (λ p. (p.0, sized, p.1, refl))
    c.put_values-in-Step.ensures.typed)

pub returns-in-Step-clause-fits : goal.returns-in-Step-clause-fits
returns-in-Step-clause-fits g c =
    rw (c.in-Step.is, ← c.bits-flags.ensures) c.put_values-in-Step.ensures.fits

pub returns-in-Step-clause-begun : goal.returns-in-Step-clause-begun
returns-in-Step-clause-begun g c =
    rw (c.in-Step.is, ← c.bits-flags.ensures) c.put_values-in-Step.ensures.begun

pub returns-in-Step-clause-refused : goal.returns-in-Step-clause-refused
returns-in-Step-clause-refused g c =
    rw (c.in-Step.is, ← c.bits-flags.ensures) c.put_values-in-Step.ensures.refused

pub returns-in-Enum-clause-ok : goal.returns-in-Enum-clause-ok
returns-in-Enum-clause-ok g c =
    rw (c.in-Enum.is, ← c.bits-flags.ensures, ← c.as_slice.ensures.value)
    c.put_values-in-Enum.ensures.ok

pub returns-in-Enum-clause-typed : goal.returns-in-Enum-clause-typed
returns-in-Enum-clause-typed g c =
    let met = g.met.T.CanonicalFixedSizedPod in
    let sized = subst (λ n. 0 < n) met.its_size g.met.T.ChoiceElement.sized in
    rw (c.in-Enum.is, ← c.bits-flags.ensures, ← c.as_slice.ensures.value)
    (on_ok_weaker c.put_values-in-Enum.result (λ p. (p.0, sized, p.1, tt))
    c.put_values-in-Enum.ensures.typed)

pub returns-in-Enum-clause-fits : goal.returns-in-Enum-clause-fits
returns-in-Enum-clause-fits g c =
    rw (c.in-Enum.is, ← c.bits-flags.ensures, ← c.as_slice.ensures.value)
    c.put_values-in-Enum.ensures.fits

pub returns-in-Enum-clause-begun : goal.returns-in-Enum-clause-begun
returns-in-Enum-clause-begun g c =
    rw (c.in-Enum.is, ← c.bits-flags.ensures, ← c.as_slice.ensures.value)
    c.put_values-in-Enum.ensures.begun

pub returns-in-Enum-clause-refused : goal.returns-in-Enum-clause-refused
returns-in-Enum-clause-refused g c =
    rw (c.in-Enum.is, ← c.bits-flags.ensures, ← c.as_slice.ensures.value)
    c.put_values-in-Enum.ensures.refused

pub returns-in-Flags-clause-ok : goal.returns-in-Flags-clause-ok
returns-in-Flags-clause-ok g c =
    rw (c.in-Flags.is, ← c.bits-flags.ensures, ← c.as_slice-in-Flags.ensures.value)
    c.put_values-in-Flags.ensures.ok

pub returns-in-Flags-clause-typed : goal.returns-in-Flags-clause-typed
returns-in-Flags-clause-typed g c =
    let met = g.met.T.CanonicalFixedSizedPod in
    let sized = subst (λ n. 0 < n) met.its_size g.met.T.ChoiceElement.sized in
    rw (c.in-Flags.is, ← c.bits-flags.ensures, ← c.as_slice-in-Flags.ensures.value)
    (on_ok_weaker c.put_values-in-Flags.result (λ p. (p.0, sized, p.1, tt))
    c.put_values-in-Flags.ensures.typed)

pub returns-in-Flags-clause-fits : goal.returns-in-Flags-clause-fits
returns-in-Flags-clause-fits g c =
    rw (c.in-Flags.is, ← c.bits-flags.ensures, ← c.as_slice-in-Flags.ensures.value)
    c.put_values-in-Flags.ensures.fits

pub returns-in-Flags-clause-begun : goal.returns-in-Flags-clause-begun
returns-in-Flags-clause-begun g c =
    rw (c.in-Flags.is, ← c.bits-flags.ensures, ← c.as_slice-in-Flags.ensures.value)
    c.put_values-in-Flags.ensures.begun

pub returns-in-Flags-clause-refused : goal.returns-in-Flags-clause-refused
returns-in-Flags-clause-refused g c =
    rw (c.in-Flags.is, ← c.bits-flags.ensures, ← c.as_slice-in-Flags.ensures.value)
    c.put_values-in-Flags.ensures.refused
