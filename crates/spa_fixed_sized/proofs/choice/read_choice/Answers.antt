use Rattle.std.proofs.Common.{◌∙◌, sym}
use Rattle.spa_format.specs.Tree.{none_choice, range_choice, step_choice, enum_choice, flags_choice}
use Rattle.spa_bytes.proofs.Passing.{passed_on}
use Rattle.spa_fixed_sized.proofs.ChoiceReading.{array_type, opened, refused_values, before, whole_behind}
use Rattle.spa_fixed_sized.proofs.ChoiceReading.{none_reads, enum_reads, flags_reads}
use Rattle.spa_fixed_sized.proofs.Chunks.{whole_elements}
use Rattle.spa_fixed_sized.proofs.choice.read_choice.Goals as goal

pub open_array-requires-clause-child_type : goal.open_array-requires-clause-child_type
open_array-requires-clause-child_type g c =
    array_type c.args.body.now c.split_at.result.1.now _ c.split_at.ensures.back
    c.requires.child_type

pub returns-in_err-read_default-in-0-clause-refused :
    goal.returns-in_err-read_default-in-0-clause-refused
returns-in_err-read_default-in-0-clause-refused g c =
    let met = g.met.T.CanonicalFixedSizedPod in
    let o =
    opened g.T.CanonicalFixedSizedPod.kind c.args.body.now c.split_at.result.1.now
    c.in-Some.elements.now c.requires.header c.split_at.ensures.back
    c.in-Some.ensures.child_size (c.requires.child_type ∙ met.its_type)
    c.in-Some.ensures.elements in
    passed_on _ _ _ c.from_residual.ensures.1 (refused_values
    none_choice g.T.CanonicalFixedSizedPod.kind g.T.CanonicalFixedSizedPod.SIZE
    c.in-Some.elements.now c.args.body.now o met.its_size (sym c.u32_at-2.ensures ∙ c.in-0.is)
    _ c.in_err-read_default-in-0.ensures.refused)

pub returns-in_err-read_range-in-1-clause-refused :
    goal.returns-in_err-read_range-in-1-clause-refused
returns-in_err-read_range-in-1-clause-refused g c =
    let met = g.met.T.CanonicalFixedSizedPod in
    let o =
    opened g.T.CanonicalFixedSizedPod.kind c.args.body.now c.split_at.result.1.now
    c.in-Some.elements.now c.requires.header c.split_at.ensures.back
    c.in-Some.ensures.child_size (c.requires.child_type ∙ met.its_type)
    c.in-Some.ensures.elements in
    passed_on _ _ _ c.from_residual-in_err-read_range-in-1.ensures.1
    (refused_values range_choice g.T.CanonicalFixedSizedPod.kind
    g.T.CanonicalFixedSizedPod.SIZE c.in-Some.elements.now c.args.body.now o met.its_size
    (sym c.u32_at-2.ensures ∙ c.in-1.is) _ c.in_err-read_range-in-1.ensures.refused)

pub returns-in_err-read_step-in-2-clause-refused : goal.returns-in_err-read_step-in-2-clause-refused
returns-in_err-read_step-in-2-clause-refused g c =
    let met = g.met.T.CanonicalFixedSizedPod in
    let o =
    opened g.T.CanonicalFixedSizedPod.kind c.args.body.now c.split_at.result.1.now
    c.in-Some.elements.now c.requires.header c.split_at.ensures.back
    c.in-Some.ensures.child_size (c.requires.child_type ∙ met.its_type)
    c.in-Some.ensures.elements in
    passed_on _ _ _ c.from_residual-in_err-read_step-in-2.ensures.1
    (refused_values step_choice g.T.CanonicalFixedSizedPod.kind g.T.CanonicalFixedSizedPod.SIZE
    c.in-Some.elements.now c.args.body.now o met.its_size (sym c.u32_at-2.ensures ∙ c.in-2.is)
    _ c.in_err-read_step-in-2.ensures.refused)

pub returns-in_err-default-in-3-clause-refused : goal.returns-in_err-default-in-3-clause-refused
returns-in_err-default-in-3-clause-refused g c =
    let met = g.met.T.CanonicalFixedSizedPod in
    let o =
    opened g.T.CanonicalFixedSizedPod.kind c.args.body.now c.split_at.result.1.now
    c.in-Some.elements.now c.requires.header c.split_at.ensures.back
    c.in-Some.ensures.child_size (c.requires.child_type ∙ met.its_type)
    c.in-Some.ensures.elements in
    passed_on _ _ _ c.from_residual-in_err-default-in-3.ensures.1
    (refused_values enum_choice g.T.CanonicalFixedSizedPod.kind g.T.CanonicalFixedSizedPod.SIZE
    c.in-Some.elements.now c.args.body.now o met.its_size (sym c.u32_at-2.ensures ∙ c.in-3.is)
    _ c.in_err-default-in-3.ensures.refused)

pub returns-in_err-default-in-4-clause-refused : goal.returns-in_err-default-in-4-clause-refused
returns-in_err-default-in-4-clause-refused g c =
    let met = g.met.T.CanonicalFixedSizedPod in
    let o =
    opened g.T.CanonicalFixedSizedPod.kind c.args.body.now c.split_at.result.1.now
    c.in-Some.elements.now c.requires.header c.split_at.ensures.back
    c.in-Some.ensures.child_size (c.requires.child_type ∙ met.its_type)
    c.in-Some.ensures.elements in
    passed_on _ _ _ c.from_residual-in_err-default-in-4.ensures.1
    (refused_values flags_choice g.T.CanonicalFixedSizedPod.kind
    g.T.CanonicalFixedSizedPod.SIZE c.in-Some.elements.now c.args.body.now o met.its_size
    (sym c.u32_at-2.ensures ∙ c.in-4.is) _ c.in_err-default-in-4.ensures.refused)

pub returns-in_ok-read_default-in-0-clause-read : goal.returns-in_ok-read_default-in-0-clause-read
returns-in_ok-read_default-in-0-clause-read g c =
    let met = g.met.T.CanonicalFixedSizedPod in
    let o =
    opened g.T.CanonicalFixedSizedPod.kind c.args.body.now c.split_at.result.1.now
    c.in-Some.elements.now c.requires.header c.split_at.ensures.back
    c.in-Some.ensures.child_size (c.requires.child_type ∙ met.its_type)
    c.in-Some.ensures.elements in
    let read = c.in_ok-read_default-in-0.ensures in
    let p = g.met.T.ChoiceElement.sized in
    let x = g.T.CanonicalFixedSizedPod.fixed c.in_ok-read_default-in-0.field-0.1 in
    let more =
    whole_elements g.T.CanonicalFixedSizedPod.kind g.T.CanonicalFixedSizedPod.SIZE
    c.in_ok-read_default-in-0.field-0.0.now met.its_size
    (whole_behind g.T.CanonicalFixedSizedPod.SIZE c.in-Some.elements.now
    c.in_ok-read_default-in-0.field-0.0.now p c.in-Some.ensures.whole read.some read.rest) in
    let r =
    none_reads g.T.CanonicalFixedSizedPod.kind g.T.CanonicalFixedSizedPod.fixed
    c.in_ok-read_default-in-0.field-0.1 more.0 c.in-Some.elements.now
    (before g.T.CanonicalFixedSizedPod.kind g.T.CanonicalFixedSizedPod.SIZE x more.0 _ _
    met.its_size p read.says read.rest more.1) in
    r.says c.args.body.now c.from_bits_retain.result.0 o (sym c.u32_at-2.ensures ∙ c.in-0.is)
    (c.from_bits_retain.ensures tt)

pub returns-in_ok-read_range-in-1-clause-read : goal.returns-in_ok-read_range-in-1-clause-read
returns-in_ok-read_range-in-1-clause-read g c =
    let met = g.met.T.CanonicalFixedSizedPod in
    let o =
    opened g.T.CanonicalFixedSizedPod.kind c.args.body.now c.split_at.result.1.now
    c.in-Some.elements.now c.requires.header c.split_at.ensures.back
    c.in-Some.ensures.child_size (c.requires.child_type ∙ met.its_type)
    c.in-Some.ensures.elements in
    c.in_ok-read_range-in-1.ensures.read.says c.args.body.now c.from_bits_retain-flags.result.0 o
    (sym c.u32_at-2.ensures ∙ c.in-1.is) (c.from_bits_retain-flags.ensures
    tt ∙ c.u32_at.ensures)

pub returns-in_ok-read_step-in-2-clause-read : goal.returns-in_ok-read_step-in-2-clause-read
returns-in_ok-read_step-in-2-clause-read g c =
    let met = g.met.T.CanonicalFixedSizedPod in
    let o =
    opened g.T.CanonicalFixedSizedPod.kind c.args.body.now c.split_at.result.1.now
    c.in-Some.elements.now c.requires.header c.split_at.ensures.back
    c.in-Some.ensures.child_size (c.requires.child_type ∙ met.its_type)
    c.in-Some.ensures.elements in
    c.in_ok-read_step-in-2.ensures.read.says c.args.body.now c.from_bits_retain-flags.result.0 o
    (sym c.u32_at-2.ensures ∙ c.in-2.is) (c.from_bits_retain-flags.ensures
    tt ∙ c.u32_at.ensures)

pub returns-in_ok-default-in-3-clause-read : goal.returns-in_ok-default-in-3-clause-read
returns-in_ok-default-in-3-clause-read g c =
    let met = g.met.T.CanonicalFixedSizedPod in
    let o =
    opened g.T.CanonicalFixedSizedPod.kind c.args.body.now c.split_at.result.1.now
    c.in-Some.elements.now c.requires.header c.split_at.ensures.back
    c.in-Some.ensures.child_size (c.requires.child_type ∙ met.its_type)
    c.in-Some.ensures.elements in
    let list = c.in_ok-default-in-3 in
    let r =
    enum_reads g.T.CanonicalFixedSizedPod.kind g.T.CanonicalFixedSizedPod.fixed list.default
    list.alternatives c.in-Some.elements.now list.ensures.read in
    r.says c.args.body.now c.from_bits_retain-flags.result.0 o (sym c.u32_at-2.ensures ∙ c.in-3.is)
    (c.from_bits_retain-flags.ensures tt ∙ c.u32_at.ensures)

pub returns-in_ok-default-in-4-clause-read : goal.returns-in_ok-default-in-4-clause-read
returns-in_ok-default-in-4-clause-read g c =
    let met = g.met.T.CanonicalFixedSizedPod in
    let o =
    opened g.T.CanonicalFixedSizedPod.kind c.args.body.now c.split_at.result.1.now
    c.in-Some.elements.now c.requires.header c.split_at.ensures.back
    c.in-Some.ensures.child_size (c.requires.child_type ∙ met.its_type)
    c.in-Some.ensures.elements in
    let list = c.in_ok-default-in-4 in
    let r =
    flags_reads g.T.CanonicalFixedSizedPod.kind g.T.CanonicalFixedSizedPod.fixed list.default
    list.flags_listed c.in-Some.elements.now list.ensures.read in
    r.says c.args.body.now c.from_bits_retain-flags.result.0 o (sym c.u32_at-2.ensures ∙ c.in-4.is)
    (c.from_bits_retain-flags.ensures tt ∙ c.u32_at.ensures)
