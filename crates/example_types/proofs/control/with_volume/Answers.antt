use Rattle.std.proofs.Common.{◌++◌, sym, ap, ◌∙◌, subst, inr}
use Rattle.libspa.specs.Encoding.{encoding_of}
use Rattle.libspa.specs.View.{view}
use Rattle.libspa.specs.Writable.{IsWritable}
use Rattle.example_types.proofs.Controls.{not_writable}
use Rattle.example_types.proofs.control.with_volume.Goals as goal

pub returns-in-Ok-values_are_written_into_memory-clause-changed :
    goal.returns-in-Ok-values_are_written_into_memory-clause-changed
returns-in-Ok-values_are_written_into_memory-clause-changed c =
    let read = c.in-Ok.ensures.read in
    let tree = ap view c.deref.ensures ∙ ap view c.from-value.ensures ∙ c.in_ok-object.ensures in
    record {
      control = c.in-Ok.control;
      value = read.value;
      begins = read.begins;
      is_read = read.holds;
      encoding =
          c.in-Ok-values_are_written_into_memory.ensures.encoding
          ∙ ap (λ l. l ++ encoding_of (view c.deref.result.now)) c.new.ensures.items
          ∙ ap encoding_of tree;
    }

pub returns : goal.returns
returns c =
    let read = c.in-Ok.ensures.read in
    let tree = ap view c.deref.ensures ∙ ap view c.from-value.ensures ∙ c.in_ok-object.ensures in
    record {
      changed = tt;
      none = inr (record {
        control = c.in-Ok.control;
        value = read.value;
        begins = read.begins;
        is_read = read.holds;
        unwritable = λ w.
            not_writable (view c.deref.result.now) c.in-Err-values_are_written_into_memory.e
            c.in-Err-values_are_written_into_memory.ensures.cause c.in_default.not-OutOfMemory (subst IsWritable (sym tree) w);
      });
    }
