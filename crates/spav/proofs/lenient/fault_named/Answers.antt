use Rattle.std.proofs.Common.{inl, refl}
use Rattle.std.proofs.Math.IntN.{pos-ne-negsuc}
use Rattle.spav.proofs.Refusals.{fault_conveyed}
use Rattle.spav.proofs.lenient.fault_named.Goals as goal

pub returns-in_default : goal.returns-in_default
returns-in_default c = record {
  fault = λ _.
      fault_conveyed _ _ _ _ _ c.requires (c.cause_of.ensures.bytes c.in_default.not-OutOfMemory) c.cause_of.ensures.said c.number_of.ensures.said;
  some = λ _. c.number_of.ensures.some;
  answers = inl refl;
  unchanged = λ e. absurd (pos-ne-negsuc 0 11 e);
}
