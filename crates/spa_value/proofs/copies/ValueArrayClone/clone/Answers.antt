use Rattle.std.proofs.Common.{refl}
use Rattle.spa_value.proofs.copies.ValueArrayClone.clone.Goals as goal

pub returns-in_ok-copy_elements-in-None : goal.returns-in_ok-copy_elements-in-None
returns-in_ok-copy_elements-in-None c = record { cases = rw (c.in-None.is, c.in_ok-copy_elements-in-None.ensures) refl }

pub returns-in_ok-copy_elements-in-Bool : goal.returns-in_ok-copy_elements-in-Bool
returns-in_ok-copy_elements-in-Bool c = record { cases = rw (c.in-Bool.is, c.in_ok-copy_elements-in-Bool.ensures) refl }

pub returns-in_ok-copy_elements-in-Id : goal.returns-in_ok-copy_elements-in-Id
returns-in_ok-copy_elements-in-Id c = record { cases = rw (c.in-Id.is, c.in_ok-copy_elements-in-Id.ensures) refl }

pub returns-in_ok-copy_elements-in-Int : goal.returns-in_ok-copy_elements-in-Int
returns-in_ok-copy_elements-in-Int c = record { cases = rw (c.in-Int.is, c.in_ok-copy_elements-in-Int.ensures) refl }

pub returns-in_ok-copy_elements-in-Long : goal.returns-in_ok-copy_elements-in-Long
returns-in_ok-copy_elements-in-Long c = record { cases = rw (c.in-Long.is, c.in_ok-copy_elements-in-Long.ensures) refl }

pub returns-in_ok-copy_elements-in-Float : goal.returns-in_ok-copy_elements-in-Float
returns-in_ok-copy_elements-in-Float c = record { cases = rw (c.in-Float.is, c.in_ok-copy_elements-in-Float.ensures) refl }

pub returns-in_ok-copy_elements-in-Double : goal.returns-in_ok-copy_elements-in-Double
returns-in_ok-copy_elements-in-Double c = record { cases = rw (c.in-Double.is, c.in_ok-copy_elements-in-Double.ensures) refl }

pub returns-in_ok-copy_elements-in-Rectangle : goal.returns-in_ok-copy_elements-in-Rectangle
returns-in_ok-copy_elements-in-Rectangle c = record { cases = rw (c.in-Rectangle.is, c.in_ok-copy_elements-in-Rectangle.ensures) refl }

pub returns-in_ok-copy_elements-in-Fraction : goal.returns-in_ok-copy_elements-in-Fraction
returns-in_ok-copy_elements-in-Fraction c = record { cases = rw (c.in-Fraction.is, c.in_ok-copy_elements-in-Fraction.ensures) refl }

pub returns-in_ok-copy_elements-in-Fd : goal.returns-in_ok-copy_elements-in-Fd
returns-in_ok-copy_elements-in-Fd c = record { cases = rw (c.in-Fd.is, c.in_ok-copy_elements-in-Fd.ensures) refl }
