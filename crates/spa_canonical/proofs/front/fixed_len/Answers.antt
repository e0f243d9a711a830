use Rattle.std.proofs.Common.{refl, rules}
use Rattle.spa_format.specs.Kind.{none_kind, bool_kind, id_kind, int_kind, long_kind, float_kind, double_kind, rectangle_kind, fraction_kind, fd_kind}
use Rattle.spa_canonical.proofs.front.fixed_len.Goals as goal

pub returns-in-None-clause-is_len : goal.returns-in-None-clause-is_len
returns-in-None-clause-is_len c = λ _. (none_kind, search rules, refl)

pub returns-in-Bool-clause-is_len : goal.returns-in-Bool-clause-is_len
returns-in-Bool-clause-is_len c = λ _. (bool_kind, search rules, refl)

pub returns-in-Id-clause-is_len : goal.returns-in-Id-clause-is_len
returns-in-Id-clause-is_len c = λ _. (id_kind, search rules, refl)

pub returns-in-Int-clause-is_len : goal.returns-in-Int-clause-is_len
returns-in-Int-clause-is_len c = λ _. (int_kind, search rules, refl)

pub returns-in-Long-clause-is_len : goal.returns-in-Long-clause-is_len
returns-in-Long-clause-is_len c = λ _. (long_kind, search rules, refl)

pub returns-in-Float-clause-is_len : goal.returns-in-Float-clause-is_len
returns-in-Float-clause-is_len c = λ _. (float_kind, search rules, refl)

pub returns-in-Double-clause-is_len : goal.returns-in-Double-clause-is_len
returns-in-Double-clause-is_len c = λ _. (double_kind, search rules, refl)

pub returns-in-Rectangle-clause-is_len : goal.returns-in-Rectangle-clause-is_len
returns-in-Rectangle-clause-is_len c = λ _. (rectangle_kind, search rules, refl)

pub returns-in-Fraction-clause-is_len : goal.returns-in-Fraction-clause-is_len
returns-in-Fraction-clause-is_len c = λ _. (fraction_kind, search rules, refl)

pub returns-in-Fd-clause-is_len : goal.returns-in-Fd-clause-is_len
returns-in-Fd-clause-is_len c = λ _. (fd_kind, search rules, refl)
