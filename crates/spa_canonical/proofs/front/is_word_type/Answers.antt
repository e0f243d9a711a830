use Rattle.std.proofs.Common.{refl, rules}
use Rattle.spa_format.specs.Kind.{id_kind, int_kind, float_kind}
use Rattle.spa_canonical.proofs.front.is_word_type.Goals as goal

pub returns-in-Id-clause-word : goal.returns-in-Id-clause-word
returns-in-Id-clause-word c = λ _. (id_kind, search rules, refl)

pub returns-in-Int-clause-word : goal.returns-in-Int-clause-word
returns-in-Int-clause-word c = λ _. (int_kind, search rules, refl)

pub returns-in-Float-clause-word : goal.returns-in-Float-clause-word
returns-in-Float-clause-word c = λ _. (float_kind, search rules, refl)
