use Rattle.std.proofs.Common.{rules, refl}
use Rattle.spa_text_commands.proofs.ReadHexadecimal.{byte_next, no_high_next, no_low_next}
use Rattle.spa_text_commands.proofs.hexadecimal.next_of.Goals as goal

pub returns-in_default-digit_value : goal.returns-in_default-digit_value
returns-in_default-digit_value c =
    no_high_next c.args.spaces_end c.begins_letters.result c.is_between.result c.args.first c.in-Some.second.now c.args.behind.now
    c.in-Some.field-0-1.now (search rules) c.begins_letters.ensures c.if-begins_letters.false c.is_between.ensures c.if-is_between.false
    (search rules)

pub returns-in_default-digit_value-2 : goal.returns-in_default-digit_value-2
returns-in_default-digit_value-2 c =
    no_low_next c.args.spaces_end c.begins_letters.result c.is_between.result c.args.first c.in-Some.second.now c.args.behind.now
    c.in-Some.field-0-1.now c.in-Some-digit_value.high (search rules) c.begins_letters.ensures c.if-begins_letters.false c.is_between.ensures
    c.if-is_between.false (search rules) (search rules)

pub returns : goal.returns
returns c =
    byte_next c.args.spaces_end c.begins_letters.result c.is_between.result c.args.first c.in-Some.second.now c.args.behind.now
    c.in-Some.field-0-1.now c.in-Some-digit_value.high c.in-Some-digit_value-2.low _ (search rules) c.begins_letters.ensures
    c.if-begins_letters.false c.is_between.ensures c.if-is_between.false (search rules) (search rules) refl
