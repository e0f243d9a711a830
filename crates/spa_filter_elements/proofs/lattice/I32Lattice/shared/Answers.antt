use Rattle.std.proofs.Common.{◌≡◌, ◌<◌, ◌^◌, ap, ◌∙◌, arith, rules}
use mir.Val.{bits}
use Rattle.std.specs.Int.{w32, cast_unsigned, cast_signed}
use Rattle.std.proofs.lemmas.Int.{to_z-of_z, ints}
use Rattle.spa_filter_elements.proofs.Masks.{IsShared-int}
use Rattle.spa_filter_elements.proofs.lattice.I32Lattice.shared.Goals as goal

pub returns : goal.returns
returns c =
    let own : cast_signed w32 (cast_unsigned w32 c.args.self.now) ≡ c.args.self.now =
    first_of (search rules, search (arith, ints, to_z-of_z), grind (arith, to_z-of_z)) in
    let its : cast_signed w32 (cast_unsigned w32 c.args.other.now) ≡ c.args.other.now =
    first_of (search rules, search (arith, ints, to_z-of_z), grind (arith, to_z-of_z)) in
    let below : c.cast_unsigned.result < 2 ^ bits w32 = first_of (omega arith, search rules) in
    IsShared-int c.args.self.now c.args.other.now c.cast_signed.result c.cast_unsigned.result c.cast_unsigned-2.result
    (c.cast_unsigned.ensures ∙ ap (cast_unsigned w32) own) (c.cast_unsigned-2.ensures ∙ ap (cast_unsigned w32) its)
    below c.cast_signed.ensures
