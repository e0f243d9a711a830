use Rattle.std.proofs.Common.{◌≡◌, ◌∙◌, ◌++◌, ◌<◌, ◌^◌, ℕ, List, ap, sym}
use Rattle.std.specs.Prelude.{Some, codes, option_map}
use Rattle.std.specs.Int.{w64, to_be_bytes}
use Rattle.hex.specs.Hex.{encode_lower}
use Rattle.spa_text_read.specs.Numerals.{wide_bits}
use Rattle.std.proofs.lemmas.Float.{not_nan_f64_bits}
use Rattle.std.proofs.lemmas.Result.{on_ok_weaker}
use Rattle.spa_format.specs.Kind.{double}
use Rattle.spa_text.proofs.Numbers.{double_digits-bits, wide_bits-text}
use Rattle.spa_text.proofs.printed.print_double.Goals as goal

pub float_from_bits-double : goal.float_from_bits-double
float_from_bits-double c = not_nan_f64_bits _ c.if-bits-le9218868437227405312.true

pub returns-then-is_finite : goal.returns-then-is_finite
returns-then-is_finite c =
    on_ok_weaker c.float.result
    (λ p. record {
      token = _;
      appended = p.1;
      said = ap (option_map (λ n. double n)) (double_digits-bits p.0 c.args.bits c.ranges.bits.fits p.2 (sym c.is_finite.ensures.value ∙ c.if-is_finite.true));
    })
    c.float.ensures

digits : (bs : List ℕ) (n : ℕ) → bs ≡ to_be_bytes w64 n → n < 2 ^ 64 → wide_bits (codes "0x" ++ encode_lower bs) ≡ Some n
digits bs n e h = ap (λ l. wide_bits (codes "0x" ++ encode_lower l)) e ∙ wide_bits-text n h

pub returns : goal.returns
returns c =
    on_ok_weaker c.print_bits.result
    (λ e. record { token = _; appended = e; said = ap (option_map (λ n. double n)) (digits c.to_be_bytes.result c.args.bits c.to_be_bytes.ensures c.ranges.bits.fits) })
    c.print_bits.ensures
