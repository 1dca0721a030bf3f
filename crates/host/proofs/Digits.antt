-- Digits read back.
use Rattle.std.proofs.Common.{◌≡◌, ℕ, ◌+◌, ◌%◌, ◌<◌, arith}
use Rattle.std.proofs.lemmas.Bool.Decides.{nat_tests}
use Rattle.std.specs.Str.Parse.{digits_value}
use Rattle.std.specs.Char.{digit_value}
use Rattle.files.specs.Lines.{two_digits, hex_digit, eight_hex}
use Rattle.host.specs.Laws.{one_digit, DigitsReadBack}

digit_back : (n : ℕ) → digit_value (48 + n % 10) ≡ n % 10
digit_back n = grind (arith, nat_tests)

pub one_back : (n : ℕ) → n < 10 → digits_value 10 (one_digit n) ≡ n
one_back n h = omega (arith, digit_back)

pub two_back : (n : ℕ) → n < 100 → digits_value 10 (two_digits n) ≡ n
two_back n h = omega (arith, digit_back)

hex_back : (n : ℕ) → digit_value (hex_digit (n % 16)) ≡ n % 16
hex_back n = grind (arith, nat_tests)

pub eight_back : (n : ℕ) → n < 4294967296 → digits_value 16 (eight_hex n) ≡ n
eight_back n h = omega (arith, hex_back)

pub digits_read_back : DigitsReadBack
digits_read_back = (one_back, two_back, eight_back)
