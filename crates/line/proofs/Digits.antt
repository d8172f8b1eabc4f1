-- Decimal digits: how many a number has, and one more of them.
use Rattle.std.proofs.Common.{◌≡◌, ℕ, zero, suc, ◌+◌, ◌/◌, ◌%◌, ◌≤◌, List, [], ◌∷◌, length, set, ℤ, pos, negsuc, refl, arith, length-append}
use Rattle.std.proofs.lemmas.Bool.Decides.{nat_tests}
use lib.Seq.{sets}
use Rattle.line.specs.Line.{digits, width, decimal, field, integer, apart, line_of}
use Rattle.line.proofs.Writing.{sets_last}

pub length_digits : (k n : ℕ) → length (digits k n) ≡ k
length_digits zero n = refl
length_digits (suc k) n = omega (arith, length-append (digits k (n / 10)) ((48 + n % 10) ∷ []), length_digits k (n / 10))

-- the last digit written, and then the others
pub digits_last : (l : List ℕ) (at k n : ℕ) → sets (set l (at + k) (48 + n % 10)) at (digits k (n / 10)) ≡ sets l at (digits (suc k) n)
digits_last l at k n = sets_last l at (digits k (n / 10)) k (48 + n % 10) (length_digits k (n / 10))

pub width_most : (n : ℕ) → width n ≤ 5
width_most n = grind (arith, nat_tests)

pub length-decimal : (n : ℕ) → length (decimal n) ≡ width n
unfolding decimal
length-decimal n = length_digits (width n) n

pub decimal_most : (n : ℕ) → length (decimal n) ≤ 5
decimal_most n = omega (arith, length-decimal n, width_most n)

pub length-field : (n after : ℕ) → length (field n after) ≡ length (decimal n) + 1
length-field n after = length-append (decimal n) (after ∷ [])

pub field_most : (n after : ℕ) → length (field n after) ≤ 6
field_most n after = omega (arith, length-field n after, decimal_most n)

pub integer_most : (z : ℤ) → length (integer z) ≤ 6
integer_most (pos n) = omega (arith, decimal_most n)
integer_most (negsuc n) = omega (arith, decimal_most (suc n))

pub line_most : (function pattern first second : ℕ) → length (line_of function pattern first second) ≤ 31
unfolding line_of
line_most function pattern first second =
    simp length-append (omega (
      arith,
      decimal_most function,
      decimal_most pattern,
      decimal_most first,
      decimal_most second,
      integer_most (apart first second),
    ))
