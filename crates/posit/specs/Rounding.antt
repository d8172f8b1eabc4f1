-- The rounding rule of document 01 ("Rounding: .."), for posits of n bits with es exponent bits: a relation between a
-- number and a pattern. A number is known by its sign and by its cut, which tells how it stands to each dividing number.
use Rattle.std.specs.Prelude.{◌≡◌, ℕ, zero, suc, ◌+◌, ◌-◌, ◌*◌, ◌%◌, ◌^◌, ◌≤◌, ◌⊎◌, ℤ, pos, negsuc, neg_ℤ}
use Prim.Native.Nat.{compare, Ordering}
use Rattle.std.specs.Float.Ieee.{up, down}
use Rattle.posit.specs.Number.{magnitude, unit, opposite}

-- The cut of a number above zero: whether d / 2 ^ k lies below it (lt), on it (eq) or above it (gt), for each d and k.
abbrev pub Cut : Type 0
Cut = ℕ → ℕ → Ordering

-- the cut of the fraction a / b
abbrev pub ratio : ℕ → ℕ → Cut
ratio a b d k = compare (d * b) (a * 2 ^ k)

-- "Between neighbours U and U+1 (positive), the dividing number is that of the 17-bit posit whose bits are U then 1"
abbrev pub dividing : ℕ → ℕ → ℕ → ℕ
dividing es n u = magnitude es (n + 1) (2 * u + 1)

-- how the dividing number of u stands to a number
abbrev pub divides : ℕ → ℕ → Cut → ℕ → Ordering
divides es n c u = c (dividing es n u) (unit es (n + 1))

-- "Below it the answer is U, above it U+1, on it the even one": u is not too large, by the dividing number below it
abbrev pub Reached : Ordering → ℕ → Type 0
Reached Ordering.lt u = Unit {0}
Reached Ordering.eq u = u % 2 ≡ 0
Reached Ordering.gt u = ⊥

-- and u is not too small, by the dividing number above it
abbrev pub Enough : Ordering → ℕ → Type 0
Enough Ordering.lt u = ⊥
Enough Ordering.eq u = u % 2 ≡ 0
Enough Ordering.gt u = Unit {0}

-- the largest pattern of a number
abbrev pub largest : ℕ → ℕ
largest n = 2 ^ (n - 1) - 1

-- u is the answer to the number above zero that has the cut c. "A nonzero magnitude below 2^-28 gives that of 0x0001, one
-- above 2^28 that of 0x7FFF": nothing lies below the first, nothing above the second
pub record Rounded (es n : ℕ) (c : Cut) (u : ℕ) : Type 0 where
  pub least : 1 ≤ u
  pub most : u ≤ largest n
  pub reached : (u ≡ 1) ⊎ Reached (divides es n c (u - 1)) u
  pub enough : (u ≡ largest n) ⊎ Enough (divides es n c u) u

-- a number known by its sign and the cut of its magnitude
pub data Known : Type 0 where
  nought : Known
  plus : Cut → Known
  minus : Cut → Known

-- "zero gives 0"; a negative number gives the two's complement of what its magnitude gives
abbrev pub Rounds : ℕ → ℕ → Known → ℕ → Type 0
Rounds es n nought u = u ≡ 0
Rounds es n (plus c) u = Rounded es n c u
Rounds es n (minus c) u = Rounded es n c (opposite n u)

-- minus a number
abbrev pub negated : Known → Known
negated nought = nought
negated (plus c) = minus c
negated (minus c) = plus c

-- the number k * 2 ^ e
abbrev pub dyadic : ℤ → ℤ → Known
dyadic (pos zero) e = nought
dyadic (pos (suc k)) e = plus (ratio (suc k * up e) (down e))
dyadic (negsuc k) e = minus (ratio (suc k * up e) (down e))

-- K / 2 ^ q: "Rounded K/2^q is that rule on the exact fraction"
abbrev pub over : ℤ → ℕ → Known
over k q = dyadic k (neg_ℤ (pos q))
