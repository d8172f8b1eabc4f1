-- The number in a pattern of n bits with es exponent bits, as document 01 has it ("The number in a pattern") from the
-- Posit Standard (2022). The standard fixes two exponent bits; everything here is used at one, with n = 16 and 17.
use Rattle.std.specs.Prelude.{ℕ, zero, suc, ◌+◌, ◌-◌, ◌*◌, ◌/◌, ◌%◌, ◌^◌, Bool, true, false, cond, ℤ, pos, neg_ℤ, ◌==◌, nat_lt}

-- the bit of p at place k, counted from the lowest
abbrev pub bit : ℕ → ℕ → ℕ
bit k p = p / 2 ^ k % 2

-- "a run of m equal bits ended by the opposite bit or the end": how many of the lowest k bits of p, from the highest of
-- them down, equal b before one differs
unfoldable pub run : ℕ → ℕ → ℕ → ℕ
run b zero p = 0
run b (suc k) p = elim (bit k p == b) [ true ↦ suc (run b k p) | false ↦ 0 ]

-- "Every finite number is a whole multiple of 2^-28": of 2 ^ -unit, the smallest positive posit
abbrev pub unit : ℕ → ℕ → ℕ
unit es n = (n - 2) * 2 ^ es

-- "r = m-1 for ones and -m for zeros": r * 2 ^ es, counted from -unit up; the third argument is the bit that runs
abbrev pub regime : ℕ → ℕ → ℕ → ℕ → ℕ
regime es n zero m = unit es n - m * 2 ^ es
regime es n (suc b) m = unit es n + (m - 1) * 2 ^ es

-- "Then come one exponent bit e and the fraction (absent bits read as 0). The number is (1 + fraction) · 2^(2r+e)."
-- For p from 1 to 2 ^ (n - 1) - 1, in units. t bits come after the run and the bit that ends it; rest / 2 ^ t is e, and
-- rest % 2 ^ t over 2 ^ t is the fraction.
unfoldable pub magnitude : ℕ → ℕ → ℕ → ℕ
magnitude es n p =
    let b = bit (n - 2) p in
    let m = run b (n - 1) p in
    let t = n - 2 - m in
    let rest = p % 2 ^ t * 2 ^ es in
    (2 ^ t + rest % 2 ^ t) * 2 ^ (regime es n b m + rest / 2 ^ t) / 2 ^ t

-- "its two's complement, which is formed by wrapping subtraction from zero"
unfoldable pub opposite : ℕ → ℕ → ℕ
opposite n p = (2 ^ n - p) % 2 ^ n

-- the pattern of a number's magnitude
abbrev pub size : ℕ → ℕ → ℕ
size n p = cond (nat_lt (2 ^ (n - 1)) p) (opposite n p) p

-- m, or minus m
abbrev pub with_sign : Bool → ℕ → ℤ
with_sign true m = neg_ℤ (pos m)
with_sign false m = pos m

-- what a pattern stands for: NaR, or a real number counted in units
pub data Number : Type 0 where
  nar : Number
  real : ℤ → Number

-- "0x0000 is zero and 0x8000 is NaR. A pattern above 0x8000 is minus the number of its two's complement"
unfoldable pub number : ℕ → ℕ → ℕ → Number
number es n p =
    cond (p == 0) (real (pos 0))
    (cond (p == 2 ^ (n - 1)) nar
    (cond (nat_lt p (2 ^ (n - 1))) (real (pos (magnitude es n p))) (real (neg_ℤ (pos (magnitude es n (opposite n p)))))))
