-- `circular::math::cos_pi::cos_series` meets its contract: each product fits, and none that is subtracted is too large. The
-- last comes near to what it is subtracted from, so its bound is taken at the far end.
use Rattle.std.proofs.Common.{ℕ, ◌+◌, ◌-◌, ◌*◌, ◌/◌, ◌^◌, ◌<◌, ◌≤◌, arith, lit<, lit≤}
use Rattle.rows.proofs.Products.{product, at_end}
use Rattle.circular.proofs.math.cos_pi.cos_series.Goals as goal

abbrev square : ℕ → ℕ
square fs = fs * fs / 2 ^ 8

-- the differences that the square is multiplied by
abbrev left-a : ℕ → ℕ
left-a fs = 349194 - square fs * 28875 / 2 ^ 25

abbrev left-b : ℕ → ℕ
left-b fs = 4255560 - square fs * left-a fs / 2 ^ 24

abbrev left-c : ℕ → ℕ
left-c fs = 20698014 - square fs * left-b fs / 2 ^ 24

record Products (fs : ℕ) : Type 0 where
  squared : fs * fs ≤ 2 ^ 32
  a : 2 ^ 25 * (square fs * left-a fs) ≤ 2 ^ 24 * (2 ^ 25 * 349194 + 2 ^ 25 - 2 ^ 24 * 28875)
  b : square fs * left-b fs ≤ 2 ^ 24 * 4255560
  c : 2 ^ 24 * (square fs * left-c fs) ≤ 2 ^ 24 * (2 ^ 24 * 20698014 + 2 ^ 24 - 2 ^ 24 * 3920803)

products : (fs : ℕ) → fs < 2 ^ 16 → Products fs
products fs h =
    let squared : fs * fs ≤ 2 ^ 32 = product (2 ^ 16) (2 ^ 16) (omega arith) (omega arith) in
    let a : 2 ^ 25 * (square fs * left-a fs) ≤ 2 ^ 24 * (2 ^ 25 * 349194 + 2 ^ 25 - 2 ^ 24 * 28875) =
    at_end 349194 28875 (2 ^ 25) (2 ^ 24) (lit< tt) (omega arith) (lit≤ tt) (lit≤ tt) in
    record {
      squared = squared;
      a = a;
      b = product (2 ^ 24) 4255560 (omega arith) (omega arith);
      c = at_end 20698014 3920803 (2 ^ 24) (2 ^ 24) (lit< tt) (omega arith) (omega arith) (lit≤ tt);
    }

pub overflow_sub-result : goal.overflow_sub-result
overflow_sub-result c = let k = products c.args.fs c.requires in omega arith
