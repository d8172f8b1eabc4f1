-- `circular::math::tan_pi::tan_denominator` meets its contract: each product fits, and the last stays 2 ^ 34 below 2 ^ 54.
-- It comes near to that, so its bound is taken at the far end, the square of 2 ^ 18 - 1.
use Rattle.std.proofs.Common.{ℕ, ◌+◌, ◌-◌, ◌*◌, ◌/◌, ◌^◌, ◌<◌, ◌≤◌, arith, lit<, lit≤}
use Rattle.rows.proofs.Products.{product, at_end}
use Rattle.circular.proofs.math.tan_pi.tan_denominator.Goals as goal

abbrev square : ℕ → ℕ
square fs = fs * fs / 2 ^ 10

abbrev far : ℕ
far = square (2 ^ 18 - 1)

record Products (fs : ℕ) : Type 0 where
  squared : fs * fs ≤ (2 ^ 18 - 1) * (2 ^ 18 - 1)
  result : 2 ^ 25 * (square fs * (295106440 - square fs * 13335493 / 2 ^ 25)) ≤ far * (2 ^ 25 * 295106440 + 2 ^ 25 - far * 13335493)

products : (fs : ℕ) → fs < 2 ^ 18 → Products fs
products fs h =
    let squared : fs * fs ≤ (2 ^ 18 - 1) * (2 ^ 18 - 1) = product (2 ^ 18 - 1) (2 ^ 18 - 1) (omega arith) (omega arith) in
    record { squared = squared; result = at_end 295106440 13335493 (2 ^ 25) far (lit< tt) (omega arith) (lit≤ tt) (lit≤ tt) }

pub overflow_sub-result-2 : goal.overflow_sub-result-2
overflow_sub-result-2 c = let k = products c.args.fs c.requires in omega arith

pub returns-clause-lower_bound : goal.returns-clause-lower_bound
returns-clause-lower_bound c = let k = products c.args.fs c.requires in omega arith
