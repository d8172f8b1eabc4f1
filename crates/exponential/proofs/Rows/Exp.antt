-- Row 1: its numbers stand in order, and its kernel on a number that is moved up by 32.
use Prim.Native.Nat.{ℕ, ◌+◌, ◌/◌, ◌%◌, ◌^◌}
use mathlib.Core.Path.{◌≡◌, refl}
use lib.Dec.{lit<, lit≤}
use lib.IntN.{ℤ, pos, ◌+ℤ◌, ◌-ℤ◌, ◌*ℤ◌}
use Rattle.posit.specs.Rounding.{dyadic}
use Rattle.exponential.specs.Exp.{poly, kernel}
use Rattle.exponential.proofs.Rows.Ends.{Ordered, parts_moved}

pub ordered : Ordered 192 65407 28846 36690
ordered = record { first = lit< tt; second = lit≤ tt; third = lit≤ tt; fourth = refl; fifth = lit≤ tt; sixth = lit< tt }

-- with t = x * 48408813 / 2 ^ 25 + 32 in units of 2 ^ -53
pub kernel_moved : (z : ℤ) (t : ℕ) → z *ℤ pos 48408813 +ℤ pos (2 ^ 58) ≡ pos t
    → kernel z ≡ dyadic (pos (2 ^ 37 + poly (t / 2 ^ 28 % 2 ^ 25))) (pos (t / 2 ^ 28 / 2 ^ 25) -ℤ pos 69)
kernel_moved z t e = parts_moved (z *ℤ pos 48408813) (2 ^ 28) (2 ^ 25) t (lit< tt) (lit< tt) e (2 ^ 37) 36 poly
