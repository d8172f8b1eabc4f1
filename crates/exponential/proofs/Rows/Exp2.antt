-- Row 2: its numbers stand in order, and its kernel on a number that is moved up by 32.
use Prim.Native.Nat.{ℕ, ◌+◌, ◌/◌, ◌%◌, ◌^◌}
use mathlib.Core.Path.{◌≡◌, ◌∙◌, ap, refl}
use lib.Dec.{lit<, lit≤}
use lib.Pow.{shr-shr}
use lib.IntN.{ℤ, pos, ◌+ℤ◌, ◌-ℤ◌}
use Rattle.posit.specs.Rounding.{dyadic}
use Rattle.exponential.specs.Exp2.{poly, kernel}
use Rattle.exponential.proofs.Rows.Ends.{Ordered, parts_moved}

pub ordered : Ordered 221 65379 29377 36159
ordered = record { first = lit< tt; second = lit≤ tt; third = lit≤ tt; fourth = refl; fifth = lit≤ tt; sixth = lit< tt }

-- with t = x + 32 in units of 2 ^ -28
pub kernel_moved : (z : ℤ) (t : ℕ) → z +ℤ pos (2 ^ 33) ≡ pos t → kernel z ≡ dyadic (pos (2 ^ 26 + poly (t / 2 ^ 8 % 2 ^ 20))) (pos (t / 2 ^ 28) -ℤ pos 58)
kernel_moved z t e =
    parts_moved z (2 ^ 8) (2 ^ 20) t (lit< tt) (lit< tt) e (2 ^ 26) 25 poly
    ∙ ap (λ (x : ℕ). dyadic (pos (2 ^ 26 + poly (t / 2 ^ 8 % 2 ^ 20))) (pos x -ℤ pos 58)) (shr-shr t 8 20)
