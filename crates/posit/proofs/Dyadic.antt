-- The number m * 2 ^ e above and below zero, and the power 2 ^ -q.
use Rattle.std.proofs.Common.{◌≡◌, ℕ, zero, suc, ◌*◌, ◌^◌, ◌<◌, ℤ, pos, negsuc, neg_ℤ, refl, arith, pow_pos}
use lib.Ieee.{up, down}
use Rattle.posit.specs.Rounding.{ratio, plus, minus, dyadic}

pub dyadic_plus : (m : ℕ) (e : ℤ) → 0 < m → dyadic (pos m) e ≡ plus (ratio (m * up e) (down e))
dyadic_plus zero e l = absurd (omega arith)
dyadic_plus (suc m) e l = refl

pub dyadic_minus : (m : ℕ) (e : ℤ) → 0 < m → dyadic (neg_ℤ (pos m)) e ≡ minus (ratio (m * up e) (down e))
dyadic_minus zero e l = absurd (omega arith)
dyadic_minus (suc m) e l = refl

pub down_some : (e : ℤ) → 0 < down e
down_some (pos k) = omega arith
down_some (negsuc k) = pow_pos (suc k)

pub up_minus : (q : ℕ) → up (neg_ℤ (pos q)) ≡ 1
up_minus zero = refl
up_minus (suc q) = refl

pub down_minus : (q : ℕ) → down (neg_ℤ (pos q)) ≡ 2 ^ q
down_minus zero = refl
down_minus (suc q) = refl
