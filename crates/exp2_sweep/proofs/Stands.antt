-- The test of how a dividing number stands to 2 ^ x: seven 16th powers (16 ^ 7 is 2 ^ 28) in units of 2 ^ -40. Where it
-- passes, the cut of 2 ^ x says so. Powers of two stay exact on the way, so a dividing number that lies on 2 ^ x is told.
use Prim.Native.Nat.{ℕ, zero, suc, ◌*◌, ◌^◌, ◌<◌, Ordering}
use mathlib.Core.Path.{◌≡◌, refl}
use mathlib.Core.Bool.{Bool, false, ◌&&◌}
use native.Mathlib.Nat.{le_antisymm, one-le-pow}
use native.Mathlib.Omega.{arith}
use lib.Dec.{T, leb, ltb, leb→le, ltb→lt}
use lib.Ieee.Fits.{and_l, and_r}
use lib.IntN.{ℤ, pos, negsuc, ◌+ℤ◌}
use Rattle.posit.proofs.Compare.{less, same, more, compare_is}
use Rattle.exp2_sweep.specs.Power.{against, power_cut}
use Rattle.exp2_sweep.proofs.Bounds.{lower, upper, lower_holds, upper_holds, under_one, over_one, at_most_one, at_least_one}

-- d ^ (2 ^ 28) stands so to 2 ^ e
abbrev pub stands : ℤ → Ordering → ℕ → Bool
stands (pos E) Ordering.lt d = ltb (upper 15 40 7 E d) (2 ^ 40)
stands (pos E) Ordering.eq d = leb (2 ^ 40) (lower 15 40 7 E d) && leb (upper 15 40 7 E d) (2 ^ 40)
stands (pos E) Ordering.gt d = ltb (2 ^ 40) (lower 15 40 7 E d)
stands (negsuc E) Ordering.lt d = false
stands (negsuc E) Ordering.eq d = false
stands (negsuc E) Ordering.gt d = ltb 0 d

above_negative : (m E : ℕ) → 0 < m → against m (negsuc E) ≡ Ordering.gt
above_negative zero E h = absurd (omega arith)
above_negative (suc m) E h = refl

stands_holds : (e : ℤ) (o : Ordering) (d : ℕ) → T (stands e o d) → against (d ^ (2 ^ 28)) e ≡ o
stands_holds (pos E) Ordering.lt d t =
    let w = upper 15 40 7 E d in
    compare_is (d ^ (2 ^ 28)) (2 ^ E) Ordering.lt (less (under_one w (d ^ (2 ^ 28)) 40 E (upper_holds 15 40 7 E d) (ltb→lt w (2 ^ 40) t)))
stands_holds (pos E) Ordering.eq d t =
    let v = lower 15 40 7 E d in
    let w = upper 15 40 7 E d in
    compare_is (d ^ (2 ^ 28)) (2 ^ E) Ordering.eq
    (same
    (le_antisymm
    (at_most_one w (d ^ (2 ^ 28)) 40 E (upper_holds 15 40 7 E d) (leb→le w (2 ^ 40) (and_r (leb (2 ^ 40) v) (leb w (2 ^ 40)) t)))
    (at_least_one v (d ^ (2 ^ 28)) 40 E (lower_holds 15 40 7 E d) (leb→le (2 ^ 40) v (and_l (leb (2 ^ 40) v) (leb w (2 ^ 40)) t)))))
stands_holds (pos E) Ordering.gt d t =
    let v = lower 15 40 7 E d in
    compare_is (d ^ (2 ^ 28)) (2 ^ E) Ordering.gt (more (over_one v (d ^ (2 ^ 28)) 40 E (lower_holds 15 40 7 E d) (ltb→lt (2 ^ 40) v t)))
stands_holds (negsuc E) Ordering.lt d t = absurd t
stands_holds (negsuc E) Ordering.eq d t = absurd t
stands_holds (negsuc E) Ordering.gt d t = above_negative (d ^ (2 ^ 28)) E (one-le-pow (2 ^ 28) d (ltb→lt 0 d t))

-- the exponent against which the dividing numbers of 17 bits are compared
abbrev pub exponent : ℤ → ℤ
exponent q = q +ℤ pos (30 * 2 ^ 28)

pub power-stands : (q : ℤ) (o : Ordering) (d : ℕ) → T (stands (exponent q) o d) → power_cut q d 30 ≡ o
unfolding power_cut
power-stands q o d t = stands_holds (exponent q) o d t
