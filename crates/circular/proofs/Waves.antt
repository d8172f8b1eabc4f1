-- What holds of 0, of 1 and of whatever is rounded, and goes over to the opposed row, holds of the rows of sine and cosine.
use Rattle.std.proofs.Common.{ℕ, ◌+◌, ◌%◌, Bool, true, false, cond, eqb, leb, pos}
use Rattle.posit.specs.Rounding.{over}
use Rattle.rows.specs.Rows.{Row, names, rounds, opposed}
use Rattle.rows.proofs.Straight.{of_either}
use Rattle.circular.specs.Quadrants.{quadrant, rest, odd, reflected}
use Rattle.circular.specs.SinPi as SinPi
use Rattle.circular.specs.CosPi as CosPi

module _ (P : Row → Type 0) (o : (w : Row) → P w → P (opposed w)) (zero : P (names 0)) (one : P (names 0x4000))
    (rounded : (k q : ℕ) → P (rounds (over (pos k) q))) where
  -- the answer in a quadrant, by a rest that is 0 or by the kernel, with its sign
  in_quadrant : (b : Bool) (r u k q : ℕ) → P (names u)
      → P (cond b (opposed (cond (eqb r 0) (names u) (rounds (over (pos k) q)))) (cond (eqb r 0) (names u) (rounds (over (pos k) q))))
  in_quadrant b r u k q h =
      let w = cond (eqb r 0) (names u) (rounds (over (pos k) q)) in
      let pw = of_either P (eqb r 0) (names u) (rounds (over (pos k) q)) h (rounded k q) in
      of_either P b (opposed w) w (o w pw) pw

  one_or_zero : (b : Bool) → P (names (cond b 0x4000 0)) × P (names (cond b 0 0x4000))
  one_or_zero true = (one, zero)
  one_or_zero false = (zero, one)

  pub of_sine : (k : ℕ) → P (SinPi.sine k)
  unfolding SinPi.sine SinPi.unsigned
  of_sine k =
      let q = quadrant k in
      let r = rest k in
      in_quadrant (leb 2 q) r (cond (odd q) 0x4000 0) (SinPi.poly (reflected q r)) 28 (one_or_zero (odd q)).0

  pub of_cosine : (k : ℕ) → P (CosPi.cosine k)
  unfolding CosPi.cosine CosPi.unsigned
  of_cosine k =
      let q = quadrant k in
      let r = rest k in
      in_quadrant (leb 2 ((q + 1) % 4)) r (cond (odd q) 0 0x4000) (CosPi.poly (reflected q r)) 25 (one_or_zero (odd q)).1
