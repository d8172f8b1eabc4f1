-- What the operations take of a pattern: its number in units of 2 ^ -28, zero among them, and the magnitude of that number as
-- a significand and a power of two.
use Rattle.std.specs.Prelude.{ℕ, ◌*◌, ◌^◌, ◌≤◌, ◌<◌, ◌≡◌, cond, eqb, ltb, ℤ}
use Rattle.posit.specs.Number.{magnitude, size, with_sign}

abbrev pub units_in : ℕ → ℕ
units_in p = cond (eqb p 0) 0 (magnitude 1 16 (size 16 p))

abbrev pub signed_units : ℕ → ℤ
signed_units p = with_sign (ltb 0x8000 p) (units_in p)

pub record Scaled (p significand power : ℕ) : Type 0 where
  pub value : units_in p * 2 ^ 12 ≡ significand * 2 ^ power
  pub small : significand < 2 ^ 13
  pub few : power ≤ 57
