-- "quadrant and rest of the magnitude of x·2^28 by 2^27": rows 5 and 6, for a magnitude of k / 2 ^ 28.
use Rattle.std.specs.Prelude.{ℕ, ◌-◌, ◌/◌, ◌%◌, ◌^◌, Bool, cond, ◌==◌}

-- the quadrant, modulo 4
abbrev pub quadrant : ℕ → ℕ
quadrant k = k / 2 ^ 27 % 4

abbrev pub rest : ℕ → ℕ
rest k = k % 2 ^ 27

abbrev pub odd : ℕ → Bool
odd q = q % 2 == 1

-- "odd quadrant reflects"
abbrev pub reflected : ℕ → ℕ → ℕ
reflected q r = cond (odd q) (2 ^ 27 - r) r
