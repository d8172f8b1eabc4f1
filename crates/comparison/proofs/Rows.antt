-- Rows of places: a row more stays within all rows, and the row of a place is one of them.
use Prim.Native.Nat.{ℕ, zero, suc, ◌+◌, ◌*◌, ◌/◌, ◌≤◌, ◌<◌}
use native.Mathlib.Omega.{arith}
use native.Mathlib.Nat.{mul-zero, suc-mul, mul-le-mul_right, div-lt_iff_lt-mul}

pub some_columns : (functions patterns place : ℕ) → place < functions * patterns → 0 < patterns
some_columns functions zero place h = absurd (omega (arith, mul-zero functions))
some_columns functions (suc patterns) place h = omega arith

pub row_within : (row functions patterns : ℕ) → row < functions → row * patterns + patterns ≤ functions * patterns
row_within row functions patterns h = omega (arith, suc-mul row patterns, mul-le-mul_right patterns h)

pub row_of_lem : (functions patterns place : ℕ) → place < functions * patterns → place / patterns < functions
row_of_lem functions patterns place h = (div-lt_iff_lt-mul (some_columns functions patterns place h)).1 h
