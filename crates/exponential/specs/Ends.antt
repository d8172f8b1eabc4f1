-- What rows 1 and 2 of document 01 answer before the kernel. They differ in four numbers.
use Rattle.std.specs.Prelude.{ℕ, cond, ◌||◌, ltb, leb, ℤ, Option, Some, None}
use Rattle.posit.specs.Number.{Number, nar, real, number, opposite}
use Rattle.posit.specs.Rounding.{Known}
use Rattle.rows.specs.Rows.{Row, names, rounds, within}

abbrev pub otherwise : (ℤ → Known) → Number → Row
otherwise kernel nar = names 0x8000
otherwise kernel (real q) = rounds (kernel q)

-- the largest posit, the smallest, and NaR between them
abbrev pub beyond : ℕ → ℕ
beyond p = cond (ltb p 0x8000) 0x7fff (cond (ltb 0x8000 p) 0x0001 0x8000)

-- "below a or above b: 0x4000; c to 0x7FFF: 0x7FFF; 0x8001 to d: 0x0001; NaR: NaR"
unfoldable pub ends : (a b c d : ℕ) → (ℤ → Known) → ℕ → Row
ends a b c d kernel p =
    cond (ltb p a || ltb b p) (names 0x4000)
    (cond (within c 0x7fff p) (names 0x7fff)
    (cond (within 0x8001 d p) (names 0x0001)
    (otherwise kernel (number 1 16 p))))

-- all of that but the kernel, where d is as far from zero as c: one test of the magnitude's pattern finds both ends
abbrev pub named : (a b c : ℕ) → ℕ → Option ℕ
named a b c p =
    cond (ltb p a || ltb b p) (Some 0x4000)
    (cond (leb c (cond (ltb 0x7fff p) (opposite 16 p) p)) (Some (beyond p)) None)
