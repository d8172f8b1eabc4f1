-- "posit negate, add, subtract and multiply, each rounded once by the standard's rule" (document 02, P2): NaR with anything
-- is NaR; of real numbers, counted in units of 2 ^ -28, the exact result is rounded. Zero is one of the real numbers.
use Rattle.std.specs.Prelude.{ℕ, ℤ, neg_ℤ, ◌+ℤ◌, ◌-ℤ◌, ◌*ℤ◌}
use Rattle.posit.specs.Number.{Number, nar, real, number}
use Rattle.posit.specs.Rounding.{Known, over}
use Rattle.rows.specs.Rows.{Row, names, rounds}

-- an operation on one number, which has an exact result where that is real
abbrev pub of_one : (ℤ → Known) → Number → Row
of_one f nar = names 0x8000
of_one f (real a) = rounds (f a)

-- and on two
abbrev pub of_two : (ℤ → ℤ → Known) → Number → Number → Row
of_two f nar y = names 0x8000
of_two f (real a) y = of_one (f a) y

unfoldable pub negation : ℕ → Row
negation p = of_one (λ a. over (neg_ℤ a) 28) (number 1 16 p)

unfoldable pub sum : ℕ → ℕ → Row
sum p q = of_two (λ a b. over (a +ℤ b) 28) (number 1 16 p) (number 1 16 q)

unfoldable pub difference : ℕ → ℕ → Row
difference p q = of_two (λ a b. over (a -ℤ b) 28) (number 1 16 p) (number 1 16 q)

-- units of 2 ^ -28 times units of 2 ^ -28
unfoldable pub product : ℕ → ℕ → Row
product p q = of_two (λ a b. over (a *ℤ b) 56) (number 1 16 p) (number 1 16 q)
