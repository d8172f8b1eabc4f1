-- The test of one pattern: exp2's answer is the posit that the rounding rule picks for 2 ^ x. And what a passed test says.
use Prim.Native.Nat.{ℕ, ◌+◌, ◌-◌, ◌*◌, ◌/◌, ◌%◌, ◌^◌, Ordering}
use mathlib.Core.Path.{◌≡◌, refl}
use mathlib.Core.Bool.{Bool, true, false, ◌&&◌}
use lib.Dec.{T}
use lib.Ieee.Fits.{and_l, and_r}
use lib.IntN.{ℤ, pos, negsuc}
use Rattle.posit.specs.Number.{Number, nar, real}
use Rattle.posit.specs.Rounding.{Cut, nought, plus, minus, dividing}
use Rattle.rows.specs.Floor.{floor, modulo}
use Rattle.rows.specs.Rows.{Row, names, rounds, Meets}
use Rattle.exponential.specs.Exp2.{poly}
use Rattle.exp2_sweep.specs.Power.{power_cut, Picked}
use Rattle.exp2_sweep.proofs.Stands.{stands, exponent, power-stands}
use Rattle.exp2_sweep.proofs.Tests.{Test, Tells, picks}
use Rattle.exp2_sweep.proofs.Picks.{picks_rounded}

-- exp2's answer is known, and the rounding rule picks it for 2 ^ x
pub record Agreed (x : Number) (y : Row) : Type 0 where
  pub answer : ℕ
  pub meets : Meets y answer
  pub picked : Picked x answer

-- the test whether the rounding rule picks u for 2 ^ x, with the two dividing numbers of u
abbrev pub is_picked_of : ℤ → ℕ → ℕ → ℕ → Bool
is_picked_of q = picks (stands (exponent q))

pub is_picked : (q : ℤ) (u : ℕ) → T (is_picked_of q u (dividing 1 16 (u - 1)) (dividing 1 16 u)) → Picked (real q) u
is_picked q u t = picks_rounded (stands (exponent q)) (power_cut q) (power-stands q) u t

-- a cut that computes is its own test
abbrev alike : Ordering → Ordering → Bool
alike Ordering.lt Ordering.lt = true
alike Ordering.lt Ordering.eq = false
alike Ordering.lt Ordering.gt = false
alike Ordering.eq Ordering.lt = false
alike Ordering.eq Ordering.eq = true
alike Ordering.eq Ordering.gt = false
alike Ordering.gt Ordering.lt = false
alike Ordering.gt Ordering.eq = false
alike Ordering.gt Ordering.gt = true

abbrev pub asks : Cut → Test
asks c o d = alike (c d 30) o

-- b / 2 ^ s rounded to a whole number, to the even one on a tie
abbrev cut_off_of : ℕ → ℕ → ℕ
cut_off_of s b = (b + (2 ^ (s - 1) - 1) + b / 2 ^ s % 2) / 2 ^ s

-- A guess at the posit for (1 + m / 2 ^ 26) * 2 ^ n: regime, exponent bit and fraction, cut off to fifteen bits. The test
-- does not trust it.
abbrev pub guess : ℤ → ℕ → ℕ
guess (pos n) m = cut_off_of (n / 2 + 14) ((2 ^ (n / 2 + 3) - 4 + n % 2) * 2 ^ 26 + m)
guess (negsuc n) m = cut_off_of (n / 2 + 14) ((3 - n % 2) * 2 ^ 26 + m)

-- row 2's answer to a number that reaches the kernel
abbrev pub guessed : ℤ → ℕ
guessed q =
    let t = floor q (2 ^ 8) in
    guess (floor t (2 ^ 20)) (poly (modulo t (2 ^ 20)))

-- u is what row 2 rounds to and what is picked: its dividing numbers are computed once
abbrev both : ℤ → Cut → ℕ → Bool
both q c u =
    let below = dividing 1 16 (u - 1) in
    let above = dividing 1 16 u in
    picks (asks c) u below above && is_picked_of q u below above

abbrev pub agrees : Number → Row → Bool
agrees nar y = false
agrees (real q) (names u) = is_picked_of q u (dividing 1 16 (u - 1)) (dividing 1 16 u)
agrees (real q) (rounds nought) = false
agrees (real q) (rounds (plus c)) = both q c (guessed q)
agrees (real q) (rounds (minus c)) = false

asks_tells : (c : Cut) → Tells (asks c) c
asks_tells c o d t = go (c d 30) o t
  where
    go : (a b : Ordering) → T (alike a b) → a ≡ b
    go Ordering.lt Ordering.lt t = refl
    go Ordering.lt Ordering.eq t = absurd t
    go Ordering.lt Ordering.gt t = absurd t
    go Ordering.eq Ordering.lt t = absurd t
    go Ordering.eq Ordering.eq t = refl
    go Ordering.eq Ordering.gt t = absurd t
    go Ordering.gt Ordering.lt t = absurd t
    go Ordering.gt Ordering.eq t = absurd t
    go Ordering.gt Ordering.gt t = refl

pub agrees_agreed : (x : Number) (y : Row) → T (agrees x y) → Agreed x y
agrees_agreed nar y t = absurd t
agrees_agreed (real q) (names u) t = record { answer = u; meets = refl; picked = is_picked q u t }
agrees_agreed (real q) (rounds nought) t = absurd t
agrees_agreed (real q) (rounds (plus c)) t =
    let u = guessed q in
    let R = picks (asks c) u (dividing 1 16 (u - 1)) (dividing 1 16 u) in
    let P = is_picked_of q u (dividing 1 16 (u - 1)) (dividing 1 16 u) in
    record { answer = u; meets = picks_rounded (asks c) c (asks_tells c) u (and_l R P t); picked = is_picked q u (and_r R P t) }
agrees_agreed (real q) (rounds (minus c)) t = absurd t
