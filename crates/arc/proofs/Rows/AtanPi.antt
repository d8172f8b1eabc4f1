-- What row 8 says, case by case and range by range.
use Prim.Native.Nat.{ℕ, ◌-◌, ◌/◌, ◌^◌, ◌≤◌, ◌<◌}
use mathlib.Core.Path.{◌≡◌, ap, refl}
use mathlib.Core.Bool.{cond}
use native.Mathlib.Omega.{arith}
use borrow.Author.Tests.{le-leb, lt-leb}
use lib.Dec.{ltb}
use lib.IntN.{pos}
use Rattle.posit.specs.Number.{magnitude, size}
use Rattle.posit.specs.Rounding.{over}
use Rattle.posit.specs.Sides.{RoundsSided, outright, negated_sided}
use Rattle.posit.specs.declared.side.Sided.{Sided}
use Rattle.posit.proofs.Patterns.{number-zero, number_nar}
use Rattle.rows.specs.Rows.{names, rounds, MeetsSided}
use Rattle.arc.specs.AtanPi.{poly, small, large, quotient, otherwise, row}
use Rattle.rows.proofs.Signs.{number_sided}

module _ (u k : ℕ) where
  pub quotient-small : u ≤ 4925 → quotient u k ≡ small k
  unfolding quotient
  quotient-small h = rw (le-leb u 4925 h)

  pub quotient-below_one : 4925 < u → u ≤ 0x3fff → quotient u k ≡ poly k
  unfolding quotient
  quotient-below_one l h = rw (lt-leb u 4925 l, le-leb u 0x3fff h)

  pub quotient_from_one : 0x3fff < u → u ≤ 27108 → quotient u k ≡ 0x2000_0000 - poly (2 ^ 40 / (k / 2 ^ 16))
  unfolding quotient
  quotient_from_one l h = rw (lt-leb u 4925 (omega arith), lt-leb u 0x3fff l, le-leb u 27108 h)

  pub quotient-large : 27108 < u → quotient u k ≡ large (k / 2 ^ 20)
  unfolding quotient
  quotient-large l = rw (lt-leb u 4925 (omega arith), lt-leb u 0x3fff (omega arith), lt-leb u 27108 l)

pub zero_itself : MeetsSided (row 0) (outright 0)
unfolding row quotient small
zero_itself = rw (number-zero 1 16) (refl, refl)

pub nar_itself : row 0x8000 ≡ names 0x8000
unfolding row
nar_itself = ap (otherwise (size 16 0x8000)) (number_nar 1 16)

pub by_quotient : (p : ℕ) (a : Sided) → 0 < p → p < 0x10000 → (p ≡ 0x8000 → ⊥)
    → RoundsSided 1 16 (over (pos (quotient (size 16 p) (magnitude 1 16 (size 16 p)))) 30) a → MeetsSided (row p) (cond (ltb 0x8000 p) (negated_sided a) a)
unfolding row
by_quotient p a l h out m = number_sided p (otherwise (size 16 p)) (λ k. rounds (over (pos (quotient (size 16 p) k)) 30)) (λ q. refl) l h out a m
