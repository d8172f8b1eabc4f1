-- What row 9 says, case by case.
use Prim.Native.Nat.{ℕ, ◌-◌, ◌*◌, ◌^◌, ◌≤◌, ◌<◌}
use mathlib.Core.Path.{◌≡◌, refl}
use mathlib.Core.Bool.{cond}
use native.Mathlib.Omega.{arith}
use borrow.Author.Tests.{lt-ltb, le-ltb}
use lib.Dec.{ltb}
use lib.IntN.{pos}
use Rattle.posit.specs.Number.{magnitude, size}
use Rattle.posit.specs.Rounding.{over}
use Rattle.posit.specs.Sides.{RoundsSided, outright, negated_sided}
use Rattle.posit.specs.declared.side.Sided.{Sided}
use Rattle.posit.proofs.Patterns.{number-zero}
use Rattle.arc.specs.Root.{root}
use Rattle.rows.specs.Rows.{names, rounds, MeetsSided}
use Rattle.arc.specs.AsinPi.{poly, arc, otherwise, row}
use Rattle.rows.proofs.Signs.{number_sided}

module _ (u k : ℕ) where
  pub arc-below_half : u < 0x3000 → arc u k ≡ poly k
  unfolding arc
  arc-below_half h = rw (lt-ltb u 0x3000 h)

  pub arc_from_half : 0x3000 ≤ u → arc u k ≡ 2 ^ 29 - 2 * poly (root ((2 ^ 28 - k) * 2 ^ 27))
  unfolding arc
  arc_from_half l = rw (le-ltb u 0x3000 l)

pub zero_itself : MeetsSided (row 0) (outright 0)
unfolding row arc poly
zero_itself = rw (number-zero 1 16) (refl, refl)

pub past_one : (p : ℕ) → 0x4000 < size 16 p → row p ≡ names 0x8000
unfolding row
past_one p h = rw (lt-ltb 0x4000 (size 16 p) h)

pub not_nar : (p : ℕ) → size 16 p ≤ 0x4000 → p ≡ 0x8000 → ⊥
not_nar p s e = let z : 0x8000 ≤ 0x4000 = rw e at s in omega arith

pub by_arc : (p : ℕ) (a : Sided) → 0 < p → p < 0x10000 → size 16 p ≤ 0x4000
    → RoundsSided 1 16 (over (pos (arc (size 16 p) (magnitude 1 16 (size 16 p)))) 30) a → MeetsSided (row p) (cond (ltb 0x8000 p) (negated_sided a) a)
unfolding row
by_arc p a l h s m =
    rw (le-ltb 0x4000 (size 16 p) s)
    (number_sided p (otherwise (size 16 p)) (λ k. rounds (over (pos (arc (size 16 p) k)) 30)) (λ q. refl) l h (not_nar p s) a m)
