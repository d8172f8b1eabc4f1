-- In each range of the pattern the magnitude is such that the range's own quotient can be formed.
use Rattle.std.proofs.Common.{ℕ, ◌-◌, ◌/◌, ◌^◌, ◌≤◌, ◌∙◌, sym, ap, arith, le_trans, lit≤}
use native.Mathlib.Nat.{div-le_of_le-mul}
use Rattle.posit.specs.Number.{magnitude, run}
use Rattle.arc.specs.AtanPi.{poly, small, large}
use Rattle.rows.proofs.Sizes.{no_larger, to_one, below_one, from_one}
use Rattle.arc.proofs.Rows.AtanPi.{quotient-small, quotient-below_one, quotient_from_one, quotient-large}
use Rattle.arc.proofs.math.atan_pi.angle.Goals as goal

-- the magnitudes of the last range lie above 8, and none is larger than 2 ^ 28
from-eight : 2 ^ 31 ≤ magnitude 1 16 27109
unfolding magnitude run
from-eight = lit≤ tt

to-largest : magnitude 1 16 0x7fff ≤ 2 ^ 56
unfolding magnitude run
to-largest = lit≤ tt

far : (u : ℕ) → 27109 ≤ u → u ≤ 0x7fff → (2 ^ 31 ≤ magnitude 1 16 u) × (magnitude 1 16 u ≤ 2 ^ 56)
far u l h = (le_trans from-eight (no_larger 27109 u (lit≤ tt) l h), le_trans (no_larger u 0x7fff (omega arith) h (lit≤ tt)) to-largest)

pub small_angle-requires : goal.small_angle-requires
small_angle-requires c = rw c.units-x.ensures (below_one c.args.size (omega arith) (omega arith))

pub returns-then-size-le4925 : goal.returns-then-size-le4925
returns-then-size-le4925 c =
    c.small_angle.ensures ∙ ap small c.units-x.ensures ∙ sym (quotient-small c.args.size _ (omega arith))

pub atan_poly-requires : goal.atan_poly-requires
atan_poly-requires c = rw c.units-x.ensures (to_one c.args.size (omega arith) (omega arith))

pub returns-then-size-le16383 : goal.returns-then-size-le16383
returns-then-size-le16383 c =
    c.atan_poly.ensures ∙ ap poly c.units-x.ensures ∙ sym (quotient-below_one c.args.size _ (omega arith) (omega arith))

pub nonzero_div-x : goal.nonzero_div-x
nonzero_div-x c = rw c.units-x.ensures (let l = from_one c.args.size (omega arith) (omega arith) in omega arith)

pub atan_poly-requires-then-size-le27108 : goal.atan_poly-requires-then-size-le27108
atan_poly-requires-then-size-le27108 c =
    rw c.units-x.ensures (div-le_of_le-mul _ (let l = from_one c.args.size (omega arith) (omega arith) in omega arith))

pub returns-then-size-le27108 : goal.returns-then-size-le27108
returns-then-size-le27108 c =
    ap (λ (y : ℕ). 0x2000_0000 - y)
    (c.atan_poly-then-size-le27108.ensures ∙ ap (λ (x : ℕ). poly (2 ^ 40 / (x / 2 ^ 16))) c.units-x.ensures)
    ∙ sym (quotient_from_one c.args.size _ (omega arith) (omega arith))

pub large_angle-requires : goal.large_angle-requires
large_angle-requires c = rw c.units-x.ensures (let l = far c.args.size (omega arith) (omega arith) in (omega arith, omega arith))

pub returns : goal.returns
returns c =
    c.large_angle.ensures ∙ ap (λ (x : ℕ). large (x / 2 ^ 20)) c.units-x.ensures ∙ sym (quotient-large c.args.size _ (omega arith))
