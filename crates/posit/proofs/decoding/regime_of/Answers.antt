-- r is small, on either side of zero, and twice it, counted from -28, is not below zero.
use Rattle.std.proofs.Common.{◌≡◌, cond, pos, ◌+ℤ◌, ◌*ℤ◌, nat_abs, ap, arith, w32, to_z, of_z}
use Rattle.std.proofs.lemmas.Int.{ints}
use mir.Facts.{Fits-of_lt}
use Rattle.posit.specs.Number.{regime}
use Rattle.posit.proofs.Fields.{run_most, regime_most}
use Rattle.posit.proofs.decoding.regime_of.Goals as goal
use Rattle.posit.proofs.decoding.regime_of.Goals.{then-ones, else-ones}

summed : (c : goal.Joined-ones) → to_z w32 (of_z w32 (pos 28 +ℤ to_z w32 (of_z w32 (pos 2 *ℤ to_z w32 c.if-ones.r-bits)))) ≡ pos (regime 1 16 (cond c.args.ones 1 0) c.args.m)
summed c =
    elim c.if-ones.branch [
      | then-ones w ↦ let few = rw w.if-ones.true at c.requires.1 in rw w.if-ones.true (omega (arith, ints))
      | else-ones w ↦ let few = rw w.if-ones.false at c.requires.1 in rw w.if-ones.false (omega (arith, ints))
    ]

pub overflow_cast-result : goal.overflow_cast-result
overflow_cast-result c =
    rw (summed c) (tt, Fits-of_lt (let few = regime_most (cond c.args.ones 1 0) c.args.m (run_most c.args.ones c.args.m c.requires.1) in omega arith))

pub returns : goal.returns
returns c = ap nat_abs (summed c)
