-- One byte more of the input is written after the first `i`, and those that fit are all that counts.
use Rattle.std.proofs.Common.{arith, zero-add}
use Rattle.words.proofs.Writing.{sets_take, sets_fitting}
use Rattle.words.proofs.copy.Goals as goal

pub loop-i-preserved : goal.loop-i-preserved
loop-i-preserved c = cc (sets_take c.args.output.now 0 c.args.input.now c.loop-i.i (omega arith), zero-add c.loop-i.i)

pub returns : goal.returns
returns c = cc (c.loop-i.invariant, sets_fitting c.args.output.now 0 c.args.input.now c.loop-i.i (omega arith))
