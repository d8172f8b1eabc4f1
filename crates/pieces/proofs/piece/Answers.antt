-- What is found of the bytes so far and the next ones.
use Rattle.std.proofs.Common.{arith}
use Rattle.pieces.proofs.Joined.{kept}
use Rattle.pieces.proofs.piece.Goals as goal

pub returns : goal.returns
returns c = rw c.from-count.ensures (grind (arith, kept))
