-- What the first i patterns give stands in front.
use Rattle.std.proofs.Common.{◌≡◌, ◌*◌, take}
use Rattle.posit.specs.Number.{number}
use Rattle.blocks.specs.Words.{words_at, for_each}
use Rattle.reals.specs.Reals.{bytes_of}
use Rattle.reals.proofs.convert.Given as goal

abbrev pub invariant-loop-i : goal.invariant-loop-i
invariant-loop-i l = take (8 * l.i) l.output ≡ for_each (λ p. bytes_of (number 1 16 p)) (words_at 2 l.bytes 0 l.i)
