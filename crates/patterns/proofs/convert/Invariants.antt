-- What the first i f64s give stands in front.
use Rattle.std.proofs.Common.{◌≡◌, ◌*◌, take}
use Rattle.blocks.specs.Words.{words_at, for_each}
use Rattle.patterns.specs.Patterns.{bytes_of}
use Rattle.patterns.proofs.convert.Given as goal

abbrev pub invariant-loop-i : goal.invariant-loop-i
invariant-loop-i l = take (2 * l.i) l.output ≡ for_each bytes_of (words_at 8 l.bytes 0 l.i)
