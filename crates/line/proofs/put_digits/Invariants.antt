-- What is left to write, written now, would give the end.
use Rattle.std.proofs.Common.{◌≡◌}
use Rattle.std.proofs.lemmas.List.Edits.{sets}
use Rattle.line.specs.Line.{digits}
use Rattle.line.proofs.put_digits.Given as goal

abbrev pub invariant-loop-left : goal.invariant-loop-left
invariant-loop-left l = sets l.output l.at (digits l.left l.rest) ≡ sets l.fn.output l.at (digits l.count l.n)
