-- The first i answers are written, and the NaR among them are counted.
use Rattle.std.proofs.Common.{◌≡◌, ◌≤◌, map, take}
use Rattle.p16e1.specs.Functions.{answer_of, function_number}
use Rattle.batch.specs.Batch.{nars_in}
use Rattle.batch.proofs.fill.fill_by.Given as goal

abbrev pub invariant-loop-i : goal.invariant-loop-i
invariant-loop-i l = record {
  few : l.nars ≤ l.i;
  written : take l.i l.output ≡ map (answer_of (function_number l.function)) (take l.i l.input);
  counted : l.nars ≡ nars_in (take l.i l.output);
}
