-- The rows of the functions before the place reached are written.
use Rattle.std.proofs.Common.{◌≡◌, ◌*◌, length, take}
use Rattle.std.proofs.lemmas.List.Edits.{sets}
use Rattle.words.specs.Numbers.{bytes_of_all}
use Rattle.listing.specs.Answered.{answers, numbers_in}
use Rattle.listing.proofs.answer_rows.write_answers.Given as goal

abbrev pub invariant-loop-number : goal.invariant-loop-number
invariant-loop-number l = record {
  place : l.at ≡ 2 * (l.number-index * length l.patterns);
  written : l.output ≡ sets l.fn.output 0 (bytes_of_all (answers (numbers_in (take l.number-index l.functions)) (numbers_in l.patterns)));
}
