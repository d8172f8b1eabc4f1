-- The answers to the first `i` patterns are written.
use Rattle.std.proofs.Common.{◌≡◌, map, take}
use Rattle.std.proofs.lemmas.List.Edits.{sets}
use Rattle.p16e1.specs.Functions.{function_number, answer_of}
use Rattle.words.specs.Numbers.{bytes_of_all}
use Rattle.listing.specs.Answered.{numbers_in}
use Rattle.listing.proofs.answer_rows.write_row_by.Given as goal

abbrev pub invariant-loop-i : goal.invariant-loop-i
invariant-loop-i l =
    l.row ≡ sets l.fn.row 0 (bytes_of_all (map (answer_of (function_number l.function)) (numbers_in (take l.i l.patterns))))
