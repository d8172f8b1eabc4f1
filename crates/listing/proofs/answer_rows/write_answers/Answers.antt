-- Every function that stands there has its number, and one row more of the answers is written.
use Rattle.std.proofs.Common.{◌≡◌, ◌<◌, ◌+◌, ◌-◌, ◌*◌, ◌≤◌, length, get_or, map, [], true, sym, ap, ◌∙◌, arith}
use Rattle.std.proofs.lemmas.List.{get_or-map, length-map}
use Rattle.std.proofs.lemmas.List.Edits.{sets}
use Rattle.p16e1.specs.Functions.{known, function_number, answer_of}
use Rattle.p16e1.proofs.ByNumber.{numbered_is}
use Rattle.words.specs.Numbers.{bytes_of_all, number_at_of}
use Rattle.words.proofs.Writing.{length-bytes_of_all}
use Rattle.sections.proofs.Known.{known_in}
use Rattle.listing.specs.Answered.{numbers_in}
use Rattle.listing.proofs.Writing.{length-numbers_in, answers_next, next_row, row_within, sets_part}
use Rattle.listing.proofs.Known.{known_numbered}
use Rattle.listing.proofs.answer_rows.write_answers.Goals as goal
use borrow.Rule.Slice.PartMut.{put_mid}

pub unwrap-function-requires : goal.unwrap-function-requires
unwrap-function-requires c =
    let a = c.args in
    let i = c.loop-number.number-index in
    let n : c.from_le_bytes.result ≡ number_at_of (get_or a.functions.now i []) 0 = omega (arith, c.from_le_bytes.ensures) in
    let e : get_or (numbers_in a.functions.now) i 0 ≡ number_at_of (get_or a.functions.now i []) 0 =
    get_or-map (λ p. number_at_of p 0) a.functions.now i [] 0 c.loop-number-test.true in
    let k : known c.from_le_bytes.result ≡ true =
    let within : i < length (numbers_in a.functions.now) = omega (arith, length-numbers_in a.functions.now, c.loop-number-test.true) in
    ap known (n ∙ sym e) ∙ known_in (numbers_in a.functions.now) i within c.requires.all_known in
    rw c.try_from.ensures (known_numbered c.from_le_bytes.result k)

pub loop-number-preserved : goal.loop-number-preserved
loop-number-preserved c =
    let a = c.args in
    let l = c.loop-number in
    let i = l.number-index in
    let fs = a.functions.now in
    let ps = a.patterns.now in
    let f = c.unwrap-function.result in
    let number : c.from_le_bytes.result ≡ number_at_of (get_or fs i []) 0 = omega (arith, c.from_le_bytes.ensures) in
    let chosen : function_number f ≡ c.from_le_bytes.result =
    (numbered_is c.from_le_bytes.result f (sym c.try_from.ensures ∙ c.unwrap-function.ensures)).1 in
    let row = map (answer_of (function_number f)) (numbers_in ps) in
    let size : length (bytes_of_all row) ≡ 2 * length ps =
    omega (arith, length-bytes_of_all row, length-map (numbers_in ps) (answer_of (function_number f)), length-numbers_in ps) in
    let within : l.at + 2 * length ps ≤ length l.output =
    omega (arith, row_within i (length fs) (length ps) c.loop-number-test.true) in
    let k = l.at + 2 * length ps - l.at in
    let part : put_mid l.at k l.output c.write_row.new.row ≡ sets l.output l.at (bytes_of_all row) =
    ap (put_mid l.at k l.output) c.write_row.ensures ∙ sets_part l.output l.at k (bytes_of_all row) (omega arith) (omega arith) in
    record {
      place = omega (arith, next_row i (length ps));
      written = cc (answers_next a.output.now fs (numbers_in ps) i c.loop-number-test.true, length-numbers_in ps);
    }
