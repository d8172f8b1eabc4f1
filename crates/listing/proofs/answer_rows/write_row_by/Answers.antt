-- One answer more of the row is written, low byte first.
use Rattle.std.proofs.Common.{◌≡◌, suc, ◌+◌, ◌*◌, ◌/◌, ◌%◌, [], get_or, ap, ◌∙◌, arith, add-one}
use Rattle.words.specs.Numbers.{number_at_of}
use Rattle.listing.proofs.Writing.{row_next}
use Rattle.p16e1.specs.Functions.{function_number}
use Rattle.listing.proofs.answer_rows.write_row_by.Goals as goal

pub loop-i-preserved : goal.loop-i-preserved
loop-i-preserved c =
    let a = c.args in
    let i = c.loop-i.i in
    let r = c.to_le_bytes.result in
    let p : c.from_le_bytes.result ≡ number_at_of (get_or a.patterns.now i []) 0 = omega (arith, c.from_le_bytes.ensures) in
    let low : get_or r 0 0 ≡ c.answer.result % 256 = ap (λ l. get_or l 0 0) c.to_le_bytes.ensures in
    let high : get_or r 1 0 ≡ c.answer.result / 256 =
    ap (λ l. get_or l 1 0) c.to_le_bytes.ensures ∙ omega (arith, c.answer.type_inv) in
    let s : 2 * i + 1 ≡ suc (2 * i) = add-one (2 * i) in
    cc (row_next a.row.now (function_number a.function) a.patterns.now i c.loop-i-test.true)
