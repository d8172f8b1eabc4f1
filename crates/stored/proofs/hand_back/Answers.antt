-- The state's bytes, their count and the refusal stand side by side.
use Rattle.std.proofs.Common.{◌≡◌, length, false, rules, arith, ◌∙◌}
use Rattle.refusals.specs.Refusals.{number_or_zero, is_state}
use Rattle.stored.specs.Stored.{layout}
use Rattle.stored.proofs.LaidOut.{laid_out}
use Rattle.stored.proofs.hand_back.Goals as goal

pub returns : goal.returns
unfolding layout
returns c =
    let s = c.args.state in
    let was = c.args.stored.now in
    let other : is_state c.args.refusal ≡ false = grind arith in
    let full : length s.bytes ≡ 2072 = search rules in
    let room : length was ≡ 2076 = search rules in
    let whole = laid_out s.bytes was s.count (number_or_zero s.refusal) full room in
    rw other (c.put_number-2.ensures ∙ rw (c.put_number.ensures, c.copy_from_slice.ensures.after, c.number.ensures) whole)
