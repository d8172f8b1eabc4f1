-- The fields, the difference and the newline stand one after the other.
use Rattle.std.proofs.Common.{ℕ, ◌-◌, length, ap, arith, length-append}
use Rattle.line.specs.Line.{line_of}
use Rattle.line.proofs.Writing.{line_written, fitted-all}
use Rattle.line.proofs.put_line.Goals as goal

pub returns-clause-value : goal.returns-clause-value
unfolding line_of
returns-clause-value c =
    let a = c.args in
    let whole = fitted-all (length a.output.now - a.at) (line_of a.function a.pattern a.first a.second) (omega arith) in
    omega (arith, ap length whole, length-append {A = ℕ})

pub returns-clause-output_after : goal.returns-clause-output_after
unfolding line_of
returns-clause-output_after c =
    let a = c.args in
    let one = c.put_field-after_function.ensures in
    let two = c.put_field-after_pattern.ensures in
    let three = c.put_field-after_first.ensures in
    let four = c.put_field-after_second.ensures in
    let five = c.put_apart-end.ensures in
    cc (
      line_written a.output.now a.at _ _ _ _ _ _ _ _ _ _ 10 _ _ _ _ _ (one.value, one.output_after) (two.value, two.output_after) (three.value, three.output_after)
          (four.value, four.output_after) (five.value, five.output_after),
      fitted-all (length a.output.now - a.at) (line_of a.function a.pattern a.first a.second) (omega arith),
    )
