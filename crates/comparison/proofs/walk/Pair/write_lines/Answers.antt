-- the lines of the places before the place reached, and one line more
use Rattle.std.proofs.Common.{arith}
use Rattle.std.proofs.Math.Nat.{mul-le-mul}
use Rattle.comparison.proofs.Walking.{line_length, started, ended, shown_alone, further, one_further}
use Rattle.comparison.proofs.walk.Pair.write_lines.Goals as goal

pub loop-place-init : goal.loop-place-init
loop-place-init c = started _ _ _ _ _ _ _ c.next_difference-place.ensures

pub overflow_add-at : goal.overflow_add-at
overflow_add-at c =
    let p = c.args.self.now in
    omega (arith, mul-le-mul p.few_functions p.few_patterns, line_length p.first.now p.second.now p.functions p.patterns c.loop-place.place)

pub returns-then-short : goal.returns-then-short
returns-then-short c =
    let w = c.write_line-at in
    let alone = shown_alone _ _ _ _ _ _ _ _ _ c.loop-place.invariant (omega arith) w.result w.ensures.value w.new.output w.ensures.output_after c.if-short.true in
    record { value = alone.0; output_after = alone.1 }

pub loop-place-smaller : goal.loop-place-smaller
loop-place-smaller c =
    let w = c.write_line-at in
    let n = c.next_difference-place-in-loop-place in
    let h = further _ _ _ _ _ _ _ _ _ c.loop-place.invariant (omega arith) w.result w.ensures.value w.new.output w.ensures.output_after n.result n.ensures in
    omega arith

pub loop-place-preserved : goal.loop-place-preserved
loop-place-preserved c =
    let w = c.write_line-at in
    let n = c.next_difference-place-in-loop-place in
    one_further _ _ _ _ _ _ _ _ _ c.loop-place.invariant (omega arith) w.result w.ensures.value w.new.output w.ensures.output_after n.result n.ensures c.if-short.false

pub returns : goal.returns
returns c =
    let t = ended _ _ _ _ _ _ _ _ _ c.loop-place.invariant (omega arith) in
    record { value = t.0; output_after = t.1 }
