-- the refusal's number, nothing, or the lines
use Rattle.std.proofs.Common.{arith}
use Rattle.comparison.proofs.Pairs.{number_told, nothing_told, lines_told}
use Rattle.comparison.proofs.compare.Goals as goal

pub returns-in-Err : goal.returns-in-Err
returns-in-Err c =
    let a = c.args in
    let put = c.put_number_line in
    let t = number_told a.first.now a.second.now a.short a.output.now c.in-Err.refusal c.in-Err.ensures c.from.result c.from.ensures put.result put.new.output
    put.ensures.value put.ensures.output_after in
    record { value = t.0; output_after = t.1.0; prefix_len = t.1.1 }

pub returns-then-output-most_lines : goal.returns-then-output-most_lines
returns-then-output-most_lines c =
    let a = c.args in
    let p = c.in-Ok.pair in
    let t = nothing_told a.first.now a.second.now a.short a.output.now (record { functions = p.functions; patterns = p.patterns }) c.in-Ok.ensures.2 (grind arith) in
    record { value = t.0; output_after = t.1.0; prefix_len = t.1.1 }

pub returns-else-output-most_lines : goal.returns-else-output-most_lines
returns-else-output-most_lines c =
    let a = c.args in
    let p = c.in-Ok.pair in
    let w = c.write_lines in
    let t = lines_told a.first.now a.second.now a.short a.output.now (record { functions = p.functions; patterns = p.patterns }) c.in-Ok.ensures.2
    (grind arith) w.result w.new.output (grind arith) (grind arith) in
    record { value = t.0; output_after = t.1.0; prefix_len = t.1.1 }
