-- A section that is refused refuses the two.
use Rattle.std.proofs.lemmas.Result.{err_from_is_err_and}
use Rattle.sections.proofs.Reading.{first_refused, second_refused}
use Rattle.sections.proofs.read_sections.Goals as goal

pub returns-in_err-functions : goal.returns-in_err-functions
returns-in_err-functions c =
    let p = err_from_is_err_and c.from_residual.result c.from_residual.ensures.1 in
    rw (p.1, p.2) (first_refused c.args.bytes.now _ c.in_err-functions.ensures)

pub returns-in_err-patterns : goal.returns-in_err-patterns
returns-in_err-patterns c =
    let p = err_from_is_err_and c.from_residual-in_err-patterns.result c.from_residual-in_err-patterns.ensures.1 in
    let f = c.in_ok-functions in
    rw (p.1, p.2) (second_refused c.args.bytes.now f.functions f.ensures c.if-not-all_known.ensures _ c.in_err-patterns.ensures)
