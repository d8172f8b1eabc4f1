-- The function that has the number gives its row's answer.
use Rattle.std.proofs.Common.{◌≡◌, sym, ◌∙◌}
use Rattle.std.specs.Prelude.{Ok}
use Rattle.p16e1.specs.Functions.{function_numbered, row_of, answer_of}
use Rattle.p16e1.proofs.ByNumber.{numbered_is, meets_answer}
use Rattle.p16e1.proofs.functions.answer.Goals as goal

pub returns : goal.returns
unfolding answer_of
returns c =
    let f = c.in_ok-try_from.field-0 in
    let e : function_numbered c.args.function ≡ Ok f = sym c.try_from.ensures ∙ c.in_ok-try_from.was in
    let n = numbered_is c.args.function f e in
    (n.0, rw (c.answer.ensures, n.1) (meets_answer (row_of c.args.function c.args.p)))
