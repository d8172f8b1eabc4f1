-- A call from beyond the end does nothing; one that is not refused fills the places from its start on, up to its limit or the end.
use Rattle.std.proofs.Common.{sym, ◌∙◌, arith}
use Rattle.p16e1.proofs.ByNumber.{numbered_is}
use Rattle.refusals.specs.declared.Refusal.TheVariants.{Start}
use Rattle.batch.proofs.Order.{start_beyond, refused_does_nothing, accepted_does}
use Rattle.batch.proofs.batch.Goals as goal

pub returns-then-input-start-clause-value : goal.returns-then-input-start-clause-value
returns-then-input-start-clause-value c =
    let a = c.args in
    let k = numbered_is a.function _ (sym c.try_from.ensures ∙ c.in_ok-function.was) in
    let e = start_beyond a.function _ _ _ k.0 (omega arith) (omega arith) in
    sym (refused_does_nothing a.function a.input.now a.output.now a.start a.limit Start e).0

pub returns : goal.returns
returns c =
    let a = c.args in
    let filled = c.fill-nars.ensures in
    let done =
    accepted_does a.function a.input.now a.output.now a.start a.limit _ (sym c.try_from.ensures ∙ c.in_ok-function.was)
    (omega arith) (omega arith) c.min-n.result _ _ _ (omega arith) (omega arith) filled.value filled.output_after in
    record { value = done.0; output_after = done.1 }
