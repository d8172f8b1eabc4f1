-- Each arm meets its function's row, so that it gives the row's one answer.
use Rattle.std.proofs.Common.{rules}
use Rattle.p16e1.specs.Functions.{row_of}
use Rattle.p16e1.proofs.ByNumber.{answer_is}
use Rattle.p16e1.proofs.functions.Function.answer.Goals as goal

pub returns-in-Exp : goal.returns-in-Exp
unfolding row_of
returns-in-Exp c = answer_is _ _ _ (search rules)

pub returns-in-Exp2 : goal.returns-in-Exp2
unfolding row_of
returns-in-Exp2 c = answer_is _ _ _ (search rules)

pub returns-in-Ln : goal.returns-in-Ln
unfolding row_of
returns-in-Ln c = answer_is _ _ _ (search rules)

pub returns-in-Log2 : goal.returns-in-Log2
unfolding row_of
returns-in-Log2 c = answer_is _ _ _ (search rules)

pub returns-in-SinPi : goal.returns-in-SinPi
unfolding row_of
returns-in-SinPi c = answer_is _ _ _ (search rules)

pub returns-in-CosPi : goal.returns-in-CosPi
unfolding row_of
returns-in-CosPi c = answer_is _ _ _ (search rules)

pub returns-in-TanPi : goal.returns-in-TanPi
unfolding row_of
returns-in-TanPi c = answer_is _ _ _ (search rules)

pub returns-in-AtanPi : goal.returns-in-AtanPi
unfolding row_of
returns-in-AtanPi c = answer_is _ _ _ (search rules)

pub returns-in-AsinPi : goal.returns-in-AsinPi
unfolding row_of
returns-in-AsinPi c = answer_is _ _ _ (search rules)

pub returns-in-AcosPi : goal.returns-in-AcosPi
unfolding row_of
returns-in-AcosPi c = answer_is _ _ _ (search rules)
