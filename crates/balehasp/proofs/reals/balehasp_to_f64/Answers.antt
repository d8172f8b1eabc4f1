-- Each case of the answer says what its way out has to say.
use Rattle.std.proofs.Common.{refl}
use Rattle.balehasp.proofs.reals.balehasp_to_f64.Goals as goal

pub returns-in_default : goal.returns-in_default
returns-in_default c = (c.in_default.ensures, refl)

pub returns : goal.returns
returns c = c.in-Real.ensures
