-- The answer of `from_f64`.
use Rattle.balehasp.proofs.reals.balehasp_from_f64.Goals as goal

pub returns : goal.returns
returns c = c.from_f64.ensures
