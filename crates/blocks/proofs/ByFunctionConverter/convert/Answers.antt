-- The function's own call is the one.
use Rattle.std.proofs.Common.{refl}
use Rattle.blocks.proofs.ByFunctionConverter.convert.Goals as goal

pub returns : goal.returns
returns g c = (_, c.convert-written.result, _, refl, c.convert-written.ensures.0, refl)
