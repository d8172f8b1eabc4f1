-- The units have few enough digits for an f64, and so has their product with 2^-30.
use Rattle.std.proofs.Common.{arith}
use lib.Ieee.{of_bits}
use Rattle.real.proofs.Exact.{scaled-magnitude}
use Rattle.spans.proofs.magnitude_of.Goals as goal

pub returns : goal.returns
unfolding of_bits
returns c =
    scaled-magnitude 17 c.args.v 29 c.units_17.result c.nearest_u64_to_f64.result (omega arith) (omega arith) (omega arith)
    c.units_17.ensures c.nearest_u64_to_f64.ensures
