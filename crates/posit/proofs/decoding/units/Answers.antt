-- The number that `fields_of` says, shifted to units, is whole.
use Rattle.std.proofs.Common.{◌+◌, ◌/◌, ◌%◌, ◌^◌, arith}
use Rattle.posit.proofs.Decodings.{scaled_back}
use Rattle.posit.proofs.decoding.units.Goals as goal

pub returns : goal.returns
returns c =
    let f = c.fields_of-f.result in
    scaled_back _ (f.bits / 2 ^ 51 % 4096) (f.regime + f.bits / 2 ^ 63) _ _ c.fields_of-f.ensures.decodes.value (omega arith) (omega arith)
