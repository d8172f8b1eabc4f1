-- Row 5 is one of the rows by sign.
use Rattle.std.proofs.Common.{refl}
use Rattle.circular.specs.SinPi.{unsigned, sine, otherwise}
use Rattle.circular.proofs.Rows.Odd.{Odd}

pub sine-odd : Odd otherwise sine
unfolding sine unsigned
sine-odd = record { at_nar = refl; at_zero = refl; at_real = λ q. refl }
