-- "x = (1 + h/4096)·2^E", for a number x above zero that is k / 2 ^ 28.
use Rattle.std.specs.Prelude.{ℕ, ◌-◌, ◌*◌, ◌/◌, ◌^◌}
use Rattle.std.specs.Int.Count.{count_leading_zeros}

-- E + 28: the place of k's highest bit
unfoldable pub power : ℕ → ℕ
power k = 63 - count_leading_zeros 64 k

-- h
unfoldable pub fraction : ℕ → ℕ
fraction k = k * 2 ^ 12 / 2 ^ power k - 2 ^ 12
