-- What decoding hands to the functions: a pattern's magnitude as (1 + fraction / 4096) * 2 ^ power, in units of 2 ^ -28.
use Rattle.std.specs.Prelude.{◌≡◌, ℕ, ◌+◌, ◌*◌, ◌^◌, ◌<◌, ◌≤◌}
use Rattle.posit.specs.Number.{magnitude}

pub record Decodes (p power fraction : ℕ) : Type 0 where
  pub value : magnitude 1 16 p * 2 ^ 12 ≡ (2 ^ 12 + fraction) * 2 ^ power
  pub small : fraction < 2 ^ 12
  pub few : power ≤ 57
