-- Row 2 of document 01: exp2.
use Rattle.std.specs.Prelude.{ℕ, ◌+◌, ◌*◌, ◌/◌, ◌^◌, ℤ, pos, ◌-ℤ◌}
use Rattle.posit.specs.Rounding.{Known, dyadic}
use Rattle.exponential.specs.Ends.{ends}
use Rattle.rows.specs.Floor.{floor, modulo}
use Rattle.rows.specs.Rows.{Row}

-- P: `poly` of src/p16e1/math/exp2.rs
unfoldable pub poly : ℕ → ℕ
poly f =
    let a = f * (0x9BA0_0000 + f * 491) / 2 ^ 34 in
    let b = f * (0x0013_F840 + a) / 2 ^ 20 in
    let c = f * (0x0071_8A80 + b) / 2 ^ 16 in
    let d = f * (0x1EC0_4000 + c) / 2 ^ 21 in
    f * (0x2C5C_8000 + d) / 2 ^ 24

-- "t = x·2^20, n = floor(t/2^20); rounded (2^26 + P(t mod 2^20))·2^(n-26)", where x is q / 2 ^ 28. t is whole for every
-- pattern that comes here, so the floor in it takes nothing away.
abbrev pub kernel : ℤ → Known
kernel q =
    let t = floor q (2 ^ 8) in
    dyadic (pos (2 ^ 26 + poly (modulo t (2 ^ 20)))) (floor t (2 ^ 20) -ℤ pos 26)

-- "below 221 or above 65379: 0x4000; 29377 to 0x7FFF: 0x7FFF; 0x8001 to 36159: 0x0001; NaR: NaR"
abbrev pub row : ℕ → Row
row = ends 221 65379 29377 36159 kernel
