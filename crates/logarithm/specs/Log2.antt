-- Row 4 of document 01: log2.
use Rattle.std.specs.Prelude.{ℕ, zero, suc, ◌+◌, ◌*◌, ◌/◌, ◌^◌, ℤ, pos, negsuc, ◌-ℤ◌}
use Rattle.posit.specs.Number.{Number, nar, real, number}
use Rattle.posit.specs.Rounding.{over}
use Rattle.logarithm.specs.Leading.{power, fraction}
use Rattle.rows.specs.Rows.{Row, names, rounds}

-- P: `poly` of src/p16e1/math/log2.rs
unfoldable pub poly : ℕ → ℕ
poly f =
    let z = f * 2 ^ 29 / (f + 8192) in
    let zsq = z * z / 2 ^ 30 in
    let a = zsq * 1661 / 2 ^ 25 in
    let b = zsq * (13209 + a) / 2 ^ 26 in
    let c = zsq * (75694 + b) / 2 ^ 24 in
    let d = zsq * (2017019 + c) / 2 ^ 24 in
    z * (96817627 + d) / 2 ^ 26

-- "L = 2^28·E + P(h)", where E is power k - 28
unfoldable pub logarithm : ℕ → ℤ
logarithm k = pos (2 ^ 28 * power k + poly (fraction k)) -ℤ pos (2 ^ 28 * 28)

-- "0 and above 0x7FFF: NaR"; "rounded L/2^28"
abbrev pub otherwise : Number → Row
otherwise nar = names 0x8000
otherwise (real (pos zero)) = names 0x8000
otherwise (real (pos (suc k))) = rounds (over (logarithm (suc k)) 28)
otherwise (real (negsuc k)) = names 0x8000

unfoldable pub row : ℕ → Row
row p = otherwise (number 1 16 p)
