-- Row 3 of document 01: ln.
use Rattle.std.specs.Prelude.{ℕ, zero, suc, ◌+◌, ◌*◌, ◌/◌, ◌^◌, ℤ, pos, negsuc, ◌-ℤ◌}
use Rattle.posit.specs.Number.{Number, nar, real, number}
use Rattle.posit.specs.Rounding.{Known, negated, over}
use Rattle.logarithm.specs.Leading.{power, fraction}
use Rattle.rows.specs.Rows.{Row, names, rounds}

-- P: `poly` of src/p16e1/math/ln.rs
unfoldable pub poly : ℕ → ℕ
poly f =
    let z = (f * 2 ^ 31 + 2) / (f + 8192) in
    let zsq = z * z / 2 ^ 30 in
    let a = zsq * 1584 / 2 ^ 28 in
    let b = zsq * (26661 + a) / 2 ^ 29 in
    let c = zsq * (302676 + b) / 2 ^ 27 in
    let d = zsq * (16136153 + c) / 2 ^ 30 in
    z * (193635259 + d) / 2 ^ 27

-- "L = 2^30·E + P(h)", where E is power k - 28
unfoldable pub logarithm : ℕ → ℤ
logarithm k = pos (2 ^ 30 * power k + poly (fraction k)) -ℤ pos (2 ^ 30 * 28)

-- "M = floor of the magnitude of L times c over 2^28, c = 186,065,280 if L is negative, else 186,065,279; rounded M/2^30
-- with L's sign"
abbrev pub natural : ℤ → Known
natural (pos l) = over (pos (l * 186065279 / 2 ^ 28)) 30
natural (negsuc l) = negated (over (pos (suc l * 186065280 / 2 ^ 28)) 30)

-- "0 and above 0x7FFF: NaR"
abbrev pub otherwise : Number → Row
otherwise nar = names 0x8000
otherwise (real (pos zero)) = names 0x8000
otherwise (real (pos (suc k))) = rounds (natural (logarithm (suc k)))
otherwise (real (negsuc k)) = names 0x8000

unfoldable pub row : ℕ → Row
row p = otherwise (number 1 16 p)
