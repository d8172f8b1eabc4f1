-- Row 8 of document 01: atan_pi.
use Rattle.std.specs.Prelude.{ℕ, ◌+◌, ◌-◌, ◌*◌, ◌/◌, ◌^◌, cond, leb, pos}
use Rattle.posit.specs.Number.{Number, nar, real, number, size}
use Rattle.posit.specs.Rounding.{over}
use Rattle.rows.specs.Rows.{Row, names, rounds, by_sign}

-- P: `poly` of src/p16e1/math/atan_pi.rs
unfoldable pub poly : ℕ → ℕ
poly f =
    let fsq = f * f / 2 ^ 28 in
    let a = fsq * 6969 / 2 ^ 24 in
    let b = fsq * (530432 - a) / 2 ^ 28 in
    let c = fsq * (1273944 - b) / 2 ^ 28 in
    let d = fsq * (2358656 - c) / 2 ^ 27 in
    let e = fsq * (9340208 - d) / 2 ^ 29 in
    let g = fsq * (17568064 - e) / 2 ^ 24 in
    (f + 1) * 2 ^ 30 / (843315168 + g)

-- the quotients that the file has for small and for large magnitudes, k / 2 ^ 28 and f / 2 ^ 8
unfoldable pub small : ℕ → ℕ
small k = k * 2 ^ 30 / (k * k / 2 ^ 34 * 67 + 843314118)

unfoldable pub large : ℕ → ℕ
large f = 0x2000_0000 - 0x0002_8BE5_FF80_0000 / (f * 2 ^ 13 + 0x0AA5_5000 / f)

-- "four ranges of the magnitude pattern: to 4925, to 0x3FFF, to 27108, above; each by its own quotient in the file": K, for
-- the magnitude pattern u and the magnitude k / 2 ^ 28
unfoldable pub quotient : ℕ → ℕ → ℕ
quotient u k =
    cond (leb u 4925) (small k)
    (cond (leb u 0x3fff) (poly k)
    (cond (leb u 27108) (0x2000_0000 - poly (2 ^ 40 / (k / 2 ^ 16))) (large (k / 2 ^ 20))))

-- "0 and NaR: themselves"; "rounded K/2^30"
abbrev pub otherwise : ℕ → Number → Row
otherwise u nar = names 0x8000
otherwise u (real q) = by_sign (λ k. rounds (over (pos (quotient u k)) 30)) q

unfoldable pub row : ℕ → Row
row p = otherwise (size 16 p) (number 1 16 p)
