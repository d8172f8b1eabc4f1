-- Row 9 of document 01: asin_pi.
use Rattle.std.specs.Prelude.{ℕ, ◌+◌, ◌-◌, ◌*◌, ◌/◌, ◌^◌, cond, ltb, pos}
use Rattle.posit.specs.Number.{Number, nar, real, number, size}
use Rattle.posit.specs.Rounding.{over}
use Rattle.arc.specs.Root.{root}
use Rattle.rows.specs.Rows.{Row, names, rounds, by_sign}

-- P: `poly` of src/p16e1/math/asin_pi.rs
unfoldable pub poly : ℕ → ℕ
poly f =
    let fsq = f * f / 2 ^ 28 in
    let a = 13944 + fsq * 3855 / 2 ^ 26 in
    let b = 100344 + fsq * a / 2 ^ 26 in
    let c = 1780112 + fsq * b / 2 ^ 25 in
    let d = 42722832 + fsq * c / 2 ^ 26 in
    f * d / 2 ^ 25

-- "below 0x3000 by P; else 2^29 less twice P of a square root": K, for the magnitude pattern u and the magnitude
-- k / 2 ^ 28. The root is that of (1 - x) · 2^55, which is j·2^42 with j = 0x4000 - u.
unfoldable pub arc : ℕ → ℕ → ℕ
arc u k = cond (ltb u 0x3000) (poly k) (2 ^ 29 - 2 * poly (root ((2 ^ 28 - k) * 2 ^ 27)))

abbrev pub otherwise : ℕ → Number → Row
otherwise u nar = names 0x8000
otherwise u (real q) = by_sign (λ k. rounds (over (pos (arc u k)) 30)) q

-- "0 and NaR: themselves; magnitude above 0x4000: NaR"; "rounded K/2^30"
unfoldable pub row : ℕ → Row
row p = cond (ltb 0x4000 (size 16 p)) (names 0x8000) (otherwise (size 16 p) (number 1 16 p))
