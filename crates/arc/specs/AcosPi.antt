-- Row 10 of document 01: acos_pi.
use Rattle.std.specs.Prelude.{ℕ, ◌+◌, ◌-◌, ◌*◌, ◌/◌, ◌^◌, cond, ◌&&◌, ◌||◌, ltb, pos, nat_abs}
use Rattle.posit.specs.Number.{Number, nar, real, number}
use Rattle.posit.specs.Rounding.{over}
use Rattle.arc.specs.Root.{root}
use Rattle.rows.specs.Rows.{Row, names, rounds}

-- P: `poly` of src/p16e1/math/acos_pi.rs
unfoldable pub poly : ℕ → ℕ
poly f =
    let fsq = f * f / 2 ^ 28 in
    let a = 13696 + fsq * 7955 / 2 ^ 27 in
    let b = 100510 + fsq * a / 2 ^ 26 in
    let c = 1780047 + fsq * b / 2 ^ 25 in
    let d = 42722829 + fsq * c / 2 ^ 26 in
    0x2000_0000 - f * d / 2 ^ 25

-- "four ranges cut at 0x3000, 0x4001 and above 53248": K, for the pattern p and its magnitude k / 2 ^ 28. The root is that
-- of (1 - |x|) · 2^55.
unfoldable pub arc : ℕ → ℕ → ℕ
arc p k =
    cond (ltb p 0x3000) (poly k)
    (cond (ltb p 0x4001) (2 ^ 30 - 2 * poly (root ((2 ^ 28 - k) * 2 ^ 27)))
    (cond (ltb 53248 p) (2 ^ 30 - poly k) (2 * poly (root ((2 ^ 28 - k) * 2 ^ 27)))))

abbrev pub otherwise : ℕ → Number → Row
otherwise p nar = names 0x8000
otherwise p (real q) = rounds (over (pos (arc p (nat_abs q))) 30)

-- "above 0x4000 and below 0xC000: NaR; below 165 or above 65307: 0x3000"; "rounded K/2^30"
unfoldable pub row : ℕ → Row
row p =
    cond (ltb 0x4000 p && ltb p 0xC000) (names 0x8000)
    (cond (ltb p 165 || ltb 65307 p) (names 0x3000)
    (otherwise p (number 1 16 p)))
