-- Row 5 of document 01: sin_pi.
use Rattle.std.specs.Prelude.{ℕ, ◌-◌, ◌*◌, ◌/◌, ◌^◌, cond, pos, ◌==◌, nat_le, nat_lt}
use Rattle.posit.specs.Number.{Number, nar, real, number, size}
use Rattle.posit.specs.Rounding.{over}
use Rattle.circular.specs.Quadrants.{quadrant, rest, odd, reflected}
use Rattle.rows.specs.Rows.{Row, names, rounds, within, opposed, by_sign}

-- the second part of P, on the argument's highest 16 bits
unfoldable pub series : ℕ → ℕ
series fs =
    let fsq = fs * fs / 2 ^ 8 in
    let a = fsq * 650 / 2 ^ 25 in
    let b = fsq * (9813 - a) / 2 ^ 23 in
    let c = fsq * (334253 - b) / 2 ^ 23 in
    let d = fsq * (5418741 - c) / 2 ^ 22 in
    fs * (52707180 - d) / 2 ^ 13

-- P: `poly` of src/p16e1/math/sin_pi.rs
unfoldable pub poly : ℕ → ℕ
poly f = cond (nat_lt f 0x000A_5801) (f * 102943 / 2 ^ 15) (series (f / 2 ^ 11))

-- "rest 0 gives 0, 1 or -1; odd quadrant reflects; rounded P/2^28"
unfoldable pub unsigned : ℕ → ℕ → Row
unsigned q r = cond (r == 0) (names (cond (odd q) 0x4000 0)) (rounds (over (pos (poly (reflected q r))) 28))

-- "quadrants 2 and 3 (mod 4) change the sign"
unfoldable pub sine : ℕ → Row
sine k = cond (nat_le 2 (quadrant k)) (opposed (unsigned (quadrant k) (rest k))) (unsigned (quadrant k) (rest k))

abbrev pub otherwise : Number → Row
otherwise nar = names 0x8000
otherwise (real q) = by_sign sine q

-- "magnitude pattern 31744 to 0x7FFF: 0; NaR: NaR; 0: 0"; zero has rest 0 in quadrant 0
unfoldable pub row : ℕ → Row
row p = cond (within 31744 0x7fff (size 16 p)) (names 0) (otherwise (number 1 16 p))
