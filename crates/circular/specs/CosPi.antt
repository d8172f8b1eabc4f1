-- Row 6 of document 01: cos_pi.
use Rattle.std.specs.Prelude.{ℕ, ◌+◌, ◌-◌, ◌*◌, ◌/◌, ◌%◌, ◌^◌, cond, pos, ◌==◌, nat_le, nat_lt, unsigned_abs}
use Rattle.posit.specs.Number.{Number, nar, real, number}
use Rattle.posit.specs.Rounding.{over}
use Rattle.circular.specs.Quadrants.{quadrant, rest, odd, reflected}
use Rattle.rows.specs.Rows.{Row, names, rounds, opposed}

-- the second part of P, on the argument's highest 16 bits
unfoldable pub series : ℕ → ℕ
series fs =
    let fsq = fs * fs / 2 ^ 8 in
    let a = 349194 - fsq * 28875 / 2 ^ 25 in
    let b = 4255560 - fsq * a / 2 ^ 24 in
    let c = 20698014 - fsq * b / 2 ^ 24 in
    33554428 - fsq * c / 2 ^ 23

-- P: `poly` of src/p16e1/math/cos_pi.rs
unfoldable pub poly : ℕ → ℕ
poly f = cond (nat_lt f 0x000E_6001) 0x01FF_FFFF (series (f / 2 ^ 11))

-- "the same": rest 0 gives 0, 1 or -1; odd quadrant reflects; "rounded P/2^25"
unfoldable pub unsigned : ℕ → ℕ → Row
unsigned q r = cond (r == 0) (names (cond (odd q) 0 0x4000)) (rounds (over (pos (poly (reflected q r))) 25))

-- "with the quadrant signs of cosine": quadrants 1 and 2 change the sign
unfoldable pub cosine : ℕ → Row
cosine k = cond (nat_le 2 ((quadrant k + 1) % 4)) (opposed (unsigned (quadrant k) (rest k))) (unsigned (quadrant k) (rest k))

-- "NaR: NaR"; "works on the magnitude alone"
abbrev pub otherwise : Number → Row
otherwise nar = names 0x8000
otherwise (real q) = cosine (unsigned_abs q)

unfoldable pub row : ℕ → Row
row p = otherwise (number 1 16 p)
