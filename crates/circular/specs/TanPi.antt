-- Row 7 of document 01: tan_pi.
use Rattle.std.specs.Prelude.{ℕ, ◌-◌, ◌*◌, ◌/◌, ◌%◌, ◌^◌, cond, pos, ◌==◌, nat_lt}
use Rattle.posit.specs.Number.{Number, nar, real, number, size}
use Rattle.posit.specs.Rounding.{over}
use Rattle.rows.specs.Rows.{Row, names, rounds, within, opposed, by_sign}

-- the denominator and the numerator of the second part of P, on the argument's highest 18 bits
unfoldable pub denominator : ℕ → ℕ
denominator fs =
    let fsq = fs * fs / 2 ^ 10 in
    let a = fsq * 13335493 / 2 ^ 25 in
    0x0800_0000 - fsq * (295106440 - a) / 2 ^ 27

unfoldable pub numerator : ℕ → ℕ
numerator fs =
    let fsq = fs * fs / 2 ^ 10 in
    let a = fsq * 182527 / 2 ^ 27 in
    let b = fsq * (3648552 - a) / 2 ^ 23 in
    fs * (105414368 - b) * 2 ^ 11

-- P: `poly` of src/p16e1/math/tan_pi.rs
unfoldable pub poly : ℕ → ℕ
poly f = cond (nat_lt f 0xE001) (f * 102943 / 2 ^ 15) (numerator (f / 2 ^ 9) / denominator (f / 2 ^ 9))

-- "0 gives 0, 2^27 gives NaR, 2^26 gives 1, 3·2^26 gives -1"; "the kernel's argument is the remainder itself below 2^27,
-- and 2^28 less the remainder above it; in the second case the answer's sign changes"; "rounded P/2^28"
unfoldable pub remainder : ℕ → Row
remainder r =
    cond (r == 0) (names 0)
    (cond (r == 2 ^ 27) (names 0x8000)
    (cond (r == 2 ^ 26) (names 0x4000)
    (cond (r == 3 * 2 ^ 26) (names 0xC000)
    (cond (nat_lt r (2 ^ 27)) (rounds (over (pos (poly r)) 28)) (opposed (rounds (over (pos (poly (2 ^ 28 - r))) 28)))))))

-- "x·2^28 modulo 2^28"
abbrev pub otherwise : Number → Row
otherwise nar = names 0x8000
otherwise (real q) = by_sign (λ k. remainder (k % 2 ^ 28)) q

-- "as row 5"
unfoldable pub row : ℕ → Row
row p = cond (within 31744 0x7fff (size 16 p)) (names 0) (otherwise (number 1 16 p))
