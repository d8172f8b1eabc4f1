-- Row 1 of document 01: exp.
use Rattle.std.specs.Prelude.{ℕ, ◌+◌, ◌*◌, ◌/◌, ◌^◌, ℤ, pos, ◌-ℤ◌, ◌*ℤ◌}
use Rattle.posit.specs.Rounding.{Known, dyadic}
use Rattle.exponential.specs.Ends.{ends}
use Rattle.rows.specs.Floor.{floor, modulo}
use Rattle.rows.specs.Rows.{Row}

-- P: `poly` of src/p16e1/math/exp.rs
unfoldable pub poly : ℕ → ℕ
poly f =
    let a = f * 7529 / 2 ^ 26 in
    let b = f * (20487 + a) / 2 ^ 20 in
    let c = f * (0x004F_8300 + b) / 2 ^ 24 in
    let d = f * (0x038C_C980 + c) / 2 ^ 20 in
    let e = f * (0x0001_EBFF_C800 + d) / 2 ^ 26 in
    f * (0x0002_C5C8_3600 + e) / 2 ^ 22 + 2048

-- "t = floor(x·48,408,813), n = floor(t/2^25); rounded (2^37 + P(t mod 2^25))·2^(n-37)", where x is q / 2 ^ 28
abbrev pub kernel : ℤ → Known
kernel q =
    let t = floor (q *ℤ pos 48408813) (2 ^ 28) in
    dyadic (pos (2 ^ 37 + poly (modulo t (2 ^ 25)))) (floor t (2 ^ 25) -ℤ pos 37)

-- "below 192 or above 65407: 0x4000; 28846 to 0x7FFF: 0x7FFF; 0x8001 to 36690: 0x0001; NaR: NaR"
abbrev pub row : ℕ → Row
row = ends 192 65407 28846 36690 kernel
