-- The checked points of document 01, "proved together, as one table under one statement".
use Rattle.std.specs.Prelude.{ℕ, ◌*◌, ◌^◌, ◌≡◌, List, [], ◌∷◌, ℤ, pos, negsuc}
use Rattle.posit.specs.Number.{real, number}
use Rattle.posit.specs.Rounding.{dyadic, Rounds}
use Rattle.posit.specs.declared.side.Side.{Side}
use Rattle.rows.specs.Rows.{Meets, MeetsSided}
use Rattle.p16e1.specs.Functions.{row_of}

pub data Point : Type 0 where
  -- the pattern p is q / 2 ^ 28
  is : (p q : ℕ) → Point
  -- 2 ^ e rounds to u
  rounds_to : (e : ℤ) (u : ℕ) → Point
  -- the function f of p is r
  of : (f p r : ℕ) → Point
  -- and lies on the side s of the number that was rounded
  sided : (f p r : ℕ) (s : Side) → Point

abbrev pub Holds : Point → Type 0
Holds (is p q) = number 1 16 p ≡ real (pos q)
Holds (rounds_to e u) = Rounds 1 16 (dyadic (pos 1) e) u
Holds (of f p r) = Meets (row_of f p) r
Holds (sided f p r s) = MeetsSided (row_of f p) (record { pattern = r; side = s })

abbrev pub Every : List Point → Type 0
Every [] = Unit {0}
Every (x ∷ xs) = Holds x × Every xs

-- "0x72C0 is 27; 0x0001 is 2^-28; 2^27 rounds to 0x7FFE; 2^-27 rounds to 0x0002; exp of 0 is 0x4000; exp2 of 0x72C0 is
-- 0x7FFE, of 0x72C1 0x7FFF, of 0x8D40 0x0002; log2 of 0x0001 is 0x8D00; ln of 0x4000 is 0; sin_pi of 0x3000 is 0x4000;
-- cos_pi of 0x4000 is 0xC000; tan_pi of 0x2000 is 0x4000 and of 0x3000 is NaR; acos_pi of 0xC000 is 0x4000"
abbrev pub table : List Point
table =
    is 0x72C0 (27 * 2 ^ 28) ∷ is 0x0001 1 ∷ rounds_to (pos 27) 0x7FFE ∷ rounds_to (negsuc 26) 0x0002
    ∷ of 1 0 0x4000 ∷ of 2 0x72C0 0x7FFE ∷ of 2 0x72C1 0x7FFF ∷ of 2 0x8D40 0x0002
    ∷ of 4 0x0001 0x8D00 ∷ of 3 0x4000 0 ∷ of 5 0x3000 0x4000 ∷ of 6 0x4000 0xC000
    ∷ of 7 0x2000 0x4000 ∷ of 7 0x3000 0x8000 ∷ of 10 0xC000 0x4000 ∷ []
