-- "one constant for all patterns (rows)" is a program that the contracts have to reject: each function has two patterns with
-- different answers.
use Rattle.std.specs.Prelude.{ℕ, zero, suc, ◌<◌, List, [], ◌∷◌}
use Rattle.rows.specs.Rows.{Meets}
use Rattle.p16e1.specs.Functions.{row_of}
use Rattle.p16e1.specs.Points.{Point, of}

-- c meets the row of the function f at every pattern
abbrev pub Constant : ℕ → ℕ → Type 0
Constant f c = (p : ℕ) → p < 65536 → Meets (row_of f p) c

abbrev pub NoConstant : ℕ → Type 0
NoConstant f = (c : ℕ) → Constant f c → ⊥

-- P of each number from n down to 1
abbrev pub DownFrom : ℕ → (ℕ → Type 0) → Type 0
DownFrom zero P = Unit {0}
DownFrom (suc n) P = P (suc n) × DownFrom n P

-- two patterns of each function
abbrev pub two_each_of : List Point
two_each_of =
    of 1 0 0x4000 ∷ of 1 0x4000 0x55BF ∷ of 2 0 0x4000 ∷ of 2 0x4000 0x5000
    ∷ of 3 0x4000 0 ∷ of 3 0x5000 0x362E ∷ of 4 0x4000 0 ∷ of 4 0x5000 0x4000
    ∷ of 5 0 0 ∷ of 5 0x3000 0x4000 ∷ of 6 0 0x4000 ∷ of 6 0x4000 0xC000 ∷ of 7 0 0 ∷ of 7 0x2000 0x4000
    ∷ of 8 0 0 ∷ of 8 0x4000 0x2000 ∷ of 9 0 0 ∷ of 9 0x4000 0x3000 ∷ of 10 0x4000 0 ∷ of 10 0xC000 0x4000 ∷ []
