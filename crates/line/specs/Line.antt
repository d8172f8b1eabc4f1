-- Document 02, P1: "Each place that differs gives one line, five decimal numbers a space apart, patterns and answers unsigned": the
-- function's number, the pattern, both answers, and "how many patterns apart they are, the second less the first with both read as
-- signed numbers". The bytes of such a line.
use Rattle.std.specs.Prelude.{ℕ, zero, suc, ◌+◌, ◌/◌, ◌%◌, cond, List, [], ◌∷◌, ◌++◌, ℤ, pos, negsuc, ◌-ℤ◌, nat_lt}
use Rattle.std.proofs.Math.IntN.{sub_ℕ}

-- the last k decimal digits of n, in ASCII
abbrev pub digits : ℕ → ℕ → List ℕ
digits zero n = []
digits (suc k) n = digits k (n / 10) ++ ((48 + n % 10) ∷ [])

-- how many digits a number of 16 bits has
abbrev pub width : ℕ → ℕ
width n = cond (nat_lt n 10) 1 (cond (nat_lt n 100) 2 (cond (nat_lt n 1000) 3 (cond (nat_lt n 10000) 4 5)))

unfoldable pub decimal : ℕ → List ℕ
decimal n = digits (width n) n

-- a pattern read as a signed number
abbrev pub signed : ℕ → ℤ
signed p = cond (nat_lt p 0x8000) (pos p) (sub_ℕ p 0x10000)

-- the second less the first
abbrev pub apart : ℕ → ℕ → ℤ
apart first second = signed second -ℤ signed first

abbrev pub integer : ℤ → List ℕ
integer (pos n) = decimal n
integer (negsuc n) = 45 ∷ decimal (suc n)

-- a number and the byte after it
abbrev pub field : ℕ → ℕ → List ℕ
field n after = decimal n ++ (after ∷ [])

unfoldable pub line_of : ℕ → ℕ → ℕ → ℕ → List ℕ
line_of function pattern first second =
    field function 32 ++ field pattern 32 ++ field first 32 ++ field second 32 ++ integer (apart first second) ++ (10 ∷ [])

-- what is written where `left` bytes are left: the line, which takes at most 31 of them, or nothing
abbrev pub room_for : ℕ
room_for = 31

abbrev pub fitted : ℕ → List ℕ → List ℕ
fitted left line = cond (nat_lt left room_for) [] line
