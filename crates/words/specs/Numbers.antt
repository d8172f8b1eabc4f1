-- "all numbers 16-bit little-endian": the bytes of numbers, low byte first, and the numbers that stand in bytes.
use Rattle.std.specs.Prelude.{ℕ, zero, suc, ◌+◌, ◌*◌, ◌/◌, ◌%◌, List, [], ◌∷◌, ◌++◌, get_or}

abbrev pub bytes_of : ℕ → List ℕ
bytes_of w = w % 256 ∷ w / 256 ∷ []

abbrev pub bytes_of_all : List ℕ → List ℕ
bytes_of_all [] = []
bytes_of_all (w ∷ ws) = bytes_of w ++ bytes_of_all ws

-- the number at a place
abbrev pub number_at_of : List ℕ → ℕ → ℕ
number_at_of b at = get_or b at 0 + 256 * get_or b (at + 1) 0

-- the n numbers from a place on
abbrev pub numbers_at : List ℕ → ℕ → ℕ → List ℕ
numbers_at b at zero = []
numbers_at b at (suc n) = number_at_of b at ∷ numbers_at b (at + 2) n
