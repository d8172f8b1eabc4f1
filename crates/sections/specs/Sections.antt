-- "A listing has sections in a fixed order, each after its count: functions, then patterns." The bytes of a section, and the
-- sections that stand in bytes.
use Rattle.std.specs.Prelude.{ℕ, ◌+◌, ◌*◌, List, ◌++◌, length}
use Rattle.words.specs.Numbers.{bytes_of, bytes_of_all, number_at_of, numbers_at}

unfoldable pub section : List ℕ → List ℕ
section ws = bytes_of (length ws) ++ bytes_of_all ws

-- the numbers of the section whose count stands at a place, and the place after it
abbrev pub section_at : List ℕ → ℕ → List ℕ
section_at b at = numbers_at b (at + 2) (number_at_of b at)

abbrev pub past_section : List ℕ → ℕ → ℕ
past_section b at = at + 2 + 2 * number_at_of b at

unfoldable pub functions_of : List ℕ → List ℕ
functions_of b = section_at b 0

unfoldable pub patterns_of : List ℕ → List ℕ
patterns_of b = section_at b (past_section b 0)

-- the place after both sections
unfoldable pub past_patterns : List ℕ → ℕ
past_patterns b = past_section b (past_section b 0)
