-- Two answered listings with so many functions and patterns, by the places of their bytes: what the definitions of `Comparison` are for
-- listings that were read.
use Rattle.std.specs.Prelude.{◌≡◌, ℕ, ◌+◌, ◌*◌, ◌/◌, ◌%◌, List, Ok}
use Rattle.words.specs.Numbers.{number_at_of, numbers_at}
use Rattle.answered.specs.Answered.{pair_of}
use Rattle.line.specs.Line.{line_of}
use Rattle.comparison.specs.declared.walk.Pair.{Pair}
use Rattle.comparison.specs.Differences.{Place, asked, places}

abbrev pub answers_at : List ℕ → ℕ → ℕ → List ℕ
answers_at b functions patterns = numbers_at b (6 + 2 * functions + 2 * patterns) (functions * patterns)

abbrev pub places_at : List ℕ → List ℕ → ℕ → ℕ → List Place
places_at b c functions patterns =
    places (asked (numbers_at b 2 functions) (numbers_at b (4 + 2 * functions) patterns)) (answers_at b functions patterns) (answers_at c functions patterns)

-- the line of a place
abbrev pub line_at : List ℕ → List ℕ → ℕ → ℕ → ℕ → List ℕ
line_at b c functions patterns place =
    line_of (number_at_of b (2 + 2 * (place / patterns))) (number_at_of b (4 + 2 * functions + 2 * (place % patterns)))
    (number_at_of b (6 + 2 * functions + 2 * patterns + 2 * place)) (number_at_of c (6 + 2 * functions + 2 * patterns + 2 * place))

-- .. and for two that a `Pair` has
abbrev pub first_answers : Pair → List ℕ
first_answers p = answers_at p.first.now p.functions p.patterns

abbrev pub second_answers : Pair → List ℕ
second_answers p = answers_at p.second.now p.functions p.patterns

abbrev pub places_in : Pair → List Place
places_in p = places_at p.first.now p.second.now p.functions p.patterns

abbrev pub line_in : Pair → ℕ → List ℕ
line_in p place = line_at p.first.now p.second.now p.functions p.patterns place

-- what the reader of two listings finds that does not refuse them
abbrev pub Reads : List ℕ → List ℕ → Pair → Type 0
Reads b c p = (p.first.now ≡ b) × (p.second.now ≡ c) × (Ok (record { functions = p.functions; patterns = p.patterns }) ≡ pair_of b c)
