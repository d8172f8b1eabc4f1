-- Document 02, P1: "prints every difference .. Each place that differs gives one line .. When refused, the refusal number is the only
-- line." What the calls on two answered listings return and write, for any bytes and any output.
use Rattle.std.specs.Prelude.{ℕ, ◌*◌, List, [], ◌∷◌, ◌++◌, Bool, cond, length, take, drop, ltb, is_none, Result}
use Rattle.refusals.specs.declared.Refusal.{Refusal}
use Rattle.refusals.specs.Refusals.{number_or_zero, unless_refused}
use Rattle.sections.specs.Sections.{functions_of, patterns_of}
use Rattle.answered.specs.Answered.{answers_of, asks, pair_refusal}
use Rattle.line.specs.Line.{field, line_of, room_for, fitted}
use Rattle.comparison.specs.Differences.{Place, asked, places, differing, next_differing}

-- the places of two answered listings, and those that differ
unfoldable pub places_of : List ℕ → List ℕ → List Place
places_of b c = places (asked (functions_of b) (patterns_of b)) (answers_of b) (answers_of c)

unfoldable pub differences_of : List ℕ → List ℕ → List Place
differences_of b c = differing (places_of b c)

-- the next place that differs, unless the two are refused
abbrev pub difference_of : List ℕ → List ℕ → ℕ → Result ℕ Refusal
difference_of b c from = unless_refused (pair_refusal b c) (next_differing (answers_of b) (answers_of c) from)

-- a line for each place
abbrev pub lines_of : List Place → List ℕ
lines_of [] = []
lines_of (p ∷ ps) = line_of p.function p.pattern p.first p.second ++ lines_of ps

-- of all that differ, or, short, of the first
abbrev pub shown : Bool → List Place → List ℕ
shown short ds = cond short (lines_of (take 1 ds)) (lines_of ds)

-- how many lines there may be
abbrev pub most_lines_of : Bool → ℕ → ℕ
most_lines_of short count = cond short 1 count

-- what is said of two listings in an output of so many bytes: the lines, or the refusal's number; nothing where there is no room
unfoldable pub said_of : List ℕ → List ℕ → Bool → ℕ → List ℕ
said_of b c short outputs =
    cond (is_none (pair_refusal b c)) (cond (ltb outputs (room_for * most_lines_of short (asks b))) [] (shown short (differences_of b c)))
    (fitted outputs (field (number_or_zero (pair_refusal b c)) 10))

abbrev pub output_of : List ℕ → List ℕ → Bool → List ℕ → List ℕ
output_of b c short output = said_of b c short (length output) ++ drop (length (said_of b c short (length output))) output
