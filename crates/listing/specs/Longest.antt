-- How long a listing gets, and its answered form: with 10 functions and 1,024 patterns.
use Rattle.std.specs.Prelude.{ℕ, ◌+◌, ◌*◌}
use Rattle.sections.specs.Order.{most_functions, most_patterns}

abbrev pub longest : ℕ
longest = 4 + 2 * most_functions + 2 * most_patterns

abbrev pub longest_answered : ℕ
longest_answered = longest + 2 + 2 * (most_functions * most_patterns)
