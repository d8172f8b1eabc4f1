-- "An answered listing adds a third section: count F·N, then the answers, all of the first function's, then the next's." The
-- bytes of a listing and of its answered form.
use Rattle.std.specs.Prelude.{ℕ, ◌+◌, ◌*◌, List, [], ◌∷◌, ◌++◌, map}
use Rattle.p16e1.specs.Functions.{answer_of}
use Rattle.words.specs.Numbers.{number_at_of, numbers_at}
use Rattle.sections.specs.Sections.{section}

-- all of the first function's answers, then the next's
abbrev pub answers : List ℕ → List ℕ → List ℕ
answers [] ps = []
answers (f ∷ fs) ps = map (answer_of f) ps ++ answers fs ps

unfoldable pub listing : List ℕ → List ℕ → List ℕ
listing fs ps = section fs ++ section ps

unfoldable pub answered : List ℕ → List ℕ → List ℕ
answered fs ps = listing fs ps ++ section (answers fs ps)

-- the answers, by how many functions and patterns stand in the two sections
abbrev pub answers_at : List ℕ → ℕ → ℕ → List ℕ
answers_at b functions patterns = answers (numbers_at b 2 functions) (numbers_at b (2 + 2 * functions + 2) patterns)

-- the numbers that pairs of bytes are
abbrev pub numbers_in : List (List ℕ) → List ℕ
numbers_in ps = map (λ p. number_at_of p 0) ps
