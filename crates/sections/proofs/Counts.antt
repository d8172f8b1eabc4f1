-- How many numbers the two sections have, and where those lie, by the counts that are read.
use Prim.Native.Nat.{ℕ, ◌+◌, ◌*◌}
use mathlib.Core.Path.{◌≡◌, ap, ◌∙◌}
use mathlib.Core.List.{List}
use native.Mathlib.Omega.{arith}
use lib.ListN.{length}
use Rattle.words.specs.Numbers.{number_at_of, numbers_at}
use Rattle.words.proofs.Reading.{length-numbers_at}
use Rattle.sections.specs.Sections.{past_section, functions_of, patterns_of, past_patterns}

pub length_functions : (b : List ℕ) → length (functions_of b) ≡ number_at_of b 0
unfolding functions_of
length_functions b = length-numbers_at b 2 (number_at_of b 0)

pub length_patterns : (b : List ℕ) → length (patterns_of b) ≡ number_at_of b (past_section b 0)
unfolding patterns_of
length_patterns b = length-numbers_at b (past_section b 0 + 2) (number_at_of b (past_section b 0))

-- so many functions and patterns were found
module _ (b : List ℕ) (functions patterns : ℕ) (f : functions ≡ length (functions_of b)) (p : patterns ≡ length (patterns_of b)) where
  pub past_is : past_patterns b ≡ 4 + 2 * functions + 2 * patterns
  unfolding past_patterns
  past_is = omega (arith, length_functions b, length_patterns b)

  pub functions_are : numbers_at b 2 functions ≡ functions_of b
  unfolding functions_of
  functions_are = ap (numbers_at b 2) (f ∙ length_functions b)

  pub patterns_are : numbers_at b (2 + 2 * functions + 2) patterns ≡ patterns_of b
  unfolding patterns_of
  patterns_are = rw (f, length_functions b, p, length_patterns b)
