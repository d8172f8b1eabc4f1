-- "Listing: sections in order, in each the count present (4), in limits (5), its numbers all present (4), then function numbers
-- (1)." Which refusal of the two sections comes first, for any bytes, and what their reader returns.
use Rattle.std.specs.Prelude.{ℕ, ◌+◌, List, [], ◌∷◌, Bool, true, not, ◌&&◌, ◌||◌, length, ltb, Option, Result}
use Rattle.p16e1.specs.Functions.{known}
use Rattle.refusals.specs.declared.Refusal.{Refusal}
use Rattle.refusals.specs.declared.Refusal.TheVariants.{Function, Cut, Limits}
use Rattle.refusals.specs.Refusals.{◌before◌, refused_when, unless_refused}
use Rattle.words.specs.Numbers.{number_at_of}
use Rattle.sections.specs.declared.Sections.{Sections}
use Rattle.sections.specs.Sections.{past_section, functions_of, patterns_of}

-- "functions (count 1 to 10), then patterns (count 0 to 1,024)"
abbrev pub most_functions : ℕ
most_functions = 10

abbrev pub most_patterns : ℕ
most_patterns = 1024

-- "in each the count present (4), in limits (5), its numbers all present (4)"
unfoldable pub section_refusal_of : List ℕ → ℕ → ℕ → ℕ → Option Refusal
section_refusal_of b at least most =
    refused_when (ltb (length b) (at + 2)) Cut
    before refused_when (ltb (number_at_of b at) least || ltb most (number_at_of b at)) Limits
    before refused_when (ltb (length b) (past_section b at)) Cut

abbrev pub all_known_of : List ℕ → Bool
all_known_of [] = true
all_known_of (f ∷ fs) = known f && all_known_of fs

-- of the two sections
unfoldable pub sections_refusal : List ℕ → Option Refusal
sections_refusal b =
    section_refusal_of b 0 1 most_functions
    before refused_when (not (all_known_of (functions_of b))) Function
    before section_refusal_of b (past_section b 0) 0 most_patterns

-- how many functions and patterns there are, unless they are refused
abbrev pub counted : List ℕ → Option Refusal → Result Sections Refusal
counted b r = unless_refused r (record { functions = length (functions_of b); patterns = length (patterns_of b) })

abbrev pub sections_of : List ℕ → Result Sections Refusal
sections_of b = counted b (sections_refusal b)
