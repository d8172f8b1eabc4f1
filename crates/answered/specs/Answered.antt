-- Document 02, P1: "the first two sections as in document 01; then, in the third, 4 for a missing count, 7 for a count that is not
-- F·N, 4 for missing answers, 6 for bytes after the answers; the first listing's fault goes before the second's, and 8, the two
-- listings ask different things, comes last." Which refusal comes first, for any bytes, and what the readers return.
use Rattle.std.specs.Prelude.{ℕ, ◌+◌, ◌*◌, List, [], ◌∷◌, Bool, true, false, not, ◌&&◌, length, ltb, eqb, Option, Result}
use Rattle.refusals.specs.declared.Refusal.{Refusal}
use Rattle.refusals.specs.declared.Refusal.TheVariants.{Cut, After, Count, Different}
use Rattle.refusals.specs.Refusals.{◌before◌, refused_when}
use Rattle.words.specs.Numbers.{number_at_of}
use Rattle.sections.specs.declared.Sections.{Sections}
use Rattle.sections.specs.Sections.{section_at, past_section, functions_of, patterns_of, past_patterns}
use Rattle.sections.specs.Order.{sections_refusal, counted}

unfoldable pub answers_of : List ℕ → List ℕ
answers_of b = section_at b (past_patterns b)

-- F·N
abbrev pub asks : List ℕ → ℕ
asks b = length (functions_of b) * length (patterns_of b)

-- of the third section
unfoldable pub answers_refusal : List ℕ → Option Refusal
answers_refusal b =
    refused_when (ltb (length b) (past_patterns b + 2)) Cut
    before refused_when (not (eqb (number_at_of b (past_patterns b)) (asks b))) Count
    before refused_when (ltb (length b) (past_section b (past_patterns b))) Cut
    before refused_when (ltb (past_section b (past_patterns b)) (length b)) After

-- of an answered listing
unfoldable pub answered_refusal : List ℕ → Option Refusal
answered_refusal b = sections_refusal b before answers_refusal b

abbrev pub answered_of : List ℕ → Result Sections Refusal
answered_of b = counted b (answered_refusal b)

-- the same numbers, as many and in the same order
abbrev pub same : List ℕ → List ℕ → Bool
same [] [] = true
same [] (w ∷ ws) = false
same (v ∷ vs) [] = false
same (v ∷ vs) (w ∷ ws) = eqb v w && same vs ws

-- of two answered listings
unfoldable pub pair_refusal : List ℕ → List ℕ → Option Refusal
pair_refusal b c =
    answered_refusal b
    before answered_refusal c
    before refused_when (not (same (functions_of b) (functions_of c) && same (patterns_of b) (patterns_of c))) Different

abbrev pub pair_of : List ℕ → List ℕ → Result Sections Refusal
pair_of b c = counted b (pair_refusal b c)
