-- "Listing: sections in order .. After both, 6, then 2." "a refused listing returns 0 bytes written" and does not change the
-- output; "A call that succeeds changes only .. the first bytes of the answered length." What a call returns and leaves, for any
-- bytes and any output.
use Rattle.std.specs.Prelude.{ℕ, List, [], ◌∷◌, ◌++◌, cond, length, drop, ltb, Option, is_none, Result, Ok, Err}
use Rattle.refusals.specs.declared.Refusal.{Refusal}
use Rattle.refusals.specs.declared.Refusal.TheVariants.{Output, After}
use Rattle.refusals.specs.Refusals.{number_or_zero, ◌before◌, refused_when, unless_refused}
use Rattle.words.specs.Numbers.{bytes_of}
use Rattle.sections.specs.Sections.{functions_of, patterns_of, past_patterns}
use Rattle.sections.specs.Order.{sections_refusal}
use Rattle.listing.specs.Answered.{answered}

unfoldable pub refusal_of : List ℕ → ℕ → Option Refusal
refusal_of b outputs =
    sections_refusal b
    before refused_when (ltb (past_patterns b) (length b)) After
    before refused_when (ltb outputs (length (answered (functions_of b) (patterns_of b)))) Output

-- the bytes that a call writes: the answered listing, or none
unfoldable pub writes : List ℕ → ℕ → List ℕ
writes b outputs = cond (is_none (refusal_of b outputs)) (answered (functions_of b) (patterns_of b)) []

-- how many that are, unless the call is refused
abbrev pub listed_of : List ℕ → ℕ → Result ℕ Refusal
listed_of b outputs = unless_refused (refusal_of b outputs) (length (writes b outputs))

abbrev pub output_of : List ℕ → List ℕ → List ℕ
output_of b output = writes b (length output) ++ drop (length (writes b (length output))) output

-- "when refused it writes FF FF and the refusal number as two bytes"
abbrev pub reply : Option Refusal → List ℕ
reply r = 0xFF ∷ 0xFF ∷ bytes_of (number_or_zero r)

-- the reply in an output's first bytes, where it has room for it
abbrev pub reply_length : ℕ → ℕ
reply_length outputs = cond (ltb outputs 4) 0 4

abbrev pub with_reply : List ℕ → Option Refusal → List ℕ
with_reply output r = cond (ltb (length output) 4) output (reply r ++ drop 4 output)
