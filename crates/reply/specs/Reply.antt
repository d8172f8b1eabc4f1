-- "The program `answers` reads a listing from standard input and writes the answered one; when refused it writes FF FF and the
-- refusal number as two bytes." The reply to any bytes, in an output of any length.
use Rattle.std.specs.Prelude.{ℕ, List, [], ◌++◌, cond, ltb, length, drop, Option, Some, None}
use Rattle.refusals.specs.declared.Refusal.{Refusal}
use Rattle.sections.specs.Sections.{functions_of, patterns_of}
use Rattle.listing.specs.Answered.{answered}
use Rattle.listing.specs.Outcome.{refusal_of, reply}

-- to a call that was answered so, or refused, with an output of so many bytes
abbrev pub reply_by : Option Refusal → List ℕ → ℕ → List ℕ
reply_by None whole outputs = whole
reply_by (Some r) whole outputs = cond (ltb outputs 4) [] (reply (Some r))

unfoldable pub reply_of : List ℕ → ℕ → List ℕ
reply_of b outputs = reply_by (refusal_of b outputs) (answered (functions_of b) (patterns_of b)) outputs

abbrev pub output_of : List ℕ → List ℕ → List ℕ
output_of b output = reply_of b (length output) ++ drop (length (reply_of b (length output))) output

-- the length of the longest answered listing, 2 + 2·10 + 2 + 2·1,024 + 2 + 2·10,240
abbrev pub room : ℕ
room = 22554
