-- "with this layout: the bytes so far and zeros after them (2,072 ..), then how many they are as two bytes, low first, then the
-- refusal as two bytes"; "all zeros being fresh".
use Rattle.std.specs.Prelude.{ℕ, List, ◌++◌, cond, take, Option}
use Rattle.std.specs.Result.{result_err}
use Rattle.refusals.specs.declared.Refusal.{Refusal}
use Rattle.refusals.specs.Refusals.{number_or_zero, refusal_numbered, is_state}
use Rattle.words.specs.Numbers.{bytes_of, number_at_of}
use Rattle.piece_state.specs.declared.Pieces.{Pieces}
use Rattle.pieces.specs.Calls.{piece_of, end_of}

unfoldable pub state_in_of : List ℕ → Pieces
state_in_of b = record { bytes = take 2072 b; count = number_at_of b 2072; refusal = refusal_numbered (number_at_of b 2074) }

unfoldable pub layout : Pieces → List ℕ
layout s = s.bytes ++ (bytes_of s.count ++ bytes_of (number_or_zero s.refusal))

-- "12 .. is handed back as given"
abbrev pub handed_back : Pieces → Option Refusal → List ℕ → List ℕ
handed_back s r given = cond (is_state r) given (layout s)

-- what the two calls leave where the state lies
abbrev pub piece_leaves : List ℕ → List ℕ → List ℕ
piece_leaves given p = handed_back (piece_of (state_in_of given) p).state (piece_of (state_in_of given) p).refusal given

abbrev pub end_leaves : List ℕ → ℕ → List ℕ
end_leaves given outputs =
    handed_back (end_of (state_in_of given) outputs).state (result_err (end_of (state_in_of given) outputs).written) given
