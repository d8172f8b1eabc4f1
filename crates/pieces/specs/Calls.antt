-- "Refusals: 12 first, a handed-in state that no calls from a fresh one produce, which is handed back as given; then as document 01, 5
-- and 6 at the call that brings the deciding byte, 1 at the call that completes the functions, 4 and 2 only at the end call." What the
-- two calls return and leave, for any state, any bytes and any output.
use Rattle.std.specs.Prelude.{ℕ, List, [], ◌++◌, cond, Option, is_none, Result}
use Rattle.std.specs.Result.{result_err}
use Rattle.refusals.specs.declared.Refusal.{Refusal}
use Rattle.refusals.specs.Refusals.{unless_refused}
use Rattle.listing.specs.Outcome.{listed_of, output_of}
use Rattle.piece_state.specs.declared.Pieces.{Pieces}
use Rattle.pieces.specs.declared.Pieced.{Pieced}
use Rattle.pieces.specs.declared.Ended.{Ended}
use Rattle.piece_state.specs.State.{keeping, so_far_of, state_after_of, bytes_so_far, handed_in_of}

-- the outcome of a piece whose bytes meet a refusal
abbrev pub met_with : Option Refusal → Pieced
met_with r = record { state = keeping [] r; refusal = r }

-- the bytes so far and the next ones
unfoldable pub piece_of : Pieces → List ℕ → Pieced
piece_of s p =
    cond (is_none (handed_in_of s))
    (record { state = state_after_of (bytes_so_far s ++ p); refusal = so_far_of (bytes_so_far s ++ p) })
    (record { state = s; refusal = handed_in_of s })

-- the listing call's outcome, and the state that keeps nothing but its refusal
abbrev pub ended_with : Result ℕ Refusal → Ended
ended_with l = record { state = keeping [] (result_err l); written = l }

-- "Only the end call takes an output; one that answers hands back a fresh state": what the listing call gives on the bytes so far, and
-- a state that keeps nothing but the refusal
unfoldable pub end_of : Pieces → ℕ → Ended
end_of s outputs =
    cond (is_none (handed_in_of s))
    (ended_with (listed_of (bytes_so_far s) outputs))
    (record { state = s; written = unless_refused (handed_in_of s) 0 })

unfoldable pub end_output_of : Pieces → List ℕ → List ℕ
end_output_of s output = cond (is_none (handed_in_of s)) (output_of (bytes_so_far s) output) output
