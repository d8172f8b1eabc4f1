-- "a handed-in state that no calls from a fresh one produce": calls one after the other, what each is refused for, and the state after them.
use Rattle.std.specs.Prelude.{ℕ, ◌<◌, List, [], ◌∷◌, ◌++◌, get_or, Option}
use Rattle.std.specs.Result.{result_err}
use Rattle.refusals.specs.declared.Refusal.{Refusal}
use Rattle.piece_state.specs.declared.Pieces.{Pieces}
use Rattle.pieces.specs.Calls.{piece_of, end_of}

-- a piece with its bytes, or an end with its output's length
pub data Call : Type 0 where
  piece : (bytes : List ℕ) → Call
  end : (outputs : ℕ) → Call

abbrev pub state_by : Pieces → Call → Pieces
state_by s (piece p) = (piece_of s p).state
state_by s (end outputs) = (end_of s outputs).state

-- what a call is refused for
abbrev pub said_by : Pieces → Call → Option Refusal
said_by s (piece p) = (piece_of s p).refusal
said_by s (end outputs) = result_err (end_of s outputs).written

abbrev pub run : Pieces → List Call → Pieces
run s [] = s
run s (c ∷ cs) = run (state_by s c) cs

-- calls that can be made: what is in a piece are bytes
abbrev pub Made : Call → Type 0
Made (piece p) = (i : ℕ) → get_or p i 0 < 256
Made (end outputs) = Unit {0}

abbrev pub AllMade : List Call → Type 0
AllMade [] = Unit {0}
AllMade (c ∷ cs) = Made c × AllMade cs

-- pieces alone, and all their bytes
abbrev pub pieces : List (List ℕ) → List Call
pieces [] = []
pieces (p ∷ ps) = piece p ∷ pieces ps

abbrev pub joined : List (List ℕ) → List ℕ
joined [] = []
joined (p ∷ ps) = p ++ joined ps
