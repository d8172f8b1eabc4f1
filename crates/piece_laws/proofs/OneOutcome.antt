-- The contracts of the calls determine their outcomes, for states that no calls produce as well.
use Prim.Native.Nat.{ℕ}
use mathlib.Core.Path.{◌≡◌, sym, ◌∙◌}
use mathlib.Core.List.{List}
use lib.ListN.{length}
use Rattle.piece_state.specs.declared.Pieces.{Pieces}
use Rattle.pieces.specs.declared.Pieced.{Pieced}
use Rattle.pieces.specs.declared.Ended.{Ended}
use Rattle.pieces.specs.Calls.{piece_of, end_of, end_output_of}

pub one_piece : (s : Pieces) (p : List ℕ) (r r' : Pieced) → r ≡ piece_of s p → r' ≡ piece_of s p → r ≡ r'
one_piece s p r r' h k = h ∙ sym k

-- what the contract of `end` allows
abbrev pub AllowedEnd : Pieces → List ℕ → Ended → List ℕ → Type 0
AllowedEnd s output r left = (r ≡ end_of s (length output)) × (left ≡ end_output_of s output)

pub one_end : (s : Pieces) (output : List ℕ) (r r' : Ended) (left left' : List ℕ)
    → AllowedEnd s output r left → AllowedEnd s output r' left' → (r ≡ r') × (left ≡ left')
one_end s output r r' left left' h k = (h.0 ∙ sym k.0, h.1 ∙ sym k.1)
