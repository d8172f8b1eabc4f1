-- What a call gives whose state brings a refusal, and one whose state brings none.
use Prim.Native.Nat.{ℕ}
use mathlib.Core.Path.{◌≡◌, refl, ◌∙◌}
use mathlib.Core.Bool.{true, false}
use mathlib.Core.List.{List, ◌++◌}
use Rattle.std.proofs.lemmas.Grind.{common_steps}
use Rattle.std.specs.Prelude.{Option, Some, None, is_none}
use Rattle.std.specs.Result.{result_err}
use Rattle.refusals.specs.declared.Refusal.{Refusal}
use Rattle.refusals.specs.Refusals.{unless_refused}
use Rattle.refusals.proofs.Refusing.{none_is}
use Rattle.listing.specs.Outcome.{listed_of, output_of}
use Rattle.piece_state.specs.declared.Pieces.{Pieces}
use Rattle.piece_state.proofs.Kept.{within}
use Rattle.pieces.specs.declared.Pieced.{Pieced}
use Rattle.piece_state.specs.State.{keeping, so_far_of, state_after_of, bytes_so_far, handed_in_of}
use Rattle.pieces.specs.Calls.{met_with, piece_of, ended_with, end_of, end_output_of}

-- a call that returns so was refused so
pub refused_by : (r : Option Refusal) (n : ℕ) → result_err (unless_refused r n) ≡ r
refused_by None n = refl
refused_by (Some r) n = refl

module _ (s : Pieces) where
  pub refused_piece : (p : List ℕ) → is_none (handed_in_of s) ≡ false → piece_of s p ≡ record { state = s; refusal = handed_in_of s }
  unfolding piece_of
  refused_piece p n = rw n

  pub refused_end : (outputs : ℕ) → is_none (handed_in_of s) ≡ false
      → end_of s outputs ≡ record { state = s; written = unless_refused (handed_in_of s) 0 }
  unfolding end_of
  refused_end outputs n = rw n

  pub refused_output : (output : List ℕ) → is_none (handed_in_of s) ≡ false → end_output_of s output ≡ output
  unfolding end_output_of
  refused_output output n = rw n

  module _ (n : is_none (handed_in_of s) ≡ true) where
    pub taken-piece : (p : List ℕ)
        → piece_of s p ≡ record { state = state_after_of (bytes_so_far s ++ p); refusal = so_far_of (bytes_so_far s ++ p) }
    unfolding piece_of
    taken-piece p = rw n

    pub taken-end : (outputs : ℕ) → end_of s outputs ≡ ended_with (listed_of (bytes_so_far s) outputs)
    unfolding end_of
    taken-end outputs = rw n

    pub taken-output : (output : List ℕ) → end_output_of s output ≡ output_of (bytes_so_far s) output
    unfolding end_output_of
    taken-output output = rw n

-- the piece call's outcome once the bytes have met a refusal, and while they have not
pub met_piece : (b : List ℕ) (r : Option Refusal) → so_far_of b ≡ r → is_none r ≡ false
    → ◌≡◌ {A = Pieced} (record { state = state_after_of b; refusal = so_far_of b }) (met_with r)
unfolding state_after_of
met_piece b r e n = rw (e, n)

pub next_piece : (b : List ℕ) (r : Option Refusal) → so_far_of b ≡ r → is_none r ≡ true
    → ◌≡◌ {A = Pieced} (record { state = state_after_of b; refusal = so_far_of b }) (record { state = keeping b r; refusal = r })
unfolding state_after_of
next_piece b r e n = rw (none_is r n, e ∙ none_is r n)

-- the bytes so far of a state that brings no refusal are among its bytes
pub ruleset among = (common_steps, within)
