-- "After a refusal every later call repeats it and writes nothing", "one that answers hands back a fresh state", and a piece of no bytes
-- changes nothing.
use Prim.Native.Nat.{ℕ}
use mathlib.Core.Path.{◌≡◌, refl, sym, ap, ◌∙◌}
use mathlib.Core.Bool.{Bool, true, false, false≢true}
use mathlib.Core.List.{List, [], ◌∷◌, ◌++◌, append-nil}
use native.Mathlib.Omega.{arith}
use lib.ListN.{length}
use Rattle.std.specs.Prelude.{Option, Some, None, is_none}
use Rattle.std.specs.Result.{result_err, result_unwrap_or}
use Rattle.refusals.specs.declared.Refusal.{Refusal}
use Rattle.refusals.specs.Refusals.{unless_refused}
use Rattle.refusals.proofs.Refusing.{none_is}
use Rattle.listing.specs.Longest.{longest}
use Rattle.listing.specs.Outcome.{refusal_of}
use Rattle.piece_state.specs.declared.Pieces.{Pieces}
use Rattle.pieces.specs.declared.Pieced.{Pieced}
use Rattle.pieces.specs.declared.Ended.{Ended}
use Rattle.piece_state.specs.State.{keeping, fresh_state, so_far_of, state_after_of, bytes_so_far, handed_in_of}
use Rattle.pieces.specs.Calls.{piece_of, end_of, end_output_of}
use Rattle.piece_state.proofs.Kept.{brings_none}
use Rattle.pieces.proofs.Calls.{refused_by, refused_piece, refused_end, refused_output, taken-piece, taken-end}
use Rattle.piece_laws.specs.Sequences.{Call, piece, end, state_by, said_by, run}
use Rattle.piece_laws.proofs.Produced.{kept_refusal, keeping-produced, brings, given}
use Rattle.piece_laws.proofs.Cuts.{after_brings}
use Rattle.piece_laws.proofs.Reached.{open_state}

-- the state that a call hands back brings what the call said
pub keeps_said : (s : Pieces) (c : Call) → handed_in_of (state_by s c) ≡ said_by s c
keeps_said s (piece p) = go (is_none (handed_in_of s)) refl
  where
    go : (t : Bool) → is_none (handed_in_of s) ≡ t → handed_in_of (piece_of s p).state ≡ (piece_of s p).refusal
    go true e = rw (taken-piece s e p) (after_brings (bytes_so_far s ++ p))
    go false e = rw (refused_piece s p e)
keeps_said s (end n) = go (is_none (handed_in_of s)) refl
  where
    go : (t : Bool) → is_none (handed_in_of s) ≡ t → handed_in_of (end_of s n).state ≡ result_err (end_of s n).written
    go true e =
        let r = refusal_of (bytes_so_far s) n in
        let whole = keeping-produced [] r (omega arith) (given (bytes_so_far s) n) in
        rw (taken-end s e n, refused_by) (brings (keeping [] r) whole ∙ kept_refusal [] r)
    go false e = rw (refused_end s n e, refused_by)

-- a state that brings a refusal comes back unchanged, and every call says that refusal
module _ (s : Pieces) (n : is_none (handed_in_of s) ≡ false) where
  same_state : (c : Call) → state_by s c ≡ s
  same_state (piece p) = ap (λ (r : Pieced). r.state) (refused_piece s p n)
  same_state (end m) = ap (λ (r : Ended). r.state) (refused_end s m n)

  same_said : (c : Call) → said_by s c ≡ handed_in_of s
  same_said (piece p) = ap (λ (r : Pieced). r.refusal) (refused_piece s p n)
  same_said (end m) = ap (λ (r : Ended). result_err r.written) (refused_end s m n) ∙ refused_by (handed_in_of s) 0

  still : (cs : List Call) → run s cs ≡ s
  still [] = refl
  still (c ∷ cs) = ap (λ (t : Pieces). run t cs) (same_state c) ∙ still cs

-- a call that is refused, or has nothing to write, writes nothing
none_written : (r : Option Refusal) → result_unwrap_or {T = ℕ} (unless_refused r 0) 0 ≡ 0
none_written None = refl
none_written (Some r) = refl

-- after a refused call, whatever calls come between
module _ (s : Pieces) (c : Call) (n : is_none (said_by s c) ≡ false) (between : List Call) where
  abbrev then : Pieces
  then = run (state_by s c) between

  refused : is_none (handed_in_of (state_by s c)) ≡ false
  refused = ap is_none (keeps_said s c) ∙ n

  pub unchanged : then ≡ state_by s c
  unchanged = still (state_by s c) refused between

  refused_then : is_none (handed_in_of then) ≡ false
  refused_then = ap (λ (t : Pieces). is_none (handed_in_of t)) unchanged ∙ refused

  pub repeats : (d : Call) → said_by then d ≡ said_by s c
  repeats d = same_said then refused_then d ∙ ap handed_in_of unchanged ∙ keeps_said s c

  pub writes_nothing : (output : List ℕ) → (result_unwrap_or (end_of then (length output)).written 0 ≡ 0) × (end_output_of then output ≡ output)
  writes_nothing output =
      let said = refused_end then (length output) refused_then in
      (ap (λ (r : Ended). result_unwrap_or r.written 0) said ∙ none_written (handed_in_of then), refused_output then output refused_then)

-- an end that answers
pub answered_fresh : (s : Pieces) (outputs : ℕ)
    → is_none (result_err (end_of s outputs).written) ≡ true → (end_of s outputs).state ≡ fresh_state
answered_fresh s outputs a = go (is_none (handed_in_of s)) refl
  where
    go : (t : Bool) → is_none (handed_in_of s) ≡ t → (end_of s outputs).state ≡ fresh_state
    go true e =
        let none : is_none (refusal_of (bytes_so_far s) outputs) ≡ true = rw (taken-end s e outputs, refused_by) at a in
        rw (taken-end s e outputs, refused_by) (ap (keeping []) (none_is (refusal_of (bytes_so_far s) outputs) none))
    go false e = absurd (false≢true (sym e ∙ rw (refused_end s outputs e, refused_by) at a))

-- a piece of no bytes, with any state
pub no_bytes : (s : Pieces) → length s.bytes ≡ longest → piece_of s [] ≡ record { state = s; refusal = handed_in_of s }
no_bytes s full = go (is_none (handed_in_of s)) refl
  where
    go : (t : Bool) → is_none (handed_in_of s) ≡ t → piece_of s [] ≡ record { state = s; refusal = handed_in_of s }
    go true e =
        let good = brings_none s e in
        let same : state_after_of (bytes_so_far s) ≡ s = sym (open_state s full good.0 (none_is s.refusal good.1)) in
        let said : so_far_of (bytes_so_far s) ≡ handed_in_of s = sym (after_brings (bytes_so_far s)) ∙ ap handed_in_of same in
        taken-piece s e [] ∙ rw (append-nil (bytes_so_far s), same, said)
    go false e = refused_piece s [] e
