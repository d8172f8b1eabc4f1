-- "However it was cut, the answered bytes or the refusal are those of the whole listing": the cuts change nothing but the call at which
-- a refusal comes.
use Prim.Native.Nat.{ℕ}
use mathlib.Core.Path.{◌≡◌, refl, sym, ap, ◌∙◌}
use mathlib.Core.Bool.{Bool, true, false}
use mathlib.Core.List.{List, [], ◌∷◌, ◌++◌, append_assoc, append-nil}
use lib.ListN.{length}
use Rattle.std.specs.Prelude.{Option, Some, None, is_none}
use Rattle.refusals.specs.declared.Refusal.{Refusal}
use Rattle.refusals.proofs.Refusing.{none_is}
use Rattle.listing.specs.Outcome.{listed_of, output_of}
use Rattle.listing.proofs.Calls.{refused_call}
use Rattle.piece_state.specs.declared.Pieces.{Pieces}
use Rattle.pieces.specs.declared.Pieced.{Pieced}
use Rattle.piece_state.specs.State.{keeping, fresh_state, so_far_of, state_after_of, bytes_so_far, handed_in_of}
use Rattle.pieces.specs.Calls.{piece_of, ended_with, end_of, end_output_of}
use Rattle.pieces.proofs.Calls.{refused_piece, refused_end, refused_output, taken-piece, taken-end, taken-output}
use Rattle.piece_laws.specs.Sequences.{run, pieces, joined}
use Rattle.piece_laws.proofs.Growing.{met_whole, met_stays}
use Rattle.piece_laws.proofs.Produced.{nothing_yet, kept_bytes, kept_refusal, brings, after-produced}

-- the state after bytes that have met nothing, and after bytes that have met a refusal
module _ (b : List ℕ) where
  pub none_after : is_none (so_far_of b) ≡ true → state_after_of b ≡ keeping b None
  unfolding state_after_of
  none_after n = rw n

  pub met_after : is_none (so_far_of b) ≡ false → state_after_of b ≡ keeping [] (so_far_of b)
  unfolding state_after_of
  met_after n = rw n

  -- what it brings
  pub after_brings : handed_in_of (state_after_of b) ≡ so_far_of b
  after_brings = brings (state_after_of b) (after-produced b) ∙ go (is_none (so_far_of b)) refl
    where
      go : (t : Bool) → is_none (so_far_of b) ≡ t → (state_after_of b).refusal ≡ so_far_of b
      go true e = ap (λ (s : Pieces). s.refusal) (none_after e) ∙ kept_refusal b None ∙ sym (none_is (so_far_of b) e)
      go false e = ap (λ (s : Pieces). s.refusal) (met_after e) ∙ kept_refusal [] (so_far_of b)

-- an end call with this state gives what the listing call gives on these bytes
abbrev pub EndsAs : Pieces → List ℕ → List ℕ → Type 0
EndsAs s b output = (end_of s (length output) ≡ ended_with (listed_of b (length output))) × (end_output_of s output ≡ output_of b output)

abbrev pieced : List ℕ → Pieced
pieced b = record { state = state_after_of b; refusal = so_far_of b }

module _ (b : List ℕ) where
  -- one piece more
  pub piece_after : (p : List ℕ) → piece_of (state_after_of b) p ≡ pieced (b ++ p)
  piece_after p = go (is_none (so_far_of b)) refl
    where
      go : (t : Bool) → is_none (so_far_of b) ≡ t → piece_of (state_after_of b) p ≡ pieced (b ++ p)
      go true e =
          taken-piece (state_after_of b) (ap is_none (after_brings b) ∙ e) p
          ∙ ap (λ (l : List ℕ). pieced (l ++ p)) (ap bytes_so_far (none_after b e) ∙ kept_bytes b None)
      go false e =
          let same = met_stays b e p in
          let state : state_after_of (b ++ p) ≡ state_after_of b =
          met_after (b ++ p) (ap is_none same ∙ e) ∙ ap (keeping []) same ∙ sym (met_after b e) in
          refused_piece (state_after_of b) p (ap is_none (after_brings b) ∙ e) ∙ rw (after_brings b, state, same)

  -- the end
  pub end_after : (output : List ℕ) → EndsAs (state_after_of b) b output
  end_after output = go (so_far_of b) refl
    where
      go : (r : Option Refusal) → so_far_of b ≡ r → EndsAs (state_after_of b) b output
      go None e =
          let n = ap is_none (after_brings b ∙ e) in
          let same : bytes_so_far (state_after_of b) ≡ b = ap bytes_so_far (none_after b (ap is_none e)) ∙ kept_bytes b None in (
            taken-end (state_after_of b) n (length output) ∙ ap (λ (l : List ℕ). ended_with (listed_of l (length output))) same,
            taken-output (state_after_of b) n output ∙ ap (λ (l : List ℕ). output_of l output) same,
          )
      go (Some r) e =
          let n = ap is_none e in
          let q = refused_call b output r (met_whole b n (length output) ∙ e) in (
            refused_end (state_after_of b) (length output) (ap is_none (after_brings b) ∙ n)
                ∙ rw (after_brings b, met_after b n, e) (ap ended_with q.0),
            refused_output (state_after_of b) output (ap is_none (after_brings b) ∙ n) ∙ q.1,
          )

pub fresh_after : state_after_of [] ≡ fresh_state
fresh_after = none_after [] (ap is_none nothing_yet)

-- any pieces, from a fresh state
pub pieces_give : (ps : List (List ℕ)) → run fresh_state (pieces ps) ≡ state_after_of (joined ps)
pieces_give ps = ap (λ (s : Pieces). run s (pieces ps)) (sym fresh_after) ∙ go [] ps
  where
    go : (b : List ℕ) (ps : List (List ℕ)) → run (state_after_of b) (pieces ps) ≡ state_after_of (b ++ joined ps)
    go b [] = ap state_after_of (sym (append-nil b))
    go b (p ∷ ps) =
        ap (λ (r : Pieced). run r.state (pieces ps)) (piece_after b p) ∙ go (b ++ p) ps ∙ ap state_after_of (append_assoc b p (joined ps))

-- the theorem: what a piece call says is what all the bytes have met, and what the end call gives is what the listing call gives on them all
pub however_cut : (ps : List (List ℕ)) (p output : List ℕ)
    → let s = run fresh_state (pieces ps) in
    ((piece_of s p).refusal ≡ so_far_of (joined ps ++ p))
    × (end_of s (length output) ≡ ended_with (listed_of (joined ps) (length output)))
    × (end_output_of s output ≡ output_of (joined ps) output)
however_cut ps p output =
    let e = pieces_give ps in
    let q = end_after (joined ps) output in
    rw e (ap (λ (r : Pieced). r.refusal) (piece_after (joined ps) p), q.0, q.1)

-- cut anywhere else, the same
pub cut_elsewhere : (ps qs : List (List ℕ)) → joined ps ≡ joined qs → run fresh_state (pieces ps) ≡ run fresh_state (pieces qs)
cut_elsewhere ps qs e = pieces_give ps ∙ ap state_after_of e ∙ sym (pieces_give qs)
