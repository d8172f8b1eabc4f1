-- Which states calls from a fresh one produce: those that `produced` finds, and no others.
use Prim.Native.Nat.{ℕ, ◌-◌, ◌≤◌}
use mathlib.Core.Path.{◌≡◌, refl, ap, ◌∙◌}
use mathlib.Core.Bool.{Bool, true, false, cond}
use mathlib.Core.List.{List, [], ◌∷◌, ◌++◌}
use native.Mathlib.Omega.{arith}
use borrow.Author.Tests.{le-leb}
use lib.ListN.{length, take, drop, replicate}
use lib.Seq.{take-append_seam, drop-append_seam}
use lib.Dec.{ltb}
use Rattle.std.specs.Prelude.{Option, None, is_none}
use Rattle.refusals.specs.declared.Refusal.{Refusal}
use Rattle.refusals.specs.declared.Refusal.TheVariants.{Output, After}
use Rattle.refusals.specs.Refusals.{◌before◌, refused_when}
use Rattle.refusals.proofs.Refusing.{before_keeps, when_keeps}
use Rattle.sections.specs.Sections.{functions_of, patterns_of, past_patterns}
use Rattle.sections.specs.Order.{sections_refusal}
use Rattle.sections.proofs.Given.{sections_keep}
use Rattle.listing.specs.Answered.{answered}
use Rattle.listing.specs.Longest.{longest, longest_answered}
use Rattle.listing.specs.Outcome.{refusal_of}
use Rattle.piece_state.specs.declared.Pieces.{Pieces}
use Rattle.piece_state.specs.State.{keeping, fresh_state, so_far_of, state_after_of, bytes_so_far, all_zero, may_keep_of, produced, handed_in_of}
use Rattle.pieces.specs.Calls.{piece_of, end_of}
use Rattle.piece_state.proofs.SoFar.{short_so_far}
use Rattle.piece_state.proofs.Kept.{all-zero}
use Rattle.pieces.proofs.Calls.{refused_by, refused_piece, refused_end, taken-piece, taken-end}
use Rattle.piece_laws.specs.Sequences.{Call, piece, end, state_by, run}
use Rattle.piece_laws.proofs.When.{one_byte}

pub nothing_yet : so_far_of [] ≡ None
nothing_yet = one_byte [] (omega arith)

-- what a state keeps is what it was made of
module _ (b : List ℕ) (r : Option Refusal) where
  pub kept_bytes : bytes_so_far (keeping b r) ≡ b
  unfolding keeping
  kept_bytes = take-append_seam b (replicate (longest - length b) 0)

  pub kept_refusal : (keeping b r).refusal ≡ r
  unfolding keeping
  kept_refusal = refl

  pub keeping-produced : length b ≤ longest → may_keep_of r b ≡ true → produced (keeping b r) ≡ true
  unfolding produced keeping
  keeping-produced h k =
      let blank : all_zero (drop (length b) (b ++ replicate (longest - length b) 0)) ≡ true =
      ap all_zero (drop-append_seam b (replicate (longest - length b) 0)) ∙ all-zero (longest - length b) in
      let may : may_keep_of r (take (length b) (b ++ replicate (longest - length b) 0)) ≡ true =
      ap (may_keep_of r) (take-append_seam b (replicate (longest - length b) 0)) ∙ k in
      rw (le-leb (length b) longest h, blank, may)

-- a state that is produced brings its refusal
pub brings : (s : Pieces) → produced s ≡ true → handed_in_of s ≡ s.refusal
unfolding handed_in_of
brings s p = rw p

-- a refusal that the listing call gives, or none, may be kept without bytes
pub given : (b : List ℕ) (outputs : ℕ) → may_keep_of (refusal_of b outputs) [] ≡ true
unfolding refusal_of
given b outputs =
    let P : Option Refusal → Type 0 = λ r. may_keep_of r [] ≡ true in
    let none : P None = ap is_none nothing_yet in
    let after = refused_when (ltb (past_patterns b) (length b)) After in
    let short = refused_when (ltb outputs (length (answered (functions_of b) (patterns_of b)))) Output in
    before_keeps P (sections_refusal b) (after before short) (sections_keep P none refl refl refl b) (λ _.
    before_keeps P after short (when_keeps P (ltb (past_patterns b) (length b)) After none refl) (λ _.
    when_keeps P (ltb outputs (length (answered (functions_of b) (patterns_of b)))) Output none refl))

given_so_far : (b : List ℕ) → may_keep_of (so_far_of b) [] ≡ true
unfolding so_far_of
given_so_far b = let none = ap is_none nothing_yet in grind (arith, given b longest_answered)

pub after-produced : (b : List ℕ) → produced (state_after_of b) ≡ true
unfolding state_after_of
after-produced b = go (is_none (so_far_of b)) refl
  where
    go : (t : Bool) → is_none (so_far_of b) ≡ t → produced (cond t (keeping b None) (keeping [] (so_far_of b))) ≡ true
    go true e = keeping-produced b None (short_so_far b e) e
    go false e = keeping-produced [] (so_far_of b) (omega arith) (given_so_far b)

pub fresh_produced : produced fresh_state ≡ true
fresh_produced = keeping-produced [] None (omega arith) (ap is_none nothing_yet)

-- every call from a produced state gives one
pub stays_produced : (s : Pieces) (c : Call) → produced s ≡ true → produced (state_by s c) ≡ true
stays_produced s (piece p) h = go (is_none (handed_in_of s)) refl
  where
    go : (t : Bool) → is_none (handed_in_of s) ≡ t → produced (piece_of s p).state ≡ true
    go true e = rw (taken-piece s e p) (after-produced (bytes_so_far s ++ p))
    go false e = rw (refused_piece s p e) h
stays_produced s (end n) h = go (is_none (handed_in_of s)) refl
  where
    go : (t : Bool) → is_none (handed_in_of s) ≡ t → produced (end_of s n).state ≡ true
    go true e =
        let r = refusal_of (bytes_so_far s) n in
        rw (taken-end s e n, refused_by) (keeping-produced [] r (omega arith) (given (bytes_so_far s) n))
    go false e = rw (refused_end s n e) h

pub only_produced : (cs : List Call) → produced (run fresh_state cs) ≡ true
only_produced cs = go fresh_state cs fresh_produced
  where
    go : (s : Pieces) (cs : List Call) → produced s ≡ true → produced (run s cs) ≡ true
    go s [] h = h
    go s (c ∷ cs) h = go (state_by s c) cs (stays_produced s c h)
