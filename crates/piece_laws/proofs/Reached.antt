-- Every state that `produced` finds is produced by calls from a fresh one.
use Prim.Native.Nat.{ℕ, zero, suc}
use mathlib.Core.Path.{◌≡◌, refl, sym, ap, ◌∙◌, subst}
use mathlib.Core.Bool.{Bool, true, false, ◌&&◌, false≢true}
use mathlib.Core.List.{List, [], ◌∷◌, append-nil}
use native.Mathlib.Omega.{arith}
use borrow.Author.Tests.{eqb-true, ltb-true}
use lib.ListN.{length, take}
use lib.Dec.{ltb, eqb}
use Rattle.std.proofs.lemmas.List.{nil_from_length}
use Rattle.std.specs.Prelude.{Option, Some, None, is_none}
use Rattle.refusals.specs.declared.Refusal.{Refusal}
use Rattle.refusals.specs.declared.Refusal.TheVariants.{Function, Output, Start, Cut, Limits, After, Count, Different, State}
use Rattle.sections.specs.Sections.{section, functions_of, patterns_of, past_patterns}
use Rattle.sections.specs.Order.{section_refusal_of, sections_refusal}
use Rattle.sections.proofs.Back.{Bytes}
use Rattle.sections.proofs.Known.{both}
use Rattle.listing.specs.Answered.{listing, answered}
use Rattle.listing.specs.Longest.{longest}
use Rattle.listing.specs.Outcome.{refusal_of, writes}
use Rattle.piece_state.specs.declared.Pieces.{Pieces}
use Rattle.pieces.specs.declared.Ended.{Ended}
use Rattle.piece_state.specs.State.{keeping, fresh_state, so_far_of, state_after_of, bytes_so_far, from_listing, may_keep_of, produced}
use Rattle.pieces.specs.Calls.{end_of}
use Rattle.piece_state.proofs.Kept.{Good, good_of, keeps}
use Rattle.pieces.proofs.Calls.{refused_by}
use Rattle.piece_laws.specs.Sequences.{Call, piece, end, run, AllMade}
use Rattle.piece_laws.proofs.Cuts.{none_after, met_after, pieces_give, end_after, fresh_after}

pub record Reached (s : Pieces) : Type 0 where
  pub calls : List Call
  pub made : AllMade calls
  pub gives : run fresh_state calls ≡ s

-- one piece, one end, and a piece that meets nothing before an end
first_piece : (b : List ℕ) → run fresh_state (piece b ∷ []) ≡ state_after_of b
first_piece b = pieces_give (b ∷ []) ∙ ap state_after_of (append-nil b)

ended : (b : List ℕ) → (end_of (state_after_of b) 0).state ≡ keeping [] (refusal_of b 0)
ended b = ap (λ (r : Ended). r.state) (end_after b []).0 ∙ ap (keeping []) (refused_by (refusal_of b 0) (length (writes b 0)))

first_end : run fresh_state (end 0 ∷ []) ≡ keeping [] (refusal_of [] 0)
first_end = ap (λ (s : Pieces). (end_of s 0).state) (sym fresh_after) ∙ ended []

then_end : (b : List ℕ) → run fresh_state (piece b ∷ end 0 ∷ []) ≡ keeping [] (refusal_of b 0)
then_end b = ap (λ (s : Pieces). (end_of s 0).state) (first_piece b) ∙ ended b

met_first : (b : List ℕ) (r : Refusal) → so_far_of b ≡ Some r → run fresh_state (piece b ∷ []) ≡ keeping [] (Some r)
met_first b r e = first_piece b ∙ met_after b (ap is_none e) ∙ ap (keeping []) e

-- a refused state keeps no bytes and a refusal of the listing call
module _ (s : Pieces) (full : length s.bytes ≡ longest) (g : Good s) where
  refused_state : (r : Refusal) → s.refusal ≡ Some r → (from_listing r ≡ true) × (s ≡ keeping [] (Some r))
  refused_state r e =
      let k : may_keep_of (Some r) (bytes_so_far s) ≡ true = subst (λ (r : Option Refusal). may_keep_of r (bytes_so_far s) ≡ true) e g.kept in
      let h = both (from_listing r) (eqb (length (bytes_so_far s)) 0) k in
      let none = nil_from_length (bytes_so_far s) (eqb-true (length (bytes_so_far s)) 0 h.1) in
      (h.0, keeps s full g ∙ ap (λ (l : List ℕ). keeping l s.refusal) none ∙ ap (keeping []) e)

  never : (r : Refusal) → s.refusal ≡ Some r → from_listing r ≡ false → Reached s
  never r e f = absurd (false≢true (sym f ∙ (refused_state r e).0))

  pub open_state : s.refusal ≡ None → s ≡ state_after_of (bytes_so_far s)
  open_state e =
      let k : is_none (so_far_of (bytes_so_far s)) ≡ true = subst (λ (r : Option Refusal). may_keep_of r (bytes_so_far s) ≡ true) e g.kept in
      keeps s full g ∙ ap (keeping (bytes_so_far s)) e ∙ sym (none_after (bytes_so_far s) k)

part_bytes : (n : ℕ) (b : List ℕ) → Bytes b → Bytes (take n b)
part_bytes zero b h i = omega arith
part_bytes (suc n) [] h i = omega arith
part_bytes (suc n) (x ∷ b) h zero = h zero
part_bytes (suc n) (x ∷ b) h (suc i) = part_bytes n b (λ j. h (suc j)) i

-- bytes of a few places, each below 256
abbrev all_small : List ℕ → Bool
all_small [] = true
all_small (x ∷ b) = ltb x 256 && all_small b

small : (b : List ℕ) → all_small b ≡ true → Bytes b
small [] e i = omega arith
small (x ∷ b) e zero = ltb-true x 256 (both (ltb x 256) (all_small b) e).0
small (x ∷ b) e (suc i) = small b (both (ltb x 256) (all_small b) e).1 i

-- for every state that passes the test, and is a value of its type, there are calls that produce it
pub reaches : (s : Pieces) → length s.bytes ≡ longest → Bytes s.bytes → produced s ≡ true → Reached s
unfolding so_far_of refusal_of sections_refusal section_refusal_of functions_of patterns_of past_patterns answered listing section
reaches s full bytes h = by s.refusal refl
  where
    g : Good s
    g = good_of s h

    one : (b : List ℕ) (r : Refusal) → all_small b ≡ true → so_far_of b ≡ Some r → s.refusal ≡ Some r → Reached s
    one b r m met e = record { calls = piece b ∷ []; made = (small b m, tt); gives = met_first b r met ∙ sym (refused_state s full g r e).1 }

    by : (r : Option Refusal) → s.refusal ≡ r → Reached s
    by None e =
        record {
          calls = piece (bytes_so_far s) ∷ [];
          made = (part_bytes s.count s.bytes bytes, tt);
          gives = first_piece (bytes_so_far s) ∙ sym (open_state s full g e);
        }
    by (Some Function) e = one (1 ∷ 0 ∷ 0 ∷ 0 ∷ []) Function refl refl e
    by (Some Output) e =
        record {
          calls = piece (1 ∷ 0 ∷ 1 ∷ 0 ∷ 0 ∷ 0 ∷ []) ∷ end 0 ∷ [];
          made = (small (1 ∷ 0 ∷ 1 ∷ 0 ∷ 0 ∷ 0 ∷ []) refl, (tt, tt));
          gives = then_end (1 ∷ 0 ∷ 1 ∷ 0 ∷ 0 ∷ 0 ∷ []) ∙ sym (refused_state s full g Output e).1;
        }
    by (Some Start) e = never s full g Start e refl
    by (Some Cut) e = record { calls = end 0 ∷ []; made = (tt, tt); gives = first_end ∙ sym (refused_state s full g Cut e).1 }
    by (Some Limits) e = one (0 ∷ 0 ∷ []) Limits refl refl e
    by (Some After) e = one (1 ∷ 0 ∷ 1 ∷ 0 ∷ 0 ∷ 0 ∷ 0 ∷ []) After refl refl e
    by (Some Count) e = never s full g Count e refl
    by (Some Different) e = never s full g Different e refl
    by (Some State) e = never s full g State e refl
