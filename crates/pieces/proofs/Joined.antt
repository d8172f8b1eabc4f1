-- The next bytes written over the zeros after those so far: the bytes so far and the next ones, as many as there is room for, and
-- what the piece call gives by them.
use Prim.Native.Nat.{ℕ, ◌+◌, ◌-◌, ◌≤◌, ◌<◌}
use mathlib.Core.Path.{◌≡◌, refl, sym, ap, ◌∙◌}
use mathlib.Core.Bool.{true, false}
use mathlib.Core.List.{List, [], ◌++◌, append_assoc, append-nil}
use native.Mathlib.Omega.{arith}
use borrow.Rule.Slice.PartMut.{mid_of, put_mid}
use lib.ListN.{length, take, drop, replicate, length-append, length-drop, length-replicate, take-append-drop, drop_of_length-le}
use lib.Seq.{sets, length-sets, take_all, take_at}
use Rattle.std.proofs.lemmas.Grind.{common_steps}
use Rattle.std.specs.Prelude.{Option, Some, None, is_none}
use Rattle.refusals.specs.declared.Refusal.{Refusal}
use Rattle.listing.specs.Longest.{longest}
use Rattle.piece_state.specs.declared.Pieces.{Pieces}
use Rattle.piece_state.specs.State.{keeping, so_far_of, after_more, state_after_of, bytes_so_far, handed_in_of}
use Rattle.piece_state.proofs.SoFar.{too_long}
use Rattle.piece_state.proofs.Kept.{Good, brings_none, within, size, rest, fits, fills}
use Rattle.pieces.specs.declared.Pieced.{Pieced}
use Rattle.pieces.specs.Calls.{met_with, piece_of}
use Rattle.pieces.proofs.Calls.{taken-piece, met_piece, next_piece}

more_refused : (r : Option Refusal) → is_none (after_more r) ≡ false
more_refused None = refl
more_refused (Some r) = refl

-- a state that brings no refusal, and what a write of p into the part after its bytes left there
module _ (s : Pieces) (full : length s.bytes ≡ longest) (none : handed_in_of s ≡ None) (p left : List ℕ)
    (e : left ≡ sets (mid_of s.count (longest - s.count) s.bytes) 0 p) where
  g : Good s
  g = (brings_none s (ap is_none none)).0

  abbrev room : ℕ
  room = longest - s.count

  abbrev next : List ℕ
  next = put_mid s.count room s.bytes left

  abbrev all : List ℕ
  all = bytes_so_far s ++ p

  over : next ≡ bytes_so_far s ++ sets (replicate room 0) 0 p
  over =
      let z = rest s full g in
      let n : length (replicate {A = ℕ} room 0) ≡ room = length-replicate {A = ℕ} room 0 in
      let part : mid_of s.count room s.bytes ≡ replicate room 0 = ap (take room) z ∙ take_all room (replicate room 0) (omega arith) in
      let after : drop room (drop s.count s.bytes) ≡ [] = ap (drop room) z ∙ drop_of_length-le (replicate room 0) {i = room} (omega arith) in
      let wrote : left ≡ sets (replicate room 0) 0 p = e ∙ ap (λ (l : List ℕ). sets l 0 p) part in
      rw (after, append-nil, wrote)

  all-size : length all ≡ s.count + length p
  all-size = length-append (bytes_so_far s) p ∙ ap (λ (n : ℕ). n + length p) (size s full g)

  next-size : length next ≡ longest
  next-size =
      let z : length (sets (replicate room 0) 0 p) ≡ room = length-sets (replicate room 0) 0 p ∙ length-replicate {A = ℕ} room 0 in
      ap length over ∙ length-append (bytes_so_far s) (sets (replicate room 0) 0 p) ∙ omega (arith, z, size s full g, g.within)

  -- the call's outcome, by what all of them have met
  outcome : piece_of s p ≡ record { state = state_after_of all; refusal = so_far_of all }
  outcome = taken-piece s (ap is_none none) p

  refused-now : (r : Option Refusal) → so_far_of all ≡ r → is_none r ≡ false → met_with r ≡ piece_of s p
  refused-now r h n = sym (outcome ∙ met_piece all r h n)

  -- there is room for p, and r was found of the first m bytes, as many as have come
  module _ (h : length p ≤ room) (m : ℕ) (q : m ≡ s.count + length p) (r : Option Refusal) (found : r ≡ so_far_of (take m next)) where
    next-first : take (s.count + length p) next ≡ all
    next-first =
        ap (take (s.count + length p)) (over ∙ fits (bytes_so_far s) p room h)
        ∙ take_at all (replicate (room - length p) 0) (s.count + length p) all-size

    all-met : so_far_of all ≡ r
    all-met = sym (found ∙ ap (λ (k : ℕ). so_far_of (take k next)) q ∙ ap so_far_of next-first)

    pub refused : is_none r ≡ false → met_with r ≡ piece_of s p
    refused n = refused-now r all-met n

    next-keeps : ◌≡◌ {A = Pieces} (record { bytes = next; count = s.count + length p; refusal = r }) (keeping all r)
    unfolding keeping
    next-keeps =
        let same : room - length p ≡ longest - length all = omega (arith, all-size) in
        let b : next ≡ all ++ replicate (longest - length all) 0 =
        over ∙ fits (bytes_so_far s) p room h ∙ ap (λ (k : ℕ). all ++ replicate k 0) same in
        rw (b, all-size)

    pub kept : is_none r ≡ true
        → ◌≡◌ {A = Pieced} (record { state = record { bytes = next; count = s.count + length p; refusal = r }; refusal = r }) (piece_of s p)
    kept n = ap (λ (x : Pieces). record { state = x; refusal = r }) next-keeps ∙ sym (outcome ∙ next_piece all r all-met n)

  -- there is not
  pub refused-more : room < length p → (r : Option Refusal) → r ≡ after_more (so_far_of next) → met_with r ≡ piece_of s p
  refused-more h r found =
      let first : next ≡ bytes_so_far s ++ take room p = over ∙ fills (bytes_so_far s) p room (omega arith) in
      let both : all ≡ next ++ drop room p =
      ap (λ (l : List ℕ). bytes_so_far s ++ l) (sym (take-append-drop room p)) ∙ sym (append_assoc (bytes_so_far s) (take room p) (drop room p))
      ∙ ap (λ (l : List ℕ). l ++ drop room p) (sym first) in
      let more = ap so_far_of both ∙ too_long next (drop room p) next-size (omega (arith, length-drop room p)) in
      refused-now r (more ∙ sym found) (ap is_none found ∙ more_refused (so_far_of next))

pub ruleset outcomes = (common_steps, within, refused, kept, refused-more)
