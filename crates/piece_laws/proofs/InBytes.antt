-- The state in bytes: "all zeros being fresh"; what was laid out is read back, and bytes in which a state lies that calls produce are
-- those of that state.
use Prim.Native.Nat.{ℕ, ◌+◌, ◌/◌, ◌%◌}
use mathlib.Core.Path.{◌≡◌, refl, sym, ap, ◌∙◌}
use mathlib.Core.Bool.{true, false}
use mathlib.Core.List.{List, [], ◌∷◌, ◌++◌, append_assoc, append-nil}
use native.Mathlib.Omega.{arith}
use lib.ListN.{length, take, drop, get_or, replicate, length-append, take-append-drop, drop_of_length-le}
use lib.Seq.{take_at, drop-cons}
use Rattle.std.proofs.lemmas.Bool.Decides.{nat_tests}
use Rattle.std.specs.Prelude.{Option}
use Rattle.refusals.specs.declared.Refusal.{Refusal}
use Rattle.refusals.specs.Refusals.{number_or_zero, refusal_numbered, is_state}
use Rattle.words.specs.Numbers.{bytes_of, number_at_of}
use Rattle.sections.proofs.Back.{Bytes, number_back}
use Rattle.piece_state.specs.declared.Pieces.{Pieces}
use Rattle.piece_state.specs.State.{keeping, fresh_state, bytes_so_far, may_keep_of, produced}
use Rattle.piece_state.proofs.Kept.{good_of}
use Rattle.stored.specs.Stored.{state_in_of, layout}

-- each refusal has its number back
pub numbered_back : (r : Option Refusal) → refusal_numbered (number_or_zero r) ≡ r
numbered_back r = grind (arith, nat_tests)

-- and a number that is no State's is that of its refusal
pub number_numbered : (n : ℕ) → is_state (refusal_numbered n) ≡ false → number_or_zero (refusal_numbered n) ≡ n
number_numbered n h = grind (arith, nat_tests)

-- a state that calls produce has no State
kept_other : (r : Option Refusal) (b : List ℕ) → may_keep_of r b ≡ true → is_state r ≡ false
kept_other r b k = grind arith

not_forged : (s : Pieces) → produced s ≡ true → is_state s.refusal ≡ false
not_forged s h = kept_other s.refusal (bytes_so_far s) (good_of s h).kept

pub zeros_fresh : state_in_of (replicate 2076 0) ≡ fresh_state
unfolding state_in_of keeping
zeros_fresh = refl

module _ (s : Pieces) (full : length s.bytes ≡ 2072) where
  pub layout_back : state_in_of (layout s) ≡ s
  unfolding state_in_of layout
  layout_back =
      let count = bytes_of s.count in
      let refusal = bytes_of (number_or_zero s.refusal) in
      let b = s.bytes ++ (count ++ refusal) in
      let bytes : take 2072 b ≡ s.bytes = take_at s.bytes (count ++ refusal) 2072 full in
      let counted : number_at_of b 2072 ≡ s.count = ap (number_at_of b) (sym full) ∙ number_back s.bytes s.count refusal in
      let e : s.bytes ++ count ++ (refusal ++ []) ≡ b = rw append-nil (append_assoc s.bytes count refusal) in
      let at : length (s.bytes ++ count) ≡ 2074 = length-append s.bytes count ∙ omega (arith, full) in
      let kept : number_at_of b 2074 ≡ number_or_zero s.refusal =
      ap (number_at_of b) (sym at) ∙ ap (λ (l : List ℕ). number_at_of l (length (s.bytes ++ count))) (sym e)
      ∙ number_back (s.bytes ++ count) (number_or_zero s.refusal) [] in
      rw (bytes, counted, kept, numbered_back s.refusal)

-- bytes in which a state lies that calls produce are those of that state: so they are what the calls that produce it leave
module _ (b : List ℕ) (size : length b ≡ 2076) (bytes : Bytes b) where
  two_bytes : (at : ℕ) → bytes_of (number_at_of b at) ≡ get_or b at 0 ∷ get_or b (at + 1) 0 ∷ []
  two_bytes at =
      let low : number_at_of b at % 256 ≡ get_or b at 0 = omega (arith, bytes at) in
      let high : number_at_of b at / 256 ≡ get_or b (at + 1) 0 = omega (arith, bytes at) in
      rw (low, high)

  last_four : drop 2072 b ≡ get_or b 2072 0 ∷ get_or b 2073 0 ∷ get_or b 2074 0 ∷ get_or b 2075 0 ∷ []
  last_four =
      drop-cons b 2072 0 (omega arith)
      ∙ ap (λ (l : List ℕ). get_or b 2072 0 ∷ l) (drop-cons b 2073 0 (omega arith)
      ∙ ap (λ (l : List ℕ). get_or b 2073 0 ∷ l) (drop-cons b 2074 0 (omega arith)
      ∙ ap (λ (l : List ℕ). get_or b 2074 0 ∷ l) (drop-cons b 2075 0 (omega arith)
      ∙ ap (λ (l : List ℕ). get_or b 2075 0 ∷ l) (drop_of_length-le b {i = 2076} (omega arith)))))

  pub stored_back : produced (state_in_of b) ≡ true → layout (state_in_of b) ≡ b
  unfolding state_in_of layout
  stored_back h =
      let n = number_at_of b 2074 in
      let kept : number_or_zero (refusal_numbered n) ≡ n = number_numbered n (not_forged (state_in_of b) h) in
      let rest : bytes_of (number_at_of b 2072) ++ bytes_of (number_or_zero (refusal_numbered n)) ≡ drop 2072 b =
      ap (λ (k : ℕ). bytes_of (number_at_of b 2072) ++ bytes_of k) kept
      ∙ ap (λ (l : List ℕ). l ++ bytes_of (number_at_of b 2074)) (two_bytes 2072)
      ∙ ap (λ (l : List ℕ). get_or b 2072 0 ∷ get_or b 2073 0 ∷ l) (two_bytes 2074)
      ∙ sym last_four in
      ap (λ (l : List ℕ). take 2072 b ++ l) rest ∙ take-append-drop 2072 b
