-- What rows 3 and 4 say, case by case, over the kernel in which they differ; and a difference of two naturals, split
-- into its sign and its size as the code does it.
use Prim.Native.Nat.{ℕ, zero, suc, ◌+◌, ◌-◌, ◌*◌, ◌<◌}
use mathlib.Core.Path.{◌≡◌, ◌∙◌, sym, ap}
use mathlib.Core.Bool.{Bool, true, false, cond}
use native.Mathlib.Omega.{arith}
use native.Mathlib.Nat.{mul_comm}
use native.Mathlib.Decide.{dec_lt}
use borrow.Author.Tests.{lt-ltb, le-ltb}
use lib.Dec.{ltb, lit≤}
use lib.IntN.{ℤ, pos, negsuc, neg_ℤ, ◌-ℤ◌}
use Rattle.posit.specs.Number.{Number, nar, real, number, magnitude, opposite}
use Rattle.posit.specs.Rounding.{Known, negated}
use Rattle.posit.specs.Sides.{RoundsSided, negated_sided}
use Rattle.posit.specs.declared.side.Sided.{Sided}
use Rattle.posit.specs.Decoding.{Decodes}
use Rattle.posit.proofs.Patterns.{number-zero, number_nar, number_plus, number_minus}
use Rattle.posit.proofs.Own.{magnitude_some}
use Rattle.posit.proofs.Sides.{mirrors_sided}
use Rattle.logarithm.specs.Leading.{power, fraction}
use Rattle.rows.specs.Rows.{Row, names, rounds, MeetsSided}
use Rattle.logarithm.proofs.Leading.{decoded_power, decoded_fraction}
use Rattle.rows.proofs.Whole.{minus-below, minus-above}

-- A row whose numbers above zero alone have an answer to round: it is worked out from a difference l - B, where l is U
-- times the power and a polynomial of the fraction, by the size of the difference, and has the sign of the difference.
pub record Logarithmic (row : Number → Row) (poly : ℕ → ℕ) (U B : ℕ) (answer : ℤ → Known) (sized : Bool → ℕ → Known) : Type 0 where
  pub to_nar : row nar ≡ names 0x8000
  pub to_zero : row (real (pos zero)) ≡ names 0x8000
  pub to_minus : (k : ℕ) → row (real (negsuc k)) ≡ names 0x8000
  pub to_plus : (k : ℕ) → row (real (pos (suc k))) ≡ rounds (answer (pos (U * power (suc k) + poly (fraction (suc k))) -ℤ pos B))
  pub of_plus : (d : ℕ) → answer (pos d) ≡ sized false d
  pub of_minus : (d : ℕ) → answer (negsuc d) ≡ negated (sized true (suc d))

module _ {row : Number → Row} {poly : ℕ → ℕ} {U B : ℕ} {answer : ℤ → Known} {sized : Bool → ℕ → Known} (s : Logarithmic row poly U B answer sized) where
  pub at_zero : (p : ℕ) → p ≡ 0 → row (number 1 16 p) ≡ names 0x8000
  at_zero p e = ap (λ (x : ℕ). row (number 1 16 x)) e ∙ ap row (number-zero 1 16) ∙ s.to_zero

  minus_has_none : (k : ℕ) → row (real (neg_ℤ (pos k))) ≡ names 0x8000
  minus_has_none zero = s.to_zero
  minus_has_none (suc k) = s.to_minus k

  pub at_nar_or_minus : (p : ℕ) → 0x7fff < p → row (number 1 16 p) ≡ names 0x8000
  at_nar_or_minus p h = go (dec_lt 0x8000 p)
    where
      go : Dec (0x8000 < p) → row (number 1 16 p) ≡ names 0x8000
      go (yes k) = ap row (number_minus 1 16 p k) ∙ minus_has_none (magnitude 1 16 (opposite 16 p))
      go (no k) = let e : p ≡ 0x8000 = omega arith in ap (λ (x : ℕ). row (number 1 16 x)) e ∙ ap row (number_nar 1 16) ∙ s.to_nar

  plus_has : (k : ℕ) → 0 < k → row (real (pos k)) ≡ rounds (answer (pos (U * power k + poly (fraction k)) -ℤ pos B))
  plus_has zero l = absurd (omega arith)
  plus_has (suc k) l = s.to_plus k

  -- what is rounded for the size of l - B, with the sign put back and the side mirrored, is what is rounded for l - B
  difference_sided : (l : ℕ) (u : Sided) → RoundsSided 1 16 (sized (ltb l B) ((l - B) + (B - l))) u
      → RoundsSided 1 16 (answer (pos l -ℤ pos B)) (cond (ltb l B) (negated_sided u) u)
  difference_sided l u m = go (dec_lt l B)
    where
      go : Dec (l < B) → RoundsSided 1 16 (answer (pos l -ℤ pos B)) (cond (ltb l B) (negated_sided u) u)
      go (yes h) =
          let size : (l - B) + (B - l) ≡ suc (B - suc l) = omega arith in
          rw (minus-below l B h, lt-ltb l B h, s.of_minus (B - suc l)) (mirrors_sided 1 (sized true (suc (B - suc l))) u (rw (lt-ltb l B h, size) at m))
      go (no h) =
          let size : (l - B) + (B - l) ≡ l - B = omega arith in
          rw (minus-above l B (omega arith), le-ltb l B (omega arith), s.of_plus (l - B)) (rw (le-ltb l B (omega arith), size) at m)

  -- the answer at a pattern above zero, from what decoding it gives
  pub at_plus : {p w f g n : ℕ} {a : Sided} (u : Sided) → 0 < p → p < 0x8000 → Decodes p w f → g ≡ poly f → n ≡ (w * U + g - B) + (B - (w * U + g))
      → RoundsSided 1 16 (sized (ltb (w * U + g) B) n) u → a ≡ cond (ltb (w * U + g) B) (negated_sided u) u → MeetsSided (row (number 1 16 p)) a
  at_plus {p} {w} {f} {g} u l h d e size m signed =
      let is : U * power (magnitude 1 16 p) + poly (fraction (magnitude 1 16 p)) ≡ w * U + g =
      (λ i. U * decoded_power d i + poly (decoded_fraction d i)) ∙ (λ i. mul_comm U w i + sym e i) in
      rw (number_plus 1 16 p l h, plus_has (magnitude 1 16 p) (magnitude_some 1 16 p (lit≤ tt) l (omega arith)), is, signed)
      (difference_sided (w * U + g) u (rw size at m))
