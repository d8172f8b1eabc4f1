-- Minus a pattern's number is the number of the opposite pattern: so the opposite is what negation rounds to, and a difference
-- is the sum with the opposite.
use Prim.Native.Nat.{ℕ, ◌-◌, ◌<◌}
use mathlib.Core.Path.{◌≡◌, ◌∙◌, ap, sym, refl}
use native.Mathlib.Omega.{arith}
use native.Mathlib.Decide.{dec_lt, ℕ_discrete}
use native.Mathlib.Nat.{mod-lt}
use lib.Dec.{lit≤}
use lib.IntN.{pos, neg_ℤ, neg_ℤ-neg_ℤ, ◌+ℤ◌, ◌-ℤ◌}
use Rattle.posit.specs.Number.{Number, nar, real, number, magnitude, opposite}
use Rattle.posit.specs.Rounding.{over}
use Rattle.posit.proofs.Complement.{opposite-zero, opposite_is, opposite_twice}
use Rattle.posit.proofs.Patterns.{number-zero, number_nar, number_plus, number_minus}
use Rattle.posit.proofs.Own.{own}
use Rattle.rows.specs.Rows.{Meets}
use Rattle.arithmetic.proofs.Exact.{number_units}
use Rattle.arithmetic.specs.Operations.{of_one, of_two, negation, sum, difference}

-- minus what a pattern stands for
abbrev pub negated_number : Number → Number
negated_number nar = nar
negated_number (real a) = real (neg_ℤ a)

pub number-opposite : (p : ℕ) → p < 0x10000 → number 1 16 (opposite 16 p) ≡ negated_number (number 1 16 p)
number-opposite p h = go (dec_lt 0 p) (dec_lt p 0x8000) (dec_lt 0x8000 p)
  where
    go : Dec (0 < p) → Dec (p < 0x8000) → Dec (0x8000 < p) → number 1 16 (opposite 16 p) ≡ negated_number (number 1 16 p)
    go (no l) b d = let z : p ≡ 0 = omega arith in rw (z, opposite-zero 16, number-zero 1 16)
    go (yes l) (yes b) d = let o = opposite_is 16 p l in rw (number_plus 1 16 p l b, number_minus 1 16 (opposite 16 p) (omega arith), opposite_twice 16 p l h)
    go (yes l) (no b) (yes d) =
        let o = opposite_is 16 p l in
        rw (number_minus 1 16 p d, number_plus 1 16 (opposite 16 p) (omega arith) (omega arith), neg_ℤ-neg_ℤ (pos (magnitude 1 16 (opposite 16 p))))
    go (yes l) (no b) (no d) =
        let n : p ≡ 0x8000 = omega arith in
        let o : opposite 16 0x8000 ≡ 0x8000 = opposite_is 16 0x8000 (lit≤ tt) in
        rw (n, o, number_nar 1 16)

pub opposite_fits : (p : ℕ) → opposite 16 p < 0x10000
unfolding opposite
opposite_fits p = mod-lt (0x10000 - p) (lit≤ tt)

pub only_nar : (p : ℕ) → p < 0x10000 → number 1 16 p ≡ nar → p ≡ 0x8000
only_nar p h e = go (ℕ_discrete p 0x8000)
  where
    go : Dec (p ≡ 0x8000) → p ≡ 0x8000
    go (yes n) = n
    go (no n) = let z : ◌≡◌ {A = ℕ} 0 1 = let r = sym (number_units p n) ∙ e in cc in absurd (omega arith)

pub negated : (p : ℕ) → p < 0x10000 → Meets (negation p) (opposite 16 p)
unfolding negation
negated p h = go (number 1 16 p) refl
  where
    go : (x : Number) → number 1 16 p ≡ x → Meets (of_one (λ a. over (neg_ℤ a) 28) x) (opposite 16 p)
    go nar e = ap (opposite 16) (only_nar p h e) ∙ opposite_is 16 0x8000 (lit≤ tt)
    go (real a) e = own 1 16 (opposite 16 p) (lit≤ tt) (opposite_fits p) (neg_ℤ a) (number-opposite p h ∙ ap negated_number e)

pub difference_is : (p q : ℕ) → q < 0x10000 → difference p q ≡ sum p (opposite 16 q)
unfolding difference sum
difference_is p q h = rw (number-opposite q h) (go (number 1 16 p) (number 1 16 q))
  where
    go : (x y : Number) → of_two (λ a b. over (a -ℤ b) 28) x y ≡ of_two (λ a b. over (a +ℤ b) 28) x (negated_number y)
    go nar y = refl
    go (real a) nar = refl
    go (real a) (real b) = refl
