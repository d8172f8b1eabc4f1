-- The cases of a pattern: zero, NaR, above zero, below zero.
use Rattle.std.proofs.Common.{◌≡◌, ℕ, ◌-◌, ◌^◌, ◌<◌, ltb, pos, neg_ℤ, refl, arith, pow_pos, le-ltb, lt-ltb, eq-eqb, ne_eqb}
use native.Mathlib.Decide.{dec_lt}
use Rattle.posit.specs.Number.{nar, real, number, magnitude, opposite, size, with_sign}

pub number-zero : (es n : ℕ) → number es n 0 ≡ real (pos 0)
unfolding number
number-zero es n = refl

pub number_nar : (es n : ℕ) → number es n (2 ^ (n - 1)) ≡ nar
unfolding number
number_nar es n = let k = pow_pos (n - 1) in rw (ne_eqb (2 ^ (n - 1)) 0 (λ e. omega arith), eq-eqb (2 ^ (n - 1)) (2 ^ (n - 1)) refl)

pub number_plus : (es n p : ℕ) → 0 < p → p < 2 ^ (n - 1) → number es n p ≡ real (pos (magnitude es n p))
unfolding number
number_plus es n p l h = rw (ne_eqb p 0 (λ e. omega arith), ne_eqb p (2 ^ (n - 1)) (λ e. omega arith), lt-ltb p (2 ^ (n - 1)) h)

pub number_minus : (es n p : ℕ) → 2 ^ (n - 1) < p → number es n p ≡ real (neg_ℤ (pos (magnitude es n (opposite n p))))
unfolding number
number_minus es n p h = rw (ne_eqb p 0 (λ e. omega arith), ne_eqb p (2 ^ (n - 1)) (λ e. omega arith), le-ltb p (2 ^ (n - 1)) (omega arith))

-- of either sign
pub number-signed : (es n p : ℕ) → 0 < p → (p ≡ 2 ^ (n - 1) → ⊥) → number es n p ≡ real (with_sign (ltb (2 ^ (n - 1)) p) (magnitude es n (size n p)))
number-signed es n p l e = go (dec_lt (2 ^ (n - 1)) p)
  where
    go : Dec (2 ^ (n - 1) < p) → number es n p ≡ real (with_sign (ltb (2 ^ (n - 1)) p) (magnitude es n (size n p)))
    go (yes h) = rw (lt-ltb (2 ^ (n - 1)) p h) (number_minus es n p h)
    go (no h) = rw (le-ltb (2 ^ (n - 1)) p (omega arith)) (number_plus es n p l (omega arith))
