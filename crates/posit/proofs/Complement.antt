-- The two's complement, formed by wrapping subtraction from zero: its meaning, stated once for every caller.
use Rattle.std.proofs.Common.{◌≡◌, ℕ, zero, suc, ◌-◌, ◌%◌, ◌^◌, ◌<◌, ap, ◌∙◌, mod-eq_of_lt, arith, pow_pos}
use native.Mathlib.Nat.{mod_self}
use Rattle.posit.specs.Number.{opposite}

pub opposite-zero : (n : ℕ) → opposite n 0 ≡ 0
unfolding opposite
opposite-zero n = ap (λ (x : ℕ). x % 2 ^ n) (let e : 2 ^ n - 0 ≡ 2 ^ n = omega arith in e) ∙ mod_self (2 ^ n)

-- of a pattern above zero it is what is missing to 2 ^ n
pub opposite_is : (n p : ℕ) → 0 < p → opposite n p ≡ 2 ^ n - p
unfolding opposite
opposite_is n p l = mod-eq_of_lt (let b = pow_pos n in omega arith)

-- back again
pub opposite_twice : (n p : ℕ) → 0 < p → p < 2 ^ n → opposite n (opposite n p) ≡ p
opposite_twice n p l h =
    ap (opposite n) (opposite_is n p l) ∙ opposite_is n (2 ^ n - p) (omega arith) ∙ (let e : 2 ^ n - (2 ^ n - p) ≡ p = omega arith in e)

-- what has a positive opposite is a pattern above zero itself
pub opposite_some : (n p : ℕ) → 0 < opposite n p → (0 < p) × (p < 2 ^ n)
opposite_some n zero l = absurd (let e = opposite-zero n in omega arith)
opposite_some n (suc p) l = let e = opposite_is n (suc p) (omega arith) in (omega arith, omega arith)
