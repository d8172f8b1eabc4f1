-- The number m * 2 ^ e is known by its sign and its value; so what the rounding rule gives for an f64's digits answers it.
use Rattle.std.proofs.Common.{◌≡◌, ℕ, zero, suc, ◌*◌, ◌^◌, ◌<◌, Bool, true, false, cond, not, ℤ, pos, sym, refl, ap, ◌∙◌, subst, zero-lt-suc, mul_assoc, mul-pos, zero-mul, mul_right_comm, arith, pow_pos}
use mathlib.Core.Path.{subst⁻¹}
use native.Mathlib.Nat.{eq_of_mul-eq-mul_right}
use lib.Ieee.{Float, nan, inf, fin, up, down}
use lib.Ieee.Exact.{HasValue}
use lib.Ieee.Fits.{up_pos, down_pos}
use Rattle.posit.specs.Number.{with_sign, opposite}
use Rattle.posit.specs.Rounding.{Known, plus, minus, dyadic, negated, Rounds}
use Rattle.posit.proofs.Compare.{ratio_same}
use Rattle.posit.proofs.Laws.{mirrors}
use Rattle.real.specs.Reals.{FromF64}

-- zero is not above zero
apart : (m : ℕ) (d e : ℤ) → zero * up d * down e ≡ suc m * up e * down d → ⊥
apart m d e h =
    let a : zero * up d * down e ≡ 0 = ap (λ (x : ℕ). x * down e) (zero-mul (up d)) ∙ zero-mul (down e) in
    let b : 0 < suc m * up e * down d = mul-pos (mul-pos (zero-lt-suc m) (up_pos e)) (down_pos d) in
    omega arith

pub same_number : (s : Bool) (n m : ℕ) (d e : ℤ) → n * up d * down e ≡ m * up e * down d → dyadic (with_sign s n) d ≡ dyadic (with_sign s m) e
same_number true zero zero d e h = refl
same_number false zero zero d e h = refl
same_number s zero (suc m) d e h = absurd (apart m d e h)
same_number s (suc n) zero d e h = absurd (apart n e d (sym h))
same_number true (suc n) (suc m) d e h = ap minus (ratio_same (suc n * up d) (down d) (suc m * up e) (down e) (down_pos d) (down_pos e) h)
same_number false (suc n) (suc m) d e h = ap plus (ratio_same (suc n * up d) (down d) (suc m * up e) (down e) (down_pos d) (down_pos e) h)

pub negated-number : (s : Bool) (m : ℕ) (e : ℤ) → negated (dyadic (with_sign s m) e) ≡ dyadic (with_sign (not s) m) e
negated-number true zero e = refl
negated-number false zero e = refl
negated-number true (suc m) e = refl
negated-number false (suc m) e = refl

pub signed_rounds : (s : Bool) (m : ℕ) (e : ℤ) (u : ℕ) → Rounds 1 16 (dyadic (pos m) e) u → Rounds 1 16 (dyadic (with_sign s m) e) (cond s (opposite 16 u) u)
signed_rounds false m e u r = r
signed_rounds true m e u r = subst (λ (x : Known). Rounds 1 16 x (opposite 16 u)) (negated-number false m e) (mirrors 1 16 (omega arith) (dyadic (pos m) e) u r)

-- The power e stands for 2 ^ k / 2 ^ 1074
abbrev pub Counts : ℤ → ℕ → Type 0
Counts e k = up e * 2 ^ 1074 ≡ 2 ^ k * down e

exact : (n : ℕ) (d : ℤ) (m k : ℕ) (e : ℤ) → Counts e k → n * up d * 2 ^ 1074 ≡ m * 2 ^ k * down d → n * up d * down e ≡ m * up e * down d
exact n d m k e h v =
    eq_of_mul-eq-mul_right (2 ^ 1074) (pow_pos 1074) (n * up d * down e) (m * up e * down d)
    (mul_right_comm (n * up d) (down e) (2 ^ 1074)
    ∙ ap (λ (x : ℕ). x * down e) v
    ∙ mul_right_comm (m * 2 ^ k) (down d) (down e)
    ∙ ap (λ (x : ℕ). x * down d) (mul_assoc m (2 ^ k) (down e) ∙ ap (λ (x : ℕ). m * x) (sym h) ∙ sym (mul_assoc m (up e) (2 ^ 1074)))
    ∙ mul_right_comm (m * up e) (2 ^ 1074) (down d))

pub answers : (x : Float) (s : Bool) (m k : ℕ) (e : ℤ) (u : ℕ) → Counts e k → HasValue x s (m * 2 ^ k) (2 ^ 1074) → Rounds 1 16 (dyadic (pos m) e) u
    → FromF64 x (cond s (opposite 16 u) u)
answers nan s m k e u h v r = absurd v
answers (inf t) s m k e u h v r = absurd v
answers (fin t n d) s m k e u h v r =
    rw v.0 (subst⁻¹ (λ (x : Known). Rounds 1 16 x (cond s (opposite 16 u) u)) (same_number s n m d e (exact n d m k e h v.1)) (signed_rounds s m e u r))
