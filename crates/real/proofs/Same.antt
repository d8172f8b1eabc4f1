-- An f64 is known by its sign and its value: two that are exactly one number are the same.
use Rattle.std.proofs.Common.{◌≡◌, ℕ, suc, ◌*◌, ◌/◌, ◌^◌, ◌<◌, Bool, true, false, T, ℤ, pos, negsuc, sym, ap, ◌∙◌, mul_right_comm, pow_pos}
use native.Mathlib.Nat.{eq_of_mul-eq-mul_right}
use lib.Ieee.{Float, nan, inf, fin, binary64, up, down, fits, to_bits, of_bits}
use lib.Ieee.Bits.{of_bits-to_bits}
use lib.Ieee.Exact.{HasValue}
use lib.Ieee.Fits.{down_pos}
use lib.Ieee.Nearest.{div_same}
use Rattle.real.specs.Reals.{Exactly}

-- what is a / c both ways is equal
cross : (a c x d y e : ℕ) → 0 < c → x * c ≡ a * d → y * c ≡ a * e → x * e ≡ y * d
cross a c x d y e some p q =
    eq_of_mul-eq-mul_right c some (x * e) (y * d)
    (mul_right_comm x e c ∙ ap (λ (z : ℕ). z * e) p ∙ mul_right_comm a d e ∙ ap (λ (z : ℕ). z * d) (sym q) ∙ mul_right_comm y c d)

pub same_bits : (x y : Float) (s : Bool) (a c : ℕ) → 0 < c → HasValue x s a c → HasValue y s a c → to_bits binary64 x ≡ to_bits binary64 y
unfolding to_bits
same_bits nan y s a c some v w = absurd v
same_bits (inf t) y s a c some v w = absurd v
same_bits (fin t m e) nan s a c some v w = absurd w
same_bits (fin t m e) (inf u) s a c some v w = absurd w
same_bits (fin t m e) (fin u n d) s a c some v w =
    let q : m * up e * 2 ^ 1074 / down e ≡ n * up d * 2 ^ 1074 / down d =
    div_same (m * up e * 2 ^ 1074) (down e) (n * up d * 2 ^ 1074) (down d) (down_pos e) (down_pos d)
    (mul_right_comm (m * up e) (2 ^ 1074) (down d)
    ∙ ap (λ (z : ℕ). z * 2 ^ 1074) (cross a c (m * up e) (down e) (n * up d) (down d) some v.1 w.1)
    ∙ mul_right_comm (n * up d) (down e) (2 ^ 1074)) in
    rw (v.0, w.0, q)

pub same-value : (x y : Float) (s : Bool) (a c : ℕ) → 0 < c → T (fits binary64 x) → T (fits binary64 y) → HasValue x s a c → HasValue y s a c → x ≡ y
same-value x y s a c some f g v w =
    sym (of_bits-to_bits binary64 x f) ∙ ap (λ (b : ℕ). of_bits binary64 b) (same_bits x y s a c some v w) ∙ of_bits-to_bits binary64 y g

pub exactly_one : (k : ℤ) (q : ℕ) (x y : Float) → Exactly k q x → Exactly k q y → x ≡ y
exactly_one (pos m) q x y v w = same-value x y false m (2 ^ q) (pow_pos q) v.0 w.0 v.1 w.1
exactly_one (negsuc m) q x y v w = same-value x y true (suc m) (2 ^ q) (pow_pos q) v.0 w.0 v.1 w.1
