-- A whole number with few binary digits, cast to f64 and multiplied by 2 ^ -q, is exact; so is its negation. Neither is a NaN.
use Rattle.std.proofs.Common.{◌≡◌, ℕ, zero, suc, ◌+◌, ◌-◌, ◌*◌, ◌^◌, ◌<◌, ◌≤◌, Bool, true, false, not, T, pos, negsuc, neg_ℤ, sym, refl, ap, ◌∙◌, lt_of_lt_of_le, mul_assoc, mul-pos, arith, pow_pos, pow_mono, pow-add, shl_lt}
use mathlib.Core.Path.{subst⁻¹}
use lib.Ieee.{Float, nan, inf, fin, binary64, round, up, down, mul, neg, of_int, unlike, is_nan}
use lib.Ieee.Fits.{down_pos, mul-fits, neg-fits}
use lib.Ieee.Exact.{HasValue, round_exact}
use lib.Ieee.Scale.{round_same}
use Rattle.posit.specs.Number.{Number, nar, real, number, magnitude}
use Rattle.real.specs.Reals.{Exactly, Holds, ToF64}
use Rattle.real.specs.declared.numbers.RealAnswer.TheVariants.{Real}
use Rattle.real.proofs.Short.{Short, magnitude_short}

-- no rounding where a fraction has few digits
round_short : (wide m i : ℕ) → Short wide m → i ≤ 1074 → HasValue (round binary64 false m (2 ^ i)) false m (2 ^ i)
round_short wide m i h low =
    let k : ℕ = 1074 - i in
    let d : ℕ = h.digits in
    let j : ℕ = h.shift in
    let n = h.near in
    let p : 2 ^ k * 2 ^ i ≡ 2 ^ 1074 = sym (pow-add 2 k i) ∙ ap (λ (x : ℕ). 2 ^ x) (let e : k + i ≡ 1074 = omega arith in e) in
    rw h.is
    (round_exact binary64 false (d * 2 ^ j) (2 ^ i) d (j + k) (pow_pos i) h.few
    (lt_of_lt_of_le (shl_lt 53 (j + k) h.few) (pow_mono {i = 53 + (j + k)} {j = 2098} (omega arith)))
    (rw (← p) (simp (pow-add, mul_assoc))))

unlike_false : (s : Bool) → unlike s false ≡ s
unlike_false true = refl
unlike_false false = refl

-- the product with 2 ^ -q is the fraction over 2 ^ q, rounded
times : (q : ℕ) (x : Float) (s : Bool) (a : ℕ) → HasValue x s a 1 → mul binary64 x (fin false 1 (negsuc q)) ≡ round binary64 s a (2 ^ suc q)
unfolding mul
times q nan s a v = absurd v
times q (inf t) s a v = absurd v
times q (fin t m e) s a v =
    rw (unlike_false t, v.0)
    (round_same binary64 s (m * up e * 1) (down e * 2 ^ suc q) a (2 ^ suc q) (mul-pos (down_pos e) (pow_pos (suc q))) (pow_pos (suc q))
    (ap (λ (n : ℕ). n * 2 ^ suc q) v.1 ∙ mul_assoc a (down e) (2 ^ suc q)))

scaled : (wide m q : ℕ) → Short wide m → q < 1074 → Exactly (pos m) (suc q) (mul binary64 (of_int binary64 (pos m)) (fin false 1 (negsuc q)))
unfolding of_int
scaled wide m q h low = (
  mul-fits binary64 (of_int binary64 (pos m)) (fin false 1 (negsuc q)),
  rw (times q (round binary64 false m 1) false m (round_short wide m 0 h (omega arith))) (round_short wide m (suc q) h (omega arith)),
)

-- a magnitude, cast and multiplied, as the code does it
pub scaled-magnitude : (n p q m : ℕ) (y : Float) → 3 ≤ n → n ≤ 17 → q < 1074 → m ≡ magnitude 1 n p → y ≡ of_int binary64 (pos m)
    → Exactly (pos (magnitude 1 n p)) (suc q) (mul binary64 y (fin false 1 (negsuc q)))
scaled-magnitude n p q m y few most low e f =
    subst⁻¹ (λ (x : Float). Exactly (pos (magnitude 1 n p)) (suc q) (mul binary64 x (fin false 1 (negsuc q)))) (f ∙ ap (λ (k : ℕ). of_int binary64 (pos k)) e)
    (scaled (4 * (n - 2) + 2) (magnitude 1 n p) q (magnitude_short n p few most) low)

minus-value : (x : Float) (a c : ℕ) → HasValue x false a c → HasValue (neg x) true a c
unfolding neg
minus-value nan a c v = v
minus-value (inf s) a c v = v
minus-value (fin s m e) a c v = (ap not v.0, v.1)

pub negated : (m q : ℕ) (x : Float) → 0 < m → Exactly (pos m) q x → Exactly (neg_ℤ (pos m)) q (neg x)
negated zero q x l h = absurd (omega arith)
negated (suc m) q x l h = (neg-fits binary64 x h.0, minus-value x (suc m) (2 ^ q) h.1)

value_no_nan : (x : Float) (s : Bool) (a c : ℕ) → HasValue x s a c → T (not (is_nan x))
unfolding is_nan
value_no_nan nan s a c v = v
value_no_nan (inf t) s a c v = tt
value_no_nan (fin t m e) s a c v = tt

no_nan : (q : ℕ) (z : Number) (x : Float) → Holds q z x → T (not (is_nan x))
no_nan q nar x v = absurd v
no_nan q (real (pos m)) x v = value_no_nan x false m (2 ^ q) v.1
no_nan q (real (negsuc m)) x v = value_no_nan x true (suc m) (2 ^ q) v.1

-- so the f64 of an answer has bits
pub real_no_nan : (p : ℕ) (x : Float) → ToF64 p (Real x) → T (not (is_nan x))
real_no_nan p x v = no_nan 28 (number 1 16 p) x v
