-- The number in a pattern by its units and its sign, and what is worked out from these: a rounding with the sign put back, a
-- product of signed numbers, and one of significands and powers.
use Prim.Native.Nat.{ℕ, zero, suc, ◌+◌, ◌-◌, ◌*◌, ◌^◌, ◌≤◌, ◌<◌}
use mathlib.Core.Path.{◌≡◌, ◌∙◌, ap, sym, refl}
use mathlib.Core.Bool.{Bool, true, false, cond}
use native.Mathlib.Omega.{arith}
use native.Mathlib.Decide.{dec_lt}
use native.Mathlib.Nat.{zero-mul, mul-zero, mul-one, one-mul, mul_assoc, mul_comm, mul_left_comm, mul_right_comm, mul-pos}
use borrow.Author.Tests.{ne_eqb, le-ltb}
use lib.Dec.{lit≤}
use lib.Pow.{pow_pos, pow-add}
use lib.IntN.{ℤ, pos, negsuc, nat_abs, neg_ℤ, ◌+ℤ◌, ◌-ℤ◌, ◌*ℤ◌, zero-*ℤ}
use lib.Signed.{mag, lt_z}
use lib.Ieee.{unlike, up, down}
use Rattle.posit.specs.Number.{Number, nar, real, number, magnitude, run, size, opposite, with_sign}
use Rattle.posit.specs.Rounding.{Known, plus, dyadic, over, Rounds}
use Rattle.posit.proofs.Compare.{ratio_same}
use Rattle.posit.proofs.Complement.{opposite-zero}
use Rattle.posit.proofs.Dyadic.{dyadic_plus, down_some}
use Rattle.posit.proofs.Laws.{mirrors}
use Rattle.posit.proofs.Patterns.{number-zero, number_nar, number-signed}
use Rattle.rows.specs.Rows.{Meets}
use Rattle.rows.proofs.Whole.{minus-below, minus-above, mag_small}
use Rattle.rows.proofs.Sizes.{proper, no_larger}
use Rattle.arithmetic.specs.Operations.{of_two, sum, product}
use Rattle.arithmetic.specs.Sizes.{units_in, signed_units}

pub number_units : (p : ℕ) → (p ≡ 0x8000 → ⊥) → number 1 16 p ≡ real (signed_units p)
number_units zero out = number-zero 1 16
number_units (suc p) out = rw (ne_eqb (suc p) 0 (λ e. omega arith)) (number-signed 1 16 (suc p) (omega arith) out)

top : magnitude 1 16 0x7fff ≡ 2 ^ 56
unfolding magnitude run
top = refl

pub units_few : (p : ℕ) → p < 0x10000 → (p ≡ 0x8000 → ⊥) → units_in p ≤ 2 ^ 56
units_few zero h out = omega arith
units_few (suc p) h out =
    rw (ne_eqb (suc p) 0 (λ e. omega arith))
    (let s = proper (suc p) (omega arith) h out in rw top at (no_larger (size 16 (suc p)) 0x7fff s.0 s.1 (lit≤ tt)))

-- what rounds m * 2 ^ e, with a sign put before both
pub rounds_signed : (b : Bool) (m : ℕ) (e : ℤ) (r : ℕ) → Rounds 1 16 (dyadic (pos m) e) r → Rounds 1 16 (dyadic (with_sign b m) e) (cond b (opposite 16 r) r)
rounds_signed false m e r h = h
rounds_signed true zero e r h = ap (opposite 16) h ∙ opposite-zero 16
rounds_signed true (suc m) e r h = mirrors 1 16 (lit≤ tt) (dyadic (pos (suc m)) e) r h

pub mag_minus : (m : ℕ) → mag (neg_ℤ (pos m)) ≤ m
mag_minus zero = omega arith
mag_minus (suc m) = omega arith

pub signed_abs : (z : ℤ) → with_sign (lt_z z (pos 0)) (nat_abs z) ≡ z
signed_abs (pos n) = rw (le-ltb n 0 (omega arith))
signed_abs (negsuc n) = refl

pub times : (a b : Bool) (m n : ℕ) → with_sign a m *ℤ with_sign b n ≡ with_sign (unlike a b) (m * n)
times true true zero n = zero-*ℤ (neg_ℤ (pos n)) ∙ ap pos (sym (zero-mul n))
times true true (suc m) zero = rw (mul-zero (suc m))
times true true (suc m) (suc n) = refl
times true false zero n = rw (zero-mul n)
times true false (suc m) n = refl
times false true m zero = rw (mul-zero m)
times false true m (suc n) = refl
times false false m n = refl

pub mag_sum : (x y : ℤ) (k : ℕ) → mag x ≤ k → mag y ≤ k → mag (x +ℤ y) ≤ k + k + 1
mag_sum (pos a) (pos b) k h j = omega arith
mag_sum (pos a) (negsuc b) k h j = let m = mag_small a (suc b) (k + 2) (omega arith) (omega arith) in omega (arith, m)
mag_sum (negsuc a) (pos b) k h j = let m = mag_small b (suc a) (k + 2) (omega arith) (omega arith) in omega (arith, m)
mag_sum (negsuc a) (negsuc b) k h j = omega arith

up_some : (e : ℤ) → 0 < up e
up_some (pos k) = pow_pos k
up_some (negsuc k) = omega arith

-- 2 ^ (n - b), as a fraction
scale : (n b : ℕ) → up (pos n -ℤ pos b) * 2 ^ b ≡ 2 ^ n * down (pos n -ℤ pos b)
scale n b = go (dec_lt n b)
  where
    go : Dec (n < b) → up (pos n -ℤ pos b) * 2 ^ b ≡ 2 ^ n * down (pos n -ℤ pos b)
    go (yes l) =
        rw (minus-below n b l)
        (let e : 2 ^ b ≡ 2 ^ n * 2 ^ suc (b - suc n) = ap (λ (x : ℕ). 2 ^ x) (omega arith) ∙ pow-add 2 n (suc (b - suc n)) in one-mul (2 ^ b) ∙ e)
    go (no l) =
        rw (minus-above n b (omega arith))
        (let e : 2 ^ (n - b) * 2 ^ b ≡ 2 ^ n = sym (pow-add 2 (n - b) b) ∙ ap (λ (x : ℕ). 2 ^ x) (omega arith) in e ∙ sym (mul-one (2 ^ n)))

regrouped : (x y s t W Z K H U D : ℕ) → x * K ≡ s * W → y * K ≡ t * Z → U * H ≡ W * Z * D → s * t * U * H ≡ x * y * D * (K * K)
regrouped x y s t W Z K H U D e f g =
    mul_assoc (s * t) U H
    ∙ ap (λ (a : ℕ). s * t * a) g
    ∙ (let p : s * t * (W * Z * D) ≡ (s * W) * (t * Z) * D = simp (mul_assoc, mul_comm, mul_left_comm) in p)
    ∙ (λ i. sym e i * sym f i * D)
    ∙ (let p : (x * K) * (y * K) * D ≡ x * y * D * (K * K) = simp (mul_assoc, mul_comm, mul_left_comm) in p)

none : (m k : ℕ) → (0 < m → ⊥) → m * k ≡ 0
none zero k h = zero-mul k
none (suc m) k h = absurd (h (omega arith))

-- the exact product of two magnitudes that are taken apart
pub product-scaled : (x y s t w v : ℕ) → x * 2 ^ 12 ≡ s * 2 ^ w → y * 2 ^ 12 ≡ t * 2 ^ v → dyadic (pos (s * t)) (pos (w + v) -ℤ pos 80) ≡ over (pos (x * y)) 56
product-scaled x y s t w v e f = go (dec_lt 0 (s * t)) (dec_lt 0 (x * y))
  where
    E : ℤ
    E = pos (w + v) -ℤ pos 80

    cross : s * t * up E * 2 ^ 80 ≡ x * y * down E * (2 ^ 12 * 2 ^ 12)
    cross = regrouped x y s t (2 ^ w) (2 ^ v) (2 ^ 12) (2 ^ 80) (up E) (down E) e f (scale (w + v) 80 ∙ ap (λ (a : ℕ). a * down E) (pow-add 2 w v))

    go : Dec (0 < s * t) → Dec (0 < x * y) → dyadic (pos (s * t)) E ≡ over (pos (x * y)) 56
    go (yes l) (yes h) =
        dyadic_plus (s * t) E l
        ∙ ap plus
        (ratio_same (s * t * up E) (down E) (x * y * 1) (2 ^ 56) (down_some E) (pow_pos 56)
        (let c = cross in let o = mul_right_comm (x * y) 1 (down E) in omega arith))
        ∙ sym (dyadic_plus (x * y) (neg_ℤ (pos 56)) h)
    go (yes l) (no h) = absurd (let c = cross in let a = mul-pos l (up_some E) in let b = none (x * y) (down E) h in omega arith)
    go (no l) (yes h) = absurd (let c = cross in let a = mul-pos h (down_some E) in let b = none (s * t) (up E) l in omega arith)
    go (no l) (no h) = let z : s * t ≡ 0 = omega arith in let y : x * y ≡ 0 = omega arith in rw (z, y)

-- an operation on two reals, and NaR with anything
of_reals : (f : ℤ → ℤ → Known) (p q r : ℕ) → (p ≡ 0x8000 → ⊥) → (q ≡ 0x8000 → ⊥) → Rounds 1 16 (f (signed_units p) (signed_units q)) r
    → Meets (of_two f (number 1 16 p) (number 1 16 q)) r
of_reals f p q r out out' h = rw (number_units p out, number_units q out') h

first_nar : (f : ℤ → ℤ → Known) (p r : ℕ) (y : Number) → p ≡ 0x8000 → r ≡ 0x8000 → Meets (of_two f (number 1 16 p) y) r
first_nar f p r y e h = rw (e, number_nar 1 16) h

second_nar : (f : ℤ → ℤ → Known) (x : Number) (q r : ℕ) → q ≡ 0x8000 → r ≡ 0x8000 → Meets (of_two f x (number 1 16 q)) r
second_nar f nar q r e h = h
second_nar f (real a) q r e h = rw (e, number_nar 1 16) h

module _ (p q r : ℕ) where
  pub nar_plus : p ≡ 0x8000 → r ≡ 0x8000 → Meets (sum p q) r
  unfolding sum
  nar_plus = first_nar (λ a b. over (a +ℤ b) 28) p r (number 1 16 q)

  pub plus_nar : q ≡ 0x8000 → r ≡ 0x8000 → Meets (sum p q) r
  unfolding sum
  plus_nar = second_nar (λ a b. over (a +ℤ b) 28) (number 1 16 p) q r

  pub reals_plus : (p ≡ 0x8000 → ⊥) → (q ≡ 0x8000 → ⊥) → Rounds 1 16 (over (signed_units p +ℤ signed_units q) 28) r → Meets (sum p q) r
  unfolding sum
  reals_plus = of_reals (λ a b. over (a +ℤ b) 28) p q r

  pub nar_times : p ≡ 0x8000 → r ≡ 0x8000 → Meets (product p q) r
  unfolding product
  nar_times = first_nar (λ a b. over (a *ℤ b) 56) p r (number 1 16 q)

  pub times_nar : q ≡ 0x8000 → r ≡ 0x8000 → Meets (product p q) r
  unfolding product
  times_nar = second_nar (λ a b. over (a *ℤ b) 56) (number 1 16 p) q r

  pub reals_times : (p ≡ 0x8000 → ⊥) → (q ≡ 0x8000 → ⊥) → Rounds 1 16 (over (signed_units p *ℤ signed_units q) 56) r → Meets (product p q) r
  unfolding product
  reals_times = of_reals (λ a b. over (a *ℤ b) 56) p q r
