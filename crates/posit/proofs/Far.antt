-- The number m * 2 ^ e by the offset k of e, which is e counted from -200 and held between 0 and 400, and by z, which
-- moves m's top bit to bit 63: so small that the smallest posit answers it and lies above it, so large that the largest does and
-- lies below it, or on it, or within.
use Rattle.std.proofs.Common.{◌≡◌, ℕ, ◌+◌, ◌*◌, ◌^◌, ◌<◌, ◌≤◌, ℤ, pos, sym, refl, ap, ◌∙◌, subst, ⊎_elim, le_trans, le_of_eq, lt_of_lt_of_le, lt_of_le_of_lt, mul-le-mul_right, mul_assoc, mul_comm, le_antisymm, lt_of_mul-lt-mul_right, eq-or-lt_of_le, mul-le-mul_left, mul-lt-mul_of_pos_right, mul-pos, mul_right_comm, le_of_mul-le-mul_right, mul_left_comm, arith, lit<, pow_pos, pow_mono, pow-add}
use Prim.Native.Nat.{compare, Ordering}
use native.Mathlib.Nat.{mul-lt-mul_of_pos_left}
use native.Mathlib.Nat.{eq_of_mul-eq-mul_right}
use lib.Ieee.{up, down}
use Rattle.posit.specs.Number.{magnitude, run}
use Rattle.posit.specs.Rounding.{Cut, ratio, dyadic, plus, dividing, Rounded}
use Rattle.posit.specs.Sides.{stands, lies, RoundsSided}
use Rattle.posit.specs.declared.side.Side.{Side}
use Rattle.posit.specs.declared.side.Side.TheVariants.{Below, On, Above}
use Rattle.posit.specs.declared.side.Sided.{Sided}
use Rattle.posit.proofs.Compare.{Told, less, same, more, compare_is, ratio_same}
use Rattle.posit.proofs.Dyadic.{dyadic_plus, down_some}
use Rattle.posit.proofs.Nearest.{rounded}

pub record Offset (e : ℤ) (k : ℕ) : Type 0 where
  pub at_most : k < 400 → up e * 2 ^ 200 ≤ 2 ^ k * down e
  pub at_least : 0 < k → 2 ^ k * down e ≤ up e * 2 ^ 200

smallest_dividing : dividing 1 16 1 ≡ 8
unfolding magnitude run
smallest_dividing = refl

smallest : magnitude 1 16 1 ≡ 1
unfolding magnitude run
smallest = refl

largest : magnitude 1 16 0x7fff ≡ 2 ^ 56
unfolding magnitude run
largest = refl

largest-dividing : dividing 1 16 0x7ffe ≡ 2 ^ 57
unfolding magnitude run
largest-dividing = refl

module _ (m z k : ℕ) (e : ℤ) (some : 0 < m) (o : Offset e k) where
  abbrev U : ℕ
  U = up e

  abbrev D : ℕ
  D = down e

  apart : (p q : ℕ) → m * U * p * q ≡ m * p * (U * q)
  apart p q = simp (mul_assoc, mul_comm, mul_left_comm)

  together : (p j : ℕ) → m * p * (2 ^ (j + z) * D) ≡ p * 2 ^ j * D * (m * 2 ^ z)
  together p j =
      ap (λ (x : ℕ). m * p * (x * D)) (pow-add 2 j z)
      ∙ (let r : m * p * (2 ^ j * 2 ^ z * D) ≡ p * 2 ^ j * D * (m * 2 ^ z) = simp (mul_assoc, mul_comm, mul_left_comm) in r)

  -- the number to and from (m * 2 ^ z) * 2 ^ (j - 200), by its power of two
  to : (j : ℕ) → k ≤ j + z → k < 400 → m * U * 2 ^ 30 * 2 ^ 200 ≤ 2 ^ 30 * 2 ^ j * D * (m * 2 ^ z)
  to j h l =
      let a : U * 2 ^ 200 ≤ 2 ^ (j + z) * D = le_trans (o.at_most l) (mul-le-mul_right D (pow_mono h)) in
      le_trans (le_of_eq (apart (2 ^ 30) (2 ^ 200))) (le_trans (mul-le-mul_left (m * 2 ^ 30) a) (le_of_eq (together (2 ^ 30) j)))

  from : (j : ℕ) → j + z ≤ k → 0 < k → 2 ^ 30 * 2 ^ j * D * (m * 2 ^ z) ≤ m * U * 2 ^ 30 * 2 ^ 200
  from j h l =
      let a : 2 ^ (j + z) * D ≤ U * 2 ^ 200 = le_trans (mul-le-mul_right D (pow_mono h)) (o.at_least l) in
      le_trans (le_of_eq (sym (together (2 ^ 30) j))) (le_trans (mul-le-mul_left (m * 2 ^ 30) a) (le_of_eq (sym (apart (2 ^ 30) (2 ^ 200)))))

  -- the smallest posit's number and the largest's, so taken
  at_smallest : 2 ^ 138 * D * 2 ^ 64 ≡ 4 * D * 2 ^ 200
  at_smallest = mul_right_comm (2 ^ 138) D (2 ^ 64) ∙ sym (mul_right_comm 4 D (2 ^ 200))

  at-largest : 2 ^ 195 * D * 2 ^ 63 ≡ 2 ^ 58 * D * 2 ^ 200
  at-largest = mul_right_comm (2 ^ 195) D (2 ^ 63) ∙ sym (mul_right_comm (2 ^ 58) D (2 ^ 200))

  small : k ≤ 108 + z → k < 400 → m * 2 ^ z < 2 ^ 64 → m * U * 2 ^ 30 < 4 * D
  small h l below =
      let t = mul-lt-mul_of_pos_left {k = 2 ^ 138 * D} below (mul-pos (pow_pos 138) (down_some e)) in
      lt_of_mul-lt-mul_right (2 ^ 200) (lt_of_le_of_lt (to 108 h l) (lt_of_lt_of_le t (le_of_eq at_smallest)))

  large : 165 + z ≤ k → 2 ^ 63 ≤ m * 2 ^ z → 2 ^ 58 * D ≤ m * U * 2 ^ 30
  large h top =
      le_of_mul-le-mul_right {k = 2 ^ 200}
      (le_trans (le_of_eq (sym at-largest)) (le_trans (mul-le-mul_left (2 ^ 195 * D) top) (from 165 h (omega arith)))) (pow_pos 200)

  larger : 165 + z ≤ k → 2 ^ 63 ≤ m * 2 ^ z → (k ≡ 165 + z → 2 ^ 63 < m * 2 ^ z) → 2 ^ 58 * D < m * U * 2 ^ 30
  larger h top strict = ⊎_elim level past (eq-or-lt_of_le h)
    where
      level : 165 + z ≡ k → 2 ^ 58 * D < m * U * 2 ^ 30
      level q =
          let t = mul-lt-mul_of_pos_left {k = 2 ^ 195 * D} (strict (sym q)) (mul-pos (pow_pos 195) (down_some e)) in
          lt_of_mul-lt-mul_right (2 ^ 200) (lt_of_le_of_lt (le_of_eq (sym at-largest)) (lt_of_lt_of_le t (from 165 h (omega arith))))

      past : 165 + z < k → 2 ^ 58 * D < m * U * 2 ^ 30
      past l =
          let t : 2 ^ 195 * D * 2 ^ 63 < 2 ^ 196 * D * 2 ^ 63 =
          mul-lt-mul_of_pos_right (mul-lt-mul_of_pos_right {m = 2 ^ 195} (lit< tt) (down_some e)) (pow_pos 63) in
          lt_of_mul-lt-mul_right (2 ^ 200)
          (lt_of_le_of_lt (le_of_eq (sym at-largest))
          (lt_of_lt_of_le t (le_trans (mul-le-mul_left (2 ^ 196 * D) top) (from 166 (omega arith) (omega arith)))))

  exactly : k ≡ 165 + z → k < 400 → m * 2 ^ z ≡ 2 ^ 63 → m * U * 2 ^ 30 ≡ 2 ^ 58 * D
  exactly h l top =
      le_antisymm
      (le_of_mul-le-mul_right {k = 2 ^ 200}
      (le_trans (to 165 (le_of_eq h) l) (le_of_eq (ap (λ (x : ℕ). 2 ^ 195 * D * x) top ∙ at-largest))) (pow_pos 200))
      (large (le_of_eq (sym h)) (le_of_eq (sym top)))

  -- where a posit u, which is x / 2 ^ 28, lies
  side_at : (u x : ℕ) (w : Ordering) → magnitude 1 16 u ≡ x → Told (x * D) (m * U * 2 ^ 28) w → lies w ≡ lies (stands 1 16 (ratio (m * U) D) u)
  side_at u x w is t = ap lies (sym (ap (λ (y : ℕ). compare (y * D) (m * U * 2 ^ 28)) is ∙ compare_is (x * D) (m * U * 2 ^ 28) w t))

  sided : (u : ℕ) (s : Side) → Rounded 1 16 (ratio (m * U) D) u → s ≡ lies (stands 1 16 (ratio (m * U) D) u)
      → RoundsSided 1 16 (dyadic (pos m) e) (record { pattern = u; side = s })
  sided u s r t = rw (dyadic_plus m e some) (r, t)

  pub tiny : z ≤ 63 → m * 2 ^ z < 2 ^ 64 → k < 109 + z → RoundsSided 1 16 (dyadic (pos m) e) (record { pattern = 1; side = Above })
  tiny few below h =
      let a = small (omega arith) (omega arith) below in
      let p = down_some e in
      sided 1 Above
      (rounded 1 16 (omega arith) (ratio (m * U) D) (m * U * 2 ^ 30) D p (λ d. refl) 1 (omega arith) (omega arith)
      (λ g. absurd (omega arith)) (λ g. rw smallest_dividing (omega arith, λ q. absurd (omega arith))))
      (side_at 1 1 Ordering.gt smallest (more (omega arith)))

  huge : 2 ^ 63 ≤ m * 2 ^ z → 165 + z ≤ k → Rounded 1 16 (ratio (m * U) D) 0x7fff
  huge top h =
      let a = large h top in
      let p = down_some e in
      rounded 1 16 (omega arith) (ratio (m * U) D) (m * U * 2 ^ 30) D p (λ d. refl) 0x7fff (omega arith)
      (omega arith) (λ g. rw largest-dividing (omega arith, λ q. absurd (omega arith))) (λ g. absurd (omega arith))

  pub huge_below : 2 ^ 63 ≤ m * 2 ^ z → 165 + z ≤ k → (k ≡ 165 + z → 2 ^ 63 < m * 2 ^ z)
      → RoundsSided 1 16 (dyadic (pos m) e) (record { pattern = 0x7fff; side = Below })
  huge_below top h past =
      sided 0x7fff Below (huge top h) (side_at 0x7fff (2 ^ 56) Ordering.lt largest (less (let a = larger h top past in omega arith)))

  pub huge_on : m * 2 ^ z ≡ 2 ^ 63 → k ≡ 165 + z → k < 400 → RoundsSided 1 16 (dyadic (pos m) e) (record { pattern = 0x7fff; side = On })
  huge_on top h l =
      sided 0x7fff On (huge (le_of_eq (sym top)) (le_of_eq (sym h)))
      (side_at 0x7fff (2 ^ 56) Ordering.eq largest (same (let a = exactly h l top in omega arith)))

  within : (s : ℕ) → k ≡ s + 107 + z → k < 400 → m * 2 ^ z * 2 ^ s * D ≡ m * U * 2 ^ 93
  within s h l =
      let a : U * 2 ^ 200 ≡ 2 ^ (s + 107 + z) * D = le_antisymm (o.at_most l) (o.at_least (omega arith)) ∙ ap (λ (x : ℕ). 2 ^ x * D) h in
      let w : 2 ^ 93 * 2 ^ (s + 107) ≡ 2 ^ s * 2 ^ 200 =
      sym (pow-add 2 93 (s + 107)) ∙ ap (λ (x : ℕ). 2 ^ x) (let q : 93 + (s + 107) ≡ s + 200 = omega arith in q) ∙ pow-add 2 s 200 in
      let b : (x r : ℕ) → m * 2 ^ z * x * D * r ≡ x * r * D * (m * 2 ^ z) = λ x r. simp (mul_assoc, mul_comm, mul_left_comm) in
      eq_of_mul-eq-mul_right (2 ^ 200) (pow_pos 200) (m * 2 ^ z * 2 ^ s * D) (m * U * 2 ^ 93)
      (b (2 ^ s) (2 ^ 200) ∙ ap (λ (x : ℕ). x * D * (m * 2 ^ z)) (sym w) ∙ sym (together (2 ^ 93) (s + 107))
      ∙ ap (λ (x : ℕ). m * 2 ^ 93 * x) (sym a) ∙ sym (apart (2 ^ 93) (2 ^ 200)))

  pub middle : (s : ℕ) (a : Sided) → k ≡ s + 107 + z → k < 400 → RoundsSided 1 16 (plus (ratio (m * 2 ^ z * 2 ^ s) (2 ^ 93))) a
      → RoundsSided 1 16 (dyadic (pos m) e) a
  middle s a h l r =
      rw (dyadic_plus m e some)
      (subst (λ (c : Cut). RoundsSided 1 16 (plus c) a) (ratio_same (m * 2 ^ z * 2 ^ s) (2 ^ 93) (m * U) D (pow_pos 93) (down_some e) (within s h l)) r)
