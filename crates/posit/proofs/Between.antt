-- The number of Z, power * 2 ^ 63 + fraction, between two neighbouring patterns of 17 bits: the one that keeps what of Z
-- fits, and the next. Nothing is cut off just where the first pattern's number is that of Z. How a posit of 16 bits stands to
-- the number, which is a pattern of 17 bits that ends with a 0, follows from how it stands to the first of the two.
use Rattle.std.proofs.Common.{◌≡◌, ℕ, suc, ◌+◌, ◌-◌, ◌*◌, ◌%◌, ◌^◌, ◌<◌, ◌≤◌, sym, ap, ◌∙◌, subst, ⊎_elim, le_of_eq, lt_of_lt_of_le, le_of_lt, lt_irrefl, mul_assoc, mul_comm, eq-zero-or-pos, eq-or-lt_of_le, mul-lt-mul_of_pos_right, mul_left_comm, arith, pow_pos, pow-add}
use Prim.Native.Nat.{Ordering}
use Prim.Native.Nat.{compare}
use mathlib.Core.Path.{subst⁻¹}
use lib.Pow.{high, low}
use Rattle.posit.specs.Number.{magnitude, unit}
use Rattle.posit.specs.Rounding.{Cut, ratio, Rounded, largest}
use Rattle.posit.specs.Sides.{stands}
use Rattle.posit.proofs.Compare.{compare_times, compare_is, less, same, more}
use Rattle.posit.proofs.Value.{floated}
use Rattle.posit.proofs.Shapes.{index, same_far, shape_magnitude, next-magnitude, floated_grows}
use Rattle.posit.proofs.Growth.{larger}
use Rattle.posit.proofs.Widths.{followed, finer}
use Rattle.posit.proofs.Regimes.{Layout}
use Rattle.posit.proofs.Nearest.{nearest}

-- f / 2 ^ 63 * 2 ^ s, with f's top bit set
pub floated_is : (f s : ℕ) → 2 ^ 63 ≤ f → f < 2 ^ 64 → floated 63 (s * 2 ^ 63 + (f - 2 ^ 63)) ≡ f * 2 ^ s
unfolding floated
floated_is f s top fits =
    let short : f - 2 ^ 63 < 2 ^ 63 = omega arith in
    (λ i. (2 ^ 63 + low s 63 short i) * 2 ^ high s 63 short i) ∙ ap (λ (x : ℕ). x * 2 ^ s) (let e : 2 ^ 63 + (f - 2 ^ 63) ≡ f = omega arith in e)

-- how a number of 17 bits, a dividing number among them, stands to y / 2 ^ 63 units
stands_17 : (es y d : ℕ) → ratio y (2 ^ (63 + unit es 17)) d (unit es 17) ≡ compare (d * 2 ^ 63) y
stands_17 es y d =
    ap (λ (x : ℕ). compare x (y * 2 ^ unit es 17)) (ap (λ (x : ℕ). d * x) (pow-add 2 63 (unit es 17)) ∙ sym (mul_assoc d (2 ^ 63) (2 ^ unit es 17)))
    ∙ sym (compare_times (d * 2 ^ 63) y (2 ^ unit es 17) (pow_pos (unit es 17)))

-- and one of 16 bits, whose unit is 2 ^ 2 ^ es times larger
stands_16 : (es y u : ℕ) → 1 ≤ u → u ≤ largest 16 → stands es 16 (ratio y (2 ^ (63 + unit es 17))) u ≡ compare (magnitude es 17 (2 * u) * 2 ^ 63) y
stands_16 es y u lo hi =
    (λ i. compare (magnitude es 16 u * 2 ^ (63 + finer es 16 (omega arith) i)) (y * 2 ^ unit es 16))
    ∙ ap (λ (x : ℕ). compare x (y * 2 ^ unit es 16)) regrouped
    ∙ sym (compare_times (magnitude es 17 (2 * u) * 2 ^ 63) y (2 ^ unit es 16) (pow_pos (unit es 16)))
  where
    spread : (a x y z : ℕ) → a * (x * (y * z)) ≡ a * z * x * y
    spread a x y z = simp (mul_assoc, mul_comm, mul_left_comm)

    regrouped : magnitude es 16 u * 2 ^ (63 + (unit es 16 + 2 ^ es)) ≡ magnitude es 17 (2 * u) * 2 ^ 63 * 2 ^ unit es 16
    regrouped =
        ap (λ (x : ℕ). magnitude es 16 u * x) (pow-add 2 63 (unit es 16 + 2 ^ es) ∙ ap (λ (x : ℕ). 2 ^ 63 * x) (pow-add 2 (unit es 16) (2 ^ es)))
        ∙ spread (magnitude es 16 u) (2 ^ 63) (2 ^ unit es 16) (2 ^ (2 ^ es))
        ∙ ap (λ (x : ℕ). x * 2 ^ 63 * 2 ^ unit es 16) (sym (followed es 16 u (omega arith) lo hi))

module _ (es r t b q rest Z : ℕ) (l : Layout r t b) (h : q < 2 ^ t)
    (whole : index es 63 15 (omega arith) r t q + rest ≡ Z) (small : rest < 2 ^ es * 2 ^ (63 - t)) where
  abbrev v : ℕ
  v = b + q

  abbrev start : ℕ
  start = index es 63 15 (omega arith) r t q

  is : magnitude es 17 v * 2 ^ 63 ≡ floated 63 start
  is = shape_magnitude es 63 15 (omega arith) v r t q (l.shape q) h

  next_is : magnitude es 17 (suc v) * 2 ^ 63 ≡ floated 63 (start + 2 ^ es * 2 ^ (63 - t))
  next_is =
      next-magnitude es 63 15 (omega arith) v r t q (l.shape q) h (let k = l.to in omega arith)
      ∙ ap (floated 63) (same_far es 63 15 (omega arith) r t q)

  from : magnitude es 17 v * 2 ^ 63 ≤ floated 63 Z
  from =
      ⊎_elim (λ e. le_of_eq (is ∙ ap (floated 63) e)) (λ k. le_of_lt (subst⁻¹ (λ (x : ℕ). x < floated 63 Z) is (floated_grows 63 start Z k)))
      (eq-or-lt_of_le (let k : start ≤ Z = omega arith in k))

  below : floated 63 Z < magnitude es 17 (suc v) * 2 ^ 63
  below = subst⁻¹ (λ (x : ℕ). floated 63 Z < x) next_is (floated_grows 63 Z (start + 2 ^ es * 2 ^ (63 - t)) (omega arith))

  none_rests : magnitude es 17 v * 2 ^ 63 ≡ floated 63 Z → rest ≡ 0
  none_rests e =
      ⊎_elim (λ z. z) (λ p. absurd (lt_irrefl (floated 63 Z) (subst (λ (x : ℕ). x < floated 63 Z) (sym is ∙ e) (floated_grows 63 start Z (omega arith)))))
      (eq-zero-or-pos rest)

  exactly : rest ≡ 0 → magnitude es 17 v * 2 ^ 63 ≡ floated 63 Z
  exactly e = is ∙ ap (floated 63) (let k : start ≡ Z = omega arith in k)

  pub pattern_most : v ≤ 65533
  pattern_most = let k = l.to in omega arith

  -- the answer, by v and by whether anything is cut off
  pub answer : (u : ℕ) → 2 * u ≤ suc v → v ≤ 2 * u + 1 → (2 * u ≡ suc v → rest ≡ 0 → u % 2 ≡ 0) → (v ≡ 2 * u + 1 → (rest ≡ 0) × (u % 2 ≡ 0))
      → Rounded es 16 (ratio (floated 63 Z) (2 ^ (63 + unit es 17))) u
  answer u near far onto tie =
      let k = l.from in
      let m = pattern_most in
      nearest es 16 (omega arith) (ratio (floated 63 Z) (2 ^ (63 + unit es 17))) (floated 63 Z) (2 ^ 63)
      (omega arith) (stands_17 es (floated 63 Z)) v u from below (omega arith) (omega arith) near far
      (λ g e. onto g (none_rests e)) (λ g. (exactly (tie g).0, (tie g).1))

  -- how u stands to the number, by v and by whether anything is cut off
  module _ (u : ℕ) (lo : 1 ≤ u) (hi : u ≤ largest 16) where
    abbrev number : Cut
    number = ratio (floated 63 Z) (2 ^ (63 + unit es 17))

    abbrev own : ℕ
    own = magnitude es 17 (2 * u) * 2 ^ 63

    grown : (p p' : ℕ) → 1 ≤ p → p < p' → p' ≤ largest 17 → magnitude es 17 p * 2 ^ 63 < magnitude es 17 p' * 2 ^ 63
    grown p p' a h k = mul-lt-mul_of_pos_right (larger es 17 p p' (omega arith) a h k) (pow_pos 63)

    pub stands-above : v < 2 * u → stands es 16 number u ≡ Ordering.gt
    stands-above h =
        stands_16 es (floated 63 Z) u lo hi
        ∙ compare_is own (floated 63 Z) Ordering.gt
        (more
        (lt_of_lt_of_le below
        (⊎_elim (λ e. le_of_eq (ap (λ (p : ℕ). magnitude es 17 p * 2 ^ 63) e))
        (λ k. le_of_lt (grown (suc v) (2 * u) (omega arith) k (omega arith))) (eq-or-lt_of_le h))))

    pub stands-below : 2 * u ≤ v → (2 * u ≡ v → 0 < rest) → stands es 16 number u ≡ Ordering.lt
    stands-below h some =
        stands_16 es (floated 63 Z) u lo hi
        ∙ compare_is own (floated 63 Z) Ordering.lt (less (⊎_elim equal apart (eq-or-lt_of_le h)))
      where
        equal : 2 * u ≡ v → own < floated 63 Z
        equal e =
            ⊎_elim (λ f. absurd (let z = none_rests (ap (λ (p : ℕ). magnitude es 17 p * 2 ^ 63) (sym e) ∙ f) in let k = some e in omega arith)) (λ k. k)
            (eq-or-lt_of_le (subst⁻¹ (λ (p : ℕ). magnitude es 17 p * 2 ^ 63 ≤ floated 63 Z) e from))

        apart : 2 * u < v → own < floated 63 Z
        apart k = let m = pattern_most in lt_of_lt_of_le (grown (2 * u) v (omega arith) k (omega arith)) from

    pub stands_on : 2 * u ≡ v → rest ≡ 0 → stands es 16 number u ≡ Ordering.eq
    stands_on e z =
        stands_16 es (floated 63 Z) u lo hi
        ∙ compare_is own (floated 63 Z) Ordering.eq (same (ap (λ (p : ℕ). magnitude es 17 p * 2 ^ 63) e ∙ exactly z))
