-- A posit's own number rounds to its pattern, On.
use Rattle.std.proofs.Common.{◌≡◌, ℕ, ◌+◌, ◌-◌, ◌*◌, ◌^◌, ◌<◌, ◌≤◌, ℤ, pos, neg_ℤ, sym, refl, ap, subst, zero-le, lt_of_le_of_lt, lt_of_mul-lt-mul_right, zero-mul, mul-one, arith, pow_pos}
use Prim.Native.Nat.{Ordering}
use mathlib.Core.Path.{subst⁻¹}
use native.Mathlib.Decide.{dec_lt}
use lib.Ieee.{up, down}
use Rattle.posit.specs.Number.{magnitude, opposite, unit, real, number}
use Rattle.posit.specs.Rounding.{Cut, ratio, plus, Rounded, Rounds, dyadic, over, largest}
use Rattle.posit.specs.Sides.{Told, Own}
use Rattle.posit.specs.declared.side.Side.TheVariants.{On}
use Rattle.posit.proofs.Compare.{same, compare_is, ratio_one_way}
use Rattle.posit.proofs.Complement.{opposite_is}
use Rattle.posit.proofs.Patterns.{number-zero, number_nar, number_plus, number_minus}
use Rattle.posit.proofs.Dyadic.{dyadic_plus, dyadic_minus, up_minus, down_minus}
use Rattle.posit.proofs.Growth.{larger}
use Rattle.posit.proofs.Unique.{doubled}
use Rattle.posit.proofs.Widths.{followed}
use Rattle.posit.proofs.Laws.{half}
use Rattle.posit.proofs.Sides.{ratio_scales, dyadic_steady, untells}

module _ (es n u : ℕ) (few : 3 ≤ n) (l : 1 ≤ u) (h : u ≤ largest n) where
  abbrev U : ℕ
  U = unit es n

  abbrev cut : Cut
  cut = ratio (magnitude es n u * 1) (2 ^ U)

  own_told : Told es n cut u On
  own_told =
      record {
        least = l;
        most = h;
        leaves =
            compare_is (magnitude es n u * 2 ^ U) (magnitude es n u * 1 * 2 ^ U) Ordering.eq
            (same (ap (λ (x : ℕ). x * 2 ^ U) (sym (mul-one (magnitude es n u)))));
      }

  pub own_positive : Rounded es n cut u
  own_positive =
      (untells es n few (plus cut) (ratio_one_way (magnitude es n u * 1) (2 ^ U) (pow_pos U), ratio_scales (magnitude es n u * 1) (2 ^ U)) u On own_told).0

  pub magnitude_some : 0 < magnitude es n u
  magnitude_some =
      lt_of_mul-lt-mul_right (2 ^ (2 ^ es))
      (rw zero-mul
      (lt_of_le_of_lt zero-le
      (subst (λ (x : ℕ). magnitude es (n + 1) (2 * u - 1) < x) (followed es n u few l h)
      (let d = doubled n few in larger es (n + 1) (2 * u - 1) (2 * u) (omega arith) (omega arith) (omega arith) (omega arith)))))

  told_dyadic : Told es n (ratio (magnitude es n u * up (neg_ℤ (pos U))) (down (neg_ℤ (pos U)))) u On
  told_dyadic = subst (λ (c : Cut). Told es n c u On) (λ i. ratio (magnitude es n u * sym (up_minus U) i) (sym (down_minus U) i)) own_told

  own_plus : Own es n (dyadic (pos (magnitude es n u)) (neg_ℤ (pos U))) u
  own_plus = rw (dyadic_plus (magnitude es n u) (neg_ℤ (pos U)) magnitude_some) told_dyadic

  own_minus : (p : ℕ) → opposite n p ≡ u → Own es n (dyadic (neg_ℤ (pos (magnitude es n u))) (neg_ℤ (pos U))) p
  own_minus p e =
      rw (dyadic_minus (magnitude es n u) (neg_ℤ (pos U)) magnitude_some)
      (subst⁻¹ (λ (v : ℕ). Told es n (ratio (magnitude es n u * up (neg_ℤ (pos U))) (down (neg_ℤ (pos U)))) v On) e told_dyadic)

-- the number in a pattern is that posit's own
pub number_own : (es n p : ℕ) → 3 ≤ n → p < 2 ^ n → (q : ℤ) → number es n p ≡ real q → Own es n (over q (unit es n)) p
number_own es n p few top q e = go (dec_lt 0 p) (dec_lt p (2 ^ (n - 1))) (dec_lt (2 ^ (n - 1)) p)
  where
    go : Dec (0 < p) → Dec (p < 2 ^ (n - 1)) → Dec (2 ^ (n - 1) < p) → Own es n (over q (unit es n)) p
    go (no z) b d =
        let s : p ≡ 0 = omega arith in
        let m = number-zero es n in
        let same : pos 0 ≡ q = cc in
        subst (λ (z : ℤ). Own es n (over z (unit es n)) p) same (s, refl)
    go (yes z) (yes b) d =
        let m = number_plus es n p z b in
        let same : pos (magnitude es n p) ≡ q = cc in
        subst (λ (z : ℤ). Own es n (over z (unit es n)) p) same (own_plus es n p few z (omega arith))
    go (yes z) (no b) (yes d) =
        let o = opposite_is n p z in
        let f = half es n few in
        let m = number_minus es n p d in
        let same : neg_ℤ (pos (magnitude es n (opposite n p))) ≡ q = cc in
        subst (λ (z : ℤ). Own es n (over z (unit es n)) p) same (own_minus es n (opposite n p) few (omega arith) (omega arith) p refl)
    go (yes z) (no b) (no d) =
        let s : p ≡ 2 ^ (n - 1) = omega arith in
        let m = number_nar es n in
        cc

-- so it rounds to it
pub own : (es n p : ℕ) → 3 ≤ n → p < 2 ^ n → (q : ℤ) → number es n p ≡ real q → Rounds es n (over q (unit es n)) p
own es n p few top q e = (untells es n few (over q (unit es n)) (dyadic_steady q (neg_ℤ (pos (unit es n)))) p On (number_own es n p few top q e)).0
