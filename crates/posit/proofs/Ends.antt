-- "A nonzero magnitude below 2^-28 gives that of 0x0001, one above 2^28 that of 0x7FFF": at both ends the answer stays.
use Rattle.std.proofs.Common.{◌≡◌, ℕ, ◌*◌, ◌^◌, ◌<◌, ◌≤◌, le_antisymm, arith, pow_pos}
use Rattle.posit.specs.Number.{magnitude, run, unit}
use Rattle.posit.specs.Rounding.{Cut, ratio, Rounded, largest}
use Rattle.posit.proofs.Compare.{OneWay, ratio_one_way}
use Rattle.posit.proofs.Unique.{AtMost, rises}
use Rattle.posit.proofs.Own.{own_positive}
use Rattle.posit.proofs.Fractions.{at_most}

-- the cut of a pattern's number
abbrev cut_of : ℕ → ℕ → ℕ → Cut
cut_of es n u = ratio (magnitude es n u * 1) (2 ^ unit es n)

module _ (es n : ℕ) (few : 3 ≤ n) (some : 1 ≤ largest n) (c : Cut) (u : ℕ) (r : Rounded es n c u) where
  pub stays_at_the_largest : AtMost (cut_of es n (largest n)) c → u ≡ largest n
  stays_at_the_largest m =
      let own = own_positive es n (largest n) few some (omega arith) in
      le_antisymm r.most (rises es n few (cut_of es n (largest n)) c (ratio_one_way _ _ (pow_pos (unit es n))) m (largest n) u own r)

  pub stays_at_the_smallest : OneWay c → AtMost c (cut_of es n 1) → u ≡ 1
  stays_at_the_smallest w m = le_antisymm (rises es n few c (cut_of es n 1) w m u 1 r (own_positive es n 1 few (omega arith) some)) r.least

-- at 16 bits, of the fraction a / b
module _ (a b u : ℕ) (some : 0 < b) (r : Rounded 1 16 (ratio a b) u) where
  pub from_2_to_28 : 2 ^ 28 * b ≤ a → u ≡ 0x7FFF
  unfolding magnitude run
  from_2_to_28 h =
      stays_at_the_largest 1 16 (omega arith) (omega arith) (ratio a b) u r (at_most (2 ^ 56 * 1) (2 ^ 28) a b (pow_pos 28) some (omega arith))

  pub to_2_to_minus_28 : a * 2 ^ 28 ≤ b → u ≡ 1
  unfolding magnitude run
  to_2_to_minus_28 h =
      stays_at_the_smallest 1 16 (omega arith) (omega arith) (ratio a b) u r (ratio_one_way a b some)
      (at_most a b (1 * 1) (2 ^ 28) some (pow_pos 28) (omega arith))
