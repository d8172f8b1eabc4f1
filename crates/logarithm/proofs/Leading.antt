-- What decoding hands over is what rows 3 and 4 say of the number: the place of its highest bit, and the fraction.
use Prim.Native.Nat.{ℕ, suc, ◌+◌, ◌-◌, ◌*◌, ◌/◌, ◌^◌, ◌≤◌, ◌<◌}
use mathlib.Core.Path.{◌≡◌, ◌∙◌, ap}
use native.Mathlib.Omega.{arith}
use native.Mathlib.Nat.{pow-suc, mul-div_cancel, mul-lt-mul_of_pos_right, mul-le-mul_right}
use lib.Count.{leading_unique}
use lib.Pow.{pow_pos}
use Rattle.posit.specs.Number.{magnitude}
use Rattle.posit.specs.Decoding.{Decodes}
use Rattle.logarithm.specs.Leading.{power, fraction}

-- k is (1 + f / 4096) * 2 ^ w
module _ (k w f : ℕ) (is : k * 2 ^ 12 ≡ (2 ^ 12 + f) * 2 ^ w) (small : f < 2 ^ 12) (few : w ≤ 57) where
  within : (2 ^ w ≤ k) × (k < 2 ^ w + 2 ^ w)
  within =
      let l : (2 ^ 12) * 2 ^ w ≤ (2 ^ 12 + f) * 2 ^ w = mul-le-mul_right (2 ^ w) (omega arith) in
      let h : (2 ^ 12 + f) * 2 ^ w < (2 ^ 13) * 2 ^ w = mul-lt-mul_of_pos_right (omega arith) (pow_pos w) in
      (omega arith, omega arith)

  power_is : power k ≡ w
  unfolding power
  power_is =
      let d = pow-suc 2 w in
      let n = within in
      let z = leading_unique 64 k (63 - w) (suc w) (omega arith) (omega arith) (omega arith) in
      omega arith

  fraction_is : fraction k ≡ f
  unfolding fraction
  fraction_is =
      let q : k * 2 ^ 12 / 2 ^ power k ≡ 2 ^ 12 + f =
      ap (λ (x : ℕ). k * 2 ^ 12 / 2 ^ x) power_is ∙ ap (λ (x : ℕ). x / 2 ^ w) is ∙ mul-div_cancel (2 ^ 12 + f) (pow_pos w) in
      omega arith

pub decoded_power : {p w f : ℕ} → Decodes p w f → power (magnitude 1 16 p) ≡ w
decoded_power {p} {w} {f} d = power_is (magnitude 1 16 p) w f d.value d.small d.few

pub decoded_fraction : {p w f : ℕ} → Decodes p w f → fraction (magnitude 1 16 p) ≡ f
decoded_fraction {p} {w} {f} d = fraction_is (magnitude 1 16 p) w f d.value d.small d.few
