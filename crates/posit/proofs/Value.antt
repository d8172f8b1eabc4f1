-- The magnitude in a pattern of any width n with any es, from its regime and the bits after it.
use Rattle.std.proofs.Common.{◌≡◌, ℕ, suc, ◌+◌, ◌-◌, ◌*◌, ◌/◌, ◌%◌, ◌^◌, ◌<◌, ◌≤◌, sym, ap, ◌∙◌, le_trans, le_of_eq, add-zero, mul_assoc, add-mul, mul-le-mul_left, one-mul, mul-one, mul_right_comm, mul-div_cancel, arith, pow_pos, pow-add}
use native.Mathlib.Nat.{mul-div-mul_right, mul-mod_left}
use native.Mathlib.Nat.{mul-add-mod_self_right, mul-add-div_right}
use lib.Arith.{mod-mul}
use lib.Pow.{low}
use Rattle.posit.specs.Number.{magnitude, run, bit, regime}
use Rattle.posit.proofs.Run.{zeros, ones, ones_at, zeros_top, ones_top, ones_mod}

unfoldable pub floated : ℕ → ℕ → ℕ
floated L Z = (2 ^ L + Z % 2 ^ L) * 2 ^ (Z / 2 ^ L)

abbrev pub value : ℕ → ℕ → ℕ → ℕ
value t w X = (2 ^ t + X % 2 ^ t) * 2 ^ (w + X / 2 ^ t) / 2 ^ t

pub mod_times : (X P K : ℕ) → 0 < P → 0 < K → (X * K) % (P * K) ≡ X % P * K
mod_times X P K p k = mod-mul (X * K) p k ∙ (λ i. (mul-div_cancel X k i) % P * K + mul-mod_left X K i) ∙ add-zero (X % P * K)

module _ (L t w X : ℕ) (h : t ≤ L) (g : t ≤ w) where
  whole : 2 ^ L ≡ 2 ^ t * 2 ^ (L - t)
  whole = ap (λ (x : ℕ). 2 ^ x) (let e : L ≡ t + (L - t) = omega arith in e) ∙ pow-add 2 t (L - t)

  over : (w * 2 ^ L + X * 2 ^ (L - t)) / 2 ^ L ≡ w + X / 2 ^ t
  over =
      mul-add-div_right (pow_pos L) w (X * 2 ^ (L - t))
      ∙ ap (λ (x : ℕ). w + x) (ap (λ (x : ℕ). X * 2 ^ (L - t) / x) whole ∙ mul-div-mul_right X (2 ^ t) (pow_pos (L - t)))

  under : (w * 2 ^ L + X * 2 ^ (L - t)) % 2 ^ L ≡ X % 2 ^ t * 2 ^ (L - t)
  under =
      mul-add-mod_self_right w (2 ^ L) (X * 2 ^ (L - t)) ∙ ap (λ (x : ℕ). X * 2 ^ (L - t) % x) whole
      ∙ mod_times X (2 ^ t) (2 ^ (L - t)) (pow_pos t) (pow_pos (L - t))

  -- the division in a magnitude is exact
  pub value_times : value t w X * 2 ^ t ≡ (2 ^ t + X % 2 ^ t) * 2 ^ (w + X / 2 ^ t)
  value_times =
      let A : ℕ = 2 ^ t + X % 2 ^ t in
      let W : ℕ = w + X / 2 ^ t in
      let e : A * 2 ^ W ≡ A * 2 ^ (W - t) * 2 ^ t =
      ap (λ (x : ℕ). A * x) (ap (λ (x : ℕ). 2 ^ x) (let k : W ≡ W - t + t = omega arith in k) ∙ pow-add 2 (W - t) t)
      ∙ sym (mul_assoc A (2 ^ (W - t)) (2 ^ t)) in
      ap (λ (x : ℕ). x / 2 ^ t * 2 ^ t) e ∙ ap (λ (x : ℕ). x * 2 ^ t) (mul-div_cancel (A * 2 ^ (W - t)) (pow_pos t)) ∙ sym e

  pub value-floated : value t w X * 2 ^ L ≡ floated L (w * 2 ^ L + X * 2 ^ (L - t))
  unfolding floated
  value-floated =
      ap (λ (x : ℕ). value t w X * x) whole ∙ sym (mul_assoc (value t w X) (2 ^ t) (2 ^ (L - t))) ∙ ap (λ (x : ℕ). x * 2 ^ (L - t)) value_times
      ∙ mul_right_comm (2 ^ t + X % 2 ^ t) (2 ^ (w + X / 2 ^ t)) (2 ^ (L - t))
      ∙ ap (λ (x : ℕ). x * 2 ^ (w + X / 2 ^ t)) (add-mul (2 ^ t) (X % 2 ^ t) (2 ^ (L - t)))
      ∙ (λ i. (sym whole i + sym under i) * 2 ^ sym over i)

pub magnitude_is : (es n p b m t w q : ℕ) → bit (n - 2) p ≡ b → run b (n - 1) p ≡ m
    → n - 2 - m ≡ t → regime es n b m ≡ w → p % 2 ^ t ≡ q → magnitude es n p ≡ value t w (q * 2 ^ es)
unfolding magnitude
magnitude_is es n p b m t w q eb em et ew eq =
    let M : run (bit (n - 2) p) (n - 1) p ≡ m = ap (λ (x : ℕ). run x (n - 1) p) eb ∙ em in
    let T : n - 2 - run (bit (n - 2) p) (n - 1) p ≡ t = ap (λ (x : ℕ). n - 2 - x) M ∙ et in
    let Q : p % 2 ^ (n - 2 - run (bit (n - 2) p) (n - 1) p) ≡ q = ap (λ (x : ℕ). p % 2 ^ x) T ∙ eq in
    let W : regime es n (bit (n - 2) p) (run (bit (n - 2) p) (n - 1) p) ≡ w = (λ i. regime es n (eb i) (M i)) ∙ ew in
    λ i. value (T i) (W i) (Q i * 2 ^ es)

module _ (es n L m t q : ℕ) (e : n ≡ m + t + 2) (some : 1 ≤ m) (h : q < 2 ^ t) (fits : t ≤ L) where
  grown : (r : ℕ) → t ≤ r → t ≤ r * 2 ^ es
  grown r k = le_trans k (le_trans (le_of_eq (sym (mul-one r))) (mul-le-mul_left r (pow_pos es)))

  pub zeros_magnitude : magnitude es n (2 ^ t + q) * 2 ^ L ≡ floated L (t * 2 ^ es * 2 ^ L + q * 2 ^ es * 2 ^ (L - t))
  zeros_magnitude =
      ap (λ (x : ℕ). x * 2 ^ L)
      (magnitude_is es n (2 ^ t + q) 0 m t (t * 2 ^ es) q (zeros_top m t q (n - 2) h (omega arith) some)
      (ap (λ (k : ℕ). run 0 k (2 ^ t + q)) (let k : n - 1 ≡ m + suc t = omega arith in k) ∙ zeros m t q h)
      (omega arith)
      (let k : n - 2 ≡ m + t = omega arith in
      ap (λ (x : ℕ). x * 2 ^ es - m * 2 ^ es) k ∙ (let a = add-mul m t (2 ^ es) in let z : (m + t) * 2 ^ es - m * 2 ^ es ≡ t * 2 ^ es = omega arith in z))
      (ap (λ (x : ℕ). (x + q) % 2 ^ t) (sym (one-mul (2 ^ t))) ∙ low 1 t h))
      ∙ value-floated L t (t * 2 ^ es) (q * 2 ^ es) fits (grown t (omega arith))

  pub ones-magnitude : magnitude es n (ones_at m t q) * 2 ^ L ≡ floated L ((m + t + (m - 1)) * 2 ^ es * 2 ^ L + q * 2 ^ es * 2 ^ (L - t))
  ones-magnitude =
      ap (λ (x : ℕ). x * 2 ^ L)
      (magnitude_is es n (ones_at m t q) 1 m t ((m + t + (m - 1)) * 2 ^ es) q (ones_top m t q (n - 2) h (omega arith) some)
      (ap (λ (k : ℕ). run 1 k (ones_at m t q)) (let k : n - 1 ≡ m + suc t = omega arith in k) ∙ ones m t q h)
      (omega arith)
      (let k : n - 2 ≡ m + t = omega arith in ap (λ (x : ℕ). x * 2 ^ es + (m - 1) * 2 ^ es) k ∙ sym (add-mul (m + t) (m - 1) (2 ^ es)))
      (ones_mod m t q h))
      ∙ value-floated L t ((m + t + (m - 1)) * 2 ^ es) (q * 2 ^ es) fits (grown (m + t + (m - 1)) (omega arith))
