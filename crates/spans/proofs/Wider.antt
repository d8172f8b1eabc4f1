-- The magnitude in a pattern of 17 bits with one exponent bit, by its run: of zeros and of ones, two bits or more, as that
-- of the 16-bit pattern with one bit of the run less; of one bit, by the fields themselves.
use Rattle.std.proofs.Common.{◌≡◌, ℕ, suc, ◌+◌, ◌-◌, ◌*◌, ◌/◌, ◌%◌, ◌^◌, ◌<◌, ◌≤◌, sym, refl, ap, ◌∙◌, le_refl, mul_assoc, mul_comm, mul-div_cancel, mul_left_comm, arith, pow_pos, pow-add}
use native.Mathlib.Nat.{mul-add-mod_self_right, eq_of_mul-eq-mul_right}
use native.Mathlib.Decide.{dec_lt}
use Rattle.posit.specs.Number.{magnitude, run, regime}
use Rattle.posit.proofs.Run.{run_same, run_other, run_front}
use Rattle.posit.proofs.Value.{value, value_times, magnitude_is}

pub of_zeros : (v : ℕ) → v < 2 ^ 14 → magnitude 1 17 v ≡ magnitude 1 16 v
of_zeros v h =
    let m : ℕ = run 0 15 v in
    let t : ℕ = 14 - m in
    magnitude_is 1 17 v 0 (suc m) t (regime 1 16 0 m) (v % 2 ^ t) (omega arith) (run_same 0 15 v (omega arith)) (omega arith) (omega arith) refl
    ∙ sym (magnitude_is 1 16 v 0 m t (regime 1 16 0 m) (v % 2 ^ t) (omega arith) refl refl refl refl)

-- four powers of two more
four_more : (t w X : ℕ) → t ≤ w → value t (w + 4) X ≡ 16 * value t w X
four_more t w X h =
    let A : ℕ = 2 ^ t + X % 2 ^ t in
    let E : ℕ = w + X / 2 ^ t in
    eq_of_mul-eq-mul_right (2 ^ t) (pow_pos t) (value t (w + 4) X) (16 * value t w X)
    (value_times t t (w + 4) X (le_refl t) (omega arith)
    ∙ ap (λ (k : ℕ). A * k) (ap (λ (k : ℕ). 2 ^ k) (let e : w + 4 + X / 2 ^ t ≡ 4 + E = omega arith in e) ∙ pow-add 2 4 E)
    ∙ mul_left_comm A 16 (2 ^ E)
    ∙ ap (λ (k : ℕ). 16 * k) (sym (value_times t t w X (le_refl t) h))
    ∙ sym (mul_assoc 16 (value t w X) (2 ^ t)))

-- what stands above the lowest t bits does not show in them
low_alike : (t u : ℕ) → t ≤ 15 → (1 * 2 ^ 15 + u) % 2 ^ t ≡ u % 2 ^ t
low_alike t u h =
    ap (λ (k : ℕ). (k + u) % 2 ^ t) (ap (λ (k : ℕ). 2 ^ k) {x = 15} (let e : 15 ≡ 15 - t + t = omega arith in e) ∙ pow-add 2 (15 - t) t)
    ∙ mul-add-mod_self_right (2 ^ (15 - t)) (2 ^ t) u

pub of_ones : (u : ℕ) → 2 ^ 14 ≤ u → u < 2 ^ 15 → magnitude 1 17 (1 * 2 ^ 15 + u) ≡ 16 * magnitude 1 16 u
of_ones u l h =
    let m : ℕ = run 1 15 u in
    let t : ℕ = 14 - m in
    let w : ℕ = regime 1 16 1 m in
    let some : m ≡ suc (run 1 14 u) = run_same 1 14 u (omega arith) in
    magnitude_is 1 17 (1 * 2 ^ 15 + u) 1 (suc m) t (w + 4) (u % 2 ^ t) (omega arith)
    (run_same 1 15 (1 * 2 ^ 15 + u) (omega arith) ∙ ap suc (run_front 1 15 1 u h))
    (omega arith) (omega arith) (low_alike t u (omega arith))
    ∙ four_more t w (u % 2 ^ t * 2 ^ 1) (omega arith)
    ∙ ap (λ (k : ℕ). 16 * k) (sym (magnitude_is 1 16 u 1 m t w (u % 2 ^ t) (omega arith) refl refl refl refl))

-- 14 bits q after a run of one bit that says the power w
fields : (w q : ℕ) → 13 ≤ w → q < 2 ^ 14 → value 14 w (q * 2 ^ 1) ≡ (2 ^ 13 + q % 2 ^ 13) * 2 ^ (w - 13 + q / 2 ^ 13)
fields w q h l =
    let A : ℕ = 2 ^ 13 + q % 2 ^ 13 in
    let E : ℕ = w - 13 + q / 2 ^ 13 in
    let e : 2 ^ 14 + q * 2 % 2 ^ 14 ≡ A * 2 = omega arith in
    let f : 2 ^ (w + q * 2 / 2 ^ 14) ≡ 2 ^ 13 * 2 ^ E = ap (λ (k : ℕ). 2 ^ k) (let g : w + q * 2 / 2 ^ 14 ≡ 13 + E = omega arith in g) ∙ pow-add 2 13 E in
    let g : A * 2 * (2 ^ 13 * 2 ^ E) ≡ A * 2 ^ E * 2 ^ 14 =
    mul_assoc A 2 (2 ^ 13 * 2 ^ E) ∙ ap (λ (k : ℕ). A * k) (sym (mul_assoc 2 (2 ^ 13) (2 ^ E)) ∙ mul_comm (2 ^ 14) (2 ^ E))
    ∙ sym (mul_assoc A (2 ^ E) (2 ^ 14)) in
    (λ i. e i * f i / 2 ^ 14) ∙ ap (λ (k : ℕ). k / 2 ^ 14) g ∙ mul-div_cancel (A * 2 ^ E) (pow_pos 14)

module _ (v : ℕ) (l : 2 ^ 14 ≤ v) (h : v < 3 * 2 ^ 14) where
  one-zero : v < 2 ^ 15 → magnitude 1 17 v ≡ value 14 28 (v % 2 ^ 14 * 2 ^ 1)
  one-zero g =
      magnitude_is 1 17 v 0 1 14 28 (v % 2 ^ 14) (omega arith) (run_same 0 15 v (omega arith) ∙ ap suc (run_other 0 14 v (λ e. omega arith))) refl refl refl

  one_one : 2 ^ 15 ≤ v → magnitude 1 17 v ≡ value 14 30 (v % 2 ^ 14 * 2 ^ 1)
  one_one g =
      magnitude_is 1 17 v 1 1 14 30 (v % 2 ^ 14) (omega arith) (run_same 1 15 v (omega arith) ∙ ap suc (run_other 1 14 v (λ e. omega arith))) refl refl refl

  placed : (w : ℕ) → 13 ≤ w → w - 13 + v % 2 ^ 14 / 2 ^ 13 ≡ 13 + v / 2 ^ 13 → value 14 w (v % 2 ^ 14 * 2 ^ 1) ≡ (2 ^ 13 + v % 2 ^ 13) * 2 ^ (13 + v / 2 ^ 13)
  placed w k e = fields w (v % 2 ^ 14) k (omega arith) ∙ (λ i. (2 ^ 13 + (let f : v % 2 ^ 14 % 2 ^ 13 ≡ v % 2 ^ 13 = omega arith in f i)) * 2 ^ e i)

  pub of_one-bit : magnitude 1 17 v ≡ (2 ^ 13 + v % 2 ^ 13) * 2 ^ (13 + v / 2 ^ 13)
  of_one-bit = go (dec_lt v (2 ^ 15))
    where
      go : Dec (v < 2 ^ 15) → magnitude 1 17 v ≡ (2 ^ 13 + v % 2 ^ 13) * 2 ^ (13 + v / 2 ^ 13)
      go (yes g) = one-zero g ∙ placed 28 (omega arith) (omega arith)
      go (no g) = one_one (omega arith) ∙ placed 30 (omega arith) (omega arith)
