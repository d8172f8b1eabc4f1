-- A pattern followed by a 0 keeps its number, so a dividing number lies strictly between its neighbours' numbers.
-- Numbers of width n count in units of 2 ^ -unit es n; those of width n + 1 in units that are 2 ^ 2 ^ es times finer.
use Rattle.std.proofs.Common.{◌≡◌, ℕ, zero, suc, ◌+◌, ◌-◌, ◌*◌, ◌/◌, ◌%◌, ◌^◌, ◌<◌, ◌≤◌, sym, ap, ◌∙◌, subst, ⊎_elim, le_refl, mul_assoc, suc-mul, mul_comm, add-mul, add_comm, eq-or-lt_of_le, pow-suc, mul_right_comm, mul_left_comm, arith, pow_pos, pow-add}
use native.Mathlib.Nat.{eq_of_mul-eq-mul_right, mul-add-div_right, mul-add-mod_self_right}
use Rattle.posit.specs.Number.{magnitude, unit}
use Rattle.posit.specs.Rounding.{dividing, largest}
use Rattle.posit.proofs.Run.{ones_at}
use Rattle.posit.proofs.Value.{floated}
use Rattle.posit.proofs.Shapes.{Shape, zs, os, ones-sum, index, shape_magnitude, find}
use Rattle.posit.proofs.Growth.{larger, last_magnitude, before_magnitude, before}
use Rattle.posit.proofs.Unique.{doubled}

floated_up : (L a Z : ℕ) → floated L (a * 2 ^ L + Z) ≡ floated L Z * 2 ^ a
unfolding floated
floated_up L a Z =
    (λ i. (2 ^ L + mul-add-mod_self_right a (2 ^ L) Z i) * 2 ^ mul-add-div_right (pow_pos L) a Z i)
    ∙ ap (λ (x : ℕ). (2 ^ L + Z % 2 ^ L) * x) (ap (λ (x : ℕ). 2 ^ x) (add_comm a (Z / 2 ^ L)) ∙ pow-add 2 (Z / 2 ^ L) a)
    ∙ sym (mul_assoc (2 ^ L + Z % 2 ^ L) (2 ^ (Z / 2 ^ L)) (2 ^ a))

-- the shape of a pattern followed by a 0
longer : (N v r t q : ℕ) → Shape N v r t q → Shape (suc N) (2 * v) (suc r) (suc t) (2 * q)
longer N v r t q (zs m e l ev er) = zs m (omega arith) l (let d = pow-suc 2 t in omega arith) (ap suc er)
longer N v r t q (os m e l ev er) =
    os m (omega arith) l
    (let a = ones-sum m t q in
    let b = ones-sum m (suc t) (2 * q) in
    let d = pow-suc 2 (suc t) in
    let f = pow-suc 2 (m + suc t) in
    let g : 2 ^ (m + suc (suc t)) ≡ 2 ^ suc (m + suc t) = ap (λ (x : ℕ). 2 ^ x) (omega arith) in
    omega arith)
    (omega arith)

longer_small : (t q : ℕ) → q < 2 ^ t → 2 * q < 2 ^ suc t
longer_small t q h = let d = pow-suc 2 t in omega arith

module _ (es N : ℕ) (some : 1 ≤ N) where
  abbrev L : ℕ
  L = suc N

  further : (r t q : ℕ) → t ≤ N → index es L (suc N) (le_refl (suc N)) (suc r) (suc t) (2 * q) ≡ 2 ^ es * 2 ^ L + index es L N (omega arith) r t q
  further r t q h =
      let a : suc r * 2 ^ es * 2 ^ L ≡ r * 2 ^ es * 2 ^ L + 2 ^ es * 2 ^ L =
      ap (λ (x : ℕ). x * 2 ^ L) (suc-mul r (2 ^ es)) ∙ add-mul (r * 2 ^ es) (2 ^ es) (2 ^ L) in
      let p : 2 ^ (L - t) ≡ 2 ^ (L - suc t) * 2 = ap (λ (x : ℕ). 2 ^ x) (let z : L - t ≡ suc (L - suc t) = omega arith in z) ∙ pow-suc 2 (L - suc t) in
      let b : 2 * q * 2 ^ es * 2 ^ (L - suc t) ≡ q * 2 ^ es * 2 ^ (L - t) =
      (let z : 2 * q * 2 ^ es * 2 ^ (L - suc t) ≡ q * 2 ^ es * (2 ^ (L - suc t) * 2) = simp (mul_assoc, mul_comm, mul_left_comm) in z)
      ∙ ap (λ (x : ℕ). q * 2 ^ es * x) (sym p) in
      omega arith

  shaped : (v r t q : ℕ) → Shape N v r t q → q < 2 ^ t → t ≤ N → magnitude es (suc N + 2) (2 * v) ≡ magnitude es (N + 2) v * 2 ^ (2 ^ es)
  shaped v r t q sh h k =
      eq_of_mul-eq-mul_right (2 ^ L) (pow_pos L) (magnitude es (suc N + 2) (2 * v)) (magnitude es (N + 2) v * 2 ^ (2 ^ es))
      (shape_magnitude es L (suc N) (le_refl (suc N)) (2 * v) (suc r) (suc t) (2 * q) (longer N v r t q sh) (longer_small t q h)
      ∙ ap (floated L) (further r t q k)
      ∙ floated_up L (2 ^ es) (index es L N (omega arith) r t q)
      ∙ ap (λ (x : ℕ). x * 2 ^ (2 ^ es)) (sym (shape_magnitude es L N (omega arith) v r t q sh h))
      ∙ mul_right_comm (magnitude es (N + 2) v) (2 ^ L) (2 ^ (2 ^ es)))

  tail_few : (v r t q : ℕ) → Shape N v r t q → t ≤ N
  tail_few v r t q (zs m e l ev er) = omega arith
  tail_few v r t q (os m e l ev er) = omega arith

  last : magnitude es (suc N + 2) (2 * (2 ^ suc N - 1)) ≡ magnitude es (N + 2) (2 ^ suc N - 1) * 2 ^ (2 ^ es)
  last =
      ap (magnitude es (suc N + 2))
      (let b = before es (suc N) (omega arith) in let d = pow-suc 2 (suc N) in let e : 2 * (2 ^ suc N - 1) ≡ ones_at (suc N) 0 0 = omega arith in e)
      ∙ before_magnitude es (suc N) (omega arith)
      ∙ ap (λ (x : ℕ). 2 ^ x)
      (let a = suc-mul N (2 ^ es) in let z : (suc N - 1) * 2 ^ es ≡ N * 2 ^ es = ap (λ (x : ℕ). x * 2 ^ es) (omega arith) in
      let e : suc N * 2 ^ es + (suc N - 1) * 2 ^ es ≡ N * 2 ^ es + N * 2 ^ es + 2 ^ es = omega arith in e)
      ∙ pow-add 2 (N * 2 ^ es + N * 2 ^ es) (2 ^ es)
      ∙ ap (λ (x : ℕ). x * 2 ^ (2 ^ es)) (sym (last_magnitude es N some))

  wider : (v : ℕ) → 1 ≤ v → v ≤ 2 ^ suc N - 1 → magnitude es (suc N + 2) (2 * v) ≡ magnitude es (N + 2) v * 2 ^ (2 ^ es)
  wider zero l h = absurd (omega arith)
  wider (suc k) l h =
      ⊎_elim (λ (e : suc k ≡ 2 ^ suc N - 1). rw e last)
      (λ g. let f = find es L N (omega arith) k some (omega arith) in
      shaped (suc k) f.r f.t f.q f.shape f.small (tail_few (suc k) f.r f.t f.q f.shape))
      (eq-or-lt_of_le h)

-- the unit one bit wider
pub finer : (es n : ℕ) → 3 ≤ n → unit es (n + 1) ≡ unit es n + 2 ^ es
finer es n few = ap (λ (x : ℕ). x * 2 ^ es) (let e : n + 1 - 2 ≡ suc (n - 2) = omega arith in e) ∙ suc-mul (n - 2) (2 ^ es)

pub followed : (es n p : ℕ) → 3 ≤ n → 1 ≤ p → p ≤ largest n → magnitude es (n + 1) (2 * p) ≡ magnitude es n p * 2 ^ (2 ^ es)
followed es n p few l h =
    let top : 2 ^ suc (n - 2) ≡ 2 ^ (n - 1) = ap (λ (x : ℕ). 2 ^ x) (omega arith) in
    (λ i. magnitude es (let e : n + 1 ≡ suc (n - 2) + 2 = omega arith in e i) (2 * p))
    ∙ wider es (n - 2) (omega arith) p l (omega arith)
    ∙ (λ i. magnitude es (let e : n - 2 + 2 ≡ n = omega arith in e i) p * 2 ^ (2 ^ es))

module _ (es n u : ℕ) (few : 3 ≤ n) (l : 1 ≤ u) where
  pub below-dividing : u ≤ largest n → magnitude es n u * 2 ^ (2 ^ es) < dividing es n u
  below-dividing h =
      let d = doubled n few in
      subst (λ (x : ℕ). x < dividing es n u) (followed es n u few l h)
      (larger es (n + 1) (2 * u) (2 * u + 1) (omega arith) (omega arith) (omega arith) (omega arith))

  pub above-dividing : suc u ≤ largest n → dividing es n u < magnitude es n (suc u) * 2 ^ (2 ^ es)
  above-dividing h =
      let d = doubled n few in
      subst (λ (x : ℕ). dividing es n u < x) (followed es n (suc u) few (omega arith) h)
      (larger es (n + 1) (2 * u + 1) (2 * suc u) (omega arith) (omega arith) (omega arith) (omega arith))
