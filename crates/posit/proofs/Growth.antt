-- A larger positive pattern has a larger number, for every width and count of exponent bits.
use Rattle.std.proofs.Common.{◌≡◌, ℕ, zero, suc, ◌+◌, ◌-◌, ◌*◌, ◌/◌, ◌%◌, ◌^◌, ◌<◌, ◌≤◌, sym, refl, ap, ◌∙◌, subst, ⊎_elim, lt_trans, add-zero, eq-or-lt_of_le, mul-lt-mul_of_pos_right, one-mul, pow-suc, zero-mul, div-one, arith, pow_pos}
use native.Mathlib.Nat.{mod-one}
use lib.Pow.{pow-lt}
use Rattle.posit.specs.Number.{magnitude, run, bit}
use Rattle.posit.specs.Rounding.{largest}
use Rattle.posit.proofs.Run.{run_same, run_front, bit_high, ones_at, ones, ones_top}
use Rattle.posit.proofs.Value.{magnitude_is, value}
use Rattle.posit.proofs.Shapes.{grows, ones-sum}

run_none : (b p : ℕ) → run b 0 p ≡ 0
unfolding run
run_none b p = refl

-- the pattern of k ones
all_ones : (k : ℕ) → 2 ^ suc k - 1 ≡ 1 * 2 ^ k + (2 ^ k - 1)
all_ones k = let a = pow-suc 2 k in let b = pow_pos k in omega arith

run-all : (k : ℕ) → run 1 k (2 ^ k - 1) ≡ k
run-all zero = run_none 1 (2 ^ 0 - 1)
run-all (suc k) =
    let low : 2 ^ k - 1 < 2 ^ k = let b = pow_pos k in omega arith in
    ap (run 1 (suc k)) (all_ones k)
    ∙ run_same 1 k (1 * 2 ^ k + (2 ^ k - 1)) (bit_high k 1 (2 ^ k - 1) low)
    ∙ ap suc (run_front 1 k 1 (2 ^ k - 1) low ∙ run-all k)

value_one : (es w : ℕ) → value 0 w (0 * 2 ^ es) ≡ 2 ^ w
value_one es w =
    ap (value 0 w) (zero-mul (2 ^ es)) ∙ div-one ((2 ^ 0 + 0 % 2 ^ 0) * 2 ^ (w + 0 / 2 ^ 0)) ∙ one-mul (2 ^ (w + 0)) ∙ ap (λ (x : ℕ). 2 ^ x) (add-zero w)

module _ (es N : ℕ) (some : 1 ≤ N) where
  -- a run of m ones that leaves no bit after it
  run-magnitude : (p m : ℕ) → N ≤ m → bit N p ≡ 1 → run 1 (suc N) p ≡ m → magnitude es (N + 2) p ≡ 2 ^ (N * 2 ^ es + (m - 1) * 2 ^ es)
  run-magnitude p m l eb em =
      magnitude_is es (N + 2) p 1 m 0 (N * 2 ^ es + (m - 1) * 2 ^ es) 0
      (ap (λ (k : ℕ). bit k p) (let e : N + 2 - 2 ≡ N = omega arith in e) ∙ eb)
      (ap (λ (k : ℕ). run 1 k p) (let e : N + 2 - 1 ≡ suc N = omega arith in e) ∙ em)
      (omega arith)
      (ap (λ (k : ℕ). k * 2 ^ es + (m - 1) * 2 ^ es) (let e : N + 2 - 2 ≡ N = omega arith in e))
      (mod-one p)
      ∙ value_one es (N * 2 ^ es + (m - 1) * 2 ^ es)

  pub last_magnitude : magnitude es (N + 2) (2 ^ suc N - 1) ≡ 2 ^ (N * 2 ^ es + N * 2 ^ es)
  last_magnitude =
      run-magnitude (2 ^ suc N - 1) (suc N) (omega arith)
      (ap (bit N) (all_ones N) ∙ bit_high N 1 (2 ^ N - 1) (let b = pow_pos N in omega arith))
      (run-all (suc N))
      ∙ ap (λ (k : ℕ). 2 ^ (N * 2 ^ es + k * 2 ^ es)) (let e : suc N - 1 ≡ N = omega arith in e)

  pub before_magnitude : magnitude es (N + 2) (ones_at N 0 0) ≡ 2 ^ (N * 2 ^ es + (N - 1) * 2 ^ es)
  before_magnitude =
      run-magnitude (ones_at N 0 0) N (omega arith) (ones_top N 0 0 N (omega arith) (omega arith) some)
      (ap (λ (k : ℕ). run 1 k (ones_at N 0 0)) (let e : suc N ≡ N + suc 0 = omega arith in e) ∙ ones N 0 0 (omega arith))

  pub before : suc (ones_at N 0 0) ≡ 2 ^ suc N - 1
  before = let a = ones-sum N 0 0 in let b : 2 ^ (N + suc 0) ≡ 2 ^ suc N = ap (λ (x : ℕ). 2 ^ x) (omega arith) in omega arith

  last_step : magnitude es (N + 2) (ones_at N 0 0) < magnitude es (N + 2) (2 ^ suc N - 1)
  last_step =
      rw (before_magnitude, last_magnitude)
      (pow-lt (let a : (N - 1) * 2 ^ es < N * 2 ^ es = mul-lt-mul_of_pos_right {m = N - 1} (omega arith) (pow_pos es) in omega arith))

  one_step : (v : ℕ) → 1 ≤ v → suc v ≤ 2 ^ suc N - 1 → magnitude es (N + 2) v < magnitude es (N + 2) (suc v)
  one_step zero l h = absurd (omega arith)
  one_step (suc v) l h =
      ⊎_elim
      (λ (e : suc (suc v) ≡ 2 ^ suc N - 1).
      subst (λ (x : ℕ). magnitude es (N + 2) (suc v) < magnitude es (N + 2) x) (sym e)
      (subst (λ (x : ℕ). magnitude es (N + 2) x < magnitude es (N + 2) (2 ^ suc N - 1))
      (let b = before in let q : ones_at N 0 0 ≡ suc v = omega arith in q) last_step))
      (λ l. grows es N v some (omega arith))
      (eq-or-lt_of_le h)

  climb : (v k : ℕ) → 1 ≤ v → v + suc k ≤ 2 ^ suc N - 1 → magnitude es (N + 2) v < magnitude es (N + 2) (v + suc k)
  climb v zero lo hi =
      subst (λ (w : ℕ). magnitude es (N + 2) v < magnitude es (N + 2) w) (let e : suc v ≡ v + 1 = omega arith in e) (one_step v lo (omega arith))
  climb v (suc k) lo hi =
      lt_trans (climb v k lo (omega arith))
      (subst (λ (w : ℕ). magnitude es (N + 2) (v + suc k) < magnitude es (N + 2) w)
      (let e : suc (v + suc k) ≡ v + suc (suc k) = omega arith in e) (one_step (v + suc k) (omega arith) (omega arith)))

pub larger : (es n p q : ℕ) → 3 ≤ n → 1 ≤ p → p < q → q ≤ largest n → magnitude es n p < magnitude es n q
larger es n p q few lo l hi =
    let en : n - 2 + 2 ≡ n = omega arith in
    let top : 2 ^ suc (n - 2) ≡ 2 ^ (n - 1) = ap (λ (x : ℕ). 2 ^ x) (omega arith) in
    subst (λ (w : ℕ). magnitude es w p < magnitude es w q) en
    (subst (λ (x : ℕ). magnitude es (n - 2 + 2) p < magnitude es (n - 2 + 2) x) (let e : p + suc (q - suc p) ≡ q = omega arith in e)
    (climb es (n - 2) (omega arith) p (q - suc p) lo (omega arith)))
