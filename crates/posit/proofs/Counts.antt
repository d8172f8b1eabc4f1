-- The run of a pattern of 16 bits by the place of a highest one: where the run is of zeros, of the pattern's bits after the
-- sign, moved to the top of a word, and where it is of ones, of the same turned over. In both a one follows behind the word.
use Rattle.std.proofs.Common.{◌≡◌, ℕ, suc, ◌+◌, ◌-◌, ◌*◌, ◌^◌, ◌<◌, ◌≤◌, refl, ap, ◌∙◌, pow-suc, arith, pow_mono, pow-add}
use native.Mathlib.Decide.{dec_lt}
use Rattle.posit.specs.Number.{run}
use Rattle.posit.proofs.Run.{ones_at, zeros, ones}
use Rattle.posit.proofs.Shapes.{ones-sum}

-- a number of j + 1 bits that is not below 2 ^ 50, by the power of two in its first 15 bits
split_power : (j : ℕ) → 50 ≤ j → 2 ^ j ≡ 2 ^ (j - 50) * 2 ^ 50
split_power j h = ap (λ (k : ℕ). 2 ^ k) (let e : j ≡ j - 50 + 50 = omega arith in e) ∙ pow-add 2 (j - 50) 50

zeros_run : (q t : ℕ) → t ≤ 13 → 2 ^ t ≤ q → q < 2 ^ suc t → run 0 15 q ≡ 14 - t
zeros_run q t few from to =
    let d = pow-suc 2 t in
    (λ i. run 0 (let e : 15 ≡ 14 - t + suc t = omega arith in e i) (let e : q ≡ 2 ^ t + (q - 2 ^ t) = omega arith in e i))
    ∙ zeros (14 - t) t (q - 2 ^ t) (omega arith)

ones-run : (q t : ℕ) → t ≤ 13 → 2 ^ 15 ≤ q + 2 ^ suc t → q + 2 ^ t < 2 ^ 15 → run 1 15 q ≡ 14 - t
ones-run q t few from to =
    let d = pow-suc 2 t in
    let rest = q + 2 ^ suc t - 2 ^ 15 in
    let s = ones-sum (14 - t) t rest in
    let w : 2 ^ (14 - t + suc t) ≡ 2 ^ 15 = ap (λ (k : ℕ). 2 ^ k) {y = 15} (omega arith) in
    (λ i. run 1 (let e : 15 ≡ 14 - t + suc t = omega arith in e i) (let e : q ≡ ones_at (14 - t) t rest = omega arith in e i))
    ∙ ones (14 - t) t rest (omega arith)

pub zeros_counted : (q j : ℕ) → 0 < q → q < 2 ^ 14 → 2 ^ j ≤ q * 2 ^ 50 + 1 → q * 2 ^ 50 + 1 < 2 ^ suc j → (run 0 15 q + j ≡ 64) × (50 ≤ j)
zeros_counted q j some small from to = go (dec_lt j 50) (dec_lt 63 j)
  where
    go : Dec (j < 50) → Dec (63 < j) → (run 0 15 q + j ≡ 64) × (50 ≤ j)
    go (yes l) w = absurd (let m : 2 ^ suc j ≤ 2 ^ 50 = pow_mono {j = 50} l in omega arith)
    go (no l) (yes w) = absurd (let m : 2 ^ 64 ≤ 2 ^ j = pow_mono {i = 64} w in omega arith)
    go (no l) (no w) =
        let e = split_power j (omega arith) in
        let d = pow-suc 2 j in
        let f = pow-suc 2 (j - 50) in
        let r = zeros_run q (j - 50) (omega arith) (omega arith) (omega arith) in
        (omega arith, omega arith)

longest_run : run 1 15 0x7fff ≡ 15
unfolding run
longest_run = refl

pub ones-counted : (q j : ℕ) → 2 ^ 14 ≤ q → q < 2 ^ 15 → 2 ^ j + q * 2 ^ 50 < 2 ^ 65 → 2 ^ 65 < 2 ^ suc j + q * 2 ^ 50 + 2 ^ 49
    → (run 1 15 q + j ≡ 64) × (49 ≤ j)
ones-counted q j large small from to = go (dec_lt j 49) (dec_lt j 50) (dec_lt 63 j)
  where
    go : Dec (j < 49) → Dec (j < 50) → Dec (63 < j) → (run 1 15 q + j ≡ 64) × (49 ≤ j)
    go (yes l) k w = absurd (let m : 2 ^ suc j ≤ 2 ^ 49 = pow_mono {j = 49} l in omega arith)
    go (no l) (yes k) w =
        let m : 2 ^ suc j ≡ 2 ^ 50 = ap (λ (x : ℕ). 2 ^ x) {y = 50} (omega arith) in
        let r = ap (run 1 15) (let e : q ≡ 0x7fff = omega arith in e) ∙ longest_run in
        (omega arith, omega arith)
    go (no l) (no k) (yes w) = absurd (let m : 2 ^ 64 ≤ 2 ^ j = pow_mono {i = 64} w in omega arith)
    go (no l) (no k) (no w) =
        let e = split_power j (omega arith) in
        let d = pow-suc 2 j in
        let f = pow-suc 2 (j - 50) in
        let r = ones-run q (j - 50) (omega arith) (omega arith) (omega arith) in
        (omega arith, omega arith)
