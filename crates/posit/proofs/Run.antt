-- The run of a pattern, for every width.
use Rattle.std.proofs.Common.{◌≡◌, ℕ, zero, suc, ◌+◌, ◌*◌, ◌/◌, ◌%◌, ◌^◌, ◌<◌, ◌≤◌, Bool, true, false, eqb, sym, refl, ap, ◌∙◌, subst, lt_of_lt_of_le, mod-lt, mod-eq_of_lt, one-mul, pow-suc, one-add, arith, pow_pos, pow_mono, pow-add, eq-eqb, ne_eqb}
use native.Mathlib.Nat.{div-eq_of_lt, mul-add-mod_self_right}
use lib.Pow.{high, low, field, mod-mod-pow}
use Rattle.posit.specs.Number.{run, bit}

pub run_same : (b k p : ℕ) → bit k p ≡ b → run b (suc k) p ≡ suc (run b k p)
unfolding run
run_same b k p e = ap (λ (x : Bool). elim x as (λ y. ℕ) [ true ↦ suc (run b k p) | false ↦ 0 ]) (eq-eqb (bit k p) b e)

pub run_other : (b k p : ℕ) → (bit k p ≡ b → ⊥) → run b (suc k) p ≡ 0
unfolding run
run_other b k p e = ap (λ (x : Bool). elim x as (λ y. ℕ) [ true ↦ suc (run b k p) | false ↦ 0 ]) (ne_eqb (bit k p) b e)

-- a bit is that of what lies below the place above it
bit-low : (k p : ℕ) → bit k p ≡ p % 2 ^ suc k / 2 ^ k
bit-low k p = sym (field p 1 k) ∙ ap (λ (x : ℕ). p % 2 ^ x / 2 ^ k) (one-add k)

run_step : (b k p q : ℕ) → bit k p ≡ bit k q → run b k p ≡ run b k q → run b (suc k) p ≡ run b (suc k) q
unfolding run
run_step b k p q same_bit same-run = λ i. elim (eqb (same_bit i) b) as (λ y. ℕ) [ true ↦ suc (same-run i) | false ↦ 0 ]

again : (k p : ℕ) → p % 2 ^ suc k % 2 ^ k ≡ p % 2 ^ k
again k p = ap (λ (x : ℕ). p % 2 ^ x % 2 ^ k) (sym (one-add k)) ∙ mod-mod-pow p 1 k

pub same_bit : (k p : ℕ) → bit k p ≡ bit k (p % 2 ^ suc k)
same_bit k p = bit-low k p ∙ ap (λ (x : ℕ). x / 2 ^ k) (sym (mod-eq_of_lt (mod-lt p (pow_pos (suc k))))) ∙ sym (bit-low k (p % 2 ^ suc k))

-- so is a run
pub run-low : (b k p : ℕ) → run b k p ≡ run b k (p % 2 ^ k)
unfolding run
run-low b zero p = refl
run-low b (suc k) p = run_step b k p (p % 2 ^ suc k) (same_bit k p) (run-low b k p ∙ ap (run b k) (sym (again k p)) ∙ sym (run-low b k (p % 2 ^ suc k)))

-- a run over what is put in front
pub run_front : (b k x p : ℕ) → p < 2 ^ k → run b k (x * 2 ^ k + p) ≡ run b k p
run_front b k x p h = run-low b k (x * 2 ^ k + p) ∙ ap (run b k) (low x k h)

-- the bit at place k of a number below 2 ^ k is 0, and of x * 2 ^ k + p it is that of x
pub bit_high : (k x p : ℕ) → p < 2 ^ k → bit k (x * 2 ^ k + p) ≡ x % 2
bit_high k x p h = ap (λ (y : ℕ). y % 2) (high x k h)

pub bit_none : (k p : ℕ) → p < 2 ^ k → bit k p ≡ 0
bit_none k p h = ap (λ (y : ℕ). y % 2) (div-eq_of_lt h)

-- m zeros before a one
pub zeros : (m t q : ℕ) → q < 2 ^ t → run 0 (m + suc t) (2 ^ t + q) ≡ m
zeros zero t q h =
    subst (λ (k : ℕ). run 0 k (2 ^ t + q) ≡ 0) (let e : suc t ≡ zero + suc t = omega arith in e)
    (run_other 0 t (2 ^ t + q) (λ e. let f : bit t (2 ^ t + q) ≡ 1 = ap (λ (x : ℕ). bit t (x + q)) (sym (one-mul (2 ^ t))) ∙ bit_high t 1 q h in omega arith))
zeros (suc m) t q h =
    let small : 2 ^ t + q < 2 ^ (m + suc t) =
    lt_of_lt_of_le (let e = pow-suc 2 t in let g : 2 ^ t + q < 2 ^ suc t = omega arith in g) (pow_mono (omega arith)) in
    ap (λ (k : ℕ). run 0 k (2 ^ t + q)) (let e : suc m + suc t ≡ suc (m + suc t) = omega arith in e)
    ∙ run_same 0 (m + suc t) (2 ^ t + q) (bit_none (m + suc t) (2 ^ t + q) small)
    ∙ ap suc (zeros m t q h)

-- m ones with a zero after them: the pattern, by its top bits
abbrev pub ones_at : ℕ → ℕ → ℕ → ℕ
ones_at zero t q = q
ones_at (suc m) t q = 1 * 2 ^ (m + suc t) + ones_at m t q

pub ones_lt : (m t q : ℕ) → q < 2 ^ t → ones_at m t q < 2 ^ (m + suc t)
ones_lt zero t q h = lt_of_lt_of_le h (pow_mono (omega arith))
ones_lt (suc m) t q h =
    let k = ones_lt m t q h in
    let e = pow-suc 2 (m + suc t) in
    let f : 2 ^ suc (m + suc t) ≡ 2 ^ (suc m + suc t) = ap (λ (x : ℕ). 2 ^ x) (omega arith) in
    omega arith

pub ones : (m t q : ℕ) → q < 2 ^ t → run 1 (m + suc t) (ones_at m t q) ≡ m
ones zero t q h =
    subst (λ (k : ℕ). run 1 k q ≡ 0) (let e : suc t ≡ zero + suc t = omega arith in e)
    (run_other 1 t q (λ e. let f = bit_none t q h in omega arith))
ones (suc m) t q h =
    ap (λ (k : ℕ). run 1 k (1 * 2 ^ (m + suc t) + ones_at m t q)) (let e : suc m + suc t ≡ suc (m + suc t) = omega arith in e)
    ∙ run_same 1 (m + suc t) (1 * 2 ^ (m + suc t) + ones_at m t q) (bit_high (m + suc t) 1 (ones_at m t q) (ones_lt m t q h))
    ∙ ap suc (run_front 1 (m + suc t) 1 (ones_at m t q) (ones_lt m t q h) ∙ ones m t q h)

pub zeros_top : (m t q k : ℕ) → q < 2 ^ t → k ≡ m + t → 1 ≤ m → bit k (2 ^ t + q) ≡ 0
zeros_top m t q k h e l =
    bit_none k (2 ^ t + q) (lt_of_lt_of_le (let d = pow-suc 2 t in let g : 2 ^ t + q < 2 ^ suc t = omega arith in g) (pow_mono (omega arith)))

pub ones_top : (m t q k : ℕ) → q < 2 ^ t → k ≡ m + t → 1 ≤ m → bit k (ones_at m t q) ≡ 1
ones_top zero t q k h e l = absurd (omega arith)
ones_top (suc m) t q k h e l =
    ap (λ (x : ℕ). bit x (1 * 2 ^ (m + suc t) + ones_at m t q)) (let d : k ≡ m + suc t = omega arith in d)
    ∙ bit_high (m + suc t) 1 (ones_at m t q) (ones_lt m t q h)

pub ones_mod : (m t q : ℕ) → q < 2 ^ t → ones_at m t q % 2 ^ t ≡ q
ones_mod zero t q h = mod-eq_of_lt h
ones_mod (suc m) t q h =
    ap (λ (x : ℕ). (x + ones_at m t q) % 2 ^ t)
    (one-mul (2 ^ (m + suc t)) ∙ ap (λ (x : ℕ). 2 ^ x) (let d : m + suc t ≡ suc m + t = omega arith in d) ∙ pow-add 2 (suc m) t)
    ∙ mul-add-mod_self_right (2 ^ suc m) (2 ^ t) (ones_at m t q)
    ∙ ones_mod m t q h
