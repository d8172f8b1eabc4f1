-- How a pattern of 17 bits is laid out by its regime r, counted from the smallest: t bits after the regime, and b, the
-- pattern with only zeros there.
use Rattle.std.proofs.Common.{◌≡◌, ℕ, suc, ◌+◌, ◌-◌, ◌/◌, ◌^◌, ◌<◌, ◌≤◌, cond, ℤ, pos, negsuc, ◌+ℤ◌, nat_abs, ap, pow-suc, arith, pow_mono, le-ltb}
use lib.Signed.{mag, lt_z}
use Rattle.posit.proofs.Run.{ones_at}
use Rattle.posit.proofs.Shapes.{Shape, zs, os, ones-sum}

pub record Layout (r t b : ℕ) : Type 0 where
  pub some : 1 ≤ t
  pub few : t ≤ 14
  pub from : 2 ≤ b
  pub to : b + 2 ^ t ≤ 65534
  pub shape : (q : ℕ) → Shape 15 (b + q) r t q

low_half : (r t b : ℕ) → 1 ≤ r → r < 15 → t ≡ r → b ≡ 2 ^ r → Layout r t b
low_half r t b lo hi et eb =
    let p : 2 ^ t ≡ 2 ^ r = ap (λ (k : ℕ). 2 ^ k) et in
    let most : 2 ^ r ≤ 2 ^ 14 = pow_mono {j = 14} (omega arith) in
    let least : 2 ^ 1 ≤ 2 ^ r = pow_mono {i = 1} lo in
    record {
      some = omega arith;
      few = omega arith;
      from = omega arith;
      to = omega arith;
      shape = λ q. zs (15 - t) (omega arith) (omega arith) (omega arith) (omega arith);
    }

high_half : (r t b : ℕ) → 15 ≤ r → r ≤ 28 → t ≡ 29 - r → b ≡ 2 ^ 16 - 2 ^ (30 - r) → Layout r t b
high_half r t b lo hi et eb =
    let p : 2 ^ (30 - r) ≡ 2 ^ suc t = ap (λ (k : ℕ). 2 ^ k) (omega arith) in
    let d = pow-suc 2 t in
    let most : 2 ^ t ≤ 2 ^ 14 = pow_mono {j = 14} (omega arith) in
    let least : 2 ^ 1 ≤ 2 ^ t = pow_mono {i = 1} (omega arith) in
    let sum : (q : ℕ) → b + q ≡ ones_at (15 - t) t q =
    λ q. (let a = ones-sum (15 - t) t q in let w : 2 ^ (15 - t + suc t) ≡ 2 ^ 16 = ap (λ (k : ℕ). 2 ^ k) {y = 16} (omega arith) in omega arith) in
    record {
      some = omega arith;
      few = omega arith;
      from = omega arith;
      to = omega arith;
      shape = λ q. os (15 - t) (omega arith) (omega arith) (sum q) (omega arith);
    }

-- the layout for a number whose power of two is p
pub laid : (p : ℤ) → mag p ≤ 27
    → Layout (nat_abs (p +ℤ pos 30) / 2) (14 - mag p / 2) (cond (lt_z p (pos 0)) (2 ^ (14 - mag p / 2)) (2 ^ 16 - 2 ^ (15 - mag p / 2)))
laid (pos j) h =
    rw (le-ltb j 0 (omega arith))
    (high_half ((j + 30) / 2) (14 - j / 2) (2 ^ 16 - 2 ^ (15 - j / 2)) (omega arith) (omega arith)
    (omega arith) (ap (λ (k : ℕ). 2 ^ 16 - 2 ^ k) (let e : 15 - j / 2 ≡ 30 - (j + 30) / 2 = omega arith in e)))
laid (negsuc j) h =
    rw (le-ltb 30 (suc j) (omega arith))
    (low_half ((30 - suc j) / 2) (14 - j / 2) (2 ^ (14 - j / 2)) (omega arith) (omega arith)
    (omega arith) (ap (λ (k : ℕ). 2 ^ k) (let e : 14 - j / 2 ≡ (30 - suc j) / 2 = omega arith in e)))
