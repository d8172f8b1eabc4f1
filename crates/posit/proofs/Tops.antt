-- A number shifted up until its top bit is bit 63.
use Rattle.std.proofs.Common.{◌≡◌, ℕ, suc, ◌+◌, ◌-◌, ◌*◌, ◌%◌, ◌^◌, ◌<◌, ◌≤◌, sym, ap, ◌∙◌, subst, mul-le-mul_right, mul_assoc, mul-le-mul_left, arith, pow_mono, pow-add, shl_lt}
use native.Mathlib.Nat.{mul-mod_left}
use native.Mathlib.Decide.{dec_lt}
use lib.Count.{count_leading_zeros, leading_top}

-- m shifted up by z has its top bit at bit 63
pub record Top (m z : ℕ) : Type 0 where
  pub few : z ≤ 63
  pub from : 2 ^ 63 ≤ m * 2 ^ z
  pub below : m * 2 ^ z < 2 ^ 64

pub top : (m : ℕ) → 0 < m → m < 2 ^ 64 → Top m (count_leading_zeros 64 m)
top m p h =
    let t = leading_top 64 m p h in
    let z = count_leading_zeros 64 m in
    let e : t.0 + z ≡ 63 = omega (arith, t.1) in
    let e' : suc t.0 + z ≡ 64 = omega (arith, t.1) in
    record {
      few = omega (arith, t.1);
      from = subst (λ (x : ℕ). x ≤ m * 2 ^ z) (sym (pow-add 2 t.0 z) ∙ ap (λ (x : ℕ). 2 ^ x) e) (mul-le-mul_right (2 ^ z) t.2);
      below = subst (λ (x : ℕ). m * 2 ^ z < 2 ^ x) e' (shl_lt (suc t.0) z t.3);
    }

-- an m of at most 49 bits leaves the lowest 15 empty
pub short_below : (m z : ℕ) → m < 2 ^ 49 → 2 ^ 63 ≤ m * 2 ^ z → m * 2 ^ z % 2 ^ 15 ≡ 0
short_below m z l h =
    let far = far-up in
    ap (λ (x : ℕ). m * 2 ^ x % 2 ^ 15) (let e : z ≡ z - 15 + 15 = omega arith in e)
    ∙ ap (λ (x : ℕ). m * x % 2 ^ 15) (pow-add 2 (z - 15) 15)
    ∙ ap (λ (x : ℕ). x % 2 ^ 15) (sym (mul_assoc m (2 ^ (z - 15)) (2 ^ 15)))
    ∙ mul-mod_left (m * 2 ^ (z - 15)) (2 ^ 15)
  where
    go : Dec (z < 15) → 15 ≤ z
    go (yes k) = absurd (let d = mul-le-mul_left m (let w : 2 ^ z ≤ 2 ^ 14 = pow_mono {j = 14} (omega arith) in w) in omega arith)
    go (no k) = omega arith

    far-up : 15 ≤ z
    far-up = go (dec_lt z 15)
