-- Differences of naturals as whole numbers, and floors of a number that is moved up to lie above zero.
use Prim.Native.Nat.{ℕ, zero, suc, ◌+◌, ◌-◌, ◌*◌, ◌/◌, ◌%◌, ◌≤◌, ◌<◌}
use mathlib.Core.Path.{◌≡◌, ◌∙◌, sym, ap}
use native.Mathlib.Omega.{arith}
use native.Mathlib.Nat.{lt_of_mul-lt-mul_right, add-mul, suc-mul, mod-lt, div-add-mod', add-mul-div_right, add-mul-mod_self_right}
use native.Mathlib.Decide.{dec_lt}
use borrow.Author.Tests.{lt-ltb, le-ltb}
use lib.Arith.{digits_div, digits_mod}
use lib.IntN.{ℤ, pos, negsuc, sub_ℕ, ◌+ℤ◌, ◌-ℤ◌, +ℤ-neg_ℤ_cancel}
use lib.Signed.{mag}
use Rattle.rows.specs.Floor.{floor, modulo}

pub pos_same : {a b : ℕ} → pos a ≡ pos b → a ≡ b
pos_same e = cc

pub sub_pos : (a b c : ℕ) → b + c ≡ a → sub_ℕ a b ≡ pos c
sub_pos a b c e = rw (le-ltb a b (omega arith)) (ap pos (omega arith))

sub_inverse : (a b c : ℕ) → sub_ℕ a b ≡ pos c → b + c ≡ a
sub_inverse a b c e = go (dec_lt a b)
  where
    go : Dec (a < b) → b + c ≡ a
    go (yes h) = let n : negsuc (b - suc a) ≡ pos c = rw (lt-ltb a b h) at e in let z : ◌≡◌ {A = ℕ} 0 1 = cc in absurd (omega arith)
    go (no h) = let n : pos (a - b) ≡ pos c = rw (le-ltb a b (omega arith)) at e in let k = pos_same n in omega arith

pub moved_back : (z : ℤ) (b c : ℕ) → z +ℤ pos b ≡ pos c → z ≡ pos c -ℤ pos b
moved_back z b c e = sym (+ℤ-neg_ℤ_cancel z (pos b)) ∙ ap (λ (x : ℤ). x -ℤ pos b) e

-- z + B * m is t: so the floor of z / m and its rest are those of t, moved back
pub record Floors (z : ℤ) (B m t : ℕ) : Type 0 where
  pub whole : floor z m +ℤ pos B ≡ pos (t / m)
  pub rest : modulo z m ≡ t % m

pub floors : (z : ℤ) (B m t : ℕ) → 0 < m → z +ℤ pos (B * m) ≡ pos t → Floors z B m t
floors (pos a) B m t l e =
    let s : a + B * m ≡ t = pos_same e in
    record {
      whole = ap pos (sym (add-mul-div_right a B l) ∙ ap (λ (x : ℕ). x / m) s);
      rest = sym (add-mul-mod_self_right a B m) ∙ ap (λ (x : ℕ). x % m) s;
    }
floors (negsuc a) B m t l e =
    let s : suc a + t ≡ B * m = sub_inverse (B * m) (suc a) t e in
    let split : a / m * m + a % m ≡ a = div-add-mod' a m in
    let r : a % m < m = mod-lt a l in
    let B' : ℕ = B - suc (a / m) in
    let few : suc (a / m) ≤ B = few-enough (a / m) B m (omega arith) in
    let parts : (B' + suc (a / m)) * m ≡ B * m = ap (λ (x : ℕ). x * m) (omega arith) in
    let spread = add-mul B' (suc (a / m)) m in
    let turn = suc-mul (a / m) m in
    let t-is : B' * m + (m - 1 - a % m) ≡ t = omega arith in
    let low : m - 1 - a % m < m = omega arith in
    record {
      whole = sub_pos B (suc (a / m)) (t / m) (let d : t / m ≡ B' = ap (λ (x : ℕ). x / m) (sym t-is) ∙ digits_div B' low in omega arith);
      rest = sym (ap (λ (x : ℕ). x % m) (sym t-is) ∙ digits_mod B' low);
    }
  where
    few-enough : (k B m : ℕ) → k * m < B * m → suc k ≤ B
    few-enough k B m h = lt_of_mul-lt-mul_right m h

pub minus-below : (a b : ℕ) → a < b → pos a -ℤ pos b ≡ negsuc (b - suc a)
minus-below a zero h = absurd (omega arith)
minus-below a (suc b) h = rw (lt-ltb a (suc b) h)

pub minus-above : (a b : ℕ) → b ≤ a → pos a -ℤ pos b ≡ pos (a - b)
minus-above a zero h = ap pos (omega arith)
minus-above a (suc b) h = rw (le-ltb a (suc b) h)

-- a difference of two small naturals is small
pub mag_small : (a b w : ℕ) → a < w → b < w → mag (pos a -ℤ pos b) < w
mag_small a b w h k = go (dec_lt a b)
  where
    go : Dec (a < b) → mag (pos a -ℤ pos b) < w
    go (yes l) = rw (minus-below a b l) (omega arith)
    go (no l) = rw (minus-above a b (omega arith)) (omega arith)
