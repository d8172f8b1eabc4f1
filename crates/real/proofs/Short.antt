-- A magnitude of at most 17 bits with one exponent bit has few binary digits: an f64 holds it.
use Rattle.std.proofs.Common.{◌≡◌, ℕ, zero, suc, ◌+◌, ◌-◌, ◌*◌, ◌/◌, ◌%◌, ◌^◌, ◌<◌, ◌≤◌, Bool, true, false, eqb, sym, refl, ap, ◌∙◌, lt_of_lt_of_le, mod-lt, mul_assoc, div-lt_iff_lt-mul, pow-suc, mul-one, mul-div_cancel, arith, pow_pos, pow_mono, pow-add, shl_lt}
use mathlib.Core.Path.{subst⁻¹}
use native.Mathlib.Decide.{dec_le}
use Rattle.posit.specs.Number.{magnitude, run, bit, regime}
use Rattle.posit.proofs.Value.{magnitude_is}

-- m has at most `wide` binary digits, of which all but the first 53 are 0
pub record Short (wide m : ℕ) : Type 0 where
  pub digits : ℕ
  pub shift : ℕ
  pub few : digits < 2 ^ 53
  pub near : shift ≤ 64
  pub is : m ≡ digits * 2 ^ shift
  pub small : m < 2 ^ wide

run_most : (b k p : ℕ) → run b k p ≤ k
unfolding run
run_most b zero p = omega arith
run_most b (suc k) p = go (eqb (bit k p) b) (run_most b k p)
  where
    go : (x : Bool) → run b k p ≤ k → elim x as (λ y. ℕ) [ true ↦ suc (run b k p) | false ↦ 0 ] ≤ suc k
    go true h = omega arith
    go false h = omega arith

regime_most : (n b m : ℕ) → m ≤ n - 1 → regime 1 n b m ≤ 4 * (n - 2)
regime_most n zero m h = omega arith
regime_most n (suc b) m h = omega arith

-- A / 2 ^ t * 2 ^ W, cut to a whole number
module _ (t A W : ℕ) (tail : t ≤ 15) (lead : A < 2 ^ suc t) (power : W ≤ 61) where
  shifted : t ≤ W → Short (suc W) (A * 2 ^ W / 2 ^ t)
  shifted h =
      let e : A * 2 ^ W ≡ A * 2 ^ (W - t) * 2 ^ t =
      ap (λ (x : ℕ). A * x) (ap (λ (x : ℕ). 2 ^ x) (let k : W ≡ W - t + t = omega arith in k) ∙ pow-add 2 (W - t) t)
      ∙ sym (mul_assoc A (2 ^ (W - t)) (2 ^ t)) in
      let f : A * 2 ^ W / 2 ^ t ≡ A * 2 ^ (W - t) = ap (λ (x : ℕ). x / 2 ^ t) e ∙ mul-div_cancel (A * 2 ^ (W - t)) (pow_pos t) in
      record {
        digits = A;
        shift = W - t;
        few = lt_of_lt_of_le lead (pow_mono {i = suc t} {j = 53} (omega arith));
        near = omega arith;
        is = f;
        small = rw f (subst⁻¹ (λ (x : ℕ). A * 2 ^ (W - t) < 2 ^ x) (let k : suc W ≡ suc t + (W - t) = omega arith in k) (shl_lt (suc t) (W - t) lead));
      }

  cut : W < t → Short (suc W) (A * 2 ^ W / 2 ^ t)
  cut h =
      let s : A * 2 ^ W < 2 ^ (suc t + W) = shl_lt (suc t) W lead in
      let b : A * 2 ^ W / 2 ^ t < 2 ^ suc W =
      (div-lt_iff_lt-mul (pow_pos t)).1
      (subst⁻¹ (λ (x : ℕ). A * 2 ^ W < x) (sym (pow-add 2 (suc W) t))
      (subst⁻¹ (λ (x : ℕ). A * 2 ^ W < 2 ^ x) (let k : suc W + t ≡ suc t + W = omega arith in k) s)) in
      record {
        digits = A * 2 ^ W / 2 ^ t;
        shift = 0;
        few = lt_of_lt_of_le b (pow_mono {i = suc W} {j = 53} (omega arith));
        near = omega arith;
        is = sym (mul-one (A * 2 ^ W / 2 ^ t));
        small = b;
      }

  either : Short (suc W) (A * 2 ^ W / 2 ^ t)
  either = go (dec_le t W)
    where
      go : Dec (t ≤ W) → Short (suc W) (A * 2 ^ W / 2 ^ t)
      go (yes h) = shifted h
      go (no h) = cut (omega arith)

pub longer : {i j m : ℕ} → i ≤ j → Short i m → Short j m
longer h s = record { digits = s.digits; shift = s.shift; few = s.few; near = s.near; is = s.is; small = lt_of_lt_of_le s.small (pow_mono h) }

pub magnitude_short : (n p : ℕ) → 3 ≤ n → n ≤ 17 → Short (4 * (n - 2) + 2) (magnitude 1 n p)
magnitude_short n p few most =
    let b : ℕ = bit (n - 2) p in
    let m : ℕ = run b (n - 1) p in
    let t : ℕ = n - 2 - m in
    let w : ℕ = regime 1 n b m in
    let X : ℕ = p % 2 ^ t * 2 ^ 1 in
    let low : X % 2 ^ t < 2 ^ t = mod-lt X (pow_pos t) in
    let one : X / 2 ^ t < 2 = (div-lt_iff_lt-mul (pow_pos t)).1 (let k : p % 2 ^ t < 2 ^ t = mod-lt p (pow_pos t) in omega arith) in
    let r : w ≤ 4 * (n - 2) = regime_most n b m (run_most b (n - 1) p) in
    rw (magnitude_is 1 n p b m t w (p % 2 ^ t) refl refl refl refl refl)
    (longer (omega arith) (either t (2 ^ t + X % 2 ^ t) (w + X / 2 ^ t) (omega arith) (let k = pow-suc 2 t in omega arith) (omega arith)))
