-- The fields of a pattern of 16 bits with one exponent bit, once the run is shifted out: the exponent stands at bit 12 and
-- the fraction below it. From them, the number that the pattern decodes to.
use Rattle.std.proofs.Common.{◌≡◌, ℕ, zero, suc, ◌+◌, ◌-◌, ◌*◌, ◌/◌, ◌%◌, ◌^◌, ◌<◌, ◌≤◌, Bool, true, false, cond, leb, sym, refl, ap, ◌∙◌, ⊎_elim, le_refl, mod-lt, mul_assoc, mul_comm, add-mul, eq-or-lt_of_le, mul_right_comm, arith, pow_pos, pow-add, le-leb}
use mathlib.Core.Path.{subst⁻¹}
use native.Mathlib.Decide.{dec_lt}
use borrow.Author.Tests.{lt-leb}
use native.Mathlib.Nat.{mul-div-mul_right, eq_of_mul-eq-mul_right}
use lib.Pow.{field, mod-mod-pow, shl-shr}
use Rattle.posit.specs.Number.{magnitude, run, bit, regime}
use Rattle.posit.specs.Decoding.{Decodes}
use Rattle.posit.proofs.Value.{value_times, magnitude_is, mod_times}

-- Y is x, of t bits, moved up to stand below bit 13
module _ (t x Y : ℕ) (most : t ≤ 13) (moved : Y ≡ x * 2 ^ (13 - t)) where
  whole : 2 ^ t * 2 ^ (13 - t) ≡ 2 ^ 13
  whole = sym (pow-add 2 t (13 - t)) ∙ ap (λ (k : ℕ). 2 ^ k) (let e : t + (13 - t) ≡ 13 = omega arith in e)

  twice : Y * 2 ≡ x * 2 * 2 ^ (13 - t)
  twice = ap (λ (y : ℕ). y * 2) moved ∙ mul_right_comm x (2 ^ (13 - t)) 2

  exponent_moved : Y / 2 ^ 12 ≡ x * 2 / 2 ^ t
  exponent_moved =
      sym (mul-div-mul_right Y (2 ^ 12) (pow_pos 1))
      ∙ (λ i. twice i / sym whole i)
      ∙ mul-div-mul_right (x * 2) (2 ^ t) (pow_pos (13 - t))

  twice_fraction : Y % 2 ^ 12 * 2 ≡ x * 2 % 2 ^ t * 2 ^ (13 - t)
  twice_fraction =
      sym (mod_times Y (2 ^ 12) 2 (pow_pos 12) (pow_pos 1))
      ∙ (λ i. twice i % sym whole i)
      ∙ mod_times (x * 2) (2 ^ t) (2 ^ (13 - t)) (pow_pos t) (pow_pos (13 - t))

  fraction_moved : Y % 2 ^ 12 * 2 ^ t ≡ x * 2 % 2 ^ t * 2 ^ 12
  fraction_moved =
      eq_of_mul-eq-mul_right 2 (pow_pos 1) (Y % 2 ^ 12 * 2 ^ t) (x * 2 % 2 ^ t * 2 ^ 12)
      (mul_right_comm (Y % 2 ^ 12) (2 ^ t) 2
      ∙ ap (λ (y : ℕ). y * 2 ^ t) twice_fraction
      ∙ mul_assoc (x * 2 % 2 ^ t) (2 ^ (13 - t)) (2 ^ t)
      ∙ ap (λ (y : ℕ). x * 2 % 2 ^ t * y) (mul_comm (2 ^ (13 - t)) (2 ^ t) ∙ whole)
      ∙ sym (mul_assoc (x * 2 % 2 ^ t) (2 ^ 12) 2))

-- p with a run of m bits shifted out, up to its last bit
abbrev pub shifted : ℕ → ℕ → ℕ
shifted m p = p * 2 ^ (m - 1)

-- the bits of p after a run of m bits and the bit that ends it
abbrev rest : ℕ → ℕ → ℕ
rest m p = p % 2 ^ (14 - m)

abbrev RestMoved : ℕ → ℕ → Type 0
RestMoved m p = shifted m p % 2 ^ 13 ≡ rest m p * 2 ^ (13 - (14 - m))

none_moved : (p : ℕ) → RestMoved 15 p
none_moved p = omega arith

some_moved : (m p : ℕ) → 1 ≤ m → m < 15 → RestMoved m p
some_moved m p some l =
    ap (λ (k : ℕ). shifted m p % 2 ^ k) (let e : 13 ≡ 14 - m + (m - 1) = omega arith in e)
    ∙ ap (λ (k : ℕ). shifted m p % k) (pow-add 2 (14 - m) (m - 1))
    ∙ mod_times p (2 ^ (14 - m)) (2 ^ (m - 1)) (pow_pos (14 - m)) (pow_pos (m - 1))
    ∙ ap (λ (k : ℕ). rest m p * 2 ^ k) (let e : m - 1 ≡ 13 - (14 - m) = omega arith in e)

module _ (m p : ℕ) (some : 1 ≤ m) (most : m ≤ 15) where
  rest_moved : RestMoved m p
  rest_moved = ⊎_elim (λ e. subst⁻¹ (λ (k : ℕ). RestMoved k p) e (none_moved p)) (λ l. some_moved m p some l) (eq-or-lt_of_le most)

  exponent : shifted m p / 4096 % 2 ≡ rest m p * 2 / 2 ^ (14 - m)
  exponent = sym (field (shifted m p) 1 12) ∙ exponent_moved (14 - m) (rest m p) (shifted m p % 2 ^ 13) (omega arith) rest_moved

  fraction : shifted m p % 4096 * 2 ^ (14 - m) ≡ rest m p * 2 % 2 ^ (14 - m) * 2 ^ 12
  fraction =
      ap (λ (y : ℕ). y * 2 ^ (14 - m)) (sym (mod-mod-pow (shifted m p) 1 12))
      ∙ fraction_moved (14 - m) (rest m p) (shifted m p % 2 ^ 13) (omega arith) rest_moved

-- a regime is at least as large as the number of bits after it, and at most 56
regime_least : (b m : ℕ) → 14 - m ≤ regime 1 16 b m
regime_least zero m = omega arith
regime_least (suc b) m = omega arith

pub regime_most : (b m : ℕ) → m ≤ 15 → regime 1 16 b m ≤ 56
regime_most zero m h = omega arith
regime_most (suc b) m h = omega arith

pub decodes : (p b m : ℕ) → b ≡ bit 14 p → m ≡ run b 15 p → 1 ≤ m → m ≤ 15 → Decodes p (regime 1 16 b m + shifted m p / 4096 % 2) (shifted m p % 4096)
decodes p b m eb em some most =
    record {
      value =
          eq_of_mul-eq-mul_right (2 ^ t) (pow_pos t) (magnitude 1 16 p * 2 ^ 12) ((2 ^ 12 + f) * 2 ^ e)
          (mul_right_comm (magnitude 1 16 p) (2 ^ 12) (2 ^ t)
          ∙ ap (λ (y : ℕ). y * 2 ^ 12) scaled
          ∙ mul_right_comm (2 ^ t + x % 2 ^ t) (2 ^ e) (2 ^ 12)
          ∙ ap (λ (y : ℕ). y * 2 ^ e) lead
          ∙ mul_right_comm (2 ^ 12 + f) (2 ^ t) (2 ^ e));
      small = mod-lt (shifted m p) (pow_pos 12);
      few = let k = regime_most b m most in omega arith;
    }
  where
    t : ℕ
    t = 14 - m

    x : ℕ
    x = rest m p * 2

    e : ℕ
    e = regime 1 16 b m + shifted m p / 4096 % 2

    f : ℕ
    f = shifted m p % 4096

    scaled : magnitude 1 16 p * 2 ^ t ≡ (2 ^ t + x % 2 ^ t) * 2 ^ e
    scaled =
        ap (λ (y : ℕ). y * 2 ^ t) (magnitude_is 1 16 p b m t (regime 1 16 b m) (rest m p) (sym eb) (sym em) refl refl refl)
        ∙ value_times t t (regime 1 16 b m) x (le_refl t) (regime_least b m)
        ∙ ap (λ (y : ℕ). (2 ^ t + x % 2 ^ t) * 2 ^ (regime 1 16 b m + y)) (sym (exponent m p some most))

    lead : (2 ^ t + x % 2 ^ t) * 2 ^ 12 ≡ (2 ^ 12 + f) * 2 ^ t
    lead = omega (arith, fraction m p some most, add-mul (2 ^ t) (x % 2 ^ t) (2 ^ 12), add-mul (2 ^ 12) f (2 ^ t))

-- a run of ones has at most 15 bits, and one of zeros, which ends in a one, 14
pub run_most : (ones : Bool) (m : ℕ) → m ≤ cond ones 15 14 → m ≤ 15
run_most true m h = h
run_most false m h = omega arith

-- the first bit of a word, by its size
pub first_bit : (w : ℕ) → w < 2 ^ 64 → cond (leb (2 ^ 63) w) 1 0 ≡ bit 63 w
first_bit w h = go (dec_lt w (2 ^ 63))
  where
    go : Dec (w < 2 ^ 63) → cond (leb (2 ^ 63) w) 1 0 ≡ bit 63 w
    go (yes l) = rw (lt-leb (2 ^ 63) w l) (omega arith)
    go (no l) = rw (le-leb (2 ^ 63) w (omega arith)) (omega arith)

-- a pattern moved to the top of a word, and up until its run and the bit that ends it are gone
pub moved_up : (q m : ℕ) → q < 2 ^ 15 → q * 2 ^ 49 % 2 ^ 64 * 2 ^ (m - 1) % 2 ^ 64 * 4 % 2 ^ 64 ≡ shifted m q % 2 ^ 13 * 2 ^ 51
moved_up q m h =
    ap (λ (x : ℕ). x * 2 ^ (m - 1) % 2 ^ 64 * 4 % 2 ^ 64) (let e : q * 2 ^ 49 % 2 ^ 64 ≡ q * 2 ^ 49 = omega arith in e)
    ∙ ap (λ (x : ℕ). x % 2 ^ 64 * 4 % 2 ^ 64) (mul_right_comm q (2 ^ 49) (2 ^ (m - 1)))
    ∙ (let e : shifted m q * 2 ^ 49 % 2 ^ 64 * 4 % 2 ^ 64 ≡ shifted m q % 2 ^ 13 * 2 ^ 51 = omega arith in e)

-- the fields there
pub exponent_up : (x : ℕ) → x / 4096 % 2 ≡ x % 2 ^ 13 * 2 ^ 51 / 2 ^ 63
exponent_up x = sym (field x 1 12) ∙ sym (mul-div-mul_right (x % 2 ^ 13) (2 ^ 12) (pow_pos 51))

pub fraction_up : (x : ℕ) → x % 4096 ≡ x % 2 ^ 13 * 2 ^ 51 / 2 ^ 51 % 4096
fraction_up x = sym (ap (λ (y : ℕ). y % 4096) (shl-shr (x % 2 ^ 13) 51) ∙ mod-mod-pow x 1 12)
