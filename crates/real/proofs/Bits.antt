-- What the fields of an f64's bits say, as the rounding rule's answer to it: all ones, a field of 0, and the others.
use Rattle.std.proofs.Common.{◌≡◌, ℕ, zero, suc, ◌+◌, ◌-◌, ◌*◌, ◌/◌, ◌%◌, ◌^◌, ◌<◌, ◌≤◌, Bool, true, false, cond, eqb, leb, ℤ, pos, negsuc, sym, refl, ap, ◌∙◌, one-mul, mul-one, arith, pow-add, le-ltb, lt-ltb, ne_eqb}
use native.Mathlib.Decide.{dec_lt}
use lib.IntN.{sub_ℕ}
use lib.Signed.{mag}
use lib.Ieee.{nan, inf, binary64, of_bits, of_fields}
use lib.Ieee.Exact.{HasValue, odd_sign}
use Rattle.posit.specs.Number.{opposite}
use Rattle.posit.specs.Rounding.{dyadic, Rounds}
use Rattle.real.specs.Reals.{FromF64}
use Rattle.real.proofs.Values.{Counts, answers}

-- the power of two of a field f, which is counted from 1 up in units of 2 ^ -1074
pub record Power (f : ℕ) (e : ℤ) : Type 0 where
  pub small : mag e < 2 ^ 31
  pub counts : Counts e (f - 1)

pub power : (f : ℕ) → 1 ≤ f → f < 2048 → Power f (sub_ℕ f 1075)
power f l h = go (dec_lt f 1075)
  where
    go : Dec (f < 1075) → Power f (sub_ℕ f 1075)
    go (yes k) =
        rw (lt-ltb f 1075 k)
        (record {
          small = omega arith;
          counts =
              one-mul (2 ^ 1074) ∙ ap (λ (x : ℕ). 2 ^ x) {x = 1074} (let e : 1074 ≡ f - 1 + suc (1075 - suc f) = omega arith in e)
              ∙ pow-add 2 (f - 1) (suc (1075 - suc f));
        })
    go (no k) =
        rw (le-ltb f 1075 (omega arith))
        (record {
          small = omega arith;
          counts = sym (pow-add 2 (f - 1075) 1074) ∙ ap (λ (x : ℕ). 2 ^ x) (let e : f - 1075 + 1074 ≡ f - 1 = omega arith in e) ∙ sym (mul-one (2 ^ (f - 1)));
        })

all_ones : (s : Bool) (t : ℕ) → FromF64 (of_fields binary64 s 2047 t) 0x8000
unfolding of_fields
all_ones s t = go (eqb t 0)
  where
    go : (b : Bool) → FromF64 (cond b (inf s) nan) 0x8000
    go true = refl
    go false = refl

subnormal : (s : Bool) (t : ℕ) → HasValue (of_fields binary64 s 0 t) s (t * 2 ^ 0) (2 ^ 1074)
unfolding of_fields
subnormal s t = odd_sign 53 s t 0 1074

normal : (s : Bool) (f t : ℕ) → (f ≡ 2047 → ⊥) → (f ≡ 0 → ⊥) → HasValue (of_fields binary64 s f t) s ((0x10_0000_0000_0000 + t) * 2 ^ (f - 1)) (2 ^ 1074)
unfolding of_fields
normal s zero t h k = absurd (k refl)
normal s (suc f) t h k = let e : suc f - 1 ≡ f = omega arith in rw (ne_eqb (suc f) 2047 h, e) (odd_sign 53 s (0x10_0000_0000_0000 + t) f 1074)

module _ (b : ℕ) where
  abbrev sign : Bool
  sign = leb 0x8000_0000_0000_0000 b

  abbrev field : ℕ
  field = b % 0x8000_0000_0000_0000 / 0x10_0000_0000_0000

  abbrev digits : ℕ
  digits = b % 0x10_0000_0000_0000

  by_fields : of_bits binary64 b ≡ of_fields binary64 sign field digits
  unfolding of_bits
  by_fields = refl

  pub at_ones : field ≡ 2047 → FromF64 (of_bits binary64 b) 0x8000
  at_ones h = rw (by_fields, h) (all_ones sign digits)

  pub at_zero : (u : ℕ) → field ≡ 0 → Rounds 1 16 (dyadic (pos digits) (negsuc 1073)) u → FromF64 (of_bits binary64 b) (cond sign (opposite 16 u) u)
  at_zero u h r = answers (of_bits binary64 b) sign digits 0 (negsuc 1073) u refl (rw (by_fields, h) (subnormal sign digits)) r

  pub at_other : (u : ℕ) (e : ℤ) → (field ≡ 2047 → ⊥) → (field ≡ 0 → ⊥) → Counts e (field - 1) → Rounds 1 16 (dyadic (pos (0x10_0000_0000_0000 + digits)) e) u
      → FromF64 (of_bits binary64 b) (cond sign (opposite 16 u) u)
  at_other u e h k c r = answers (of_bits binary64 b) sign (0x10_0000_0000_0000 + digits) (field - 1) e u c (rw by_fields (normal sign field digits h k)) r
