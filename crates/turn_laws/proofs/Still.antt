-- No turn gives the arm itself.
use Prim.Native.Nat.{ℕ}
use mathlib.Core.Path.{◌≡◌, sym}
use borrow.Author.Tests.{ne_eqb}
use Rattle.arithmetic.specs.Sizes.{signed_units}
use Rattle.arithmetic.proofs.Exact.{number_units}
use Rattle.arithmetic.proofs.Laws.{sum_commutes, product_commutes, zero_neutral, one_neutral, zero-product}
use Rattle.turning.specs.Turn.{rounded_sum, rounded_product, three, entry, turned}
use Rattle.turning.proofs.Steps.{sum_is, product_is}
use Rattle.turn_laws.proofs.Checked.{stays}
use Rattle.turn_laws.proofs.Nars.{Real, zero_real}

one_times : (a : ℕ) → Real a → rounded_product 0x4000 a ≡ a
one_times a r = sym (product_is 0x4000 a a (rw (product_commutes 0x4000 a) (one_neutral a r.0)))

zero_times : (a : ℕ) → Real a → rounded_product 0 a ≡ 0
zero_times a r = sym (product_is 0 a 0 (rw (product_commutes 0 a) (zero-product a (signed_units a) (number_units a r.1))))

plus_zero : (a : ℕ) → Real a → rounded_sum a 0 ≡ a
plus_zero a r = sym (sum_is a 0 a (zero_neutral a r.0))

zero_plus : (a : ℕ) → Real a → rounded_sum 0 a ≡ a
zero_plus a r = sym (sum_is 0 a a (rw (sum_commutes 0 a) (zero_neutral a r.0)))

pub no_turn : (a b c : ℕ) → Real a → Real b → Real c → turned 0 0 0 (three a b c) ≡ three a b c
unfolding turned entry
no_turn a b c x y z =
    rw (
      ne_eqb a 0x8000 x.1,
      ne_eqb b 0x8000 y.1,
      ne_eqb c 0x8000 z.1,
      stays,
      one_times a x,
      one_times b y,
      one_times c z,
      zero_times a x,
      zero_times b y,
      zero_times c z,
      plus_zero a x,
      zero_plus b y,
      zero_plus 0 zero_real,
      plus_zero a x,
      plus_zero b y,
      zero_plus c z,
    )
