-- Held between -200 and 200, e is the power itself within them, and beyond them only the side that is held is asked for.
use Rattle.std.proofs.Common.{◌≡◌, ℕ, suc, ◌*◌, ◌^◌, ◌<◌, ◌≤◌, ℤ, pos, negsuc, ◌+ℤ◌, nat_abs, one-mul, mul-one, arith, pow_mono, pow-add, w32, SFits, to_z, of_z}
use Rattle.std.specs.Int.{int_max, int_min}
use Rattle.std.proofs.lemmas.Int.{ints, clamps}
use lib.Ieee.{up, down}
use Rattle.posit.proofs.rounding.offset.Goals as goal

held : (e h : ℤ) → SFits w32 e → h ≡ int_max (negsuc 199) (int_min (to_z w32 (of_z w32 e)) (pos 200))
    → pos (nat_abs (to_z w32 (of_z w32 (to_z w32 (of_z w32 h) +ℤ pos 200)))) ≡ int_max (pos 0) (int_min (e +ℤ pos 200) (pos 400))
held e h fits is = omega (arith, ints, clamps)

at_most : (e : ℤ) (k : ℕ) → pos k ≡ int_max (pos 0) (int_min (e +ℤ pos 200) (pos 400)) → k < 400 → up e * 2 ^ 200 ≤ 2 ^ k * down e
at_most (pos j) k is l = rw (mul-one, ← pow-add 2 j 200) (pow_mono (omega (arith, ints, clamps)))
at_most (negsuc j) k is l = rw (one-mul, ← pow-add 2 k (suc j)) (pow_mono {i = 200} (omega (arith, ints, clamps)))

at_least : (e : ℤ) (k : ℕ) → pos k ≡ int_max (pos 0) (int_min (e +ℤ pos 200) (pos 400)) → 0 < k → 2 ^ k * down e ≤ up e * 2 ^ 200
at_least (pos j) k is l = rw (mul-one, ← pow-add 2 j 200) (pow_mono (omega (arith, ints, clamps)))
at_least (negsuc j) k is l = rw (one-mul, ← pow-add 2 k (suc j)) (pow_mono {j = 200} (omega (arith, ints, clamps)))

pub returns-clause-at_most : goal.returns-clause-at_most
returns-clause-at_most c = at_most c.args.e _ (held c.args.e c.clamp.result c.ranges.e c.clamp.ensures.value)

pub returns-clause-at_least : goal.returns-clause-at_least
returns-clause-at_least c = at_least c.args.e _ (held c.args.e c.clamp.result c.ranges.e c.clamp.ensures.value)
