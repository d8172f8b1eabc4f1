-- The kernels of log2 and ln stay below 1 at each fraction: computed, and read off at one of them.
use Prim.Native.Nat.{ℕ, zero-le, ◌^◌, ◌<◌}
use mathlib.Core.Bool.{Bool}
use lib.Dec.{T, ltb, lit<}
use Rattle.logarithm.specs.Log2 as log2
use Rattle.logarithm.specs.Ln as ln
use Rattle.rows.proofs.Sweep.{all, at}

abbrev below : (ℕ → ℕ) → ℕ → ℕ → Bool
below f bound h = ltb (f h) bound

log2_computed : T (all (below log2.poly (2 ^ 28)) 4096 0)
unfolding log2.poly
log2_computed = tt

ln_computed : T (all (below ln.poly (2 ^ 30)) 4096 0)
unfolding ln.poly
ln_computed = tt

pub log2_below : (h : ℕ) → h < 2 ^ 12 → log2.poly h < 2 ^ 28
log2_below h l = lit< (at (below log2.poly (2 ^ 28)) 4096 0 log2_computed h zero-le l)

pub ln_below : (h : ℕ) → h < 2 ^ 12 → ln.poly h < 2 ^ 30
ln_below h l = lit< (at (below ln.poly (2 ^ 30)) 4096 0 ln_computed h zero-le l)
