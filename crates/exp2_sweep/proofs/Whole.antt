-- Every pattern but NaR: exp2's answer is the posit that the rounding rule picks for 2 ^ x.
use Prim.Native.Nat.{ℕ, ◌^◌, ◌<◌}
use mathlib.Core.Path.{◌≡◌}
use Rattle.posit.specs.Number.{number}
use Rattle.exponential.specs.Exp2.{row}
use Rattle.exp2_sweep.proofs.Agreed.{Agreed}
use Rattle.exp2_sweep.proofs.Sweeps.{before_16}

pub agreed : (p : ℕ) → p < 2 ^ 16 → (p ≡ 0x8000 → ⊥) → Agreed (number 1 16 p) (row p)
agreed = before_16
