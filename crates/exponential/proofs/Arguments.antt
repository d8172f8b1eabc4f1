-- "In rows 1 and 2 x·2^20 is whole for every pattern that reaches the kernel": x is a multiple of 2 ^ 8 units. Computed for
-- each size that reaches one of the two kernels.
use Prim.Native.Nat.{ℕ, ◌%◌, ◌^◌, ◌≤◌, ◌<◌}
use mathlib.Core.Path.{◌≡◌}
use mathlib.Core.Bool.{Bool}
use native.Mathlib.Omega.{arith}
use native.Mathlib.Decide.{dec_lt}
use borrow.Author.Tests.{lt-ltb, le-ltb}
use lib.Dec.{T, eqb, eqb→eq}
use Rattle.posit.specs.Number.{magnitude, run, size}
use Rattle.posit.proofs.Complement.{opposite_is}
use Rattle.rows.proofs.Sweep.{all, at}

abbrev whole : ℕ → Bool
whole s = eqb (magnitude 1 16 s % 2 ^ 8) 0

computed : T (all whole 29249 128)
unfolding magnitude run
computed = tt

of_size : (s : ℕ) → 128 ≤ s → s ≤ 29376 → magnitude 1 16 s % 2 ^ 8 ≡ 0
of_size s lo hi = eqb→eq (magnitude 1 16 s % 2 ^ 8) 0 (at whole 29249 128 computed s lo (omega arith))

sized : (p : ℕ) → 192 ≤ p → p ≤ 65407 → (29376 < p → 36160 ≤ p) → (128 ≤ size 16 p) × (size 16 p ≤ 29376)
sized p lo hi out = go (dec_lt 0x8000 p)
  where
    go : Dec (0x8000 < p) → (128 ≤ size 16 p) × (size 16 p ≤ 29376)
    go (yes h) = let q = out (omega arith) in let e = opposite_is 16 p (omega arith) in rw (lt-ltb 0x8000 p h) (omega arith, omega arith)
    go (no h) = rw (le-ltb 0x8000 p (omega arith)) (omega arith, small (dec_lt 29376 p))
      where
        small : Dec (29376 < p) → p ≤ 29376
        small (yes k) = absurd (let q = out k in omega arith)
        small (no k) = omega arith

pub argument-whole : (p : ℕ) → 192 ≤ p → p ≤ 65407 → (29376 < p → 36160 ≤ p) → magnitude 1 16 (size 16 p) % 2 ^ 8 ≡ 0
argument-whole p lo hi out = let s = sized p lo hi out in of_size (size 16 p) s.0 s.1
