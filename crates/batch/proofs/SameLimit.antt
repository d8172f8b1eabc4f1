-- "With a limit of at least 1 and each call starting at the place the last returned, from 0, n patterns are finished in
-- n/limit calls, rounded up": after so many calls, and not before.
use Prim.Native.Nat.{ℕ, zero, suc, ◌+◌, ◌-◌, ◌*◌, ◌/◌, ◌≤◌, ◌<◌, min}
use mathlib.Core.Path.{◌≡◌}
use mathlib.Core.Bool.{true}
use mathlib.Core.List.{List}
use native.Mathlib.Omega.{arith}
use native.Mathlib.Nat.{zero-mul, suc-mul, le-div_iff_mul-le, div-add-mod', mod-lt}
use lib.ListN.{length, replicate}
use Rattle.p16e1.specs.Functions.{known}
use Rattle.batch.proofs.Calls.{Chain, first, calls, sum, Finished, next_is, finished-by-enough}

sum_of_same : (k limit : ℕ) → sum (replicate k limit) ≡ k * limit
sum_of_same zero limit = omega (arith, zero-mul limit)
sum_of_same (suc k) limit = omega (arith, suc-mul k limit, sum_of_same k limit)

-- n/limit, rounded up
abbrev pub divided_up : ℕ → ℕ → ℕ
divided_up n limit = (n + (limit - 1)) / limit

enough : (n limit : ℕ) → 0 < limit → n ≤ divided_up n limit * limit
enough n limit h = omega (arith, div-add-mod' (n + (limit - 1)) limit, mod-lt (n + (limit - 1)) h)

fewer_not_enough : (n limit k : ℕ) → 0 < limit → k < divided_up n limit → k * limit < n
fewer_not_enough n limit k h b = omega (arith, (le-div_iff_mul-le h).0 b, suc-mul k limit)

-- where the chain stands after k calls with one limit
abbrev pub after : ℕ → List ℕ → List ℕ → ℕ → ℕ → Chain
after f input output limit k = calls f input (first output) (replicate k limit)

module _ (f : ℕ) (input output : List ℕ) (knows : known f ≡ true) (room : length input ≤ length output) (limit : ℕ) where
  pub next-after : (k : ℕ) → (after f input output limit k).next ≡ min (k * limit) (length input)
  next-after k = omega (arith, next_is f input output knows room (replicate k limit), sum_of_same k limit)

  pub finished : 0 < limit → Finished f input output (after f input output limit (divided_up (length input) limit))
  finished h =
      let k : ℕ = divided_up (length input) limit in
      finished-by-enough f input output knows room (replicate k limit) (omega (arith, sum_of_same k limit, enough (length input) limit h))

  pub not_before : 0 < limit → (k : ℕ) → k < divided_up (length input) limit → (after f input output limit k).next < length input
  not_before h k b = omega (arith, next-after k, fewer_not_enough (length input) limit k h b)
