-- The highest one of what is counted is that of `Counts`.
use Rattle.std.proofs.Common.{◌≡◌, ℕ, ◌+◌, ◌*◌, ◌/◌, ◌^◌, ◌<◌, ◌≤◌, ◌⊎◌, inl, inr, ⊎_elim, arith, cond, leb, le-leb}
use borrow.Author.Tests.{lt-leb}
use lib.Count.{leading_top, count_leading_zeros}
use Rattle.posit.specs.Number.{bit, run}
use Rattle.posit.proofs.Counts.{zeros_counted, ones-counted}
use Rattle.posit.proofs.decoding.run_length.Goals as goal
use Rattle.posit.proofs.decoding.run_length.Goals.{then-w-lt9223372036854775808, else-w-lt9223372036854775808}

-- z is what is counted for w, by the bit that runs
abbrev Turned : ℕ → ℕ → Type 0
Turned w z = ((w < 2 ^ 63) × (z ≡ w / 2 ^ 49 * 2 ^ 49)) ⊎ ((2 ^ 63 ≤ w) × (z + w / 2 ^ 49 * 2 ^ 49 < 2 ^ 64) × (2 ^ 64 ≤ z + w / 2 ^ 49 * 2 ^ 49 + 2 ^ 48))

counted : (w z : ℕ) → w < 2 ^ 64 → 2 ^ 49 ≤ w → Turned w z
    → (1 + count_leading_zeros 64 (2 * z + 1) ≡ run (bit 63 w) 15 (w / 2 ^ 49))
    × ((1 ≤ 1 + count_leading_zeros 64 (2 * z + 1)) × (1 + count_leading_zeros 64 (2 * z + 1) ≤ cond (leb (2 ^ 63) w) 15 14))
counted w z fits some turned =
    let small : z < 2 ^ 63 = ⊎_elim (λ d. omega arith) (λ d. omega arith) turned in
    let t = leading_top 64 (2 * z + 1) (omega arith) (omega arith) in
    ⊎_elim
    (λ d.
    let b : bit 63 w ≡ 0 = omega arith in
    let r = zeros_counted (w / 2 ^ 49) t.0 (omega arith) (omega arith) (omega (arith, t.2)) (omega (arith, t.3)) in
    rw (b, lt-leb (2 ^ 63) w (omega arith)) (omega (arith, t.1), (omega arith, omega (arith, t.1))))
    (λ d.
    let b : bit 63 w ≡ 1 = omega arith in
    let r = ones-counted (w / 2 ^ 49) t.0 (omega arith) (omega arith) (omega (arith, t.2)) (omega (arith, t.3)) in
    rw (b, le-leb (2 ^ 63) w (omega arith)) (omega (arith, t.1), (omega arith, omega (arith, t.1))))
    turned

pub returns-clause-counted : goal.returns-clause-counted
returns-clause-counted c =
    (counted c.args.w c.if-w-lt9223372036854775808.zeros (omega arith) (omega arith)
    (elim c.if-w-lt9223372036854775808.branch [
      | then-w-lt9223372036854775808 w ↦ inl (omega arith, omega arith)
      | else-w-lt9223372036854775808 w ↦ inr (omega arith, omega arith, omega arith)
    ])).0

pub returns-clause-bounds : goal.returns-clause-bounds
returns-clause-bounds c =
    (counted c.args.w c.if-w-lt9223372036854775808.zeros (omega arith) (omega arith)
    (elim c.if-w-lt9223372036854775808.branch [
      | then-w-lt9223372036854775808 w ↦ inl (omega arith, omega arith)
      | else-w-lt9223372036854775808 w ↦ inr (omega arith, omega arith, omega arith)
    ])).1
