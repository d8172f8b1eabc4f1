-- What rows 5 and 7 have in common: 0 for the magnitudes from 31744 up, which are whole numbers, and else the sign of x put
-- back on the answer to its magnitude, whose side is mirrored with it.
use Rattle.std.proofs.Common.{◌≡◌, ℕ, ◌+◌, ◌%◌, ◌^◌, ◌<◌, ◌≤◌, cond, ltb, ℤ, ◌⊎◌, ⊎_elim, inl, inr, refl, arith, le-leb}
use native.Mathlib.Decide.{dec_lt}
use borrow.Author.Tests.{lt-leb}
use Rattle.posit.specs.Number.{Number, nar, real, number, magnitude, size}
use Rattle.posit.specs.Sides.{outright, negated_sided}
use Rattle.posit.specs.declared.side.Sided.{Sided}
use Rattle.posit.proofs.Patterns.{number-zero, number_nar}
use Rattle.rows.specs.Rows.{Row, names, MeetsSided, within, by_sign}
use Rattle.rows.proofs.Signs.{number_sided}
use Rattle.rows.proofs.Sizes.{size-zero, size_some}

-- a row that has its whole numbers apart
abbrev pub whole_apart : (Number → Row) → ℕ → Row
whole_apart other p = cond (within 31744 0x7fff (size 16 p)) (names 0) (other (number 1 16 p))

-- what the row says of the other numbers is f, by the magnitude
pub record Odd (other : Number → Row) (f : ℕ → Row) : Type 0 where
  pub at_nar : other nar ≡ names 0x8000
  pub at_zero : f 0 ≡ names 0
  pub at_real : (q : ℤ) → other (real q) ≡ by_sign f q

-- both by one test, on s less 1, which is the largest number of 16 bits where s is 0
pub by_less : (s : ℕ) → s < 2 ^ 16 → 31742 < (s + 65535) % 2 ^ 16 → (31743 < s) ⊎ ((s ≤ 31743) × (s ≡ 0))
by_less s small k = go (dec_lt 31743 s)
  where
    go : Dec (31743 < s) → (31743 < s) ⊎ ((s ≤ 31743) × (s ≡ 0))
    go (yes l) = inl l
    go (no l) = inr (omega arith, omega arith)

module _ {other : Number → Row} {f : ℕ → Row} (odd : Odd other f) (p : ℕ) where
  pub nar_itself : p ≡ 0x8000 → MeetsSided (whole_apart other p) (outright 0x8000)
  nar_itself e = rw (e, number_nar 1 16, odd.at_nar) (refl, refl)

  module _ (h : p < 0x10000) (s : ℕ) (sized : s ≡ size 16 p) where
    zero_itself : s ≡ 0 → MeetsSided (whole_apart other p) (outright 0)
    zero_itself e = rw (size-zero p h (omega arith), number-zero 1 16, odd.at_real, odd.at_zero) (refl, refl)

    module _ (not_nar : p ≡ 0x8000 → ⊥) where
      whole-zero : 31743 < s → MeetsSided (whole_apart other p) (outright 0)
      whole-zero k =
          let z = size_some p h not_nar (λ e. omega arith) in
          rw (le-leb 31744 (size 16 p) (omega arith), le-leb (size 16 p) 0x7fff (omega arith)) (refl, refl)

      pub whole-or-zero : (31743 < s) ⊎ ((s ≤ 31743) × (s ≡ 0)) → MeetsSided (whole_apart other p) (outright 0)
      whole-or-zero = ⊎_elim whole-zero (λ e. zero_itself e.1)

      pub sign-back : s ≤ 31743 → (s ≡ 0 → ⊥) → (x : ℕ) (u a : Sided) → x ≡ magnitude 1 16 s
          → MeetsSided (f x) u → a ≡ cond (ltb 0x8000 p) (negated_sided u) u → MeetsSided (whole_apart other p) a
      sign-back k some x u a units meets signed =
          let z = size_some p h not_nar (λ e. some (omega arith)) in
          let meets-here : MeetsSided (f (magnitude 1 16 (size 16 p))) u = rw (units, sized) at meets in
          rw (signed, lt-leb 31744 (size 16 p) (omega arith)) (number_sided p other f odd.at_real z.0 h not_nar u meets-here)
