-- What row 10 says, case by case.
use Prim.Native.Nat.{ℕ, zero, suc, ◌-◌, ◌*◌, ◌^◌, ◌≤◌, ◌<◌}
use mathlib.Core.Path.{◌≡◌, refl}
use mathlib.Core.Bool.{Bool, true, false, beq, cond}
use mathlib.Core.Logic.{◌⊎◌, ⊎_elim}
use native.Mathlib.Omega.{arith}
use borrow.Author.Tests.{lt-ltb, le-ltb}
use native.Mathlib.Decide.{dec_lt}
use lib.Dec.{ltb}
use lib.IntN.{pos, nat_abs}
use Rattle.posit.specs.Number.{number, magnitude, size, with_sign}
use Rattle.posit.specs.Rounding.{over}
use Rattle.posit.specs.Sides.{RoundsSided}
use Rattle.posit.specs.declared.side.Sided.{Sided}
use Rattle.posit.proofs.Patterns.{number-signed}
use Rattle.arc.specs.Root.{root}
use Rattle.rows.specs.Rows.{names, MeetsSided}
use Rattle.rows.proofs.Sizes.{size_plus, size_minus}
use Rattle.arc.specs.AcosPi.{poly, arc, otherwise, row}

module _ (p k : ℕ) where
  arc-below_half : p < 0x3000 → arc p k ≡ poly k
  unfolding arc
  arc-below_half h = rw (lt-ltb p 0x3000 h)

  arc_from_half : 0x3000 ≤ p → p < 0x4001 → arc p k ≡ 2 ^ 30 - 2 * poly (root ((2 ^ 28 - k) * 2 ^ 27))
  unfolding arc
  arc_from_half l h = rw (le-ltb p 0x3000 l, lt-ltb p 0x4001 h)

  arc-above_minus_half : 53248 < p → arc p k ≡ 2 ^ 30 - poly k
  unfolding arc
  arc-above_minus_half l = rw (le-ltb p 0x3000 (omega arith), le-ltb p 0x4001 (omega arith), lt-ltb 53248 p l)

  arc_to_minus_half : 0x4001 ≤ p → p ≤ 53248 → arc p k ≡ 2 * poly (root ((2 ^ 28 - k) * 2 ^ 27))
  unfolding arc
  arc_to_minus_half l h = rw (le-ltb p 0x3000 (omega arith), le-ltb p 0x4001 l, le-ltb 53248 p h)

-- the same by whether a root is taken and by the sign: what the polynomial takes, how often the angle has its result, and
-- whether that is the angle or what the angle leaves of a half-turn
abbrev pub argument : Bool → ℕ → ℕ
argument byRoot k = cond byRoot (root ((2 ^ 28 - k) * 2 ^ 27)) k

abbrev pub turned : Bool → ℕ → ℕ
turned byRoot m = cond byRoot (2 * m) m

abbrev pub or_rest : Bool → ℕ → ℕ
or_rest same t = cond same t (2 ^ 30 - t)

pub arc_by_root : (p k s : ℕ) → s ≡ size 16 p → s ≤ 0x4000
    → arc p k ≡ or_rest (beq (ltb 0x2fff s) (ltb 0x8000 p)) (turned (ltb 0x2fff s) (poly (argument (ltb 0x2fff s) k)))
arc_by_root p k s e h = go (dec_lt 0x2fff s) (dec_lt 0x8000 p)
  where
    go : Dec (0x2fff < s) → Dec (0x8000 < p)
        → arc p k ≡ or_rest (beq (ltb 0x2fff s) (ltb 0x8000 p)) (turned (ltb 0x2fff s) (poly (argument (ltb 0x2fff s) k)))
    go (yes b) (yes n) = let z = size_minus p n in rw (lt-ltb 0x2fff s b, lt-ltb 0x8000 p n) (arc_to_minus_half p k (omega arith) (omega arith))
    go (yes b) (no n) =
        let z = size_plus p (omega arith) in
        rw (lt-ltb 0x2fff s b, le-ltb 0x8000 p (omega arith)) (arc_from_half p k (omega arith) (omega arith))
    go (no b) (yes n) = let z = size_minus p n in rw (le-ltb 0x2fff s (omega arith), lt-ltb 0x8000 p n) (arc-above_minus_half p k (omega arith))
    go (no b) (no n) =
        let z = size_plus p (omega arith) in
        rw (le-ltb 0x2fff s (omega arith), le-ltb 0x8000 p (omega arith)) (arc-below_half p k (omega arith))

pub past_one : (p : ℕ) → 0x4000 < p → p < 0xC000 → row p ≡ names 0x8000
unfolding row
past_one p l h = rw (lt-ltb 0x4000 p l, lt-ltb p 0xC000 h)

pub near_zero : (p : ℕ) → (p < 165) ⊎ ((165 ≤ p) × (65307 < p)) → row p ≡ names 0x3000
unfolding row
near_zero p c =
    ⊎_elim (λ h. rw (le-ltb 0x4000 p (omega arith), lt-ltb p 165 h))
    (λ (l, h). rw (lt-ltb 0x4000 p (omega arith), le-ltb p 0xC000 (omega arith), le-ltb p 165 l, lt-ltb 65307 p h)) c

abs_signed : (b : Bool) (m : ℕ) → nat_abs (with_sign b m) ≡ m
abs_signed true zero = refl
abs_signed true (suc m) = refl
abs_signed false m = refl

pub by_arc : (p : ℕ) (a : Sided) → 165 ≤ p → p ≤ 65307 → (0x4000 < p → 0xC000 ≤ p) → RoundsSided 1 16 (over (pos (arc p (magnitude 1 16 (size 16 p)))) 30) a
    → MeetsSided (row p) a
unfolding row
by_arc p a l h out m =
    rw (
      first (dec_lt 0x4000 p),
      number-signed 1 16 p (omega arith) (λ e. let k = out (omega arith) in omega arith),
      abs_signed (ltb 0x8000 p) (magnitude 1 16 (size 16 p)),
    ) m
  where
    first : Dec (0x4000 < p) → row p ≡ otherwise p (number 1 16 p)
    first (yes k) = rw (lt-ltb 0x4000 p k, le-ltb p 0xC000 (out k), le-ltb p 165 l, le-ltb 65307 p h)
    first (no k) = rw (le-ltb 0x4000 p (omega arith), le-ltb p 165 l, le-ltb 65307 p h)
