-- Signs: of a product, and of a row's answer, on which that of the number is put back, with its side.
use Prim.Native.Nat.{ℕ, zero, suc, ◌*◌, ◌<◌}
use mathlib.Core.Path.{◌≡◌, ap, refl}
use mathlib.Core.Bool.{Bool, true, false, cond}
use native.Mathlib.Omega.{arith}
use native.Mathlib.Nat.{zero-mul}
use lib.Dec.{ltb, lit≤}
use lib.IntN.{ℤ, pos, ◌*ℤ◌, pos-*ℤ-pos, negsuc-*ℤ-pos}
use Rattle.posit.specs.Number.{Number, real, number, magnitude, opposite, size, with_sign}
use Rattle.posit.specs.Sides.{mirrored, negated_sided}
use Rattle.posit.specs.declared.side.Sided.{Sided}
use Rattle.posit.proofs.Own.{magnitude_some}
use Rattle.posit.proofs.Patterns.{number-signed}
use Rattle.posit.proofs.Sides.{mirrors_sided}
use Rattle.rows.specs.Rows.{Row, names, rounds, MeetsSided, opposed, by_sign}
use Rattle.rows.proofs.Sizes.{proper}

pub opposed_sided : (w : Row) (a : Sided) → MeetsSided w a → MeetsSided (opposed w) (negated_sided a)
opposed_sided (names u) a m = (ap (opposite 16) m.0, ap mirrored m.1)
opposed_sided (rounds x) a m = mirrors_sided 1 x a m

pub signed_sided_lem : (b : Bool) (w : Row) (a : Sided) → MeetsSided w a → MeetsSided (cond b (opposed w) w) (cond b (negated_sided a) a)
signed_sided_lem true w a m = opposed_sided w a m
signed_sided_lem false w a m = m

pub by_sign_lem : (f : ℕ → Row) (b : Bool) (m : ℕ) → 0 < m → by_sign f (with_sign b m) ≡ cond b (opposed (f m)) (f m)
by_sign_lem f true zero l = absurd (omega arith)
by_sign_lem f true (suc m) l = refl
by_sign_lem f false m l = refl

-- a factor goes inside the sign
pub times_signed : (b : Bool) (m k : ℕ) → with_sign b m *ℤ pos k ≡ with_sign b (m * k)
times_signed true zero k = rw (zero-mul k)
times_signed true (suc m) k = negsuc-*ℤ-pos m k
times_signed false m k = pos-*ℤ-pos m k

-- a row that works by the sign of a number: its answer for p is that for the magnitude, with the sign of p
pub number_sided : (p : ℕ) (w : Number → Row) (f : ℕ → Row) → ((q : ℤ) → w (real q) ≡ by_sign f q) → 0 < p → p < 0x10000 → (p ≡ 0x8000 → ⊥) → (a : Sided)
    → MeetsSided (f (magnitude 1 16 (size 16 p))) a → MeetsSided (w (number 1 16 p)) (cond (ltb 0x8000 p) (negated_sided a) a)
number_sided p w f by l h out a m =
    let s = proper p l h out in
    let k = magnitude 1 16 (size 16 p) in
    let some : 0 < k = magnitude_some 1 16 (size 16 p) (lit≤ tt) s.0 s.1 in
    rw (number-signed 1 16 p l out, by (with_sign (ltb 0x8000 p) k), by_sign_lem f (ltb 0x8000 p) k some) (signed_sided_lem (ltb 0x8000 p) (f k) a m)
