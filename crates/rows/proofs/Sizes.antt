-- Bounds on a number in units of 2 ^ -28, from the pattern of its magnitude.
use Prim.Native.Nat.{ℕ, zero, suc, ◌+◌, ◌-◌, ◌%◌, ◌^◌, ◌≤◌, ◌<◌}
use mathlib.Core.Path.{◌≡◌, ◌∙◌, ap, refl, sym}
use mathlib.Core.Bool.{cond}
use mathlib.Core.Logic.{◌⊎◌, inl, inr, ⊎_elim}
use native.Mathlib.Omega.{arith}
use native.Mathlib.Nat.{eq-or-lt_of_le, le_of_eq, le_of_lt, le_trans}
use native.Mathlib.Decide.{dec_lt, ℕ_discrete}
use borrow.Author.Tests.{lt-ltb, le-ltb}
use lib.Dec.{ltb, lit≤}
use Rattle.posit.specs.Number.{magnitude, opposite, run, size}
use Rattle.posit.proofs.Growth.{larger}
use Rattle.posit.proofs.Complement.{opposite_is}

pub no_larger : (u v : ℕ) → 1 ≤ u → u ≤ v → v ≤ 0x7fff → magnitude 1 16 u ≤ magnitude 1 16 v
no_larger u v l h top = ⊎_elim (λ e. le_of_eq (ap (magnitude 1 16) e)) (λ k. le_of_lt (larger 1 16 u v (lit≤ tt) l k top)) (eq-or-lt_of_le h)

pub size_plus : (p : ℕ) → p ≤ 0x8000 → size 16 p ≡ p
size_plus p h = rw (le-ltb 0x8000 p h)

pub size_minus : (p : ℕ) → 0x8000 < p → size 16 p ≡ 0x10000 - p
size_minus p h = rw (lt-ltb 0x8000 p h) (opposite_is 16 p (omega arith))

-- the sign bit tells the sign of every number, and the magnitude of NaR too, which is its own opposite
pub sign_bit : (p : ℕ) → (p ≡ 0x8000 → ⊥) → ltb 0x7fff p ≡ ltb 0x8000 p
sign_bit p real = go (dec_lt 0x8000 p)
  where
    go : Dec (0x8000 < p) → ltb 0x7fff p ≡ ltb 0x8000 p
    go (yes k) = lt-ltb 0x7fff p (omega arith) ∙ sym (lt-ltb 0x8000 p k)
    go (no k) = le-ltb 0x7fff p (omega arith) ∙ sym (le-ltb 0x8000 p (omega arith))

sign_by_bit : (p u : ℕ) → (p ≡ 0x8000 → ⊥) → cond (ltb 0x7fff p) (opposite 16 u) u ≡ cond (ltb 0x8000 p) (opposite 16 u) u
sign_by_bit p u real = rw (sign_bit p real)

pub size_by_bit : (p : ℕ) → cond (ltb 0x7fff p) (opposite 16 p) p ≡ size 16 p
unfolding opposite
size_by_bit p = go (ℕ_discrete p 0x8000)
  where
    go : Dec (p ≡ 0x8000) → cond (ltb 0x7fff p) (opposite 16 p) p ≡ size 16 p
    go (yes e) = rw e
    go (no k) = sign_by_bit p p k

-- a pattern below v or above its opposite has a magnitude from 1 to v
pub sized : (p v : ℕ) → 0 < p → p < 0x10000 → v ≤ 0x7fff → (v < p → 0x10000 ≤ p + v) → (1 ≤ size 16 p) × (size 16 p ≤ v)
sized p v l h top out = go (dec_lt 0x8000 p)
  where
    go : Dec (0x8000 < p) → (1 ≤ size 16 p) × (size 16 p ≤ v)
    go (yes k) = let e = size_minus p k in let q = out (omega arith) in (omega arith, omega arith)
    go (no k) = let e = size_plus p (omega arith) in small (dec_lt v p) e
      where
        small : Dec (v < p) → size 16 p ≡ p → (1 ≤ size 16 p) × (size 16 p ≤ v)
        small (yes j) e = let q = out j in (omega arith, omega arith)
        small (no j) e = (omega arith, omega arith)

-- and its number x is at most that of v
pub no_farther : (p v x : ℕ) → 0 < p → p < 0x10000 → v ≤ 0x7fff → (v < p → 0x10000 ≤ p + v) → x ≡ magnitude 1 16 (size 16 p) → x ≤ magnitude 1 16 v
no_farther p v x l h top out e = let s = sized p v l h top out in le_trans (le_of_eq e) (no_larger (size 16 p) v s.0 s.1 top)

-- one that is neither 0 nor NaR has the magnitude of a posit
pub proper : (p : ℕ) → 0 < p → p < 0x10000 → (p ≡ 0x8000 → ⊥) → (1 ≤ size 16 p) × (size 16 p ≤ 0x7fff)
proper p l h out = sized p 0x7fff l h (lit≤ tt) (λ k. omega arith)

-- only zero has the magnitude zero
pub size-zero : (p : ℕ) → p < 0x10000 → size 16 p ≡ 0 → p ≡ 0
size-zero p h z = go (dec_lt 0x8000 p)
  where
    go : Dec (0x8000 < p) → p ≡ 0
    go (yes k) = let e = size_minus p k in omega arith
    go (no k) = let e = size_plus p (omega arith) in omega arith

-- a pattern of another real number
pub size_some : (p : ℕ) → p < 0x10000 → (p ≡ 0x8000 → ⊥) → (size 16 p ≡ 0 → ⊥) → (0 < p) × (1 ≤ size 16 p) × (size 16 p ≤ 0x7fff)
size_some p h real some =
    let l : 0 < p = zero-not p some in
    let s = proper p l h real in
    (l, s.0, s.1)
  where
    zero-not : (p : ℕ) → (size 16 p ≡ 0 → ⊥) → 0 < p
    zero-not zero some = absurd (some refl)
    zero-not (suc p) some = omega arith

-- only the magnitudes of zero and NaR have fifteen zeros at the end
pub low-zero : (p : ℕ) → p < 0x10000 → size 16 p % 0x8000 ≡ 0 → (p ≡ 0) ⊎ (p ≡ 0x8000)
low-zero p h z = go (ℕ_discrete p 0x8000) (dec_lt 0 p)
  where
    go : Dec (p ≡ 0x8000) → Dec (0 < p) → (p ≡ 0) ⊎ (p ≡ 0x8000)
    go (yes e) l = inr e
    go (no k) (yes l) = absurd (let s = proper p l h k in omega arith)
    go (no k) (no l) = inl (omega arith)

pub low_some : (p : ℕ) → (size 16 p % 0x8000 ≡ 0 → ⊥) → (0 < p) × (p ≡ 0x8000 → ⊥)
low_some zero some = absurd (some refl)
low_some (suc p) some = (omega arith, λ e. some (rw e refl))

-- the patterns of 1/2 and of 1, and the numbers on either side of them
half : magnitude 1 16 0x3000 ≡ 2 ^ 27
unfolding magnitude run
half = refl

one : magnitude 1 16 0x4000 ≡ 2 ^ 28
unfolding magnitude run
one = refl

module _ (u : ℕ) where
  pub to_half : 1 ≤ u → u ≤ 0x3000 → magnitude 1 16 u ≤ 2 ^ 27
  to_half l h = rw half at (no_larger u 0x3000 l h (lit≤ tt))

  pub from_half : 0x3000 ≤ u → u ≤ 0x7fff → 2 ^ 27 ≤ magnitude 1 16 u
  from_half l h = rw half at (no_larger 0x3000 u (lit≤ tt) l h)

  pub to_one : 1 ≤ u → u ≤ 0x4000 → magnitude 1 16 u ≤ 2 ^ 28
  to_one l h = rw one at (no_larger u 0x4000 l h (lit≤ tt))

  pub below_one : 1 ≤ u → u < 0x4000 → magnitude 1 16 u < 2 ^ 28
  below_one l h = rw one at (larger 1 16 u 0x4000 (lit≤ tt) l h (lit≤ tt))

  pub from_one : 0x4000 ≤ u → u ≤ 0x7fff → 2 ^ 28 ≤ magnitude 1 16 u
  from_one l h = rw one at (no_larger 0x4000 u (lit≤ tt) l h)
