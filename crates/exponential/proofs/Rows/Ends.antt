-- What rows 1 and 2 say, case by case, over the four numbers in which they differ; and the floors of their kernels.
use Prim.Native.Nat.{ℕ, suc, ◌+◌, ◌-◌, ◌*◌, ◌/◌, ◌%◌, ◌^◌, ◌≤◌, ◌<◌}
use mathlib.Core.Path.{◌≡◌, ◌∙◌, ap, sym, subst, refl}
use mathlib.Core.Logic.{◌⊎◌, inl, inr, ⊎_elim}
use mathlib.Core.Bool.{cond}
use native.Mathlib.Omega.{arith}
use native.Mathlib.Decide.{dec_lt}
use native.Mathlib.Nat.{mod-eq_of_lt}
use borrow.Author.Tests.{lt-ltb, le-ltb, le-leb, lt-leb}
use lib.Dec.{ltb}
use Rattle.std.specs.Prelude.{Some, None}
use lib.IntN.{ℤ, pos, negsuc, ◌+ℤ◌, ◌-ℤ◌, +ℤ_assoc}
use lib.Signed.{mag}
use mir.Syntax.{w32}
use mir.Val.{to_z, of_z}
use mir.Facts.{to_z-of_z}
use Rattle.posit.specs.Number.{number, magnitude, size, opposite, with_sign}
use Rattle.posit.specs.Rounding.{Known, dyadic}
use Rattle.posit.specs.Sides.{RoundsSided}
use Rattle.posit.specs.declared.side.Sided.{Sided}
use Rattle.posit.proofs.Complement.{opposite_is}
use Rattle.posit.proofs.Patterns.{number_nar, number-signed}
use Rattle.rows.specs.Floor.{floor, modulo}
use Rattle.rows.specs.Rows.{names, rounds, MeetsSided}
use Rattle.exponential.specs.Ends.{ends, beyond, otherwise, named}
use Rattle.rows.proofs.Sizes.{no_farther, sign_bit, size_by_bit}
use Rattle.rows.proofs.Whole.{Floors, floors, moved_back}

-- the four numbers stand in order around NaR, with c and d as far from zero as each other
pub record Ordered (a b c d : ℕ) : Type 0 where
  pub first : 0 < a
  pub second : a ≤ c
  pub third : c ≤ 0x7fff
  pub fourth : c + d ≡ 0x10000
  pub fifth : d ≤ b
  pub sixth : b < 0x10000

-- p lies between the ends, s is its size, by the sign bit, and x the size of its number
pub record Between (a b c d p s x : ℕ) : Type 0 where
  pub least : a ≤ p
  pub most : p ≤ b
  pub out : c ≤ p → d < p
  pub signed : s ≡ cond (ltb 0x7fff p) (opposite 16 p) p
  pub units : x ≡ magnitude 1 16 s

module _ {a b c d : ℕ} (o : Ordered a b c d) {p s x : ℕ} (w : Between a b c d p s x) where
  not_nar : p ≡ 0x8000 → ⊥
  not_nar e = let k = w.out (omega arith) in omega arith

  size_is : x ≡ magnitude 1 16 (size 16 p)
  size_is = w.units ∙ ap (magnitude 1 16) (w.signed ∙ size_by_bit p)

  pub nearest : x ≤ magnitude 1 16 (c - 1)
  nearest = no_farther p (c - 1) x (omega arith) (omega arith) (omega arith) (λ h. let k = w.out (omega arith) in omega arith) size_is

module _ {a b c d : ℕ} (o : Ordered a b c d) (kernel : ℤ → Known) where
  pub near_one : (p : ℕ) → (p < a) ⊎ (b < p) → ends a b c d kernel p ≡ names 0x4000
  unfolding ends
  near_one p w = ⊎_elim (λ h. rw (lt-ltb p a h)) (λ h. rw (le-ltb p a (omega arith), lt-ltb b p h)) w

  largest_from : (p : ℕ) → c ≤ p → p < 0x8000 → ends a b c d kernel p ≡ names 0x7fff
  unfolding ends
  largest_from p l h = rw (le-ltb p a (omega arith), le-ltb b p (omega arith), le-leb c p l, le-leb p 0x7fff (omega arith))

  smallest_to : (p : ℕ) → 0x8000 < p → p ≤ d → ends a b c d kernel p ≡ names 0x0001
  unfolding ends
  smallest_to p l h =
      rw (
        le-ltb p a (omega arith),
        le-ltb b p (omega arith),
        le-leb c p (omega arith),
        lt-leb p 0x7fff (omega arith),
        le-leb 0x8001 p (omega arith),
        le-leb p d h,
      )

  inside : (p : ℕ) → a ≤ p → p ≤ b → (c ≤ p → p < 0x8000 → ⊥) → (0x8000 < p → p ≤ d → ⊥) → ends a b c d kernel p ≡ otherwise kernel (number 1 16 p)
  unfolding ends
  inside p l h u v = go (dec_lt p c) (dec_lt 0x8000 p)
    where
      go : Dec (p < c) → Dec (0x8000 < p) → ends a b c d kernel p ≡ otherwise kernel (number 1 16 p)
      go (yes q) k = rw (le-ltb p a l, le-ltb b p h, lt-leb c p q, lt-leb 0x8001 p (omega arith))
      go (no q) (yes k) =
          rw (
            le-ltb p a l,
            le-ltb b p h,
            le-leb c p (omega arith),
            lt-leb p 0x7fff (omega arith),
            le-leb 0x8001 p (omega arith),
            lt-leb p d (omega (arith, v k)),
          )
      go (no q) (no k) =
          rw (le-ltb p a l, le-ltb b p h, le-leb c p (omega arith), lt-leb p 0x7fff (omega (arith, u (omega arith))), lt-leb 0x8001 p (omega arith))

  nar_itself : ends a b c d kernel 0x8000 ≡ names 0x8000
  nar_itself = inside 0x8000 (omega arith) (omega arith) (λ q r. omega arith) (λ q r. omega arith) ∙ ap (otherwise kernel) (number_nar 1 16)

  -- the largest and the smallest posit, and NaR between them
  past_ends : (p : ℕ) → c ≤ p → p ≤ d → ends a b c d kernel p ≡ names (beyond p)
  past_ends p l h = go (dec_lt p 0x8000) (dec_lt 0x8000 p)
    where
      go : Dec (p < 0x8000) → Dec (0x8000 < p) → ends a b c d kernel p ≡ names (beyond p)
      go (yes q) k = rw (lt-ltb p 0x8000 q) (largest_from p l q)
      go (no q) (yes k) = rw (le-ltb p 0x8000 (omega arith), lt-ltb 0x8000 p k) (smallest_to p k h)
      go (no q) (no k) =
          let e : p ≡ 0x8000 = omega arith in
          rw (le-ltb p 0x8000 (omega arith), le-ltb 0x8000 p (omega arith)) (ap (ends a b c d kernel) e ∙ nar_itself)

  by_kernel : (p : ℕ) → a ≤ p → p ≤ b → (c ≤ p → d < p) → ends a b c d kernel p ≡ rounds (kernel (with_sign (ltb 0x8000 p) (magnitude 1 16 (size 16 p))))
  by_kernel p l h out =
      inside p l h (λ q r. let k = out q in omega arith) (λ q r. let k = out (omega arith) in omega arith)
      ∙ ap (otherwise kernel) (number-signed 1 16 p (omega arith) (λ e. let k = out (omega arith) in omega arith))

  -- the answer is what posit::round_sided gives for the kernel's number, the parts of which were computed as f and n
  pub kernel_sided : {p s x f g n : ℕ} {e : ℤ} (K k : ℕ) (r : Sided) → Between a b c d p s x
      → kernel (with_sign (ltb 0x7fff p) x) ≡ dyadic (pos (K + g)) (pos n -ℤ pos k) → f ≡ g → n < 64 → e ≡ pos (n % 64) -ℤ pos k → mag e < 2 ^ 31
      → RoundsSided 1 16 (dyadic (pos (K + f)) (to_z w32 (of_z w32 e))) r → MeetsSided (ends a b c d kernel p) r
  kernel_sided {p = p} K k r w is u few v fits m =
      let power = to_z-of_z {w = w32} (record { sfits = fits }) ∙ v ∙ ap (λ (y : ℕ). pos y -ℤ pos k) (mod-eq_of_lt few) in
      rw (by_kernel p w.least w.most w.out, sym (λ i. kernel (with_sign (sign_bit p (not_nar o w) i) (size_is o w i))) ∙ is)
      (subst (λ (y : Known). RoundsSided 1 16 y r) (λ i. dyadic (pos (K + u i)) (power i)) m)

-- the ends c and d are as far from zero on both sides, so one test of the size s finds what lies past them
module _ {a b c d : ℕ} (o : Ordered a b c d) (p s : ℕ) (some : 0 < p) (small : p < 0x10000) (is : s ≡ cond (ltb 0x7fff p) (opposite 16 p) p) where
  plus : p ≤ 0x7fff → s ≡ p
  plus h = rw (le-ltb 0x7fff p h) at is

  minus : 0x7fff < p → s ≡ 0x10000 - p
  minus h = (rw (lt-ltb 0x7fff p h) at is) ∙ opposite_is 16 p some

  pub past_both : (kernel : ℤ → Known) → c ≤ s → ends a b c d kernel p ≡ names (beyond p)
  past_both kernel h = go (dec_lt 0x7fff p)
    where
      go : Dec (0x7fff < p) → ends a b c d kernel p ≡ names (beyond p)
      go (yes k) = let e = minus k in past_ends o kernel p (omega arith) (omega arith)
      go (no k) = let e = plus (omega arith) in past_ends o kernel p (omega arith) (omega arith)

  pub past_neither : s < c → c ≤ p → d < p
  past_neither h l = go (dec_lt 0x7fff p)
    where
      go : Dec (0x7fff < p) → d < p
      go (yes k) = let e = minus k in omega arith
      go (no k) = let e = plus (omega arith) in absurd (omega arith)

-- what is named outright without the kernel, and what is left to it
module _ {a b c d : ℕ} (o : Ordered a b c d) (p : ℕ) (small : p < 0x10000) where
  abbrev s : ℕ
  s = cond (ltb 0x7fff p) (opposite 16 p) p

  pub named_is : (kernel : ℤ → Known) (u : ℕ) → named a b c p ≡ Some u → ends a b c d kernel p ≡ names u
  named_is kernel u e = go (dec_lt p a) (dec_lt b p) (dec_lt s c)
    where
      go : Dec (p < a) → Dec (b < p) → Dec (s < c) → ends a b c d kernel p ≡ names u
      go (yes h) l k = let n = near_one o kernel p (inl h) in let f = rw (lt-ltb p a h) at e in cc
      go (no h) (yes l) k = let n = near_one o kernel p (inr l) in let f = rw (le-ltb p a (omega arith), lt-ltb b p l) at e in cc
      go (no h) (no l) (yes k) = let f = rw (le-ltb p a (omega arith), le-ltb b p (omega arith), lt-leb c s k) at e in cc
      go (no h) (no l) (no k) =
          let n = past_both o p s (omega arith) small refl kernel (omega arith) in
          let f = rw (le-ltb p a (omega arith), le-ltb b p (omega arith), le-leb c s (omega arith)) at e in
          cc

  pub none_named : named a b c p ≡ None → (a ≤ p) × (p ≤ b) × (c ≤ p → d < p)
  none_named e = go (dec_lt p a) (dec_lt b p) (dec_lt s c)
    where
      go : Dec (p < a) → Dec (b < p) → Dec (s < c) → (a ≤ p) × (p ≤ b) × (c ≤ p → d < p)
      go (yes h) l k = let f = rw (lt-ltb p a h) at e in cc
      go (no h) (yes l) k = let f = rw (le-ltb p a (omega arith), lt-ltb b p l) at e in cc
      go (no h) (no l) (yes k) = (omega arith, omega arith, past_neither o p s (omega arith) small refl k)
      go (no h) (no l) (no k) =
          let f = rw (le-ltb p a (omega arith), le-ltb b p (omega arith), le-leb c s (omega arith)) at e in
          cc

-- z + 32 * M * m is t: what is rounded, by the floor of floor(z / m) / M and the rest, is known by those of t
module _ (z : ℤ) (m M t : ℕ) (some : 0 < m) (more : 0 < M) (moved : z +ℤ pos (32 * M * m) ≡ pos t) where
  once : Floors z (32 * M) m t
  once = floors z (32 * M) m t some moved

  twice : Floors (floor z m) 32 M (t / m)
  twice = floors (floor z m) 32 M (t / m) more once.whole

  power_moved : (e : ℕ) → floor (floor z m) M -ℤ pos (suc e) ≡ pos (t / m / M) +ℤ negsuc (suc (31 + e))
  power_moved e =
      ap (λ (x : ℤ). x -ℤ pos (suc e)) (moved_back (floor (floor z m) M) 32 (t / m / M) twice.whole)
      ∙ +ℤ_assoc (pos (t / m / M)) (negsuc 31) (negsuc e)

  pub parts_moved : (K e : ℕ) (poly : ℕ → ℕ) → dyadic (pos (K + poly (modulo (floor z m) M))) (floor (floor z m) M -ℤ pos (suc e))
      ≡ dyadic (pos (K + poly (t / m % M))) (pos (t / m / M) +ℤ negsuc (suc (31 + e)))
  parts_moved K e poly = λ i. dyadic (pos (K + poly (twice.rest i))) (power_moved e i)
