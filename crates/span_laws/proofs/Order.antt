-- Whole numbers with signs in order, and the same in natural numbers by the two signs, where omega takes it.
use Prim.Native.Nat.{ℕ, zero, suc, ◌+◌, ◌*◌, ◌≤◌, ◌<◌}
use mathlib.Core.Path.{◌≡◌, subst, sym}
use mathlib.Core.Bool.{Bool, true, false, not}
use mathlib.Core.Logic.Iff
use mathlib.Core.Logic.{◌↔◌}
use native.Mathlib.Omega.{arith}
use native.Mathlib.Nat.{add-mul, zero-mul, mul-pos, mul-lt-mul_of_pos_right, mul-le-mul_right, lt_of_mul-lt-mul_right, le_of_mul-le-mul_right}
use lib.Dec.{ltb→lt, lt→ltb, leb→le, le→leb}
use lib.Signed.{◌≤ℤ◌, ◌<ℤ◌}
use Rattle.posit.specs.Number.{with_sign}
use Rattle.spans.specs.declared.edges.Edge.{Edge}
use Rattle.spans.specs.declared.edges.Edge.TheVariants.{Missing, Excluded, Included}
use Rattle.span_laws.specs.LiesIn.{Ordered}

abbrev pub Less : Bool → ℕ → Bool → ℕ → Type 0
Less false a false b = a < b
Less false a true b = ⊥
Less true a false b = 0 < a + b
Less true a true b = b < a

abbrev pub AtMost : Bool → ℕ → Bool → ℕ → Type 0
AtMost false a false b = a ≤ b
AtMost false a true b = a + b ≡ 0
AtMost true a false b = Unit {0}
AtMost true a true b = b ≤ a

less : (s : Bool) (a : ℕ) (t : Bool) (b : ℕ) → with_sign s a <ℤ with_sign t b → Less s a t b
less false a false b h = ltb→lt a b h.lt
less false a true zero h = let k = ltb→lt a 0 h.lt in omega arith
less false a true (suc b) h = h.lt
less true zero false b h = let k = ltb→lt 0 b h.lt in omega arith
less true (suc a) false b h = omega arith
less true zero true zero h = let k = ltb→lt 0 0 h.lt in omega arith
less true zero true (suc b) h = absurd h.lt
less true (suc a) true zero h = omega arith
less true (suc a) true (suc b) h = let k = ltb→lt b a h.lt in omega arith

from_less : (s : Bool) (a : ℕ) (t : Bool) (b : ℕ) → Less s a t b → with_sign s a <ℤ with_sign t b
from_less false a false b h = record { lt = lt→ltb a b h }
from_less false a true b h = absurd h
from_less true zero false b h = record { lt = lt→ltb 0 b (omega arith) }
from_less true (suc a) false b h = record { lt = tt }
from_less true zero true b h = absurd (omega arith)
from_less true (suc a) true zero h = record { lt = tt }
from_less true (suc a) true (suc b) h = record { lt = lt→ltb b a (omega arith) }

at_most : (s : Bool) (a : ℕ) (t : Bool) (b : ℕ) → with_sign s a ≤ℤ with_sign t b → AtMost s a t b
at_most false a false b h = leb→le a b h.le
at_most false a true zero h = let k = leb→le a 0 h.le in omega arith
at_most false a true (suc b) h = absurd h.le
at_most true a false b h = tt
at_most true a true zero h = omega arith
at_most true zero true (suc b) h = absurd h.le
at_most true (suc a) true (suc b) h = let k = leb→le b a h.le in omega arith

from_at_most : (s : Bool) (a : ℕ) (t : Bool) (b : ℕ) → AtMost s a t b → with_sign s a ≤ℤ with_sign t b
from_at_most false a false b h = record { le = le→leb a b h }
from_at_most false a true zero h = record { le = le→leb a 0 (omega arith) }
from_at_most false a true (suc b) h = absurd (omega arith)
from_at_most true zero false b h = record { le = le→leb 0 b (omega arith) }
from_at_most true (suc a) false b h = record { le = tt }
from_at_most true zero true zero h = record { le = tt }
from_at_most true zero true (suc b) h = absurd (omega arith)
from_at_most true (suc a) true zero h = record { le = tt }
from_at_most true (suc a) true (suc b) h = record { le = le→leb b a (omega arith) }

-- ±a before ±b
abbrev pub Sized : Edge → Bool → ℕ → Bool → ℕ → Type 0
Sized Missing s a t b = Unit {0}
Sized Excluded s a t b = Less s a t b
Sized Included s a t b = AtMost s a t b

pub sized : (κ : Edge) (s : Bool) (a : ℕ) (t : Bool) (b : ℕ) → Ordered κ (with_sign s a) (with_sign t b) ↔ Sized κ s a t b
sized Missing s a t b = (λ h. h, λ h. h)
sized Excluded s a t b = (less s a t b, from_less s a t b)
sized Included s a t b = (at_most s a t b, from_at_most s a t b)

-- with the sign changed, the other way around
pub turned : (κ : Edge) (s : Bool) (a : ℕ) (t : Bool) (b : ℕ) → Sized κ s a t b → Sized κ (not t) b (not s) a
turned Missing s a t b h = tt
turned Excluded false a false b h = h
turned Excluded false a true b h = h
turned Excluded true a false b h = omega arith
turned Excluded true a true b h = h
turned Included false a false b h = h
turned Included false a true b h = omega arith
turned Included true a false b h = tt
turned Included true a true b h = h

-- zero has no sign
pub no_sign : (κ : Edge) (s : Bool) (a z : ℕ) → z ≡ 0 → Sized κ s a false z ↔ Sized κ s a true z
no_sign Missing s a z e = (λ h. h, λ h. h)
no_sign Excluded false a z e = (λ h. omega arith, λ h. absurd h)
no_sign Excluded true a z e = (λ h. omega arith, λ h. omega arith)
no_sign Included false a z e = (λ h. omega arith, λ h. omega arith)
no_sign Included true a z e = (λ h. omega arith, λ h. tt)

pub no_sign_first : (κ : Edge) (z : ℕ) (t : Bool) (b : ℕ) → z ≡ 0 → Sized κ false z t b ↔ Sized κ true z t b
no_sign_first Missing z t b e = (λ h. h, λ h. h)
no_sign_first Excluded z false b e = (λ h. omega arith, λ h. omega arith)
no_sign_first Excluded z true b e = (λ h. absurd h, λ h. omega arith)
no_sign_first Included z false b e = (λ h. tt, λ h. omega arith)
no_sign_first Included z true b e = (λ h. omega arith, λ h. omega arith)

-- over another denominator
module _ (c : ℕ) (some : 0 < c) where
  sum_some : (a b : ℕ) → (0 < a * c + b * c) ↔ (0 < a + b)
  sum_some a b =
      let e = add-mul a b c in
      (λ h. lt_of_mul-lt-mul_right c (let z = zero-mul c in omega arith), λ h. let k = mul-pos h some in omega arith)

  sum_none : (a b : ℕ) → (a * c + b * c ≡ 0) ↔ (a + b ≡ 0)
  sum_none a b =
      let e = add-mul a b c in
      let z = zero-mul c in (
        λ h. let k : a + b ≤ 0 = le_of_mul-le-mul_right {k = c} (omega arith) some in omega arith,
        λ h. let k : (a + b) * c ≤ 0 * c = mul-le-mul_right c (omega arith) in omega arith,
      )

  times : (κ : Edge) (s : Bool) (a : ℕ) (t : Bool) (b : ℕ) → Sized κ s (a * c) t (b * c) ↔ Sized κ s a t b
  times Missing s a t b = (λ h. h, λ h. h)
  times Excluded false a false b = (λ h. lt_of_mul-lt-mul_right c h, λ h. mul-lt-mul_of_pos_right h some)
  times Excluded false a true b = (λ h. h, λ h. h)
  times Excluded true a false b = sum_some a b
  times Excluded true a true b = (λ h. lt_of_mul-lt-mul_right c h, λ h. mul-lt-mul_of_pos_right h some)
  times Included false a false b = (λ h. le_of_mul-le-mul_right h some, λ h. mul-le-mul_right c h)
  times Included false a true b = sum_none a b
  times Included true a false b = (λ h. h, λ h. h)
  times Included true a true b = (λ h. le_of_mul-le-mul_right h some, λ h. mul-le-mul_right c h)

-- two pairs of whole numbers that are the same two fractions
pub same_order : (κ : Edge) (s : Bool) (a : ℕ) (t : Bool) (b a' b' c c' : ℕ) → 0 < c → 0 < c' → a * c ≡ a' * c' → b * c ≡ b' * c'
    → Ordered κ (with_sign s a) (with_sign t b) ↔ Sized κ s a' t b'
same_order κ s a t b a' b' c c' p p' e f =
    Iff.trans (sized κ s a t b)
    (Iff.trans (Iff.symm (times c p κ s a t b)) (subst (λ (x : ℕ). Sized κ s x t (b * c) ↔ Sized κ s a' t b') (sym e)
    (subst (λ (x : ℕ). Sized κ s (a' * c') t x ↔ Sized κ s a' t b') (sym f) (times c' p' κ s a' t b'))))
