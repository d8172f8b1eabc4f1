-- Of finite f64s "before" is what IEEE 754's comparisons say, so that code may test it by these.
use Prim.Native.Nat.{ℕ, ◌+◌, ◌*◌, ◌≤◌, ◌<◌}
use mathlib.Core.Path.{◌≡◌}
use mathlib.Core.Bool.{Bool, true, false, ◌&&◌, ◌||◌}
use mathlib.Core.Logic.Iff
use mathlib.Core.Logic.{◌↔◌, ⊎_elim}
use native.Mathlib.Omega.{arith}
use native.Mathlib.Nat.{eq-or-lt_of_le}
use native.Mathlib.Decide.{dec_lt}
use lib.Dec.{T, ltb, eqb, ltb→lt, lt→ltb, eqb→eq}
use lib.Ieee.{Float, nan, inf, fin, up, down, below, level, lt, le}
use lib.Ieee.Fits.{and_i, and_l, and_r, eq→eqb}
use lib.Ieee.Scale.{finite}
use Rattle.spans.specs.declared.edges.Edge.{Edge}
use Rattle.spans.specs.declared.edges.Edge.TheVariants.{Missing, Excluded, Included}
use Rattle.span_laws.specs.LiesIn.{Before}
use Rattle.span_laws.proofs.Order.{Less, AtMost, sized}

either : (p q : Bool) {P : Type 0} → T (p || q) → (T p → P) → (T q → P) → P
either true q t f g = f tt
either false q t f g = g t

left : (p q : Bool) → T p → T (p || q)
left true q t = tt
left false q t = absurd t

right : (p q : Bool) → T q → T (p || q)
right true q t = tt
right false q t = t

is_below : (s : Bool) (a : ℕ) (t : Bool) (b : ℕ) → Less s a t b ↔ T (below s a t b)
is_below false a false b = (lt→ltb a b, ltb→lt a b)
is_below false a true b = (λ h. h, λ h. h)
is_below true a false b = (lt→ltb 0 (a + b), ltb→lt 0 (a + b))
is_below true a true b = (lt→ltb b a, ltb→lt b a)

-- of two natural numbers; `same` is the second test of the two, where the signs are alike
at_most : (a b : ℕ) (same : Bool) → (a ≡ b → T same) → (T same → a ≡ b) → (a ≤ b) ↔ T (ltb a b || same)
at_most a b same f g = (
  λ h. ⊎_elim (λ e. right (ltb a b) same (f e)) (λ l. left (ltb a b) same (lt→ltb a b l)) (eq-or-lt_of_le h),
  λ h. either (ltb a b) same h (λ l. let k = ltb→lt a b l in omega arith) (λ t. let k = g t in omega arith),
)

-- of two that are both zero
both_zero : (a b : ℕ) → (a + b ≡ 0) ↔ T (eqb a b && eqb a 0)
both_zero a b = (
  λ h. and_i (eqb a b) (eqb a 0) (eq→eqb {a = a} {b = b} (omega arith)) (eq→eqb {a = a} {b = 0} (omega arith)),
  λ h. let k = eqb→eq a b (and_l (eqb a b) (eqb a 0) h) in let z = eqb→eq a 0 (and_r (eqb a b) (eqb a 0) h) in omega arith,
)

is_at_most : (s : Bool) (a : ℕ) (t : Bool) (b : ℕ) → AtMost s a t b ↔ T (below s a t b || level s a t b)
is_at_most false a false b =
    at_most a b (level false a false b) (λ e. and_i (eqb a b) true (eq→eqb e) tt) (λ t. eqb→eq a b (and_l (eqb a b) true t))
is_at_most false a true b = both_zero a b
is_at_most true a false b = (λ h. go (dec_lt 0 (a + b)), λ h. tt)
  where
    go : Dec (0 < a + b) → T (ltb 0 (a + b) || level true a false b)
    go (yes l) = left (ltb 0 (a + b)) (level true a false b) (lt→ltb 0 (a + b) l)
    go (no l) = right (ltb 0 (a + b)) (level true a false b) ((both_zero a b).0 (omega arith))
is_at_most true a true b =
    at_most b a (level true a true b) (λ e. and_i (eqb a b) true (eq→eqb {a = a} {b = b} (omega arith)) tt)
    (λ t. let k = eqb→eq a b (and_l (eqb a b) true t) in omega arith)

-- the test at an edge
abbrev pub Tested : Edge → Float → Float → Type 0
Tested Missing x y = Unit {0}
Tested Excluded x y = T (lt x y)
Tested Included x y = T (le x y)

pub compared : (κ : Edge) (x y : Float) → T (finite x) → T (finite y) → Before κ x y ↔ Tested κ x y
unfolding lt le
compared κ nan y f g = absurd f
compared κ (inf s) y f g = absurd f
compared κ (fin s m e) nan f g = absurd g
compared κ (fin s m e) (inf t) f g = absurd g
compared Missing (fin s m e) (fin t n d) f g = (λ h. h, λ h. h)
compared Excluded (fin s m e) (fin t n d) f g =
    Iff.trans (sized Excluded s (m * up e * down d) t (n * up d * down e)) (is_below s (m * up e * down d) t (n * up d * down e))
compared Included (fin s m e) (fin t n d) f g =
    Iff.trans (sized Included s (m * up e * down d) t (n * up d * down e)) (is_at_most s (m * up e * down d) t (n * up d * down e))
