-- The laws of the side: an answer has one, it mirrors under the sign, it tells with the answer where the number lies and how far
-- off it can be, it is On just where the number is a posit's own, and what it is past the ends.
use Rattle.std.proofs.Common.{◌≡◌, ℕ, zero, suc, ◌+◌, ◌-◌, ◌*◌, ◌^◌, ◌<◌, ◌≤◌, ◌⊎◌, ℤ, pos, negsuc, sym, refl, ap, ◌∙◌, subst, inl, inr, ⊎_elim, mul_assoc, eq-or-lt_of_le, mul_right_comm, arith, lit≤, pow_pos, pow-add}
use Prim.Native.Nat.{compare, Ordering}
use mathlib.Core.Path.{subst⁻¹}
use lib.Ieee.{up, down}
use Rattle.posit.specs.Number.{magnitude, unit, opposite}
use Rattle.posit.specs.Rounding.{Cut, ratio, Known, nought, plus, minus, Reached, Enough, Rounds, negated, dyadic, dividing, divides, largest}
use Rattle.posit.specs.Sides.{stands, lies, mirrored, side_of, RoundsSided, negated_sided, Leaves, Told, Tells, Own}
use Rattle.posit.specs.declared.side.Side.{Side}
use Rattle.posit.specs.declared.side.Side.TheVariants.{Below, On, Above}
use Rattle.posit.specs.declared.side.Sided.{Sided}
use Rattle.posit.proofs.Complement.{opposite_twice}
use Rattle.posit.proofs.Compare.{OneWay, compare_times}
use Rattle.posit.proofs.Widths.{finer, below-dividing, above-dividing}
use Rattle.posit.proofs.Laws.{Straight, dyadic_straight, one_answer, mirrors}

-- any two pairs that the rule allows are equal
pub one_sided : (es n : ℕ) → 3 ≤ n → (x : Known) → Straight x → (a b : Sided) → RoundsSided es n x a → RoundsSided es n x b → a ≡ b
one_sided es n few x w a b ra rb =
    let e = one_answer es n few x w a.pattern b.pattern ra.0 rb.0 in
    let s : a.side ≡ b.side = ra.1 ∙ ap (side_of es n x) e ∙ sym rb.1 in
    λ i. record { pattern = e i; side = s i }

mirrored_twice : (s : Side) → mirrored (mirrored s) ≡ s
mirrored_twice Below = refl
mirrored_twice On = refl
mirrored_twice Above = refl

-- minus a number has minus the answer, on the other side
pub mirrors_sided : (es : ℕ) (x : Known) (a : Sided) → RoundsSided es 16 x a → RoundsSided es 16 (negated x) (negated_sided a)
mirrors_sided es x a r = (mirrors es 16 (lit≤ tt) x a.pattern r.0, ap mirrored r.1 ∙ side x r.0)
  where
    side : (x : Known) → Rounds es 16 x a.pattern → mirrored (side_of es 16 x a.pattern) ≡ side_of es 16 (negated x) (opposite 16 a.pattern)
    side nought m = refl
    side (plus c) m =
        let l = m.least in
        let h = m.most in
        ap (λ (u : ℕ). mirrored (lies (stands es 16 c u))) (sym (opposite_twice 16 a.pattern l (omega arith)))
    side (minus c) m = mirrored_twice (lies (stands es 16 c (opposite 16 a.pattern)))

-- A cut that tells of one number the same however it is written: d / 2 ^ k is d * 2 ^ j / 2 ^ (k + j). A real number's cut does.
abbrev pub Scales : Cut → Type 0
Scales c = (d k j : ℕ) → c (d * 2 ^ j) (k + j) ≡ c d k

pub ratio_scales : (a b : ℕ) → Scales (ratio a b)
ratio_scales a b d k j =
    (λ i. compare (mul_right_comm d (2 ^ j) b i) ((ap (λ (x : ℕ). a * x) (pow-add 2 k j) ∙ sym (mul_assoc a (2 ^ k) (2 ^ j))) i))
    ∙ sym (compare_times (d * b) (a * 2 ^ k) (2 ^ j) (pow_pos j))

told : (es n : ℕ) (c : Cut) (a : Sided) → RoundsSided es n (plus c) a → Told es n c a.pattern a.side
told es n c a r =
    record { least = r.0.least; most = r.0.most; leaves = subst⁻¹ (Leaves es n c a.pattern) r.1 (by (stands es n c a.pattern) refl) }
  where
    by : (o : Ordering) → stands es n c a.pattern ≡ o → Leaves es n c a.pattern (lies o)
    by Ordering.lt e = (e, r.0.enough)
    by Ordering.eq e = e
    by Ordering.gt e = (e, r.0.reached)

module _ (es n : ℕ) (few : 3 ≤ n) (c : Cut) (w : OneWay c) (sc : Scales c) where
  -- the posit u among the dividing numbers, which are counted in finer units
  module _ (u : ℕ) (lo : 1 ≤ u) (hi : u ≤ largest n) where
    abbrev M : ℕ
    M = magnitude es n u * 2 ^ (2 ^ es)

    finely : c M (unit es (n + 1)) ≡ stands es n c u
    finely = ap (c M) (finer es n few) ∙ sc (magnitude es n u) (unit es n) (2 ^ es)

    no-smaller : (stands es n c u ≡ Ordering.gt → ⊥) → (u ≡ 1) ⊎ Reached (divides es n c (u - 1)) u
    no-smaller not_above =
        ⊎_elim (λ e. inl (sym e))
        (λ (h : 1 < u).
        let l : dividing es n (u - 1) < M = subst (λ (x : ℕ). dividing es n (u - 1) < magnitude es n x * 2 ^ (2 ^ es))
        (let e : suc (u - 1) ≡ u = omega arith in e) (above-dividing es n (u - 1) few (omega arith) (omega arith)) in
        ⊎_elim (λ g. absurd (not_above (sym finely ∙ g))) (λ g. inr (subst⁻¹ (λ (x : Ordering). Reached x u) g tt))
        (w (dividing es n (u - 1)) M (unit es (n + 1)) l))
        (eq-or-lt_of_le lo)

    no_larger : (stands es n c u ≡ Ordering.lt → ⊥) → (u ≡ largest n) ⊎ Enough (divides es n c u) u
    no_larger not_below =
        ⊎_elim (λ g. inr (subst⁻¹ (λ (x : Ordering). Enough x u) g tt)) (λ g. absurd (not_below (sym finely ∙ g)))
        (w M (dividing es n u) (unit es (n + 1)) (below-dividing es n u few lo hi))

  untold : (u : ℕ) (s : Side) → Told es n c u s → RoundsSided es n (plus c) (record { pattern = u; side = s })
  untold u s t = by s t.leaves
    where
      by : (s : Side) → Leaves es n c u s → RoundsSided es n (plus c) (record { pattern = u; side = s })
      by Below l = (
        record { least = t.least; most = t.most; reached = no-smaller u t.least t.most (λ g. cc (l.0)); enough = l.1 },
        ap lies (sym l.0),
      )
      by On l = (
        record {
          least = t.least;
          most = t.most;
          reached = no-smaller u t.least t.most (λ g. cc);
          enough = no_larger u t.least t.most (λ g. cc);
        },
        ap lies (sym l),
      )
      by Above l = (
        record { least = t.least; most = t.most; reached = l.1; enough = no_larger u t.least t.most (λ g. cc (l.0)) },
        ap lies (sym l.0),
      )

-- a number whose cut goes one way and scales
abbrev pub Steady : Known → Type 0
Steady nought = Unit {0}
Steady (plus c) = OneWay c × Scales c
Steady (minus c) = OneWay c × Scales c

pub dyadic_steady : (k e : ℤ) → Steady (dyadic k e)
dyadic_steady (pos zero) e = tt
dyadic_steady (pos (suc k)) e = (dyadic_straight (pos (suc k)) e, ratio_scales (suc k * up e) (down e))
dyadic_steady (negsuc k) e = (dyadic_straight (negsuc k) e, ratio_scales (suc k * up e) (down e))

steady_straight : (x : Known) → Steady x → Straight x
steady_straight nought t = t
steady_straight (plus c) t = t.0
steady_straight (minus c) t = t.0

-- an answer and its side tell where the number lies and how far off it can be
pub tells : (es n : ℕ) (x : Known) (a : Sided) → RoundsSided es n x a → Tells es n x a.pattern a.side
tells es n nought a r = r
tells es n (plus c) a r = told es n c a r
tells es n (minus c) a r =
    told es n c (record { pattern = opposite n a.pattern; side = mirrored a.side })
    (r.0, ap mirrored r.1 ∙ mirrored_twice (lies (stands es n c (opposite n a.pattern))))

-- and whatever pattern and side tell the truth of a number are its answer
pub untells : (es n : ℕ) → 3 ≤ n → (x : Known) → Steady x → (u : ℕ) (s : Side) → Tells es n x u s → RoundsSided es n x (record { pattern = u; side = s })
untells es n few nought t u s m = m
untells es n few (plus c) t u s m = untold es n few c t.0 t.1 u s m
untells es n few (minus c) t u s m =
    let r = untold es n few c t.0 t.1 (opposite n u) (mirrored s) m in
    (r.0, sym (mirrored_twice s) ∙ ap mirrored r.1)

-- it is On just where the number is a posit's own
pub on_own : (es n : ℕ) (x : Known) (a : Sided) → RoundsSided es n x a → a.side ≡ On → Own es n x a.pattern
on_own es n x a r e = subst (Tells es n x a.pattern) e (tells es n x a r)

pub own_on : (es n : ℕ) → 3 ≤ n → (x : Known) → Steady x → (u : ℕ) → Own es n x u → (a : Sided) → RoundsSided es n x a → a ≡ record { pattern = u; side = On }
own_on es n few x t u m a r = one_sided es n few x (steady_straight x t) a (record { pattern = u; side = On }) r (untells es n few x t u On m)

-- past the ends: the largest posit lies below every number above it, the smallest above every one below it
module _ (es n : ℕ) (few : 3 ≤ n) (some : 1 ≤ largest n) (c : Cut) (t : Steady (plus c)) (a : Sided) (r : RoundsSided es n (plus c) a) where
  pub past_the_largest : stands es n c (largest n) ≡ Ordering.lt → a ≡ record { pattern = largest n; side = Below }
  past_the_largest h =
      one_sided es n few (plus c) t.0 a (record { pattern = largest n; side = Below }) r
      (untells es n few (plus c) t (largest n) Below (record { least = some; most = omega arith; leaves = (h, inl refl) }))

  pub short_of_the_smallest : stands es n c 1 ≡ Ordering.gt → a ≡ record { pattern = 1; side = Above }
  short_of_the_smallest h =
      one_sided es n few (plus c) t.0 a (record { pattern = 1; side = Above }) r
      (untells es n few (plus c) t 1 Above (record { least = omega arith; most = some; leaves = (h, inl refl) }))
