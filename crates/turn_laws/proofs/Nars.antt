-- "A NaR anywhere in angles or arm makes all three parts NaR", and nothing else does: of real angles and a real arm no step
-- answers NaR, nor anything beyond sixteen bits.
use Prim.Native.Nat.{ℕ, ◌<◌}
use mathlib.Core.Path.{◌≡◌, ◌∙◌, ap, sym}
use mathlib.Core.Bool.{true, ◌||◌}
use native.Mathlib.Omega.{arith}
use borrow.Author.Tests.{ne_eqb}
use lib.Dec.{lit≤}
use Rattle.posit.specs.Number.{number, size, opposite}
use Rattle.posit.proofs.Complement.{opposite_twice, opposite_some}
use Rattle.posit.proofs.Exists.{answered}
use Rattle.posit.proofs.Laws.{never_nar}
use Rattle.rows.specs.Rows.{Row, names, rounds, within, opposed}
use Rattle.rows.proofs.Straight.{of_either, of_sign}
use Rattle.p16e1.specs.Functions.{row_of, answer_to, answer_of}
use Rattle.circular.specs.SinPi as SinPi
use Rattle.circular.specs.CosPi as CosPi
use Rattle.circular.proofs.Waves.{of_sine, of_cosine}
use Rattle.arithmetic.specs.Operations.{sum, product}
use Rattle.arithmetic.specs.Sizes.{signed_units}
use Rattle.arithmetic.proofs.Exact.{number_units}
use Rattle.arithmetic.proofs.Opposites.{opposite_fits}
use Rattle.arithmetic.proofs.Laws.{nar_itself}
use Rattle.turning.specs.Turn.{Three, Matrix, three, part, row, column, rounded_sum, rounded_product, sine, cosine, entry, row_times_of, matrix_times_of, arm_times_of}
use Rattle.turning.specs.Turn.{heading_matrix_of, pitch_matrix_of, roll_matrix_of, any_nar_of, turned}

-- a pattern of sixteen bits that is not NaR
abbrev pub Real : ℕ → Type 0
Real p = (p < 0x10000) × (p ≡ 0x8000 → ⊥)

pub zero_real : Real 0
zero_real = (omega arith, λ e. omega arith)

one_real : Real 0x4000
one_real = (omega arith, λ e. omega arith)

-- a row that does not answer NaR
abbrev Sound : Row → Type 0
Sound (names u) = Real u
Sound (rounds x) = Unit {0}

sound_answer : (w : Row) → Sound w → Real (answer_to w)
sound_answer (names u) s = s
sound_answer (rounds x) s =
    let m = answered 1 16 (lit≤ tt) x in
    never_nar 1 16 (lit≤ tt) x (answer_to (rounds x)) m

minus_real : (p : ℕ) → Real p → Real (opposite 16 p)
minus_real p r = (
  opposite_fits p,
  λ e. let s = opposite_some 16 p (omega (arith, e)) in r.1 (sym (opposite_twice 16 p s.0 s.1) ∙ ap (opposite 16) e ∙ nar_itself),
)

opposed_sound : (w : Row) → Sound w → Sound (opposed w)
opposed_sound (names u) s = minus_real u s
opposed_sound (rounds x) s = tt

sine_real : (p : ℕ) → Real p → Real (sine p)
unfolding answer_of row_of SinPi.row
sine_real p r =
    sound_answer (SinPi.row p)
    (of_either Sound (within 31744 0x7fff (size 16 p)) (names 0) (SinPi.otherwise (number 1 16 p)) zero_real
    (rw (number_units p r.1)
    (of_sign Sound opposed_sound SinPi.sine (of_sine Sound opposed_sound zero_real one_real (λ k q. tt)) (signed_units p))))

cosine_real : (p : ℕ) → Real p → Real (cosine p)
unfolding answer_of row_of CosPi.row
cosine_real p r = sound_answer (CosPi.row p) (rw (number_units p r.1) (of_cosine Sound opposed_sound zero_real one_real (λ k q. tt) _))

sum_real : (a b : ℕ) → Real a → Real b → Real (rounded_sum a b)
unfolding rounded_sum sum
sum_real a b r s = sound_answer (sum a b) (rw (number_units a r.1, number_units b s.1) tt)

product_real : (a b : ℕ) → Real a → Real b → Real (rounded_product a b)
unfolding rounded_product product
product_real a b r s = sound_answer (product a b) (rw (number_units a r.1, number_units b s.1) tt)

abbrev pub Reals : Three → Type 0
Reals a = Real (part 0 a) × Real (part 1 a) × Real (part 2 a)

abbrev RealRows : Matrix → Type 0
RealRows m = Reals (row 0 m) × Reals (row 1 m) × Reals (row 2 m)

entry_real : (a b : Three) → Reals a → Reals b → Real (entry a b)
unfolding entry
entry_real a b r s =
    let first = product_real (part 0 a) (part 0 b) r.0 s.0 in
    let second = product_real (part 1 a) (part 1 b) r.1 s.1 in
    let third = product_real (part 2 a) (part 2 b) r.2 s.2 in
    sum_real _ _ (sum_real _ _ first second) third

row_real : (a : Three) (n : Matrix) → Reals a → RealRows n → Reals (row_times_of a n)
row_real a n r s =
    let column-real : (k : ℕ) → Real (part k (row 0 n)) → Real (part k (row 1 n)) → Real (part k (row 2 n)) → Real (entry a (column k n))
    = λ k x y z. entry_real a (column k n) r (x, y, z) in
    (column-real 0 s.0.0 s.1.0 s.2.0, column-real 1 s.0.1 s.1.1 s.2.1, column-real 2 s.0.2 s.1.2 s.2.2)

matrix_real : (m n : Matrix) → RealRows m → RealRows n → RealRows (matrix_times_of m n)
unfolding matrix_times_of
matrix_real m n r s = (row_real (row 0 m) n r.0 s, row_real (row 1 m) n r.1 s, row_real (row 2 m) n r.2 s)

arm_real : (m : Matrix) (arm : Three) → RealRows m → Reals arm → Reals (arm_times_of m arm)
arm_real m arm r s = (entry_real (row 0 m) arm r.0 s, entry_real (row 1 m) arm r.1 s, entry_real (row 2 m) arm r.2 s)

module _ (p : ℕ) (r : Real p) where
  s : Real (sine p)
  s = sine_real p r

  c : Real (cosine p)
  c = cosine_real p r

  m : Real (opposite 16 (sine p))
  m = minus_real (sine p) s

  heading_real : RealRows (heading_matrix_of p)
  heading_real = ((c, m, zero_real), (s, c, zero_real), (zero_real, zero_real, one_real))

  pitch_real : RealRows (pitch_matrix_of p)
  pitch_real = ((c, zero_real, s), (zero_real, one_real, zero_real), (m, zero_real, c))

  roll_real : RealRows (roll_matrix_of p)
  roll_real = ((one_real, zero_real, zero_real), (zero_real, c, m), (zero_real, s, c))

module _ (heading pitch roll : ℕ) (arm : Three) where
  pub nar_anywhere : any_nar_of (three heading pitch roll) || any_nar_of arm ≡ true → turned heading pitch roll arm ≡ three 0x8000 0x8000 0x8000
  unfolding turned
  nar_anywhere e = rw e

  pub nar_nowhere : Reals (three heading pitch roll) → Reals arm → Reals (turned heading pitch roll arm)
  unfolding turned
  nar_nowhere (h, p, r) x =
      rw (
        ne_eqb heading 0x8000 h.1,
        ne_eqb pitch 0x8000 p.1,
        ne_eqb roll 0x8000 r.1,
        ne_eqb (part 0 arm) 0x8000 x.0.1,
        ne_eqb (part 1 arm) 0x8000 x.1.1,
        ne_eqb (part 2 arm) 0x8000 x.2.1,
      )
      (let first = matrix_times_of (heading_matrix_of heading) (pitch_matrix_of pitch) in
      let first-real = matrix_real (heading_matrix_of heading) (pitch_matrix_of pitch) (heading_real heading h) (pitch_real pitch p) in
      arm_real (matrix_times_of first (roll_matrix_of roll)) arm (matrix_real first (roll_matrix_of roll) first-real (roll_real roll r)) x)
