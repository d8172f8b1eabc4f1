-- The checked points of document 01 hold, two more points of each function, and where some answers lie: each by computing the
-- number, or the answer that `answered` shows to be the rule's.
use Prim.Native.Nat.{ℕ}
use mathlib.Core.Path.{refl}
use lib.Count.{count_leading_zeros}
use lib.Dec.{lit≤}
use lib.IntN.{ℤ, pos, negsuc}
use Rattle.posit.specs.Number.{run, magnitude, opposite, number}
use Rattle.posit.specs.Rounding.{dyadic, Rounds}
use Rattle.posit.specs.Answer.{descend, answer}
use Rattle.posit.proofs.Exists.{answered}
use Rattle.rows.specs.Rows.{Meets, MeetsSided}
use Rattle.p16e1.specs.Functions.{row_of, answer_to, sided_to}
use Rattle.exponential.specs.Ends.{ends}
use Rattle.logarithm.specs.Leading as Leading
use Rattle.arc.specs.Root.{root}
use Rattle.exponential.specs.Exp as Exp
use Rattle.exponential.specs.Exp2 as Exp2
use Rattle.logarithm.specs.Ln as Ln
use Rattle.logarithm.specs.Log2 as Log2
use Rattle.circular.specs.SinPi as SinPi
use Rattle.circular.specs.CosPi as CosPi
use Rattle.circular.specs.TanPi as TanPi
use Rattle.arc.specs.AtanPi as AtanPi
use Rattle.arc.specs.AsinPi as AsinPi
use Rattle.arc.specs.AcosPi as AcosPi
use Rattle.p16e1.specs.Points.{Every, table}
use Rattle.p16e1.specs.TwoPoints.{two_each_of}
use Rattle.p16e1.specs.SidedPoints.{sides}
use Rattle.p16e1.proofs.ByNumber.{meets_answer, meets_sided}

rounded : (e : ℤ) → Rounds 1 16 (dyadic (pos 1) e) (answer 1 16 (dyadic (pos 1) e))
rounded e = answered 1 16 (lit≤ tt) (dyadic (pos 1) e)

row_of_lem : (f p : ℕ) → Meets (row_of f p) (answer_to (row_of f p))
row_of_lem f p = meets_answer (row_of f p)

sided_of : (f p : ℕ) → MeetsSided (row_of f p) (sided_to (row_of f p))
sided_of f p = meets_sided (row_of f p)

-- one point, and the points after it
infixr 20 ◌also◌
pub ◌also◌ : {A B : Type 0} → A → B → A × B
x also y = (x, y)

tables : Every table × Every two_each_of × Every sides
unfolding run magnitude opposite number descend row_of ends root count_leading_zeros Leading.power Leading.fraction Exp.poly Exp2.poly Ln.poly Ln.logarithm
    Ln.row Log2.poly Log2.logarithm Log2.row SinPi.series SinPi.poly SinPi.unsigned SinPi.sine SinPi.row CosPi.series CosPi.poly CosPi.unsigned
    CosPi.cosine CosPi.row TanPi.denominator TanPi.numerator TanPi.poly TanPi.remainder TanPi.row AtanPi.poly AtanPi.small AtanPi.large
    AtanPi.quotient AtanPi.row AsinPi.poly AsinPi.arc AsinPi.row AcosPi.poly AcosPi.arc AcosPi.row
tables = (
  refl also refl also rounded (pos 27) also rounded (negsuc 26)
      also row_of_lem 1 0 also row_of_lem 2 0x72C0 also row_of_lem 2 0x72C1 also row_of_lem 2 0x8D40
      also row_of_lem 4 0x0001 also row_of_lem 3 0x4000 also row_of_lem 5 0x3000 also row_of_lem 6 0x4000
      also row_of_lem 7 0x2000 also row_of_lem 7 0x3000 also row_of_lem 10 0xC000 also tt,
  row_of_lem 1 0 also row_of_lem 1 0x4000 also row_of_lem 2 0 also row_of_lem 2 0x4000
      also row_of_lem 3 0x4000 also row_of_lem 3 0x5000 also row_of_lem 4 0x4000 also row_of_lem 4 0x5000
      also row_of_lem 5 0 also row_of_lem 5 0x3000 also row_of_lem 6 0 also row_of_lem 6 0x4000 also row_of_lem 7 0 also row_of_lem 7 0x2000
      also row_of_lem 8 0 also row_of_lem 8 0x4000 also row_of_lem 9 0 also row_of_lem 9 0x4000 also row_of_lem 10 0x4000 also row_of_lem 10 0xC000 also tt,
  sided_of 3 0x2F0B
      also sided_of 1 0x7FFF also sided_of 1 0x8001 also sided_of 2 0x0001 also sided_of 8 0x8000
      also sided_of 5 0xD000 also sided_of 6 0x3000 also sided_of 7 0x2000 also sided_of 7 0x3000
      also sided_of 3 0x4000 also sided_of 4 0x4000 also sided_of 10 0x4000
      also sided_of 2 0x72C0 also sided_of 2 0x8D40 also sided_of 8 0x0001 also sided_of 8 0xFFFF
      also sided_of 6 0x0001 also tt,
)

pub checked : Every table
checked = tables.0

pub two_each : Every two_each_of
two_each = tables.1

pub checked_sides : Every sides
checked_sides = tables.2
