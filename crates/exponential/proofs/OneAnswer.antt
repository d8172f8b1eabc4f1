-- Any two results that a function's contract allows are equal: each row has one answer, and it has one side.
use Prim.Native.Nat.{ℕ, ◌+◌, ◌^◌}
use mathlib.Core.Path.{◌≡◌}
use mathlib.Core.Bool.{◌||◌}
use lib.Dec.{ltb}
use lib.IntN.{ℤ, pos, ◌-ℤ◌, ◌*ℤ◌}
use Rattle.posit.specs.Number.{Number, nar, real, number}
use Rattle.posit.specs.Rounding.{Known}
use Rattle.posit.specs.declared.side.Sided.{Sided}
use Rattle.posit.proofs.Laws.{Straight, dyadic_straight}
use Rattle.rows.specs.Floor.{floor, modulo}
use Rattle.rows.specs.Rows.{names, Meets, MeetsSided, within}
use Rattle.rows.proofs.Straight.{StraightRow, either, one, one_sided}
use Rattle.exponential.specs.Ends as Ends
use Rattle.exponential.specs.Exp as Exp
use Rattle.exponential.specs.Exp2 as Exp2

otherwise_straight : (kernel : ℤ → Known) → ((q : ℤ) → Straight (kernel q)) → (x : Number) → StraightRow (Ends.otherwise kernel x)
otherwise_straight kernel s nar = tt
otherwise_straight kernel s (real q) = s q

ends_straight : (a b c d : ℕ) (kernel : ℤ → Known) → ((q : ℤ) → Straight (kernel q)) → (p : ℕ) → StraightRow (Ends.ends a b c d kernel p)
unfolding Ends.ends
ends_straight a b c d kernel s p =
    either (ltb p a || ltb b p) (names 0x4000) _ tt
    (either (within c 0x7fff p) (names 0x7fff) _ tt (either (within 0x8001 d p) (names 0x0001) _ tt (otherwise_straight kernel s (number 1 16 p))))

exp_kernel : (q : ℤ) → Straight (Exp.kernel q)
exp_kernel q =
    let t = floor (q *ℤ pos 48408813) (2 ^ 28) in
    dyadic_straight (pos (2 ^ 37 + Exp.poly (modulo t (2 ^ 25)))) (floor t (2 ^ 25) -ℤ pos 37)

pub exp_row : (p : ℕ) → StraightRow (Exp.row p)
exp_row p = ends_straight 192 65407 28846 36690 Exp.kernel exp_kernel p

exp2_kernel : (q : ℤ) → Straight (Exp2.kernel q)
exp2_kernel q =
    let t = floor q (2 ^ 8) in
    dyadic_straight (pos (2 ^ 26 + Exp2.poly (modulo t (2 ^ 20)))) (floor t (2 ^ 20) -ℤ pos 26)

pub exp2_row : (p : ℕ) → StraightRow (Exp2.row p)
exp2_row p = ends_straight 221 65379 29377 36159 Exp2.kernel exp2_kernel p

pub exp_one : (p r s : ℕ) → Meets (Exp.row p) r → Meets (Exp.row p) s → r ≡ s
exp_one p = one (Exp.row p) (exp_row p)

pub exp2_one : (p r s : ℕ) → Meets (Exp2.row p) r → Meets (Exp2.row p) s → r ≡ s
exp2_one p = one (Exp2.row p) (exp2_row p)

pub exp_one_sided : (p : ℕ) (a b : Sided) → MeetsSided (Exp.row p) a → MeetsSided (Exp.row p) b → a ≡ b
exp_one_sided p = one_sided (Exp.row p) (exp_row p)

pub exp2_one_sided : (p : ℕ) (a b : Sided) → MeetsSided (Exp2.row p) a → MeetsSided (Exp2.row p) b → a ≡ b
exp2_one_sided p = one_sided (Exp2.row p) (exp2_row p)
