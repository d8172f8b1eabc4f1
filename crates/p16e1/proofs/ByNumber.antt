-- The one answer that a known function has.
use Prim.Native.Nat.{ℕ}
use mathlib.Core.Path.{◌≡◌, ap, refl}
use mathlib.Core.Bool.{true, false, cond}
use native.Mathlib.Omega.{arith}
use lib.Dec.{eqb, lit≤}
use Rattle.std.specs.Prelude.{Result, Ok, Err}
use Rattle.posit.proofs.Exists.{answered}
use Rattle.posit.specs.declared.side.Sided.{Sided}
use Rattle.rows.specs.Rows.{Row, names, rounds, Meets, MeetsSided}
use Rattle.p16e1.specs.Functions.{known, function_number, function_numbered, row_of, Answers, AnswersSided}
use Rattle.p16e1.specs.Functions.{answer_to, answer_of, sided_to, sided_answer_of}
use Rattle.refusals.specs.declared.Refusal.{Refusal}
use Rattle.refusals.specs.declared.Refusal.TheVariants as Why
use Rattle.p16e1.specs.declared.functions.Function.{Function}
use Rattle.std.proofs.lemmas.Bool.Decides.{nat_tests}
use Rattle.exponential.specs.Exp as Exp
use Rattle.exponential.specs.Exp2 as Exp2
use Rattle.logarithm.specs.Ln as Ln
use Rattle.logarithm.specs.Log2 as Log2
use Rattle.circular.specs.SinPi as SinPi
use Rattle.circular.specs.CosPi as CosPi
use Rattle.circular.specs.TanPi as TanPi
use Rattle.arc.specs.AtanPi as AtanPi
use Rattle.arc.specs.AsinPi as AsinPi
use Rattle.arc.specs.AcosPi as AcosPi
use Rattle.rows.proofs.Straight.{StraightRow, either, one, one_sided}
use Rattle.exponential.proofs.OneAnswer.{exp_row, exp2_row}
use Rattle.logarithm.proofs.OneAnswer.{ln_row, log2_row}
use Rattle.circular.proofs.OneAnswer.{sin_pi_row, cos_pi_row, tan_pi_row}
use Rattle.arc.proofs.OneAnswer.{atan_pi_row, asin_pi_row, acos_pi_row}

-- a number that has a function is known, and is that function's
pub numbered_is : (n : ℕ) (f : Function) → function_numbered n ≡ Ok f → (known n ≡ true) × (function_number f ≡ n)
numbered_is n f e = grind (arith, nat_tests, e)

-- a number that has none is not
pub numbered_not : (n : ℕ) (e : Refusal) → function_numbered n ≡ Err e → (known n ≡ false) × (e ≡ Why.Function)
numbered_not n e h = grind (arith, nat_tests, h)

-- each row by its number
row_straight : (f p : ℕ) → StraightRow (row_of f p)
unfolding row_of
row_straight f p =
    let from-9 = cond (eqb f 9) (AsinPi.row p) (AcosPi.row p) in
    let from-8 = cond (eqb f 8) (AtanPi.row p) from-9 in
    let from-7 = cond (eqb f 7) (TanPi.row p) from-8 in
    let from-6 = cond (eqb f 6) (CosPi.row p) from-7 in
    let from-5 = cond (eqb f 5) (SinPi.row p) from-6 in
    let from-4 = cond (eqb f 4) (Log2.row p) from-5 in
    let from-3 = cond (eqb f 3) (Ln.row p) from-4 in
    let from-2 = cond (eqb f 2) (Exp2.row p) from-3 in
    either (eqb f 1) (Exp.row p) from-2 (exp_row p)
    (either (eqb f 2) (Exp2.row p) from-3 (exp2_row p)
    (either (eqb f 3) (Ln.row p) from-4 (ln_row p)
    (either (eqb f 4) (Log2.row p) from-5 (log2_row p)
    (either (eqb f 5) (SinPi.row p) from-6 (sin_pi_row p)
    (either (eqb f 6) (CosPi.row p) from-7 (cos_pi_row p)
    (either (eqb f 7) (TanPi.row p) from-8 (tan_pi_row p)
    (either (eqb f 8) (AtanPi.row p) from-9 (atan_pi_row p)
    (either (eqb f 9) (AsinPi.row p) (AcosPi.row p) (asin_pi_row p) (acos_pi_row p)))))))))

-- the computed answer is the row's
pub meets_answer : (w : Row) → Meets w (answer_to w)
meets_answer (names u) = refl
meets_answer (rounds x) = answered 1 16 (lit≤ tt) x

pub answer_is : (f p r : ℕ) → Meets (row_of f p) r → r ≡ answer_of f p
unfolding answer_of
answer_is f p r m = one (row_of f p) (row_straight f p) r (answer_to (row_of f p)) m (meets_answer (row_of f p))

-- so is the computed side
pub meets_sided : (w : Row) → MeetsSided w (sided_to w)
meets_sided w = (meets_answer w, refl)

pub sided_is : (f p : ℕ) (a : Sided) → MeetsSided (row_of f p) a → a ≡ sided_answer_of f p
unfolding sided_answer_of
sided_is f p a m = one_sided (row_of f p) (row_straight f p) a (sided_to (row_of f p)) m (meets_sided (row_of f p))

-- the pattern of the two is the old entry's
pub sided_answer : (f p : ℕ) → (sided_answer_of f p).pattern ≡ answer_of f p
unfolding sided_answer_of answer_of
sided_answer f p = refl

-- any two answers that the contract allows are equal
pub one-answered : (f p : ℕ) (a b : Result ℕ Refusal) → Answers f p a → Answers f p b → a ≡ b
one-answered f p (Ok r) (Ok s) m n = ap Ok (one (row_of f p) (row_straight f p) r s m.1 n.1)
one-answered f p (Ok r) (Err d) m n = cc
one-answered f p (Err e) (Ok s) m n = cc
one-answered f p (Err e) (Err d) m n = cc

pub one-answered_sided : (f p : ℕ) (a b : Result Sided Refusal) → AnswersSided f p a → AnswersSided f p b → a ≡ b
one-answered_sided f p (Ok r) (Ok s) m n = ap Ok (one_sided (row_of f p) (row_straight f p) r s m.1 n.1)
one-answered_sided f p (Ok r) (Err d) m n = cc
one-answered_sided f p (Err e) (Ok s) m n = cc
one-answered_sided f p (Err e) (Err d) m n = cc
