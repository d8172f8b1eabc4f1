-- "Function numbers: 1 exp, 2 exp2, 3 ln, 4 log2, 5 sin_pi, 6 cos_pi, 7 tan_pi, 8 atan_pi, 9 asin_pi, 10 acos_pi."
use Rattle.std.specs.Prelude.{ℕ, ◌≡◌, Bool, true, false, cond, eqb, Result, Ok, Err, List, codes}
use Rattle.posit.specs.Answer as Rounding
use Rattle.posit.specs.declared.side.Sided.{Sided}
use Rattle.rows.specs.Rows.{Row, names, rounds, Meets, MeetsSided, side_in, within}
use Rattle.exponential.specs.Exp as Exp
use Rattle.exponential.specs.Exp2 as Exp2
use Rattle.logarithm.specs.Ln as Ln
use Rattle.logarithm.specs.Log2 as Log2
use Rattle.circular.specs.SinPi as SinPi
use Rattle.circular.specs.CosPi as CosPi
use Rattle.circular.specs.TanPi as TanPi
use Rattle.arc.specs.AtanPi as AtanPi
use Rattle.arc.specs.AsinPi as AsinPi
use Rattle.arc.specs.AcosPi as AcosPi
use Rattle.refusals.specs.declared.Refusal.{Refusal}
use Rattle.refusals.specs.declared.Refusal.TheVariants as Why
use Rattle.p16e1.specs.declared.functions.Function.{Function}
use Rattle.p16e1.specs.declared.functions.Function.TheVariants.{Exp, Exp2, Ln, Log2, SinPi, CosPi, TanPi, AtanPi, AsinPi, AcosPi}

abbrev pub function_number : Function → ℕ
function_number Exp = 1
function_number Exp2 = 2
function_number Ln = 3
function_number Log2 = 4
function_number SinPi = 5
function_number CosPi = 6
function_number TanPi = 7
function_number AtanPi = 8
function_number AsinPi = 9
function_number AcosPi = 10

-- "1 exp, 2 exp2, 3 ln, 4 log2, 5 sin_pi, 6 cos_pi, 7 tan_pi, 8 atan_pi, 9 asin_pi, 10 acos_pi"
abbrev pub name_of : Function → List ℕ
name_of Exp = codes "exp"
name_of Exp2 = codes "exp2"
name_of Ln = codes "ln"
name_of Log2 = codes "log2"
name_of SinPi = codes "sin_pi"
name_of CosPi = codes "cos_pi"
name_of TanPi = codes "tan_pi"
name_of AtanPi = codes "atan_pi"
name_of AsinPi = codes "asin_pi"
name_of AcosPi = codes "acos_pi"

-- "1 function number outside 1 to 10"
abbrev pub function_numbered : ℕ → Result Function Refusal
function_numbered n =
    cond (eqb n 1) (Ok Exp)
    (cond (eqb n 2) (Ok Exp2)
    (cond (eqb n 3) (Ok Ln)
    (cond (eqb n 4) (Ok Log2)
    (cond (eqb n 5) (Ok SinPi)
    (cond (eqb n 6) (Ok CosPi)
    (cond (eqb n 7) (Ok TanPi)
    (cond (eqb n 8) (Ok AtanPi)
    (cond (eqb n 9) (Ok AsinPi)
    (cond (eqb n 10) (Ok AcosPi) (Err Why.Function))))))))))

abbrev pub known : ℕ → Bool
known f = within 1 10 f

-- the row of a known function, at the pattern p
unfoldable pub row_of : ℕ → ℕ → Row
row_of f p =
    cond (eqb f 1) (Exp.row p)
    (cond (eqb f 2) (Exp2.row p)
    (cond (eqb f 3) (Ln.row p)
    (cond (eqb f 4) (Log2.row p)
    (cond (eqb f 5) (SinPi.row p)
    (cond (eqb f 6) (CosPi.row p)
    (cond (eqb f 7) (TanPi.row p)
    (cond (eqb f 8) (AtanPi.row p)
    (cond (eqb f 9) (AsinPi.row p) (AcosPi.row p)))))))))

-- what each answer means
abbrev pub Answers : ℕ → ℕ → Result ℕ Refusal → Type 0
Answers f p (Ok r) = (known f ≡ true) × Meets (row_of f p) r
Answers f p (Err e) = (known f ≡ false) × (e ≡ Why.Function)

-- and with the side, "in a second entry beside the old one"
abbrev pub AnswersSided : ℕ → ℕ → Result Sided Refusal → Type 0
AnswersSided f p (Ok a) = (known f ≡ true) × MeetsSided (row_of f p) a
AnswersSided f p (Err e) = (known f ≡ false) × (e ≡ Why.Function)

-- the answer that a row has, computed: Meets says that it is the row's
abbrev pub answer_to : Row → ℕ
answer_to (names u) = u
answer_to (rounds x) = Rounding.answer 1 16 x

unfoldable pub answer_of : ℕ → ℕ → ℕ
answer_of f p = answer_to (row_of f p)

-- and with the side that it has
abbrev pub sided_to : Row → Sided
sided_to w = record { pattern = answer_to w; side = side_in w (answer_to w) }

unfoldable pub sided_answer_of : ℕ → ℕ → Sided
sided_answer_of f p = sided_to (row_of f p)
