-- A row that names its answer, or rounds a number whose cut goes one way, has one answer, and it has one side.
use Prim.Native.Nat.{ℕ, suc}
use mathlib.Core.Path.{◌≡◌, ◌∙◌, sym}
use mathlib.Core.Bool.{Bool, true, false, cond}
use lib.Dec.{lit≤}
use lib.IntN.{ℤ, pos, negsuc, neg_ℤ}
use Rattle.posit.specs.Rounding.{Known, nought, plus, minus, negated, over}
use Rattle.posit.proofs.Laws.{Straight, dyadic_straight, one_answer}
use Rattle.posit.specs.declared.side.Sided.{Sided}
use Rattle.posit.proofs.Sides as Sides
use Rattle.rows.specs.Rows.{Row, names, rounds, Meets, MeetsSided, opposed, by_sign}

-- the number that a row rounds has one answer
abbrev pub StraightRow : Row → Type 0
StraightRow (names u) = Unit {0}
StraightRow (rounds x) = Straight x

-- what holds of two rows holds of either, and what goes over to the opposed row holds by sign
pub of_either : (P : Row → Type 0) (b : Bool) (v w : Row) → P v → P w → P (cond b v w)
of_either P true v w pv pw = pv
of_either P false v w pv pw = pw

pub of_sign : (P : Row → Type 0) → ((w : Row) → P w → P (opposed w)) → (f : ℕ → Row) → ((k : ℕ) → P (f k)) → (q : ℤ) → P (by_sign f q)
of_sign P o f h (pos k) = h k
of_sign P o f h (negsuc k) = o (f (suc k)) (h (suc k))

pub either : (b : Bool) (v w : Row) → StraightRow v → StraightRow w → StraightRow (cond b v w)
either = of_either StraightRow

pub negated_straight : (x : Known) → Straight x → Straight (negated x)
negated_straight nought s = s
negated_straight (plus c) s = s
negated_straight (minus c) s = s

pub opposed_straight : (w : Row) → StraightRow w → StraightRow (opposed w)
opposed_straight (names u) s = tt
opposed_straight (rounds x) s = negated_straight x s

pub by_sign_straight : (f : ℕ → Row) → ((k : ℕ) → StraightRow (f k)) → (q : ℤ) → StraightRow (by_sign f q)
by_sign_straight = of_sign StraightRow opposed_straight

pub over_straight : (k : ℤ) (q : ℕ) → Straight (over k q)
over_straight k q = dyadic_straight k (neg_ℤ (pos q))

pub one : (w : Row) → StraightRow w → (r s : ℕ) → Meets w r → Meets w s → r ≡ s
one (names u) t r s m n = m ∙ sym n
one (rounds x) t r s m n = one_answer 1 16 (lit≤ tt) x t r s m n

pub one_sided : (w : Row) → StraightRow w → (a b : Sided) → MeetsSided w a → MeetsSided w b → a ≡ b
one_sided (names u) t a b m n = λ i. record { pattern = (m.0 ∙ sym n.0) i; side = (m.1 ∙ sym n.1) i }
one_sided (rounds x) t a b m n = Sides.one_sided 1 16 (lit≤ tt) x t a b m n
