-- Any two results that a function's contract allows are equal: each row has one answer, and it has one side.
use Prim.Native.Nat.{ℕ, zero, suc, ◌*◌, ◌/◌, ◌^◌}
use mathlib.Core.Path.{◌≡◌}
use lib.IntN.{ℤ, pos, negsuc}
use Rattle.posit.specs.Number.{Number, nar, real, number}
use Rattle.posit.specs.Rounding.{over}
use Rattle.posit.specs.declared.side.Sided.{Sided}
use Rattle.posit.proofs.Laws.{Straight}
use Rattle.rows.specs.Rows.{Meets, MeetsSided}
use Rattle.rows.proofs.Straight.{StraightRow, negated_straight, over_straight, one, one_sided}
use Rattle.logarithm.specs.Ln as Ln
use Rattle.logarithm.specs.Log2 as Log2

natural_straight : (l : ℤ) → Straight (Ln.natural l)
natural_straight (pos l) = over_straight (pos (l * 186065279 / 2 ^ 28)) 30
natural_straight (negsuc l) =
    let k = pos (suc l * 186065280 / 2 ^ 28) in
    negated_straight (over k 30) (over_straight k 30)

ln_straight : (x : Number) → StraightRow (Ln.otherwise x)
ln_straight nar = tt
ln_straight (real (pos zero)) = tt
ln_straight (real (pos (suc k))) = natural_straight (Ln.logarithm (suc k))
ln_straight (real (negsuc k)) = tt

pub ln_row : (p : ℕ) → StraightRow (Ln.row p)
unfolding Ln.row
ln_row p = ln_straight (number 1 16 p)

log2_straight : (x : Number) → StraightRow (Log2.otherwise x)
log2_straight nar = tt
log2_straight (real (pos zero)) = tt
log2_straight (real (pos (suc k))) = over_straight (Log2.logarithm (suc k)) 28
log2_straight (real (negsuc k)) = tt

pub log2_row : (p : ℕ) → StraightRow (Log2.row p)
unfolding Log2.row
log2_row p = log2_straight (number 1 16 p)

pub ln_one : (p r s : ℕ) → Meets (Ln.row p) r → Meets (Ln.row p) s → r ≡ s
ln_one p = one (Ln.row p) (ln_row p)

pub log2_one : (p r s : ℕ) → Meets (Log2.row p) r → Meets (Log2.row p) s → r ≡ s
log2_one p = one (Log2.row p) (log2_row p)

pub ln_one_sided : (p : ℕ) (a b : Sided) → MeetsSided (Ln.row p) a → MeetsSided (Ln.row p) b → a ≡ b
ln_one_sided p = one_sided (Ln.row p) (ln_row p)

pub log2_one_sided : (p : ℕ) (a b : Sided) → MeetsSided (Log2.row p) a → MeetsSided (Log2.row p) b → a ≡ b
log2_one_sided p = one_sided (Log2.row p) (log2_row p)
