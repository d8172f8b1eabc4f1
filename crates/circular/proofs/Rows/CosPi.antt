-- What row 6 says, case by case.
use Rattle.std.proofs.Common.{◌≡◌, ℕ, zero, suc, ◌<◌, Bool, true, false, ltb, nat_abs, refl, ap, ◌∙◌}
use Rattle.posit.specs.Number.{magnitude, size, with_sign}
use Rattle.posit.proofs.Patterns.{number-zero, number_nar, number-signed}
use Rattle.rows.specs.Rows.{names}
use Rattle.circular.specs.CosPi.{unsigned, cosine, otherwise, row}

pub nar_itself : row 0x8000 ≡ names 0x8000
unfolding row
nar_itself = ap otherwise (number_nar 1 16)

pub zero_one : row 0 ≡ names 0x4000
unfolding row cosine unsigned
zero_one = ap otherwise (number-zero 1 16)

sign_lost : (b : Bool) (m : ℕ) → nat_abs (with_sign b m) ≡ m
sign_lost true zero = refl
sign_lost true (suc m) = refl
sign_lost false m = refl

pub by_magnitude : (p : ℕ) → 0 < p → (p ≡ 0x8000 → ⊥) → row p ≡ cosine (magnitude 1 16 (size 16 p))
unfolding row
by_magnitude p l e = ap otherwise (number-signed 1 16 p l e) ∙ ap cosine (sign_lost (ltb 0x8000 p) (magnitude 1 16 (size 16 p)))
