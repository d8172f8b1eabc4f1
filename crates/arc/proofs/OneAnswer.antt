-- Any two results that a function's contract allows are equal: each row has one answer, and it has one side.
use Prim.Native.Nat.{ℕ}
use mathlib.Core.Path.{◌≡◌}
use mathlib.Core.Bool.{cond, ◌&&◌, ◌||◌}
use lib.Dec.{ltb}
use lib.IntN.{pos, nat_abs}
use Rattle.posit.specs.Number.{Number, nar, real, number, size}
use Rattle.posit.specs.Rounding.{over}
use Rattle.posit.specs.declared.side.Sided.{Sided}
use Rattle.rows.specs.Rows.{names, rounds, Meets, MeetsSided}
use Rattle.rows.proofs.Straight.{StraightRow, either, by_sign_straight, over_straight, one, one_sided}
use Rattle.arc.specs.AtanPi as AtanPi
use Rattle.arc.specs.AsinPi as AsinPi
use Rattle.arc.specs.AcosPi as AcosPi

atan_straight : (u : ℕ) (x : Number) → StraightRow (AtanPi.otherwise u x)
atan_straight u nar = tt
atan_straight u (real q) = by_sign_straight (λ k. rounds (over (pos (AtanPi.quotient u k)) 30)) (λ k. over_straight (pos (AtanPi.quotient u k)) 30) q

pub atan_pi_row : (p : ℕ) → StraightRow (AtanPi.row p)
unfolding AtanPi.row
atan_pi_row p = atan_straight (size 16 p) (number 1 16 p)

asin_straight : (u : ℕ) (x : Number) → StraightRow (AsinPi.otherwise u x)
asin_straight u nar = tt
asin_straight u (real q) = by_sign_straight (λ k. rounds (over (pos (AsinPi.arc u k)) 30)) (λ k. over_straight (pos (AsinPi.arc u k)) 30) q

pub asin_pi_row : (p : ℕ) → StraightRow (AsinPi.row p)
unfolding AsinPi.row
asin_pi_row p = either (ltb 0x4000 (size 16 p)) (names 0x8000) (AsinPi.otherwise (size 16 p) (number 1 16 p)) tt (asin_straight (size 16 p) (number 1 16 p))

acos_straight : (p : ℕ) (x : Number) → StraightRow (AcosPi.otherwise p x)
acos_straight p nar = tt
acos_straight p (real q) = over_straight (pos (AcosPi.arc p (nat_abs q))) 30

pub acos_pi_row : (p : ℕ) → StraightRow (AcosPi.row p)
unfolding AcosPi.row
acos_pi_row p =
    let kernel = AcosPi.otherwise p (number 1 16 p) in
    either (ltb 0x4000 p && ltb p 0xC000) (names 0x8000) (cond (ltb p 165 || ltb 65307 p) (names 0x3000) kernel) tt
    (either (ltb p 165 || ltb 65307 p) (names 0x3000) kernel tt (acos_straight p (number 1 16 p)))

pub atan_pi_one : (p r s : ℕ) → Meets (AtanPi.row p) r → Meets (AtanPi.row p) s → r ≡ s
atan_pi_one p = one (AtanPi.row p) (atan_pi_row p)

pub asin_pi_one : (p r s : ℕ) → Meets (AsinPi.row p) r → Meets (AsinPi.row p) s → r ≡ s
asin_pi_one p = one (AsinPi.row p) (asin_pi_row p)

pub acos_pi_one : (p r s : ℕ) → Meets (AcosPi.row p) r → Meets (AcosPi.row p) s → r ≡ s
acos_pi_one p = one (AcosPi.row p) (acos_pi_row p)

pub atan_pi_one_sided : (p : ℕ) (a b : Sided) → MeetsSided (AtanPi.row p) a → MeetsSided (AtanPi.row p) b → a ≡ b
atan_pi_one_sided p = one_sided (AtanPi.row p) (atan_pi_row p)

pub asin_pi_one_sided : (p : ℕ) (a b : Sided) → MeetsSided (AsinPi.row p) a → MeetsSided (AsinPi.row p) b → a ≡ b
asin_pi_one_sided p = one_sided (AsinPi.row p) (asin_pi_row p)

pub acos_pi_one_sided : (p : ℕ) (a b : Sided) → MeetsSided (AcosPi.row p) a → MeetsSided (AcosPi.row p) b → a ≡ b
acos_pi_one_sided p = one_sided (AcosPi.row p) (acos_pi_row p)
