-- Any two results that a function's contract allows are equal: each row has one answer, and it has one side.
use Rattle.std.proofs.Common.{◌≡◌, ℕ, ◌-◌, ◌*◌, ◌%◌, ◌^◌, cond, eqb, ltb, pos, nat_abs}
use Rattle.posit.specs.Number.{Number, nar, real, number, size}
use Rattle.posit.specs.Rounding.{over}
use Rattle.posit.specs.declared.side.Sided.{Sided}
use Rattle.rows.specs.Rows.{names, rounds, Meets, MeetsSided, within, opposed}
use Rattle.rows.proofs.Straight.{StraightRow, either, opposed_straight, by_sign_straight, over_straight, one, one_sided}
use Rattle.circular.specs.SinPi as SinPi
use Rattle.circular.specs.CosPi as CosPi
use Rattle.circular.specs.TanPi as TanPi
use Rattle.circular.proofs.Waves.{of_sine, of_cosine}

sine_straight : (k : ℕ) → StraightRow (SinPi.sine k)
sine_straight = of_sine StraightRow opposed_straight tt tt (λ k q. over_straight (pos k) q)

sin_straight : (x : Number) → StraightRow (SinPi.otherwise x)
sin_straight nar = tt
sin_straight (real q) = by_sign_straight SinPi.sine sine_straight q

pub sin_pi_row : (p : ℕ) → StraightRow (SinPi.row p)
unfolding SinPi.row
sin_pi_row p = either (within 31744 0x7fff (size 16 p)) (names 0) (SinPi.otherwise (number 1 16 p)) tt (sin_straight (number 1 16 p))

cosine_straight : (k : ℕ) → StraightRow (CosPi.cosine k)
cosine_straight = of_cosine StraightRow opposed_straight tt tt (λ k q. over_straight (pos k) q)

cos_straight : (x : Number) → StraightRow (CosPi.otherwise x)
cos_straight nar = tt
cos_straight (real q) = cosine_straight (nat_abs q)

pub cos_pi_row : (p : ℕ) → StraightRow (CosPi.row p)
unfolding CosPi.row
cos_pi_row p = cos_straight (number 1 16 p)

remainder_straight : (r : ℕ) → StraightRow (TanPi.remainder r)
unfolding TanPi.remainder
remainder_straight r =
    let below = rounds (over (pos (TanPi.poly r)) 28) in
    let above = rounds (over (pos (TanPi.poly (2 ^ 28 - r))) 28) in
    let last = cond (ltb r (2 ^ 27)) below (opposed above) in
    let fourth = cond (eqb r (3 * 2 ^ 26)) (names 0xC000) last in
    let third = cond (eqb r (2 ^ 26)) (names 0x4000) fourth in
    let second = cond (eqb r (2 ^ 27)) (names 0x8000) third in
    either (eqb r 0) (names 0) second tt
    (either (eqb r (2 ^ 27)) (names 0x8000) third tt
    (either (eqb r (2 ^ 26)) (names 0x4000) fourth tt
    (either (eqb r (3 * 2 ^ 26)) (names 0xC000) last tt
    (either (ltb r (2 ^ 27)) below (opposed above) (over_straight (pos (TanPi.poly r)) 28)
    (opposed_straight above (over_straight (pos (TanPi.poly (2 ^ 28 - r))) 28))))))

tan_straight : (x : Number) → StraightRow (TanPi.otherwise x)
tan_straight nar = tt
tan_straight (real q) = by_sign_straight (λ k. TanPi.remainder (k % 2 ^ 28)) (λ k. remainder_straight (k % 2 ^ 28)) q

pub tan_pi_row : (p : ℕ) → StraightRow (TanPi.row p)
unfolding TanPi.row
tan_pi_row p = either (within 31744 0x7fff (size 16 p)) (names 0) (TanPi.otherwise (number 1 16 p)) tt (tan_straight (number 1 16 p))

pub sin_pi_one : (p r s : ℕ) → Meets (SinPi.row p) r → Meets (SinPi.row p) s → r ≡ s
sin_pi_one p = one (SinPi.row p) (sin_pi_row p)

pub cos_pi_one : (p r s : ℕ) → Meets (CosPi.row p) r → Meets (CosPi.row p) s → r ≡ s
cos_pi_one p = one (CosPi.row p) (cos_pi_row p)

pub tan_pi_one : (p r s : ℕ) → Meets (TanPi.row p) r → Meets (TanPi.row p) s → r ≡ s
tan_pi_one p = one (TanPi.row p) (tan_pi_row p)

pub sin_pi_one_sided : (p : ℕ) (a b : Sided) → MeetsSided (SinPi.row p) a → MeetsSided (SinPi.row p) b → a ≡ b
sin_pi_one_sided p = one_sided (SinPi.row p) (sin_pi_row p)

pub cos_pi_one_sided : (p : ℕ) (a b : Sided) → MeetsSided (CosPi.row p) a → MeetsSided (CosPi.row p) b → a ≡ b
cos_pi_one_sided p = one_sided (CosPi.row p) (cos_pi_row p)

pub tan_pi_one_sided : (p : ℕ) (a b : Sided) → MeetsSided (TanPi.row p) a → MeetsSided (TanPi.row p) b → a ≡ b
tan_pi_one_sided p = one_sided (TanPi.row p) (tan_pi_row p)
