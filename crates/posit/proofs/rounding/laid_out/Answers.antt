-- What stands before x is a multiple of 2 ^ k, so the shift leaves it whole; in a word below zero, whose number counts down from
-- -1, the shift counts down alike.
use Rattle.std.proofs.Common.{◌≡◌, ℕ, suc, ◌+◌, ◌-◌, ◌*◌, ◌/◌, ◌%◌, ◌^◌, ◌<◌, ◌≤◌, cond, ℤ, pos, ◌+ℤ◌, sym, ap, ◌∙◌, lt_of_le_of_lt, mod-lt, div-lt_iff_lt-mul, add-mul, div-add-mod', arith, pow_pos, pow_mono, pow-add, to_z-of_z, w64, SFits, to_z, of_z, lt-ltb}
use native.Mathlib.Nat.{mul-add-div_right}
use lib.Arith.{digits_div}
use lib.Signed.{lt_z, shr_z, mag_shr}
use mir.Facts.{to_z_pos}
use Rattle.posit.proofs.rounding.laid_out.Goals as goal
use Rattle.posit.proofs.rounding.laid_out.Goals.{then-p-lt0, else-p-lt0}

-- x counted down from the top of q * d, and the quotient from that of q
counted_down : (d q x : ℕ) → 0 < d → x < q * d → (q * d - suc x) / d ≡ q - suc (x / d)
counted_down d q x p h =
    let l = (div-lt_iff_lt-mul {x = x} {y = q} p).1 h in
    let m = mod-lt x p in
    let split : q ≡ (q - suc (x / d)) + (x / d + 1) = omega arith in
    let product = ap (λ (n : ℕ). n * d) split ∙ add-mul (q - suc (x / d)) (x / d + 1) d in
    let last = add-mul (x / d) 1 d in
    let e : q * d - suc x ≡ (q - suc (x / d)) * d + (d - suc (x % d)) = omega (arith, div-add-mod' x d) in
    ap (λ (n : ℕ). n / d) e ∙ digits_div (q - suc (x / d)) (omega arith)

-- 2 ^ (n + 48) is a multiple of 2 ^ k
parted : (n k : ℕ) → k ≤ n → 2 ^ (n + 48) ≡ 2 ^ (n - k) * 2 ^ 48 * 2 ^ k
parted n k h =
    ap (λ (x : ℕ). 2 ^ x) (let e : n + 48 ≡ n - k + 48 + k = omega arith in e) ∙ pow-add 2 (n - k + 48) k ∙ ap (λ (x : ℕ). x * 2 ^ k) (pow-add 2 (n - k) 48)

-- z is a signed word, and shifted by k its bits are b, 48 places up, and x shifted
record Word (b k x : ℕ) (z : ℤ) : Type 0 where
  fits : SFits w64 z
  bits : of_z w64 (shr_z z (2 ^ k)) ≡ b * 2 ^ 48 + x / 2 ^ k

module _ (k x : ℕ) (few : k ≤ 13) (small : x < 2 ^ 62) where
  after_01 : Word (2 ^ (14 - k)) k x (to_z w64 (2 ^ 62) +ℤ to_z w64 x)
  after_01 =
      rw (to_z_pos w64 {n = x} (omega arith))
      (record {
        fits = record { sfits = omega arith };
        bits = ap (λ (n : ℕ). (n + x) / 2 ^ k) (parted 14 k (omega arith)) ∙ mul-add-div_right (pow_pos k) (2 ^ (14 - k) * 2 ^ 48) x;
      })

  after_10 : Word (2 ^ 16 - 2 ^ (15 - k)) k x (to_z w64 (2 ^ 63) +ℤ to_z w64 x)
  after_10 =
      let e = parted 15 k (omega arith) in
      let q = 2 ^ (15 - k) * 2 ^ 48 in
      let l : x / 2 ^ k < q = (div-lt_iff_lt-mul {y = q} (pow_pos k)).1 (omega arith) in
      let m = pow_mono {i = 15 - k} {j = 15} (omega arith) in
      rw (to_z_pos w64 {n = x} (omega arith), lt-ltb x (2 ^ 63) (omega arith))
      (record {
        fits = record { sfits = omega arith };
        bits = ap (λ (n : ℕ). 2 ^ 64 - suc ((n - suc x) / 2 ^ k)) e
            ∙ ap (λ (n : ℕ). 2 ^ 64 - suc n) (counted_down (2 ^ k) q x (pow_pos k) (omega arith))
            ∙ omega arith;
      })

pub returns : goal.returns
returns c =
    let k = c.args.k in
    let x = c.args.x in
    let read = sym (ap (λ (z : ℤ). lt_z z (pos 0)) (to_z-of_z c.ranges.p)) in
    let z = to_z w64 c.if-p-lt0.start-bits +ℤ to_z w64 x in
    let w : Word (cond (lt_z c.args.p (pos 0)) (2 ^ (14 - k)) (2 ^ 16 - 2 ^ (15 - k))) k x z =
    elim c.if-p-lt0.branch [
      | then-p-lt0 w ↦ rw (w.start-is, read ∙ w.if-p-lt0.true) (after_01 k x (omega arith) (omega arith))
      | else-p-lt0 w ↦ rw (w.start-is, read ∙ w.if-p-lt0.false) (after_10 k x (omega arith) (omega arith))
    ] in
    c.cast_unsigned.ensures
    ∙ ap (λ (y : ℤ). of_z w64 (to_z w64 (of_z w64 (shr_z y (2 ^ k))))) (to_z-of_z w.fits)
    ∙ ap (of_z w64) (to_z-of_z {w = w64} {z = shr_z z (2 ^ k)} (record { sfits = lt_of_le_of_lt (mag_shr z (2 ^ k)) w.fits.sfits }))
    ∙ w.bits
