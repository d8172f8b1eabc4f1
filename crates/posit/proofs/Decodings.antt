-- Decodings: of a pattern in units, of one without its sign bit, and that a magnitude has but one.
use Rattle.std.proofs.Common.{◌≡◌, ℕ, suc, ◌+◌, ◌-◌, ◌*◌, ◌/◌, ◌%◌, ◌^◌, ◌<◌, ◌≤◌, sym, refl, ap, ◌∙◌, subst, mul_assoc, add-mul, mul-le-mul, mul-lt-mul_of_pos_right, pow-suc, mul_right_comm, mul-div_cancel, arith, pow_pos, pow_mono, pow-add}
use native.Mathlib.Nat.{eq_of_mul-eq-mul_right}
use native.Mathlib.Decide.{dec_lt}
use lib.Pow.{mod-mod-pow}
use Rattle.posit.specs.Number.{magnitude, run, bit, regime}
use Rattle.posit.specs.Decoding.{Decodes}
use Rattle.posit.proofs.Run.{run-low, same_bit}
use Rattle.posit.proofs.Value.{magnitude_is}

-- u, from u * 2 ^ 12 as the product of a number and a power of two: the number with its first bit at bit 63, shifted back
pub scaled_back : (u f w lead back : ℕ) → u * 2 ^ 12 ≡ (2 ^ 12 + f) * 2 ^ w → lead ≡ 2 ^ 63 + f * 2 ^ 51 → back + w ≡ 63 → lead / 2 ^ back ≡ u
scaled_back u f w lead back scaled moved all =
    let e : lead ≡ u * 2 ^ back =
    eq_of_mul-eq-mul_right (2 ^ w) (pow_pos w) lead (u * 2 ^ back)
    (ap (λ (y : ℕ). y * 2 ^ w) (moved ∙ sym (add-mul (2 ^ 12) f (2 ^ 51)))
    ∙ mul_right_comm (2 ^ 12 + f) (2 ^ 51) (2 ^ w)
    ∙ ap (λ (y : ℕ). y * 2 ^ 51) (sym scaled)
    ∙ mul_assoc u (2 ^ 12) (2 ^ 51)
    ∙ ap (λ (k : ℕ). u * 2 ^ k) (sym all)
    ∙ ap (λ (y : ℕ). u * y) (pow-add 2 back w)
    ∙ sym (mul_assoc u (2 ^ back) (2 ^ w))) in
    ap (λ (y : ℕ). y / 2 ^ back) e ∙ mul-div_cancel u (pow_pos back)

-- the sign bit is not looked at, and zero is decoded as 1 is
pub of_low : (p : ℕ) → magnitude 1 16 p ≡ magnitude 1 16 (p % 2 ^ 15)
of_low p =
    magnitude_is 1 16 p b m t (regime 1 16 b m) (q % 2 ^ t) (same_bit 14 p) (run-low b 15 p) refl refl (sym low)
    ∙ sym (magnitude_is 1 16 q b m t (regime 1 16 b m) (q % 2 ^ t) refl refl refl refl refl)
  where
    q : ℕ
    q = p % 2 ^ 15

    b : ℕ
    b = bit 14 q

    m : ℕ
    m = run b 15 q

    t : ℕ
    t = 14 - m

    low : q % 2 ^ t ≡ p % 2 ^ t
    low = ap (λ (k : ℕ). p % 2 ^ k % 2 ^ t) {x = 15} (let e : 15 ≡ 15 - t + t = omega arith in e) ∙ mod-mod-pow p (15 - t) t

pub of_zero : magnitude 1 16 0 ≡ magnitude 1 16 1
unfolding magnitude run
of_zero = refl

pub decodes_as : (p q w f : ℕ) → magnitude 1 16 p ≡ magnitude 1 16 q → Decodes q w f → Decodes p w f
decodes_as p q w f e d = record { value = ap (λ (y : ℕ). y * 2 ^ 12) e ∙ d.value; small = d.small; few = d.few }

-- a decoding told by equal numbers
pub same_decoding : {p w f w' f' : ℕ} → Decodes p w f → w ≡ w' → f ≡ f' → Decodes p w' f'
same_decoding {p} {w} {f} {w'} {f'} d e g = subst (λ (x : ℕ). Decodes p x f') e (subst (Decodes p w) g d)

-- a magnitude decodes in one way
lead_below : (w w' f f' : ℕ) → w < w' → f < 2 ^ 12 → (2 ^ 12 + f) * 2 ^ w ≡ (2 ^ 12 + f') * 2 ^ w' → ⊥
lead_below w w' f f' l h e =
    let a : (2 ^ 12 + f) * 2 ^ w < 2 ^ 13 * 2 ^ w = mul-lt-mul_of_pos_right (omega arith) (pow_pos w) in
    let b : 2 ^ 12 * 2 ^ suc w ≤ (2 ^ 12 + f') * 2 ^ w' = mul-le-mul (omega arith) (pow_mono l) in
    let d = pow-suc 2 w in
    omega arith

pub one_decoding : (p w f w' f' : ℕ) → Decodes p w f → Decodes p w' f' → (w ≡ w') × (f ≡ f')
one_decoding p w f w' f' d d' = go (dec_lt w w') (dec_lt w' w)
  where
    same : (2 ^ 12 + f) * 2 ^ w ≡ (2 ^ 12 + f') * 2 ^ w'
    same = sym d.value ∙ d'.value

    go : Dec (w < w') → Dec (w' < w) → (w ≡ w') × (f ≡ f')
    go (yes l) k = absurd (lead_below w w' f f' l d.small same)
    go (no l) (yes k) = absurd (lead_below w' w f' f k d'.small (sym same))
    go (no l) (no k) =
        let e : w ≡ w' = omega arith in
        let s : 2 ^ 12 + f ≡ 2 ^ 12 + f' =
        eq_of_mul-eq-mul_right (2 ^ w) (pow_pos w) (2 ^ 12 + f) (2 ^ 12 + f') (same ∙ ap (λ (x : ℕ). (2 ^ 12 + f') * 2 ^ x) (sym e)) in
        (e, omega arith)
