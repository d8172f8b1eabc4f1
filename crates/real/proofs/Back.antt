-- To f64 and back is the identity on every pattern. NaR has no f64; a NaN stands for it, as in what the program reals writes.
use Rattle.std.proofs.Common.{◌≡◌, ℕ, suc, ◌*◌, ◌^◌, ◌<◌, Bool, true, false, ℤ, pos, negsuc, neg_ℤ, sym, refl, ap, ◌∙◌, subst, mul-one, arith}
use native.Mathlib.Decide.{dec_lt}
use lib.Ieee.{Float, nan, inf, fin, down}
use lib.Ieee.Exact.{HasValue}
use Rattle.posit.specs.Number.{Number, nar, real, number, magnitude, opposite, with_sign}
use Rattle.posit.specs.Rounding.{Known, Rounds, dyadic}
use Rattle.posit.proofs.Laws.{one_answer, dyadic_straight}
use Rattle.posit.proofs.Own.{own}
use Rattle.posit.proofs.Patterns.{number-zero, number_plus, number_minus}
use Rattle.real.specs.Reals.{Exactly, Holds, ToF64, FromF64}
use Rattle.real.specs.declared.numbers.RealAnswer.{RealAnswer}
use Rattle.real.specs.declared.numbers.RealAnswer.TheVariants.{Real, NaR}
use Rattle.real.proofs.Values.{same_number}

abbrev pub float_of : RealAnswer → Float
float_of (Real x) = x
float_of NaR = nan

-- an f64 that is exactly k / 2 ^ (q + 1) rounds as that fraction does
value_rounds : (s : Bool) (a q : ℕ) (x : Float) (u : ℕ) → HasValue x s a (2 ^ suc q) → FromF64 x u → Rounds 1 16 (dyadic (with_sign s a) (negsuc q)) u
value_rounds s a q nan u v r = absurd v
value_rounds s a q (inf t) u v r = absurd v
value_rounds s a q (fin t m e) u v r =
    subst (λ (x : Known). Rounds 1 16 x u)
    (ap (λ (b : Bool). dyadic (with_sign b m) e) v.0 ∙ same_number s m a e (negsuc q) (v.1 ∙ ap (λ (n : ℕ). n * down e) (sym (mul-one a)))) r

exactly_rounds : (k : ℤ) (q : ℕ) (x : Float) (u : ℕ) → Exactly k (suc q) x → FromF64 x u → Rounds 1 16 (dyadic k (negsuc q)) u
exactly_rounds (pos a) q x u v r = value_rounds false a q x u v.1 r
exactly_rounds (negsuc a) q x u v r = value_rounds true (suc a) q x u v.1 r

no_nar : (k : ℤ) → real k ≡ nar → ⊥
no_nar k e = let z : ◌≡◌ {A = ℕ} 0 1 = cc in omega arith

nar_only : (p : ℕ) → number 1 16 p ≡ nar → p ≡ 0x8000
nar_only p e = go (dec_lt 0 p) (dec_lt p 0x8000) (dec_lt 0x8000 p)
  where
    go : Dec (0 < p) → Dec (p < 0x8000) → Dec (0x8000 < p) → p ≡ 0x8000
    go (no z) b d = absurd (no_nar (pos 0) (sym (number-zero 1 16) ∙ ap (number 1 16) (let s : 0 ≡ p = omega arith in s) ∙ e))
    go (yes z) (yes b) d = absurd (no_nar (pos (magnitude 1 16 p)) (sym (number_plus 1 16 p z b) ∙ e))
    go (yes z) (no b) (yes d) = absurd (no_nar (neg_ℤ (pos (magnitude 1 16 (opposite 16 p)))) (sym (number_minus 1 16 p d) ∙ e))
    go (yes z) (no b) (no d) = omega arith

own_back : (p q : ℕ) → p < 2 ^ 16 → (x : Float) (z : Number) → number 1 16 p ≡ z → Holds 28 z x → FromF64 x q → q ≡ p
own_back p q top x nar e v r = absurd v
own_back p q top x (real k) e v r =
    one_answer 1 16 (omega arith) (dyadic k (negsuc 27)) (dyadic_straight k (negsuc 27)) q p (exactly_rounds k 27 x q v r) (own 1 16 p (omega arith) top k e)

pub there_and_back : (p : ℕ) → p < 2 ^ 16 → (r : RealAnswer) (q : ℕ) → ToF64 p r → FromF64 (float_of r) q → q ≡ p
there_and_back p top (Real x) q v r = own_back p q top x (number 1 16 p) refl v r
there_and_back p top NaR q v r = r ∙ sym (nar_only p v)
