-- What rows 5 and 6 have in common: the answer without its sign, by the quadrant and the rest, and the quadrant's sign, each with
-- the side.
use Rattle.std.proofs.Common.{◌≡◌, ℕ, ◌%◌, Bool, cond, eqb, pos, refl, ap, ◌∙◌, subst, eq-eqb, ne_eqb}
use Rattle.posit.specs.Rounding.{over}
use Rattle.posit.specs.Sides.{RoundsSided, outright, negated_sided}
use Rattle.posit.specs.declared.side.Sided.{Sided}
use Rattle.circular.specs.Quadrants.{quadrant, rest, odd, reflected}
use Rattle.rows.specs.Rows.{Row, names, rounds, MeetsSided, opposed}
use Rattle.rows.proofs.Signs.{signed_sided_lem}

-- where the rest is 0, a in the odd quadrants and b in the even; else P / 2 ^ e, rounded
abbrev pub unsigned : (P : ℕ → ℕ) (e a b q r : ℕ) → Row
unsigned P e a b q r = cond (eqb r 0) (names (cond (odd q) a b)) (rounds (over (pos (P (reflected q r))) e))

module _ (P : ℕ → ℕ) (e a b q r : ℕ) where
  pub rest-zero-odd : r ≡ 0 → q % 2 ≡ 1 → MeetsSided (unsigned P e a b q r) (outright a)
  rest-zero-odd z o = rw (eq-eqb r 0 z, eq-eqb (q % 2) 1 o) (refl, refl)

  pub rest-zero_even : r ≡ 0 → (q % 2 ≡ 1 → ⊥) → MeetsSided (unsigned P e a b q r) (outright b)
  rest-zero_even z o = rw (eq-eqb r 0 z, ne_eqb (q % 2) 1 o) (refl, refl)

  pub rest_some : (r ≡ 0 → ⊥) → (f m : ℕ) (u : Sided) → f ≡ reflected q r → m ≡ P f → RoundsSided 1 16 (over (pos m) e) u
      → MeetsSided (unsigned P e a b q r) u
  rest_some z f m u reflects kernel h = rw (ne_eqb r 0 z) (subst (λ (k : ℕ). RoundsSided 1 16 (over (pos k) e) u) (kernel ∙ ap P reflects) h)

-- the sign changes in the quadrants where t holds
pub quadrant_sign : (t : ℕ → Bool) (f : ℕ → ℕ → Row) (x q r : ℕ) (u s : Sided) → q ≡ quadrant x → r ≡ rest x
    → MeetsSided (f q r) u → s ≡ cond (t q) (negated_sided u) u
    → MeetsSided (cond (t (quadrant x)) (opposed (f (quadrant x) (rest x))) (f (quadrant x) (rest x))) s
quadrant_sign t f x q r u s e k m signed = rw (signed, ← e, ← k) (signed_sided_lem (t q) (f q r) u m)
