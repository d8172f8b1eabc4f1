-- Row 7 is one of the rows by sign, and what it says of a remainder that the kernel takes.
use Rattle.std.proofs.Common.{◌≡◌, ℕ, ◌-◌, ◌*◌, ◌%◌, ◌^◌, ◌<◌, ◌≤◌, cond, eqb, pos, refl, ap, ◌∙◌, subst, mod-eq_of_lt, arith, le-ltb, lt-ltb, ne_eqb}
use native.Mathlib.Decide.{dec_lt}
use Rattle.posit.specs.Rounding.{over}
use Rattle.posit.specs.Sides.{RoundsSided, negated_sided}
use Rattle.posit.specs.declared.side.Sided.{Sided}
use Rattle.rows.specs.Rows.{rounds, MeetsSided}
use Rattle.circular.specs.Quadrants.{quadrant, rest, reflected}
use Rattle.circular.specs.TanPi.{poly, remainder, otherwise}
use Rattle.circular.proofs.Rows.Odd.{Odd}
use Rattle.rows.proofs.Signs.{opposed_sided}

pub tangent_odd : Odd otherwise (λ k. remainder (k % 2 ^ 28))
unfolding remainder
tangent_odd = record { at_nar = refl; at_zero = refl; at_real = λ q. refl }

module _ (r : ℕ) (a : r ≡ 0 → ⊥) (b : r ≡ 2 ^ 27 → ⊥) (c : r ≡ 2 ^ 26 → ⊥) (d : r ≡ 3 * 2 ^ 26 → ⊥) (m : ℕ) (u : Sided)
    (h : RoundsSided 1 16 (over (pos m) 28) u) where
  below_half : r < 2 ^ 27 → m ≡ poly r → MeetsSided (remainder r) u
  unfolding remainder
  below_half l e =
      rw (ne_eqb r 0 a, ne_eqb r (2 ^ 27) b, ne_eqb r (2 ^ 26) c, ne_eqb r (3 * 2 ^ 26) d, lt-ltb r (2 ^ 27) l)
      (subst (λ (k : ℕ). RoundsSided 1 16 (over (pos k) 28) u) e h)

  above_half : 2 ^ 27 ≤ r → m ≡ poly (2 ^ 28 - r) → MeetsSided (remainder r) (negated_sided u)
  unfolding remainder
  above_half l e =
      rw (ne_eqb r 0 a, ne_eqb r (2 ^ 27) b, ne_eqb r (2 ^ 26) c, ne_eqb r (3 * 2 ^ 26) d, le-ltb r (2 ^ 27) l)
      (opposed_sided (rounds (over (pos (poly (2 ^ 28 - r))) 28)) u (subst (λ (k : ℕ). RoundsSided 1 16 (over (pos k) 28) u) e h))

  -- on either side of a half: q is 1 past it, and there what is left of r is reflected and the sign changes
  pub by_half : {q x f : ℕ} → r < 2 ^ 28 → q ≡ quadrant r → x ≡ rest r → f ≡ reflected q x → m ≡ poly f
      → MeetsSided (remainder r) (cond (eqb q 1) (negated_sided u) u)
  by_half {q} {x} h half left f-is e = go (dec_lt r (2 ^ 27))
    where
      go : Dec (r < 2 ^ 27) → MeetsSided (remainder r) (cond (eqb q 1) (negated_sided u) u)
      go (yes l) =
          let z : q ≡ 0 = omega arith in
          rw z (below_half l (e ∙ ap poly ((rw z at f-is) ∙ left ∙ mod-eq_of_lt l)))
      go (no l) =
          let z : q ≡ 1 = omega arith in
          let k : 2 ^ 27 - x ≡ 2 ^ 28 - r = omega arith in
          rw z (above_half (omega arith) (e ∙ ap poly ((rw z at f-is) ∙ k)))
