-- The edges of a span as ends of the numbers that round to a pattern above zero, u: p itself, or its opposite.
use Prim.Native.Nat.{ℕ, zero, suc, ◌+◌, ◌-◌, ◌*◌, ◌%◌, ◌^◌, ◌<◌}
use mathlib.Core.Path.{◌≡◌, ◌∙◌, ap, subst, subst⁻¹}
use mathlib.Core.Bool.{Bool, true, false}
use native.Mathlib.Omega.{arith}
use native.Mathlib.Decide.{ℕ_discrete}
use lib.IntN.{pos, neg_ℤ}
use lib.Ieee.{Float}
use lib.Ieee.Exact.{HasValue}
use Rattle.posit.specs.Number.{Number, real, number, magnitude, opposite}
use Rattle.posit.specs.Rounding.{dividing}
use Rattle.posit.proofs.Complement.{opposite_is}
use Rattle.posit.proofs.Own.{magnitude_some}
use Rattle.posit.proofs.Patterns.{number-zero, number_plus, number_minus}
use Rattle.real.specs.Reals.{Exactly, Holds}
use Rattle.spans.specs.Spans.{at, tied, lower_place, upper_place, Stands}
use Rattle.spans.specs.declared.edges.Edge.{Edge}
use Rattle.spans.specs.declared.edges.Edge.TheVariants.{Missing, Excluded, Included}
use Rattle.spans.specs.declared.edges.Place.{Place}
use Rattle.spans.proofs.Places.{tied_even, tied-odd, lower_next, upper_next}
use Rattle.span_laws.proofs.Readings.{Reads, reads, minus-zero}
use Rattle.span_laws.proofs.Above.{Least, first, from_even, from_odd, Most, last, to_even, to_odd}

-- what stands at the number of a 17-bit posit, by its sign
pub at_zero : (x : Float) → Holds 30 (number 1 17 0) x → HasValue x false 0 (2 ^ 30)
at_zero x h = (subst (λ (z : Number). Holds 30 z x) (number-zero 1 17) h).1

at_plus : (v : ℕ) (x : Float) → 0 < v → v < 2 ^ 16 → Holds 30 (number 1 17 v) x → HasValue x false (magnitude 1 17 v) (2 ^ 30)
at_plus v x l h e = (subst (λ (z : Number). Holds 30 z x) (number_plus 1 17 v l h) e).1

minus-value : (m q : ℕ) (x : Float) → 0 < m → Exactly (neg_ℤ (pos m)) q x → HasValue x true m (2 ^ q)
minus-value zero q x l e = absurd (omega arith)
minus-value (suc m) q x l e = e.1

at_minus : (v w : ℕ) (x : Float) → 2 ^ 16 < v → v + w ≡ 2 ^ 17 → 0 < w → Holds 30 (number 1 17 v) x → HasValue x true (magnitude 1 17 w) (2 ^ 30)
at_minus v w x l e some h =
    let o : opposite 17 v ≡ w = opposite_is 17 v (omega arith) ∙ (let q : 2 ^ 17 - v ≡ w = omega arith in q) in
    minus-value (magnitude 1 17 w) 30 x (magnitude_some 1 17 w (omega arith) some (omega arith))
    (subst (λ (z : Number). Holds 30 z x) (number_minus 1 17 v l ∙ ap (λ (k : ℕ). real (neg_ℤ (pos (magnitude 1 17 k)))) o) h)

-- x as an end of the numbers that round to u, or with the sign t of minus these; E is Least u or Most u
pub record End (E : Edge → ℕ → Type 0) (t : Bool) (κ : Edge) (x : Float) : Type 0 where
  pub size : ℕ
  pub end : E κ size
  pub reads : Reads t size κ x

-- at a dividing number d, by the parity of p
dividing_end : (E : Edge → ℕ → Type 0) (t : Bool) (x : Float) (p d : ℕ) → (p % 2 ≡ 0 → E Included d) → ((p % 2 ≡ 0 → ⊥) → E Excluded d)
    → HasValue x t d (2 ^ 30) → End E t (tied p) x
dividing_end E t x p d even odd v = go (ℕ_discrete (p % 2) 0)
  where
    go : Dec (p % 2 ≡ 0) → End E t (tied p) x
    go (yes e) = subst⁻¹ (λ (κ : Edge). End E t κ x) (tied_even p e) (record { size = d; end = even e; reads = reads t d Included x v })
    go (no e) = subst⁻¹ (λ (κ : Edge). End E t κ x) (tied-odd p e) (record { size = d; end = odd e; reads = reads t d Excluded x v })

-- where the place is known
placed : (E : Edge → ℕ → Type 0) (t : Bool) (x : Float) (κ : Edge) (a b : Place) → a ≡ b → Stands a x κ
    → (Holds 30 (number 1 17 b.posit) x → End E t b.edge x) → End E t κ x
placed E t x κ a b e h f = let g = subst (λ (c : Place). Stands c x κ) e h in subst⁻¹ (λ (c : Edge). End E t c x) g.1 (f g.0)

module _ (p : ℕ) (x : Float) (κ : Edge) where
  -- a pattern above zero is u itself
  module _ (l : 0 < p) (h : p < 2 ^ 15) where
    pub from-plus : Stands (lower_place p) x κ → End (Least p) false κ x
    from-plus v = go (ℕ_discrete p 1)
      where
        go : Dec (p ≡ 1) → End (Least p) false κ x
        go (yes e) =
            placed (Least p) false x κ (lower_place p) (at 0 Excluded) (ap lower_place e) v
            (λ w. record { size = 0; end = first e; reads = reads false 0 Excluded x (at_zero x w) })
        go (no e) =
            placed (Least p) false x κ (lower_place p) (at (2 * p - 1) (tied p)) (lower_next p (λ z. omega arith) (omega arith) e (λ z. omega arith)) v
            (λ w. dividing_end (Least p) false x p (dividing 1 16 (p - 1)) (from_even (omega arith)) (from_odd (omega arith))
            (subst (λ (k : ℕ). HasValue x false (magnitude 1 17 k) (2 ^ 30)) (let q : 2 * p - 1 ≡ 2 * (p - 1) + 1 = omega arith in q)
            (at_plus (2 * p - 1) x (omega arith) (omega arith) w)))

    pub to_plus : Stands (upper_place p) x κ → End (Most p) false κ x
    to_plus v = go (ℕ_discrete p 0x7fff)
      where
        go : Dec (p ≡ 0x7fff) → End (Most p) false κ x
        go (yes e) =
            placed (Most p) false x κ (upper_place p) (at 0 Missing) (ap upper_place e) v
            (λ w. record { size = 0; end = last e; reads = reads false 0 Missing x (at_zero x w) })
        go (no e) =
            placed (Most p) false x κ (upper_place p) (at (2 * p + 1) (tied p)) (upper_next p (λ z. omega arith) (omega arith) (λ z. omega arith) e) v
            (λ w. dividing_end (Most p) false x p (dividing 1 16 p) (to_even (omega arith)) (to_odd (omega arith))
            (at_plus (2 * p + 1) x (omega arith) (omega arith) w))

  -- of one below zero u is the opposite, and the edges change places
  module _ (u : ℕ) (l : 2 ^ 15 < p) (o : p + u ≡ 2 ^ 16) (some : 0 < u) where
    pub from_minus : Stands (upper_place p) x κ → End (Least u) true κ x
    from_minus v = go (ℕ_discrete p 0xffff)
      where
        go : Dec (p ≡ 0xffff) → End (Least u) true κ x
        go (yes e) =
            placed (Least u) true x κ (upper_place p) (at 0 Excluded) (ap upper_place e) v
            (λ w. record { size = 0; end = first (omega arith); reads = minus-zero Excluded x (at_zero x w) })
        go (no e) =
            placed (Least u) true x κ (upper_place p) (at (2 * p + 1) (tied p)) (upper_next p (λ z. omega arith) (omega arith) e (λ z. omega arith)) v
            (λ w. dividing_end (Least u) true x p (dividing 1 16 (u - 1)) (λ k. from_even (omega (arith, e)) (omega arith))
            (λ k. from_odd (omega (arith, e)) (λ f. k (omega arith)))
            (at_minus (2 * p + 1) (2 * (u - 1) + 1) x (omega arith) (omega arith) (omega arith) w))

    pub to_minus : Stands (lower_place p) x κ → End (Most u) true κ x
    to_minus v = go (ℕ_discrete p 0x8001)
      where
        go : Dec (p ≡ 0x8001) → End (Most u) true κ x
        go (yes e) =
            placed (Most u) true x κ (lower_place p) (at 0 Missing) (ap lower_place e) v
            (λ w. record { size = 0; end = last (omega arith); reads = minus-zero Missing x (at_zero x w) })
        go (no e) =
            placed (Most u) true x κ (lower_place p) (at (2 * p - 1) (tied p)) (lower_next p (λ z. omega arith) (omega arith) (λ z. omega arith) e) v
            (λ w. dividing_end (Most u) true x p (dividing 1 16 u) (λ k. to_even (omega (arith, e)) (omega arith))
            (λ k. to_odd (omega (arith, e)) (λ f. k (omega arith)))
            (at_minus (2 * p - 1) (2 * u + 1) x (omega arith) (omega arith) (omega arith) w))
