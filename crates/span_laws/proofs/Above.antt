-- The pattern u of a number above zero: what rounds to it lies between its dividing numbers, or where one is missing up to there.
use Prim.Native.Nat.{ℕ, zero, suc, ◌+◌, ◌-◌, ◌*◌, ◌%◌, ◌^◌, ◌≤◌, ◌<◌, compare, Ordering}
use mathlib.Core.Path.{◌≡◌, ◌∙◌, ap}
use mathlib.Core.Bool.{Bool, true, false}
use mathlib.Core.Logic.{◌⊎◌, inl, inr, ⊎_elim, ◌↔◌}
use native.Mathlib.Omega.{arith}
use native.Mathlib.Nat.{zero-mul, zero-lt-suc, mul-pos}
use lib.IntN.{ℤ}
use lib.Pow.{pow_pos}
use lib.Ieee.{up, down}
use lib.Ieee.Fits.{up_pos, down_pos}
use Rattle.posit.specs.Number.{with_sign}
use Rattle.posit.specs.Rounding.{dividing, Reached, Enough, Rounds, dyadic, largest}
use Rattle.posit.proofs.Compare.{Told, less, same, more, told, reached, enough}
use Rattle.posit.proofs.Complement.{opposite_is}
use Rattle.posit.proofs.Own.{magnitude_some}
use Rattle.spans.specs.declared.edges.Edge.{Edge}
use Rattle.spans.specs.declared.edges.Edge.TheVariants.{Missing, Excluded, Included}
use Rattle.span_laws.proofs.Order.{Sized}
use Rattle.span_laws.proofs.Readings.{scaled}

-- the lower end of u's span, at a / 2 ^ 30
pub data Least (u : ℕ) : Edge → ℕ → Type 0 where
  first : u ≡ 1 → Least u Excluded 0
  from_even : 1 < u → u % 2 ≡ 0 → Least u Included (dividing 1 16 (u - 1))
  from_odd : 1 < u → (u % 2 ≡ 0 → ⊥) → Least u Excluded (dividing 1 16 (u - 1))

-- and its upper end
pub data Most (u : ℕ) : Edge → ℕ → Type 0 where
  last : u ≡ largest 16 → Most u Missing 0
  to_even : u < largest 16 → u % 2 ≡ 0 → Most u Included (dividing 1 16 u)
  to_odd : u < largest 16 → (u % 2 ≡ 0 → ⊥) → Most u Excluded (dividing 1 16 u)

-- the two tests of the rounding rule, told of the numbers compared
reached_le : (m n u : ℕ) (o : Ordering) → Told m n o → Reached o u → m ≤ n
reached_le m n u Ordering.lt (less h) r = omega arith
reached_le m n u Ordering.eq (same h) r = omega arith
reached_le m n u Ordering.gt (more h) r = absurd r

reached_lt : (m n u : ℕ) (o : Ordering) → Told m n o → Reached o u → (u % 2 ≡ 0 → ⊥) → m < n
reached_lt m n u Ordering.lt (less h) r odd = h
reached_lt m n u Ordering.eq (same h) r odd = absurd (odd r)
reached_lt m n u Ordering.gt (more h) r odd = absurd r

enough_le : (m n u : ℕ) (o : Ordering) → Told m n o → Enough o u → n ≤ m
enough_le m n u Ordering.lt (less h) r = absurd r
enough_le m n u Ordering.eq (same h) r = omega arith
enough_le m n u Ordering.gt (more h) r = omega arith

enough_lt : (m n u : ℕ) (o : Ordering) → Told m n o → Enough o u → (u % 2 ≡ 0 → ⊥) → n < m
enough_lt m n u Ordering.lt (less h) r odd = absurd r
enough_lt m n u Ordering.eq (same h) r odd = absurd (odd r)
enough_lt m n u Ordering.gt (more h) r odd = h

module _ (u : ℕ) (least : 1 ≤ u) (top : u < 2 ^ 15) where
  -- of a number N / D above zero
  module _ (N D : ℕ) (some : 0 < N) where
    abbrev X : ℕ
    X = N * 2 ^ 30

    abbrev low : ℕ
    low = dividing 1 16 (u - 1) * D

    abbrev high : ℕ
    high = dividing 1 16 u * D

    lower : (κ : Edge) (a : ℕ) → Least u κ a → ((u ≡ 1) ⊎ Reached (compare low X) u) ↔ Sized κ false (a * D) false X
    lower Missing a l = elim l [ ]
    lower Excluded a (first e) = (λ r. let z = zero-mul D in let k = mul-pos some (pow_pos 30) in omega arith, λ h. inl e)
    lower Included a (from_even l e) =
        (λ r. ⊎_elim (λ f. absurd (omega arith)) (λ k. reached_le low X u (compare low X) (told low X) k) r, λ h. inr (reached low X u h (λ f. e)))
    lower Excluded a (from_odd l e) = (
      λ r. ⊎_elim (λ f. absurd (omega arith)) (λ k. reached_lt low X u (compare low X) (told low X) k e) r,
      λ h. inr (reached low X u (omega arith) (λ f. absurd (omega arith))),
    )

    upper : (κ : Edge) (a : ℕ) → Most u κ a → ((u ≡ largest 16) ⊎ Enough (compare high X) u) ↔ Sized κ false X false (a * D)
    upper Missing a (last e) = (λ r. tt, λ h. inl e)
    upper Included a (to_even l e) =
        (λ r. ⊎_elim (λ f. absurd (omega arith)) (λ k. enough_le high X u (compare high X) (told high X) k) r, λ h. inr (enough high X u h (λ f. e)))
    upper Excluded a (to_odd l e) = (
      λ r. ⊎_elim (λ f. absurd (omega arith)) (λ k. enough_lt high X u (compare high X) (told high X) k e) r,
      λ h. inr (enough high X u (omega arith) (λ f. absurd (omega arith))),
    )

  -- no other number lies above the lower end
  edge_some : (D : ℕ) → 1 < u → 0 < D → 0 < dividing 1 16 (u - 1) * D
  edge_some D l d = mul-pos (magnitude_some 1 17 (2 * (u - 1) + 1) (omega arith) (omega arith) (omega arith)) d

  not_zero : (κ : Edge) (a D X : ℕ) → Least u κ a → 0 < D → X ≡ 0 → Sized κ false (a * D) false X → ⊥
  not_zero Missing a D X l d z h = elim l [ ]
  not_zero Excluded a D X (first e) d z h = omega arith
  not_zero Included a D X (from_even l e) d z h = let k = edge_some D l d in omega arith
  not_zero Excluded a D X (from_odd l e) d z h = omega arith

  not_below : (κ : Edge) (a D X : ℕ) → Least u κ a → 0 < D → Sized κ false (a * D) true X → ⊥
  not_below Missing a D X l d h = elim l [ ]
  not_below Excluded a D X (first e) d h = h
  not_below Included a D X (from_even l e) d h = let k = edge_some D l d in omega arith
  not_below Excluded a D X (from_odd l e) d h = h

  module _ (κ κ' : Edge) (a b : ℕ) (from : Least u κ a) (to : Most u κ' b) where
    pub between : (s : Bool) (m : ℕ) (e : ℤ)
        → Rounds 1 16 (dyadic (with_sign s m) e) u ↔ (Sized κ false (a * down e) s (scaled m e) × Sized κ' s (scaled m e) false (b * down e))
    between false zero e = (
      λ r. absurd (omega arith),
      λ h. absurd (not_zero κ a (down e) (scaled zero e) from (down_pos e) (ap (λ (x : ℕ). x * 2 ^ 30) (zero-mul (up e)) ∙ zero-mul (2 ^ 30)) h.0),
    )
    between false (suc m) e =
        let some = mul-pos (zero-lt-suc m) (up_pos e) in
        let l = lower (suc m * up e) (down e) some κ a from in
        let h = upper (suc m * up e) (down e) some κ' b to in (
          λ r. (l.0 r.reached, h.0 r.enough),
          λ k. record { least = least; most = omega arith; reached = l.1 k.0; enough = h.1 k.1 },
        )
    between true zero e = (λ r. absurd (omega arith), λ h. absurd (not_below κ a (down e) (scaled zero e) from (down_pos e) h.0))
    between true (suc m) e = (
      λ r. let k = r.most in let o = opposite_is 16 u least in absurd (omega arith),
      λ h. absurd (not_below κ a (down e) (scaled (suc m) e) from (down_pos e) h.0),
    )
