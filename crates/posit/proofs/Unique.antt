-- A larger number never gets a smaller answer; so a number has at most one answer.
use Rattle.std.proofs.Common.{◌≡◌, ℕ, suc, ◌+◌, ◌-◌, ◌*◌, ◌^◌, ◌<◌, ◌≤◌, sym, refl, ap, subst, ⊎_elim, le_antisymm, eq-or-lt_of_le, pow-suc, arith, pow_pos}
use Prim.Native.Nat.{Ordering}
use native.Mathlib.Decide.{dec_lt}
use Rattle.posit.specs.Number.{unit}
use Rattle.posit.specs.Rounding.{Cut, Reached, Enough, Rounded, dividing, divides, largest}
use Rattle.posit.proofs.Compare.{OneWay}
use Rattle.posit.proofs.Growth.{larger}

-- c's number is at most c''s: what lies below the first lies below the second, what lies above the second above the first
pub record AtMost (c c' : Cut) : Type 0 where
  pub below : (d k : ℕ) → c d k ≡ Ordering.lt → c' d k ≡ Ordering.lt
  pub above : (d k : ℕ) → c' d k ≡ Ordering.gt → c d k ≡ Ordering.gt

pub at_most_self : (c : Cut) → AtMost c c
at_most_self c = record { below = λ d k e. e; above = λ d k e. e }

-- the largest pattern of width n, by that of width n + 1
pub doubled : (n : ℕ) → 3 ≤ n → largest (n + 1) ≡ 2 * largest n + 1
doubled n few =
    let a : 2 ^ (n + 1 - 1) ≡ 2 ^ suc (n - 1) = ap (λ (x : ℕ). 2 ^ x) (omega arith) in
    let b = pow-suc 2 (n - 1) in
    let z : 0 < 2 ^ (n - 1) = pow_pos (n - 1) in
    omega arith

pub dividing_grows : (es n u v : ℕ) → 3 ≤ n → u < v → v ≤ largest n → dividing es n u < dividing es n v
dividing_grows es n u v few l hi = let d = doubled n few in larger es (n + 1) (2 * u + 1) (2 * v + 1) (omega arith) (omega arith) (omega arith) (omega arith)

not_above : (o : Ordering) (u : ℕ) → Reached o u → o ≡ Ordering.gt → ⊥
not_above o u r e = subst (λ (x : Ordering). Reached x u) e r

not_below : (o : Ordering) (u : ℕ) → Enough o u → o ≡ Ordering.lt → ⊥
not_below o u r e = subst (λ (x : Ordering). Enough x u) e r

-- one dividing number cannot put two neighbours in the wrong order
clash : (u v : ℕ) (o o' : Ordering) → u ≡ suc v → Reached o u → Enough o' v → (o ≡ Ordering.lt → o' ≡ Ordering.lt) → (o' ≡ Ordering.gt → o ≡ Ordering.gt) → ⊥
clash u v Ordering.lt o' e r n f g = not_below o' v n (f refl)
clash u v Ordering.eq Ordering.lt e r n f g = n
clash u v Ordering.eq Ordering.eq e r n f g = omega arith
clash u v Ordering.eq Ordering.gt e r n f g = not_above Ordering.eq u r (g refl)
clash u v Ordering.gt o' e r n f g = r

module _ (es n : ℕ) (few : 3 ≤ n) (c c' : Cut) (w : OneWay c) (m : AtMost c c') where
  abbrev k : ℕ
  k = unit es (n + 1)

  disordered : (u v : ℕ) → Rounded es n c u → Rounded es n c' v → v < u → ⊥
  disordered u v ru rv l = ⊎_elim (λ e. omega (arith, rv.least)) (λ p. ⊎_elim (λ e. omega (arith, ru.most)) (λ q. go p q) rv.enough) ru.reached
    where
      go : Reached (divides es n c (u - 1)) u → Enough (divides es n c' v) v → ⊥
      go p q =
          ⊎_elim
          (λ (e : suc v ≡ u).
          clash u v (divides es n c v) (divides es n c' v) (sym e) (subst (λ (x : ℕ). Reached (divides es n c x) u) (let f : u - 1 ≡ v = omega arith in f) p) q
          (m.below (dividing es n v) k) (m.above (dividing es n v) k))
          (λ (h : suc v < u).
          ⊎_elim (not_above (divides es n c (u - 1)) u p) (λ b. not_below (divides es n c' v) v q (m.below (dividing es n v) k b))
          (w (dividing es n v) (dividing es n (u - 1)) k (dividing_grows es n v (u - 1) few (omega arith) (omega (arith, ru.most)))))
          (eq-or-lt_of_le l)

  pub rises : (u v : ℕ) → Rounded es n c u → Rounded es n c' v → u ≤ v
  rises u v ru rv = go (dec_lt v u)
    where
      go : Dec (v < u) → u ≤ v
      go (yes h) = absurd (disordered u v ru rv h)
      go (no h) = omega arith

pub unique : (es n : ℕ) → 3 ≤ n → (c : Cut) → OneWay c → (u v : ℕ) → Rounded es n c u → Rounded es n c v → u ≡ v
unique es n few c w u v ru rv = le_antisymm (rises es n few c c w (at_most_self c) u v ru rv) (rises es n few c c w (at_most_self c) v u rv ru)
