-- Which answer a number has, from how it stands to the dividing numbers, or from two neighbouring patterns of n + 1 bits
-- that it lies between. The number is a / b in the unit of the dividing numbers.
use Rattle.std.proofs.Common.{◌≡◌, ℕ, suc, ◌+◌, ◌-◌, ◌*◌, ◌%◌, ◌<◌, ◌≤◌, sym, ap, subst, inl, inr, ⊎_elim, le_of_eq, le_of_lt, eq-or-lt_of_le, mul-lt-mul_of_pos_right, arith}
use Prim.Native.Nat.{compare}
use Rattle.posit.specs.Number.{magnitude, unit}
use Rattle.posit.specs.Rounding.{Cut, Rounded, dividing, largest}
use Rattle.posit.proofs.Compare.{reached, enough}
use Rattle.posit.proofs.Growth.{larger}
use Rattle.posit.proofs.Unique.{doubled}

module _ (es n : ℕ) (few : 3 ≤ n) (c : Cut) (a b : ℕ) (some : 0 < b) (stands : (d : ℕ) → c d (unit es (n + 1)) ≡ compare (d * b) a) where
  pub rounded : (u : ℕ) → 1 ≤ u → u ≤ largest n
      → (1 < u → (dividing es n (u - 1) * b ≤ a) × (dividing es n (u - 1) * b ≡ a → u % 2 ≡ 0))
      → (u < largest n → (a ≤ dividing es n u * b) × (dividing es n u * b ≡ a → u % 2 ≡ 0))
      → Rounded es n c u
  rounded u lo hi p q =
      record {
        least = lo;
        most = hi;
        reached =
            ⊎_elim (λ e. inl (sym e))
            (λ h. inr (rw (stands (dividing es n (u - 1))) (reached (dividing es n (u - 1) * b) a u (p h).0 (p h).1))) (eq-or-lt_of_le lo);
        enough = ⊎_elim (λ e. inl e) (λ h. inr (rw (stands (dividing es n u)) (enough (dividing es n u * b) a u (q h).0 (q h).1))) (eq-or-lt_of_le hi);
      }

  abbrev number : ℕ → ℕ
  number p = magnitude es (n + 1) p * b

  grows : (p q : ℕ) → 1 ≤ p → p < q → q ≤ largest (n + 1) → number p < number q
  grows p q lo l hi = mul-lt-mul_of_pos_right (larger es (n + 1) p q (omega arith) lo l hi) some

  grows_or_same : (p q : ℕ) → 1 ≤ p → p ≤ q → q ≤ largest (n + 1) → number p ≤ number q
  grows_or_same p q lo l hi = ⊎_elim (λ e. le_of_eq (ap number e)) (λ k. le_of_lt (grows p q lo k hi)) (eq-or-lt_of_le l)

  -- v and the pattern after it are the neighbours; the last two arguments are the cases where u's dividing number is v
  pub nearest : (v u : ℕ) → number v ≤ a → a < number (suc v) → 1 ≤ u → u ≤ largest n → 2 * u ≤ suc v → v ≤ 2 * u + 1
      → (2 * u ≡ suc v → number v ≡ a → u % 2 ≡ 0)
      → (v ≡ 2 * u + 1 → (number v ≡ a) × (u % 2 ≡ 0))
      → Rounded es n c u
  nearest v u from below lo hi near far onto tie = rounded u lo hi lower upper
    where
      d : largest (n + 1) ≡ 2 * largest n + 1
      d = doubled n few

      lower : 1 < u → (dividing es n (u - 1) * b ≤ a) × (dividing es n (u - 1) * b ≡ a → u % 2 ≡ 0)
      lower h =
          ⊎_elim
          (λ (e : 2 * (u - 1) + 1 ≡ v).
          subst (λ (p : ℕ). (number p ≤ a) × (number p ≡ a → u % 2 ≡ 0)) (sym e) (from, onto (omega arith)))
          (λ (l : 2 * (u - 1) + 1 < v).
          let e = d in let k = grows (2 * (u - 1) + 1) v (omega arith) l (omega arith) in (omega arith, λ f. absurd (omega arith)))
          (eq-or-lt_of_le (let k : 2 * (u - 1) + 1 ≤ v = omega arith in k))

      upper : u < largest n → (a ≤ dividing es n u * b) × (dividing es n u * b ≡ a → u % 2 ≡ 0)
      upper h =
          ⊎_elim
          (λ (e : v ≡ 2 * u + 1).
          subst (λ (p : ℕ). (a ≤ number p) × (number p ≡ a → u % 2 ≡ 0)) e (le_of_eq (sym (tie e).0), λ f. (tie e).1))
          (λ (l : v < 2 * u + 1).
          let e = d in let k = grows_or_same (suc v) (2 * u + 1) (omega arith) l (omega arith) in (omega arith, λ f. absurd (omega arith)))
          (eq-or-lt_of_le far)
