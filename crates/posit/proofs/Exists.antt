-- Every number has an answer: the one that `answer` computes.
use Rattle.std.proofs.Common.{◌≡◌, ℕ, zero, suc, ◌+◌, ◌-◌, ◌%◌, ◌^◌, ◌<◌, ◌≤◌, Bool, true, false, ◌&&◌, leb, sym, refl, ap, ◌∙◌, subst, inl, inr, ⊎_elim, eq-or-lt_of_le, pow-suc, zero-add, arith, pow_pos, pow_mono, eqb-true, le-leb, leb-true}
use Prim.Native.Nat.{Ordering}
use native.Mathlib.Decide.{dec_le}
use borrow.Author.Tests.{lt-leb, eqb-false}
use Rattle.std.proofs.lemmas.Bool.{and_parts}
use Rattle.posit.specs.Rounding.{Cut, Known, nought, plus, minus, Reached, Enough, Rounded, Rounds, divides, largest}
use Rattle.posit.specs.Answer.{passes, reaches, descend, answer}
use Rattle.posit.proofs.Complement.{opposite_twice}

pub record Edge (f : ℕ → Bool) (u : ℕ) : Type 0 where
  pub inside : f u ≡ true
  pub outside : f (u + 1) ≡ false

pub descends : (f : ℕ → Bool) (k u : ℕ) → f u ≡ true → f (u + 2 ^ k) ≡ false → Edge f (descend f k u)
unfolding descend
descends f zero u i o = record { inside = i; outside = o }
descends f (suc k) u i o =
    go (f (u + 2 ^ k)) refl
    (λ e. descends f k (u + 2 ^ k) e (subst (λ (x : ℕ). f x ≡ false) (let d = pow-suc 2 k in let q : u + 2 ^ suc k ≡ u + 2 ^ k + 2 ^ k = omega arith in q) o))
    (λ e. descends f k u i e)
  where
    go : (b : Bool) → f (u + 2 ^ k) ≡ b → (f (u + 2 ^ k) ≡ true → Edge f (descend f k (u + 2 ^ k))) → (f (u + 2 ^ k) ≡ false → Edge f (descend f k u))
        → Edge f (elim b as (λ y. ℕ) [ true ↦ descend f k (u + 2 ^ k) | false ↦ descend f k u ])
    go true e g h = g e
    go false e g h = h e

passed : (o : Ordering) (u : ℕ) → passes o u ≡ true → Reached o u
passed Ordering.lt u e = tt
passed Ordering.eq u e = eqb-true (u % 2) 0 e
passed Ordering.gt u e = cc

failed : (o : Ordering) (u : ℕ) → passes o (u + 1) ≡ false → Enough o u
failed Ordering.lt u e = cc
failed Ordering.eq u e = let k = eqb-false ((u + 1) % 2) 0 e in omega arith
failed Ordering.gt u e = tt

module _ (es n : ℕ) (few : 3 ≤ n) (c : Cut) where
  one_below : 1 < largest n
  one_below = let a : 2 ^ 2 ≤ 2 ^ (n - 1) = pow_mono {i = 2} (omega arith) in omega arith

  abbrev found : ℕ
  found = descend (reaches es n c) (n - 1) 0

  past : reaches es n c (0 + 2 ^ (n - 1)) ≡ false
  past =
      let h = one_below in
      let e : 0 + 2 ^ (n - 1) ≡ 2 ^ (n - 1) = zero-add (2 ^ (n - 1)) in
      rw (e, lt-leb (2 ^ (n - 1)) 1 (omega arith), lt-leb (2 ^ (n - 1)) (largest n) (omega arith))

  edge : Edge (reaches es n c) found
  edge = descends (reaches es n c) (n - 1) 0 (rw (le-leb 0 1 (omega arith))) past

  some : 1 ≤ found
  some = go (dec_le 1 found)
    where
      go : Dec (1 ≤ found) → 1 ≤ found
      go (yes h) = h
      go (no h) = let e : reaches es n c (found + 1) ≡ true = rw (le-leb (found + 1) 1 (omega arith)) in cc (edge.outside)

  -- past 1 the test is the two that are left
  tested : (u : ℕ) → 1 < u → reaches es n c u ≡ (leb u (largest n) && passes (divides es n c (u - 1)) u)
  tested u l = rw (lt-leb u 1 l)

  reached : 1 < found → Reached (divides es n c (found - 1)) found × (found ≤ largest n)
  reached l =
      let both = and_parts (leb found (largest n)) (passes (divides es n c (found - 1)) found) (sym (tested found l) ∙ edge.inside) in
      (passed (divides es n c (found - 1)) found both.1, leb-true found (largest n) both.0)

  enough : found < largest n → Enough (divides es n c found) found
  enough l =
      let s = some in
      let e : passes (divides es n c (found + 1 - 1)) (found + 1) ≡ false =
      ap (λ (b : Bool). b && passes (divides es n c (found + 1 - 1)) (found + 1)) (sym (le-leb (found + 1) (largest n) (omega arith)))
      ∙ sym (tested (found + 1) (omega arith)) ∙ edge.outside in
      failed (divides es n c found) found
      (subst (λ (x : ℕ). passes (divides es n c x) (found + 1) ≡ false) (let q : found + 1 - 1 ≡ found = omega arith in q) e)

  pub found_rounded : Rounded es n c found
  found_rounded =
      let top : found ≤ largest n = ⊎_elim (λ (e : 1 ≡ found). let h = one_below in omega arith) (λ l. (reached l).1) (eq-or-lt_of_le some) in
      record {
        least = some;
        most = top;
        reached = ⊎_elim (λ e. inl (sym e)) (λ l. inr (reached l).0) (eq-or-lt_of_le some);
        enough = ⊎_elim (λ e. inl e) (λ l. inr (enough l)) (eq-or-lt_of_le top);
      }

pub answered : (es n : ℕ) → 3 ≤ n → (x : Known) → Rounds es n x (answer es n x)
answered es n few nought = refl
answered es n few (plus c) = found_rounded es n few c
answered es n few (minus c) =
    let r = found_rounded es n few c in
    subst (λ (u : ℕ). Rounded es n c u)
    (sym
    (opposite_twice n (descend (reaches es n c) (n - 1) 0) r.least
    (let h = r.most in let k : 2 ^ (n - 1) ≤ 2 ^ n = pow_mono (omega arith) in let z = pow_pos (n - 1) in omega arith)))
    r
