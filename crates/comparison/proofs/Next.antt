-- The next place at which two lists differ: one place on where they are the same, here where they differ, the end where there is none;
-- and that it is the least from a place on.
use Prim.Native.Nat.{ℕ, zero, suc, ◌+◌, ◌-◌, ◌≤◌, ◌<◌, min}
use mathlib.Core.Path.{◌≡◌, refl, sym, ap, ◌∙◌}
use mathlib.Core.Bool.{Bool, true, false, cond}
use mathlib.Core.List.{List, [], ◌∷◌}
use native.Mathlib.Omega.{arith}
use native.Mathlib.Nat.{add-zero}
use borrow.Author.Tests.{eq-eqb, ne_eqb, eqb-true, eqb-false}
use lib.ListN.{length, drop, get_or, length-drop}
use lib.Seq.{drop-cons, drop-length, get_or-drop}
use lib.Dec.{eqb}
use Rattle.comparison.specs.Differences.{first_differing, next_differing}

-- the first place at which two lists differ
first-within : (xs ys : List ℕ) → first_differing xs ys ≤ length xs
first-within [] ys = omega arith
first-within (x ∷ xs) [] = omega arith
first-within (x ∷ xs) (y ∷ ys) = go (eqb x y) (first-within xs ys)
  where
    go : (t : Bool) → first_differing xs ys ≤ length xs → cond t (suc (first_differing xs ys)) 0 ≤ suc (length xs)
    go true h = omega arith
    go false h = omega arith

first-differs : (xs ys : List ℕ) → length xs ≡ length ys → first_differing xs ys < length xs
    → get_or xs (first_differing xs ys) 0 ≡ get_or ys (first_differing xs ys) 0 → ⊥
first-differs [] ys l h q = omega arith
first-differs (x ∷ xs) [] l h q = omega arith
first-differs (x ∷ xs) (y ∷ ys) l h q = go (eqb x y) refl (first-differs xs ys (omega arith)) h q
  where
    k : ℕ
    k = first_differing xs ys

    go : (t : Bool) → eqb x y ≡ t → (k < length xs → get_or xs k 0 ≡ get_or ys k 0 → ⊥) → cond t (suc k) 0 < suc (length xs)
        → get_or (x ∷ xs) (cond t (suc k) 0) 0 ≡ get_or (y ∷ ys) (cond t (suc k) 0) 0 → ⊥
    go true e later h q = later (omega arith) q
    go false e later h q = eqb-false x y e q

first_same : (xs ys : List ℕ) (j : ℕ) → j < first_differing xs ys → get_or xs j 0 ≡ get_or ys j 0
first_same [] ys j h = absurd (omega arith)
first_same (x ∷ xs) [] j h = absurd (omega arith)
first_same (x ∷ xs) (y ∷ ys) j h = go (eqb x y) refl j (first_same xs ys) h
  where
    go : (t : Bool) → eqb x y ≡ t → (j : ℕ) → ((i : ℕ) → i < first_differing xs ys → get_or xs i 0 ≡ get_or ys i 0)
        → j < cond t (suc (first_differing xs ys)) 0 → get_or (x ∷ xs) j 0 ≡ get_or (y ∷ ys) j 0
    go true e zero later h = eqb-true x y e
    go true e (suc j) later h = later j (omega arith)
    go false e j later h = absurd (omega arith)

module _ (xs ys : List ℕ) (lengths : length xs ≡ length ys) where
  at_start : (k : ℕ) → k ≤ length xs → next_differing xs ys k ≡ k + first_differing (drop k xs) (drop k ys)
  unfolding next_differing
  at_start k h = let e : min k (length xs) ≡ k = omega arith in rw e

  pub none_beyond : (k : ℕ) → length xs ≤ k → next_differing xs ys k ≡ length xs
  unfolding next_differing
  none_beyond k h =
      let e : min k (length xs) ≡ length xs = omega arith in
      rw (e, drop-length xs) (add-zero (length xs))

  module _ (k : ℕ) (h : k < length xs) where
    unrolled : next_differing xs ys k ≡ k + cond (eqb (get_or xs k 0) (get_or ys k 0)) (suc (first_differing (drop (suc k) xs) (drop (suc k) ys))) 0
    unrolled = at_start k (omega arith) ∙ (rw (drop-cons xs k 0 h, drop-cons ys k 0 (omega arith)))

    pub one_on : get_or xs k 0 ≡ get_or ys k 0 → next_differing xs ys k ≡ next_differing xs ys (k + 1)
    one_on e =
        let s : k + 1 ≡ suc k = omega arith in
        unrolled ∙ (rw (eq-eqb (get_or xs k 0) (get_or ys k 0) e, s, at_start (suc k) h) (omega arith))

    pub here : (get_or xs k 0 ≡ get_or ys k 0 → ⊥) → next_differing xs ys k ≡ k
    here d = unrolled ∙ (rw (ne_eqb (get_or xs k 0) (get_or ys k 0) d) (add-zero k))

  -- it is the least place from k on that differs
  module _ (k : ℕ) (h : k ≤ length xs) where
    rest : length (drop k xs) ≡ length (drop k ys)
    rest = length-drop k xs ∙ ap (λ (n : ℕ). n - k) lengths ∙ sym (length-drop k ys)

    pub not_before : k ≤ next_differing xs ys k
    not_before = omega (arith, at_start k h)

    pub within : next_differing xs ys k ≤ length xs
    within = omega (arith, at_start k h, first-within (drop k xs) (drop k ys), length-drop k xs)

    pub differs : next_differing xs ys k < length xs → get_or xs (next_differing xs ys k) 0 ≡ get_or ys (next_differing xs ys k) 0 → ⊥
    differs l q =
        let n = first_differing (drop k xs) (drop k ys) in
        let e : get_or xs (k + n) 0 ≡ get_or ys (k + n) 0 = sym (ap (λ (i : ℕ). get_or xs i 0) (at_start k h)) ∙ q ∙ ap (λ (i : ℕ). get_or ys i 0) (at_start k h) in
        first-differs (drop k xs) (drop k ys) rest (omega (arith, at_start k h, length-drop k xs)) (get_or-drop k xs n 0 ∙ e ∙ sym (get_or-drop k ys n 0))

    pub none_between : (j : ℕ) → k ≤ j → j < next_differing xs ys k → get_or xs j 0 ≡ get_or ys j 0
    none_between j from below =
        let i = j - k in
        let e : k + i ≡ j = omega arith in
        let q = first_same (drop k xs) (drop k ys) i (omega (arith, at_start k h)) in
        sym (ap (λ (n : ℕ). get_or xs n 0) e) ∙ sym (get_or-drop k xs i 0) ∙ q ∙ get_or-drop k ys i 0 ∙ ap (λ (n : ℕ). get_or ys n 0) e
