-- The numbers that stand in bytes one after the other: how many there are, and one more at the end.
use Prim.Native.Nat.{ℕ, zero, suc, ◌+◌, ◌*◌, ◌<◌}
use mathlib.Core.Path.{◌≡◌, refl, ap, ◌∙◌}
use mathlib.Core.List.{List, [], ◌∷◌, ◌++◌}
use native.Mathlib.Omega.{arith}
use native.Mathlib.Numerals.{add-one}
use native.Mathlib.Nat.{add-zero}
use lib.ListN.{length, get_or}
use Rattle.words.specs.Numbers.{number_at_of, numbers_at}

pub length-numbers_at : (b : List ℕ) (at n : ℕ) → length (numbers_at b at n) ≡ n
length-numbers_at b at zero = refl
length-numbers_at b at (suc n) = ap suc (length-numbers_at b (at + 2) n)

numbers_at-suc : (b : List ℕ) (at n : ℕ) → numbers_at b at (suc n) ≡ numbers_at b at n ++ (number_at_of b (at + 2 * n) ∷ [])
numbers_at-suc b at zero = rw add-zero
numbers_at-suc b at (suc n) =
    let e : at + 2 + 2 * n ≡ at + 2 * suc n = omega arith in
    ap (λ (l : List ℕ). number_at_of b at ∷ l) (numbers_at-suc b (at + 2) n ∙ ap (λ (k : ℕ). numbers_at b (at + 2) n ++ (number_at_of b k ∷ [])) e)

pub numbers_at_next : (b : List ℕ) (at n : ℕ) → numbers_at b at (n + 1) ≡ numbers_at b at n ++ (number_at_of b (at + 2 * n) ∷ [])
numbers_at_next b at n = rw (add-one n) (numbers_at-suc b at n)

-- each of them
pub number_of : (b : List ℕ) (at n i : ℕ) → i < n → get_or (numbers_at b at n) i 0 ≡ number_at_of b (at + 2 * i)
number_of b at zero i h = absurd (omega arith)
number_of b at (suc n) zero h = rw add-zero
number_of b at (suc n) (suc i) h =
    let e : at + 2 + 2 * i ≡ at + 2 * suc i = omega arith in
    number_of b (at + 2) n i (omega arith) ∙ ap (number_at_of b) e
