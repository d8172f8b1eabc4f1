-- Whether two lists have the same numbers: what it says of the lists, and the same asked of one place after the other.
use Prim.Native.Nat.{ℕ, zero, suc, ◌+◌, ◌*◌}
use mathlib.Core.Path.{◌≡◌, refl, sym, ap, ◌∙◌}
use mathlib.Core.Bool.{Bool, true, false, ◌&&◌, false≢true}
use mathlib.Core.List.{List, [], ◌∷◌}
use native.Mathlib.Omega.{arith}
use native.Mathlib.Nat.{add-zero}
use borrow.Author.Tests.{eq-eqb, eqb-true}
use lib.Dec.{eqb}
use Rattle.std.specs.List.{list_all, range_with_len}
use Rattle.words.specs.Numbers.{number_at_of, numbers_at}
use Rattle.answered.specs.Answered.{same}

both : (s t : Bool) → s && t ≡ true → (s ≡ true) × (t ≡ true)
both true t e = (refl, e)
both false t e = absurd (false≢true e)

pub same_refl : (vs : List ℕ) → same vs vs ≡ true
same_refl [] = refl
same_refl (v ∷ vs) = rw (eq-eqb v v refl) (same_refl vs)

pub same_lists : (vs ws : List ℕ) → same vs ws ≡ true → vs ≡ ws
same_lists [] [] e = refl
same_lists [] (w ∷ ws) e = absurd (false≢true e)
same_lists (v ∷ vs) [] e = absurd (false≢true e)
same_lists (v ∷ vs) (w ∷ ws) e =
    let h = both (eqb v w) (same vs ws) e in
    rw (eqb-true v w h.0, same_lists vs ws h.1)

is_false : (t : Bool) → (t ≡ true → ⊥) → t ≡ false
is_false true h = absurd (h refl)
is_false false h = refl

pub not_same : (vs ws : List ℕ) → (vs ≡ ws → ⊥) → same vs ws ≡ false
not_same vs ws h = is_false (same vs ws) (λ e. h (same_lists vs ws e))

pub same_false : (vs ws : List ℕ) → same vs ws ≡ false → vs ≡ ws → ⊥
same_false vs ws e q = false≢true (sym e ∙ rw q (same_refl ws))

-- asked of each of n places from the place i on
same_from : (b c : List ℕ) (at n i : ℕ)
    → list_all (λ k. eqb (number_at_of b (at + 2 * k)) (number_at_of c (at + 2 * k))) (range_with_len i n)
    ≡ same (numbers_at b (at + 2 * i) n) (numbers_at c (at + 2 * i) n)
same_from b c at zero i = refl
same_from b c at (suc n) i =
    let e : at + 2 * (i + 1) ≡ at + 2 * i + 2 = omega arith in
    ap (λ (t : Bool). eqb (number_at_of b (at + 2 * i)) (number_at_of c (at + 2 * i)) && t)
    (same_from b c at n (i + 1) ∙ ap (λ (k : ℕ). same (numbers_at b k n) (numbers_at c k n)) e)

pub same_by_place : (b c : List ℕ) (at n : ℕ)
    → list_all (λ k. eqb (number_at_of b (at + 2 * k)) (number_at_of c (at + 2 * k))) (range_with_len 0 n) ≡ same (numbers_at b at n) (numbers_at c at n)
same_by_place b c at n = same_from b c at n 0 ∙ ap (λ (k : ℕ). same (numbers_at b k n) (numbers_at c k n)) (add-zero at)
