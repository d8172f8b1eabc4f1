-- The numbers that stand in bytes are those of the pairs that the bytes are cut into.
use Prim.Native.Nat.{ℕ, zero, suc, ◌+◌, ◌-◌, ◌*◌, ◌≤◌}
use mathlib.Core.Path.{◌≡◌, refl, ap, ◌∙◌}
use mathlib.Core.List.{List}
use native.Mathlib.Omega.{arith}
use native.Mathlib.Nat.{add-zero, sub-zero}
use lib.ListN.{take, drop, get_or}
use Rattle.std.specs.Simd.{first_chunks}
use Rattle.std.proofs.lemmas.List.{drop-drop, get_or-take, get_or-drop}
use Rattle.words.specs.Numbers.{number_at_of, numbers_at}
use Rattle.listing.specs.Answered.{numbers_in}

-- one pair
number_of_pair : (b : List ℕ) (at : ℕ) → number_at_of (take 2 (drop at b)) 0 ≡ number_at_of b at
number_of_pair b at =
    let low : get_or (take 2 (drop at b)) 0 0 ≡ get_or b at 0 =
    get_or-take 2 (drop at b) 0 0 (omega arith) ∙ get_or-drop at b 0 0 ∙ ap (λ (k : ℕ). get_or b k 0) (add-zero at) in
    let high : get_or (take 2 (drop at b)) 1 0 ≡ get_or b (at + 1) 0 =
    get_or-take 2 (drop at b) 1 0 (omega arith) ∙ get_or-drop at b 1 0 in
    rw (low, high)

-- the first m pairs from a place on
first_pairs : (b : List ℕ) (at n m : ℕ) → m ≤ n → numbers_in (take m (first_chunks 2 n (drop at b))) ≡ numbers_at b at m
first_pairs b at n zero h = refl
first_pairs b at zero (suc m) h = absurd (omega arith)
first_pairs b at (suc n) (suc m) h = rw (number_of_pair b at, drop-drop, first_pairs b (at + 2) n m (omega arith))

later_pairs : (b : List ℕ) (k n : ℕ) → k ≤ n → drop k (first_chunks 2 n b) ≡ first_chunks 2 (n - k) (drop (2 * k) b)
later_pairs b zero n h = rw sub-zero
later_pairs b (suc k) zero h = absurd (omega arith)
later_pairs b (suc k) (suc n) h =
    let e : n - k ≡ suc n - suc k = omega arith in
    let p : 2 + 2 * k ≡ 2 * suc k = omega arith in
    later_pairs (drop 2 b) k n (omega arith) ∙ rw (drop-drop, e, p)

-- those between two places
pub pairs_between : (b : List ℕ) (n k m : ℕ) → k + m ≤ n
    → numbers_in (take m (drop k (first_chunks 2 n b))) ≡ numbers_at b (2 * k) m
pairs_between b n k m h = rw (later_pairs b k n (omega arith)) (first_pairs b (2 * k) (n - k) m (omega arith))
