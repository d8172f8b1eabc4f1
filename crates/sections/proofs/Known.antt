-- Whether the functions that stand in bytes are all known, asked of one place after the other, and what is known of each.
use Prim.Native.Nat.{ℕ, zero, suc, ◌+◌, ◌*◌, ◌<◌}
use mathlib.Core.Path.{◌≡◌, refl, ap, ◌∙◌}
use mathlib.Core.Bool.{Bool, true, false, ◌&&◌, false≢true}
use mathlib.Core.List.{List, [], ◌∷◌}
use native.Mathlib.Omega.{arith}
use lib.ListN.{length, get_or}
use Rattle.std.specs.List.{list_all, range_with_len}
use Rattle.p16e1.specs.Functions.{known}
use Rattle.words.specs.Numbers.{number_at_of, numbers_at}
use Rattle.sections.specs.Order.{all_known_of}

pub both : (s t : Bool) → s && t ≡ true → (s ≡ true) × (t ≡ true)
both true t e = (refl, e)
both false t e = absurd (false≢true e)

-- asked of each of n places from the place i on
pub all-known_from : (b : List ℕ) (at n i : ℕ)
    → list_all (λ k. known (number_at_of b (at + 2 * k))) (range_with_len i n) ≡ all_known_of (numbers_at b (at + 2 * i) n)
all-known_from b at zero i = refl
all-known_from b at (suc n) i =
    let e : at + 2 * (i + 1) ≡ at + 2 * i + 2 = omega arith in
    let rest = all-known_from b at n (i + 1) ∙ ap (λ (k : ℕ). all_known_of (numbers_at b k n)) e in
    ap (λ (t : Bool). known (number_at_of b (at + 2 * i)) && t) rest

pub known_in : (fs : List ℕ) (i : ℕ) → i < length fs → all_known_of fs ≡ true → known (get_or fs i 0) ≡ true
known_in [] i h e = absurd (omega arith)
known_in (f ∷ fs) zero h e = (both (known f) (all_known_of fs) e).0
known_in (f ∷ fs) (suc i) h e = known_in fs i (omega arith) (both (known f) (all_known_of fs) e).1
