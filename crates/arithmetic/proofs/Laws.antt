-- The laws of the operations: one answer, order of the two, signs, what is neutral, exact results, order of the answers.
use Prim.Native.Nat.{ℕ, zero, suc, ◌*◌, ◌^◌, ◌≤◌, ◌<◌}
use mathlib.Core.Path.{◌≡◌, ◌∙◌, ap, sym, refl}
use native.Mathlib.Omega.{arith}
use native.Mathlib.Nat.{mul-le-mul_right}
use lib.Dec.{T, lit≤, leb→le}
use lib.IntN.{ℤ, pos, negsuc, neg_ℤ, ◌+ℤ◌, ◌-ℤ◌, ◌*ℤ◌, +ℤ_idr, +ℤ_invr, +ℤ_comm, *ℤ_comm, zero-*ℤ, *ℤ-zero, neg_ℤ-neg_ℤ, neg_ℤ-+ℤ}
use lib.Signed.{le_z}
use lib.Ieee.{up, down}
use Rattle.posit.specs.Number.{Number, nar, real, number, magnitude, run, opposite}
use Rattle.posit.specs.Rounding.{Known, plus, minus, ratio, over, Rounds, negated}
use Rattle.posit.proofs.Compare.{ratio_same}
use Rattle.posit.proofs.Complement.{opposite_is}
use Rattle.posit.proofs.Dyadic.{dyadic_plus, dyadic_minus, down_some}
use Rattle.posit.proofs.Fractions.{at_most}
use Rattle.posit.proofs.Laws.{mirrors, rank, NoMore, same_nought, to_plus, from_minus, across, both_plus, both_minus, in_order}
use Rattle.posit.proofs.Own.{own}
use Rattle.posit.proofs.Unique.{AtMost}
use Rattle.posit.proofs.Patterns.{number-zero, number_plus}
use Rattle.rows.specs.Rows.{rounds, Meets}
use Rattle.rows.proofs.Straight.{StraightRow, over_straight, one}
use Rattle.arithmetic.specs.Operations.{of_two, sum, difference, product}
use Rattle.arithmetic.proofs.Opposites.{negated_number, number-opposite, only_nar}

-- any two answers that an operation allows are equal
two_straight : (f : ℤ → ℤ → ℤ) (k : ℕ) (x y : Number) → StraightRow (of_two (λ a b. over (f a b) k) x y)
two_straight f k nar y = tt
two_straight f k (real a) nar = tt
two_straight f k (real a) (real b) = over_straight (f a b) k

pub one-sum : (p q r s : ℕ) → Meets (sum p q) r → Meets (sum p q) s → r ≡ s
unfolding sum
one-sum p q = one (sum p q) (two_straight ◌+ℤ◌ 28 (number 1 16 p) (number 1 16 q))

pub one-difference : (p q r s : ℕ) → Meets (difference p q) r → Meets (difference p q) s → r ≡ s
unfolding difference
one-difference p q = one (difference p q) (two_straight ◌-ℤ◌ 28 (number 1 16 p) (number 1 16 q))

pub one_product : (p q r s : ℕ) → Meets (product p q) r → Meets (product p q) s → r ≡ s
unfolding product
one_product p q = one (product p q) (two_straight ◌*ℤ◌ 56 (number 1 16 p) (number 1 16 q))

-- the order of the two does not matter
exchanged : (f : ℤ → ℤ → ℤ) (k : ℕ) → ((a b : ℤ) → f a b ≡ f b a) → (x y : Number) → of_two (λ a b. over (f a b) k) x y ≡ of_two (λ a b. over (f a b) k) y x
exchanged f k c nar nar = refl
exchanged f k c nar (real b) = refl
exchanged f k c (real a) nar = refl
exchanged f k c (real a) (real b) = ap (λ (z : ℤ). rounds (over z k)) (c a b)

pub sum_commutes : (p q : ℕ) → sum p q ≡ sum q p
unfolding sum
sum_commutes p q = exchanged ◌+ℤ◌ 28 +ℤ_comm (number 1 16 p) (number 1 16 q)

pub product_commutes : (p q : ℕ) → product p q ≡ product q p
unfolding product
product_commutes p q = exchanged ◌*ℤ◌ 56 *ℤ_comm (number 1 16 p) (number 1 16 q)

-- negation mirrors: the sum of both opposites, and the product of one opposite
over_minus : (z : ℤ) (k : ℕ) → over (neg_ℤ z) k ≡ negated (over z k)
over_minus (pos zero) k = refl
over_minus (pos (suc n)) k = refl
over_minus (negsuc n) k = refl

pub nar_itself : opposite 16 0x8000 ≡ 0x8000
nar_itself = opposite_is 16 0x8000 (lit≤ tt)

mirrored : (z z' : ℤ) (k r : ℕ) → z' ≡ neg_ℤ z → Rounds 1 16 (over z k) r → Rounds 1 16 (over z' k) (opposite 16 r)
mirrored z z' k r e h = rw (e, over_minus z k) (mirrors 1 16 (lit≤ tt) (over z k) r h)

pub sum_mirrors : (p q r : ℕ) → p < 0x10000 → q < 0x10000 → Meets (sum p q) r → Meets (sum (opposite 16 p) (opposite 16 q)) (opposite 16 r)
unfolding sum
sum_mirrors p q r h k m = rw (number-opposite p h, number-opposite q k) (go (number 1 16 p) (number 1 16 q) m)
  where
    go : (x y : Number) → Meets (of_two (λ a b. over (a +ℤ b) 28) x y) r
        → Meets (of_two (λ a b. over (a +ℤ b) 28) (negated_number x) (negated_number y)) (opposite 16 r)
    go nar y e = ap (opposite 16) e ∙ nar_itself
    go (real a) nar e = ap (opposite 16) e ∙ nar_itself
    go (real a) (real b) e = mirrored (a +ℤ b) (neg_ℤ a +ℤ neg_ℤ b) 28 r (sym (neg_ℤ-+ℤ a b)) e

minus_times : (a b : ℤ) → neg_ℤ a *ℤ b ≡ neg_ℤ (a *ℤ b)
minus_times (pos zero) b = rw (zero-*ℤ b)
minus_times (pos (suc m)) (pos n) = refl
minus_times (pos (suc m)) (negsuc n) = sym (neg_ℤ-neg_ℤ (pos (suc m * suc n)))
minus_times (negsuc m) (pos n) = sym (neg_ℤ-neg_ℤ (pos (suc m * n)))
minus_times (negsuc m) (negsuc n) = refl

pub product_mirrors : (p q r : ℕ) → p < 0x10000 → Meets (product p q) r → Meets (product (opposite 16 p) q) (opposite 16 r)
unfolding product
product_mirrors p q r h m = rw (number-opposite p h) (go (number 1 16 p) (number 1 16 q) m)
  where
    go : (x y : Number) → Meets (of_two (λ a b. over (a *ℤ b) 56) x y) r → Meets (of_two (λ a b. over (a *ℤ b) 56) (negated_number x) y) (opposite 16 r)
    go nar y e = ap (opposite 16) e ∙ nar_itself
    go (real a) nar e = ap (opposite 16) e ∙ nar_itself
    go (real a) (real b) e = mirrored (a *ℤ b) (neg_ℤ a *ℤ b) 56 r (minus_times a b) e

-- a number counted in units of 2 ^ -28 and in those of a product
wider_cut : (n : ℕ) → ratio (suc n * 1) (2 ^ 28) ≡ ratio (suc n * 2 ^ 28 * 1) (2 ^ 56)
wider_cut n = ratio_same (suc n * 1) (2 ^ 28) (suc n * 2 ^ 28 * 1) (2 ^ 56) (lit≤ tt) (lit≤ tt) (omega arith)

wider : (z : ℤ) → over z 28 ≡ over (z *ℤ pos (2 ^ 28)) 56
wider (pos zero) = refl
wider (pos (suc n)) = ap plus (wider_cut n) ∙ sym (dyadic_plus (suc n * 2 ^ 28) (negsuc 55) (omega arith))
wider (negsuc n) = ap minus (wider_cut n) ∙ sym (dyadic_minus (suc n * 2 ^ 28) (negsuc 55) (omega arith))

-- exact results: a sum or product that is a posit's number is that posit
module _ (p q u : ℕ) (fits : u < 0x10000) (a b c : ℤ) (is : number 1 16 p ≡ real a) (is' : number 1 16 q ≡ real b) (found : number 1 16 u ≡ real c) where
  pub exact_sum : a +ℤ b ≡ c → Meets (sum p q) u
  unfolding sum
  exact_sum e = rw (is, is', e) (own 1 16 u (lit≤ tt) fits c found)

  pub exact_product : a *ℤ b ≡ c *ℤ pos (2 ^ 28) → Meets (product p q) u
  unfolding product
  exact_product e = rw (is, is', e, ← wider c) (own 1 16 u (lit≤ tt) fits c found)

-- zero and one are neutral, NaR among the patterns
pub number_one : number 1 16 0x4000 ≡ real (pos (2 ^ 28))
unfolding magnitude run
number_one = number_plus 1 16 0x4000 (lit≤ tt) (lit≤ tt)

with_nar : (f : ℤ → ℤ → Known) (p : ℕ) (y : Number) → p < 0x10000 → number 1 16 p ≡ nar → Meets (of_two f (number 1 16 p) y) p
with_nar f p y h e = rw e (only_nar p h e)

pub zero_neutral : (p : ℕ) → p < 0x10000 → Meets (sum p 0) p
unfolding sum
zero_neutral p h = go (number 1 16 p) refl
  where
    go : (x : Number) → number 1 16 p ≡ x → Meets (of_two (λ a b. over (a +ℤ b) 28) (number 1 16 p) (number 1 16 0)) p
    go nar e = with_nar (λ a b. over (a +ℤ b) 28) p (number 1 16 0) h e
    go (real a) e = exact_sum p 0 p h a (pos 0) a e (number-zero 1 16) e (+ℤ_idr a)

pub one_neutral : (p : ℕ) → p < 0x10000 → Meets (product p 0x4000) p
unfolding product
one_neutral p h = go (number 1 16 p) refl
  where
    go : (x : Number) → number 1 16 p ≡ x → Meets (of_two (λ a b. over (a *ℤ b) 56) (number 1 16 p) (number 1 16 0x4000)) p
    go nar e = with_nar (λ a b. over (a *ℤ b) 56) p (number 1 16 0x4000) h e
    go (real a) e = exact_product p 0x4000 p h a (pos (2 ^ 28)) a e number_one e refl

-- a - a, and zero times a, of a real
pub less_itself : (p : ℕ) (a : ℤ) → number 1 16 p ≡ real a → Meets (difference p p) 0
unfolding difference
less_itself p a e = rw (e, +ℤ_invr a) refl

pub zero-product : (p : ℕ) (a : ℤ) → number 1 16 p ≡ real a → Meets (product p 0) 0
unfolding product
zero-product p a e = rw (e, number-zero 1 16, *ℤ-zero a) refl

-- a larger sum, and a larger product, never gets a smaller answer
no_more : (m n : ℕ) (e : ℤ) → m ≤ n → AtMost (ratio (m * up e) (down e)) (ratio (n * up e) (down e))
no_more m n e h =
    at_most (m * up e) (down e) (n * up e) (down e) (down_some e) (down_some e) (mul-le-mul_right (down e) (mul-le-mul_right (up e) h))

ordered : (x y : ℤ) (k : ℕ) → T (le_z x y) → NoMore (over x k) (over y k)
ordered (pos zero) (pos zero) k h = same_nought
ordered (pos zero) (pos (suc n)) k h = to_plus
ordered (pos (suc m)) (pos zero) k h = absurd (let f = leb→le (suc m) 0 h in omega arith)
ordered (pos (suc m)) (pos (suc n)) k h = both_plus (no_more (suc m) (suc n) (neg_ℤ (pos k)) (leb→le (suc m) (suc n) h))
ordered (pos m) (negsuc n) k h = absurd h
ordered (negsuc m) (pos zero) k h = from_minus
ordered (negsuc m) (pos (suc n)) k h = across
ordered (negsuc m) (negsuc n) k h = both_minus (no_more (suc n) (suc m) (neg_ℤ (pos k)) (let l = leb→le n m h in omega arith))

module _ (p q p' q' r s : ℕ) (a b a' b' : ℤ) (is : number 1 16 p ≡ real a) (is2 : number 1 16 q ≡ real b)
    (is3 : number 1 16 p' ≡ real a') (is4 : number 1 16 q' ≡ real b') where
  pub sum_in_order : T (le_z (a +ℤ b) (a' +ℤ b')) → Meets (sum p q) r → Meets (sum p' q') s → rank 16 r ≤ rank 16 s
  unfolding sum
  sum_in_order h m n =
      in_order 1 16 (lit≤ tt) (over (a +ℤ b) 28) (over (a' +ℤ b') 28) (over_straight (a +ℤ b) 28) (over_straight (a' +ℤ b') 28)
      (ordered (a +ℤ b) (a' +ℤ b') 28 h) r s (rw (is, is2) at m) (rw (is3, is4) at n)

  pub product_in_order : T (le_z (a *ℤ b) (a' *ℤ b')) → Meets (product p q) r → Meets (product p' q') s → rank 16 r ≤ rank 16 s
  unfolding product
  product_in_order h m n =
      in_order 1 16 (lit≤ tt) (over (a *ℤ b) 56) (over (a' *ℤ b') 56) (over_straight (a *ℤ b) 56) (over_straight (a' *ℤ b') 56)
      (ordered (a *ℤ b) (a' *ℤ b') 56 h) r s (rw (is, is2) at m) (rw (is3, is4) at n)
