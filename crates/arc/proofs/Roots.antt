-- The square root: that Newton's steps go down and never below it, and that what they end with is `root`.
use Prim.Native.Nat.{ℕ, zero, suc, ◌+◌, ◌-◌, ◌*◌, ◌/◌, ◌%◌, ◌^◌, ◌≤◌, ◌<◌}
use mathlib.Core.Path.{◌≡◌}
use native.Mathlib.Omega.{arith}
use native.Mathlib.Nat.{div-lt_iff_lt-mul, lt-mul-div-succ, mod-eq_of_lt, mul-le-mul}
use native.Mathlib.Decide.{dec_le}
use borrow.Author.Tests.{le-leb, lt-leb, leb-true, leb-false}
use lib.Dec.{leb}
use Rattle.posit.specs.Answer.{descend}
use Rattle.posit.proofs.Exists.{Edge, descends}
use Rattle.arc.specs.Root.{Root, root}

-- a mean is not below the root of the product
mean : (a b : ℕ) → 4 * (a * b) ≤ (a + b) * (a + b)
mean zero b = omega arith
mean (suc a) zero = omega arith
mean (suc a) (suc b) = let l = mean a b in omega arith

-- so the mean y of an x and f / x, though its half is cut off, is not below the root of f
pub not_below : (f x y : ℕ) → 0 < x → x + f / x ≤ 2 * y + 1 → f < (y + 1) * (y + 1)
not_below f x y some h =
    let b = f / x + 1 in
    let l : f < x * b = lt-mul-div-succ f some in
    let s : (x + b) * (x + b) ≤ 2 * (y + 1) * (2 * (y + 1)) = mul-le-mul (omega arith) (omega arith) in
    omega (arith, mean x b)

-- and from an x above the root the step goes down
pub quotient_less : (f x : ℕ) → f < x * x → (0 < x) × (f / x < x)
quotient_less f zero l = absurd (omega arith)
quotient_less f (suc x) l = (omega arith, (div-lt_iff_lt-mul {k = suc x} (omega arith)).1 l)

roots_grow : (r s : ℕ) → r * r < (s + 1) * (s + 1) → r ≤ s
roots_grow r s l = go (dec_le r s)
  where
    go : Dec (r ≤ s) → r ≤ s
    go (yes h) = h
    go (no h) = absurd (let m : (s + 1) * (s + 1) ≤ r * r = mul-le-mul (omega arith) (omega arith) in omega arith)

no_more : (n r s : ℕ) → Root n r → Root n s → r ≤ s
no_more n r s a b = roots_grow r s (let x = a.least in let y = b.most in omega arith)

-- a number has one root
pub one-root : (n r s : ℕ) → Root n r → Root n s → r ≡ s
one-root n r s a b = let x = no_more n r s a b in let y = no_more n s r b a in omega arith

-- what `root` computes is a root, and there is only one
pub the_root : (n r : ℕ) → n < 2 ^ 56 → Root n r → r ≡ root n
unfolding root
the_root n r h a =
    let e : Edge (λ r. leb (r * r) n) (descend (λ r. leb (r * r) n) 28 0) =
    descends (λ r. leb (r * r) n) 28 0 (le-leb 0 n (omega arith)) (lt-leb (2 ^ 56) n h) in
    let s : Root n (root n) = record { least = leb-true (root n * root n) n e.inside; most = leb-false ((root n + 1) * (root n + 1)) n e.outside } in
    one-root n r (root n) a s

-- the root that asin_pi and acos_pi take, for a magnitude m from 1/2 on
pub root_of_rest : {m x r : ℕ} → x ≡ m → 2 ^ 27 ≤ m → Root ((2 ^ 28 - x) * 2 ^ 27 % 2 ^ 64) r → (r ≡ root ((2 ^ 28 - m) * 2 ^ 27)) × (r ≤ 2 ^ 27)
root_of_rest {m} {x} {r} same l a =
    let e : (2 ^ 28 - m) * 2 ^ 27 % 2 ^ 64 ≡ (2 ^ 28 - m) * 2 ^ 27 = mod-eq_of_lt (omega arith) in
    let b : Root ((2 ^ 28 - m) * 2 ^ 27) r = rw (same, e) at a in
    (the_root ((2 ^ 28 - m) * 2 ^ 27) r (omega arith) b, roots_grow r (2 ^ 27) (let y = b.least in omega arith))
