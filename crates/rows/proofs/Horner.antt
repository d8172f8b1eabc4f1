-- Polynomials in Horner's form, as the kernels compute them: a first number is multiplied by x, divided by a power of two,
-- and added to the next number or taken from it, and so on; the last is multiplied by y. Bounds on x, y and the first number
-- bound every product, whatever the numbers are.
use Prim.Native.Nat.{ℕ, ◌+◌, ◌-◌, ◌*◌, ◌/◌, ◌^◌, ◌≤◌}
use mathlib.Core.List.{List, [], ◌∷◌}
use native.Mathlib.Omega.{arith}
use native.Mathlib.Nat.{mul-le-mul, le_refl, le_trans, le-div_iff_mul-le, div-mul-le_self, sub-le}
use lib.Pow.{pow_pos}

-- the exponent of the power of two, and the number that the quotient is added to or taken from
pub data Step : Type 0 where
  plus : ℕ → ℕ → Step
  less : ℕ → ℕ → Step

abbrev pub next : Step → ℕ → ℕ
next (plus m k) p = k + p / 2 ^ m
next (less m k) p = k - p / 2 ^ m

abbrev pub most : Step → ℕ → ℕ
most (plus m k) P = k + P / 2 ^ m
most (less m k) P = k

-- each product is at most that of the bounds X, Y and S
abbrev pub Products : ℕ → ℕ → ℕ → ℕ → ℕ → ℕ → List Step → Type 0
Products X x Y y S s [] = y * s ≤ Y * S
Products X x Y y S s (a ∷ rest) = (x * s ≤ X * S) × Products X x Y y (most a (X * S)) (next a (x * s)) rest

smaller : (m : ℕ) {p P : ℕ} → p ≤ P → p / 2 ^ m ≤ P / 2 ^ m
smaller m {p} h = (le-div_iff_mul-le (pow_pos m)).1 (le_trans (div-mul-le_self p (2 ^ m)) h)

at_most : (a : Step) {p P : ℕ} → p ≤ P → next a p ≤ most a P
at_most (plus m k) h = let q = smaller m h in omega arith
at_most (less m k) h = sub-le k _

pub products : (X Y S : ℕ) {x y s : ℕ} (steps : List Step) → x ≤ X → y ≤ Y → s ≤ S → Products X x Y y S s steps
products X Y S [] h k l = mul-le-mul k l
products X Y S (a ∷ rest) h k l = let m = mul-le-mul h l in (m, products X Y (most a (X * S)) rest h k (at_most a m))

-- where x is y squared, over 2 ^ m
abbrev pub SquareProducts : ℕ → ℕ → ℕ → ℕ → List Step → Type 0
SquareProducts m Y y s steps = (y * y ≤ Y * Y) × Products (Y * Y / 2 ^ m) (y * y / 2 ^ m) Y y s s steps

pub square_products : (m Y : ℕ) {y : ℕ} (s : ℕ) (steps : List Step) → y ≤ Y → SquareProducts m Y y s steps
square_products m Y s steps h = let squared = mul-le-mul h h in (squared, products (Y * Y / 2 ^ m) Y s steps (smaller m squared) h (le_refl s))
