-- A product is at most that of bounds on its factors, and where one factor falls as the other grows, that at the far end:
-- what every kernel's multiplications and subtractions rest on.
use Prim.Native.Nat.{ℕ, ◌+◌, ◌-◌, ◌*◌, ◌/◌, ◌≤◌, ◌<◌}
use mathlib.Core.Path.{◌≡◌, ◌∙◌, ap}
use native.Mathlib.Omega.{arith}
use native.Mathlib.Nat.{mul-le-mul, mul-le-mul_left, mul_comm, mul_left_comm, add-mul, mul-add, mul-sub, lt-div-mul-add}

pub product : (A B : ℕ) {a b : ℕ} → a ≤ A → b ≤ B → a * b ≤ A * B
product A B h k = mul-le-mul h k

-- x * (M - x * L) grows until x * L is half of M
parabola : (M L X x : ℕ) → x ≤ X → X * L + X * L ≤ M → x * (M - x * L) ≤ X * (M - X * L)
parabola M L X x l h =
    let d : ℕ = X - x in
    let u : ℕ = M - X * L in
    let s : X * L ≡ x * L + d * L = ap (λ (z : ℕ). z * L) (let e : X ≡ x + d = omega arith in e) ∙ add-mul x d L in
    let left : x * (M - x * L) ≡ x * u + x * (d * L) = ap (λ (z : ℕ). x * z) (let e : M - x * L ≡ u + d * L = omega arith in e) ∙ mul-add x u (d * L) in
    let turned = mul_left_comm x d L in
    let right : X * u ≡ x * u + d * u = ap (λ (z : ℕ). z * u) (let e : X ≡ x + d = omega arith in e) ∙ add-mul x d u in
    let k : d * (x * L) ≤ d * u = mul-le-mul_left d (omega arith) in
    omega arith

-- a bound on x * (K - x * y / D): its value, nearly, at the largest x and the smallest y
pub at_end : (K L D X : ℕ) {x y : ℕ} → 0 < D → x ≤ X → L ≤ y → X * L + X * L ≤ D * K → D * (x * (K - x * y / D)) ≤ X * (D * K + D - X * L)
at_end K L D X {x} {y} l h k half =
    let q : ℕ = x * y / D in
    let over : x * y < q * D + D = lt-div-mul-add l in
    let turn = mul_comm q D in
    let less : x * L ≤ x * y = mul-le-mul_left x k in
    let spread = mul-sub D K q in
    let first : x * (D * (K - q)) ≤ x * (D * K + D - x * L) = mul-le-mul_left x (omega arith) in
    let last = parabola (D * K + D) L X x h (omega arith) in
    let moved = mul_left_comm D x (K - q) in
    omega arith
