-- Comparisons and cuts: what `compare` tells, cuts that go one way, and fractions that are equal have equal cuts.
use Rattle.std.proofs.Common.{◌≡◌, ℕ, zero, suc, ◌*◌, ◌%◌, ◌^◌, ◌<◌, ◌≤◌, ◌⊎◌, sym, refl, ap, ◌∙◌, inl, inr, suc-le-suc, mul_assoc, mul_comm, mul-lt-mul_of_pos_right, mul_left_comm, arith}
use Prim.Native.Nat.{compare, Ordering}
use Prim.Native.Nat.compare
use mathlib.Core.Path.{subst⁻¹, fun_ext}
use Rattle.posit.specs.Rounding.{Cut, ratio, Reached, Enough}

pub data Told (m n : ℕ) : Ordering → Type 0 where
  less : m < n → Told m n Ordering.lt
  same : m ≡ n → Told m n Ordering.eq
  more : n < m → Told m n Ordering.gt

step : (m n : ℕ) (o : Ordering) → Told m n o → Told (suc m) (suc n) o
step m n Ordering.lt (less h) = less (suc-le-suc h)
step m n Ordering.eq (same h) = same (ap suc h)
step m n Ordering.gt (more h) = more (suc-le-suc h)

pub told : (m n : ℕ) → Told m n (compare m n)
told zero zero = subst⁻¹ (Told zero zero) compare.zero-zero (same refl)
told zero (suc n) = subst⁻¹ (Told zero (suc n)) (compare.zero-suc n) (less (omega arith))
told (suc m) zero = subst⁻¹ (Told (suc m) zero) (compare.suc-zero m) (more (omega arith))
told (suc m) (suc n) = subst⁻¹ (Told (suc m) (suc n)) (compare.suc-suc m n) (step m n (compare m n) (told m n))

-- two comparisons that are told alike are equal
alike : (m n m' n' : ℕ) (o o' : Ordering) → Told m n o → Told m' n' o' → (m < n → m' < n') → (m ≡ n → m' ≡ n') → (n < m → n' < m') → o ≡ o'
alike m n m' n' Ordering.lt Ordering.lt (less h) (less k) f g j = refl
alike m n m' n' Ordering.lt Ordering.eq (less h) (same k) f g j = absurd (let q = f h in omega arith)
alike m n m' n' Ordering.lt Ordering.gt (less h) (more k) f g j = absurd (let q = f h in omega arith)
alike m n m' n' Ordering.eq Ordering.lt (same h) (less k) f g j = absurd (let q = g h in omega arith)
alike m n m' n' Ordering.eq Ordering.eq (same h) (same k) f g j = refl
alike m n m' n' Ordering.eq Ordering.gt (same h) (more k) f g j = absurd (let q = g h in omega arith)
alike m n m' n' Ordering.gt Ordering.lt (more h) (less k) f g j = absurd (let q = j h in omega arith)
alike m n m' n' Ordering.gt Ordering.eq (more h) (same k) f g j = absurd (let q = j h in omega arith)
alike m n m' n' Ordering.gt Ordering.gt (more h) (more k) f g j = refl

pub compare_alike : (m n m' n' : ℕ) → (m < n → m' < n') → (m ≡ n → m' ≡ n') → (n < m → n' < m') → compare m n ≡ compare m' n'
compare_alike m n m' n' = alike m n m' n' (compare m n) (compare m' n') (told m n) (told m' n')

pub compare_is : (m n : ℕ) (o : Ordering) → Told m n o → compare m n ≡ o
compare_is m n o t = alike m n m n (compare m n) o (told m n) t (λ h. h) (λ h. h) (λ h. h)

-- the two tests of the rounding rule, from the numbers compared
reached_of : (m n u : ℕ) (o : Ordering) → Told m n o → m ≤ n → (m ≡ n → u % 2 ≡ 0) → Reached o u
reached_of m n u Ordering.lt (less h) l e = tt
reached_of m n u Ordering.eq (same h) l e = e h
reached_of m n u Ordering.gt (more h) l e = omega arith

enough_of : (m n u : ℕ) (o : Ordering) → Told m n o → n ≤ m → (m ≡ n → u % 2 ≡ 0) → Enough o u
enough_of m n u Ordering.lt (less h) l e = omega arith
enough_of m n u Ordering.eq (same h) l e = e h
enough_of m n u Ordering.gt (more h) l e = tt

pub reached : (m n u : ℕ) → m ≤ n → (m ≡ n → u % 2 ≡ 0) → Reached (compare m n) u
reached m n u = reached_of m n u (compare m n) (told m n)

pub enough : (m n u : ℕ) → n ≤ m → (m ≡ n → u % 2 ≡ 0) → Enough (compare m n) u
enough m n u = enough_of m n u (compare m n) (told m n)

-- A cut goes one way where, of two numbers, the larger is above it or the smaller below it. A real number's cut does.
abbrev pub OneWay : Cut → Type 0
OneWay c = (d e k : ℕ) → d < e → (c e k ≡ Ordering.gt) ⊎ (c d k ≡ Ordering.lt)

one_way_of : (x y a : ℕ) (o p : Ordering) → Told x a o → Told y a p → x < y → (p ≡ Ordering.gt) ⊎ (o ≡ Ordering.lt)
one_way_of x y a Ordering.lt p (less h) t l = inr refl
one_way_of x y a Ordering.eq Ordering.lt (same h) (less k) l = absurd (omega arith)
one_way_of x y a Ordering.eq Ordering.eq (same h) (same k) l = absurd (omega arith)
one_way_of x y a Ordering.eq Ordering.gt (same h) (more k) l = inl refl
one_way_of x y a Ordering.gt Ordering.lt (more h) (less k) l = absurd (omega arith)
one_way_of x y a Ordering.gt Ordering.eq (more h) (same k) l = absurd (omega arith)
one_way_of x y a Ordering.gt Ordering.gt (more h) (more k) l = inl refl

-- so does a comparison of something that grows with d
pub compare_one_way : (x y a : ℕ) → x < y → (compare y a ≡ Ordering.gt) ⊎ (compare x a ≡ Ordering.lt)
compare_one_way x y a = one_way_of x y a (compare x a) (compare y a) (told x a) (told y a)

pub ratio_one_way : (a b : ℕ) → 0 < b → OneWay (ratio a b)
ratio_one_way a b p d e k l = compare_one_way (d * b) (e * b) (a * 2 ^ k) (mul-lt-mul_of_pos_right l p)

pub compare_times : (x y k : ℕ) → 0 < k → compare x y ≡ compare (x * k) (y * k)
compare_times x y k p =
    compare_alike x y (x * k) (y * k) (λ h. mul-lt-mul_of_pos_right h p) (λ h. ap (λ (w : ℕ). w * k) h) (λ h. mul-lt-mul_of_pos_right h p)

pub ratio_same : (a b a' b' : ℕ) → 0 < b → 0 < b' → a * b' ≡ a' * b → ratio a b ≡ ratio a' b'
ratio_same a b a' b' p p' e = fun_ext (λ d. fun_ext (λ k. at d k))
  where
    cross : (d k : ℕ) → a * 2 ^ k * b' ≡ a' * 2 ^ k * b
    cross d k =
        let l : a * 2 ^ k * b' ≡ 2 ^ k * (a * b') = simp (mul_assoc, mul_comm, mul_left_comm) in
        let r : a' * 2 ^ k * b ≡ 2 ^ k * (a' * b) = simp (mul_assoc, mul_comm, mul_left_comm) in
        l ∙ ap (λ (x : ℕ). 2 ^ k * x) e ∙ sym r

    at : (d k : ℕ) → ratio a b d k ≡ ratio a' b' d k
    at d k =
        compare_times (d * b) (a * 2 ^ k) b' p'
        ∙ (λ i. compare (let s : d * b * b' ≡ d * b' * b = simp (mul_assoc, mul_comm, mul_left_comm) in s i) (cross d k i))
        ∙ sym (compare_times (d * b') (a' * 2 ^ k) b p)
