-- Bounds on a power d ^ (suc r ^ n), found by raising to the power suc r, n times, each time cut back to the unit 2 ^ -B:
-- the lower one is rounded down, the upper one up. That they hold is proved over variables, and no power of d is ever formed.
use Prim.Native.Nat.{ℕ, zero, suc, min, ◌+◌, ◌-◌, ◌*◌, ◌/◌, ◌%◌, ◌^◌, ◌≤◌, ◌<◌}
use native.Mathlib.Nat.{le_trans, le_of_eq, lt_of_le_of_lt, lt_of_lt_of_le, mul_assoc, mul_comm, mul_left_comm, mul-mul-mul_comm, mul-le-mul_left}
use native.Mathlib.Nat.{mul-le-mul_right, mul-lt-mul_of_pos_right, le_of_mul-le-mul_right, lt_of_mul-lt-mul_right, mul-zero, one-mul, mul-suc}
use native.Mathlib.Nat.{pow-zero, pow-suc, pow-le-pow_left, div-mul-le_self, div-add-mod', mod-lt, min-le_left, min-le_right}
use native.Mathlib.Omega.{arith}
use mathlib.Core.Path.{◌≡◌, sym, ap, ap₂, ◌∙◌, subst}
use lib.Pow.{pow_pos, pow_mono, pow-add}

-- a / 2 ^ s rounded up
abbrev pub ceiling : ℕ → ℕ → ℕ
ceiling a s = (a + (2 ^ s - 1)) / 2 ^ s

-- d ^ (suc r ^ n) / 2 ^ E in units of 2 ^ -B, from below. The exponent's digits to the base suc r are taken off one at a
-- time; what passes 2 ^ 8 is kept there, so that numbers far away stay short
abbrev pub lower : ℕ → ℕ → ℕ → ℕ → ℕ → ℕ
lower r B zero E d = d * 2 ^ B / 2 ^ E
lower r B (suc n) E d = min (2 ^ (B + 8)) (lower r B n (E / suc r) d ^ suc r / 2 ^ (B * r + E % suc r))

-- the same from above; 2 ^ 64 is enough to divide by at the start
abbrev pub upper : ℕ → ℕ → ℕ → ℕ → ℕ → ℕ
upper r B zero E d = ceiling (d * 2 ^ B) (min E 64)
upper r B (suc n) E d = ceiling (upper r B n (E / suc r) d ^ suc r) (B * r + E % suc r)

pow_mul : (a m n : ℕ) → a ^ (m * n) ≡ (a ^ m) ^ n
pow_mul a m zero = ap (λ (x : ℕ). a ^ x) (mul-zero m) ∙ pow-zero a ∙ sym (pow-zero (a ^ m))
pow_mul a m (suc n) = ap (λ (x : ℕ). a ^ x) (mul-suc m n) ∙ pow-add a (m * n) m ∙ ap (λ (x : ℕ). x * a ^ m) (pow_mul a m n) ∙ sym (pow-suc (a ^ m) n)

mul_pow : (a b n : ℕ) → (a * b) ^ n ≡ a ^ n * b ^ n
mul_pow a b zero = pow-zero (a * b) ∙ sym (ap₂ (λ (x y : ℕ). x * y) (pow-zero a) (pow-zero b))
mul_pow a b (suc n) =
    pow-suc (a * b) n ∙ ap (λ (x : ℕ). x * (a * b)) (mul_pow a b n) ∙ mul-mul-mul_comm (a ^ n) (b ^ n) a b
    ∙ sym (ap₂ (λ (x y : ℕ). x * y) (pow-suc a n) (pow-suc b n))

pow_one : (d r : ℕ) → d ^ (suc r ^ zero) ≡ d
pow_one d r = ap (λ (x : ℕ). d ^ x) (pow-zero (suc r)) ∙ pow-suc d 0 ∙ ap (λ (x : ℕ). x * d) (pow-zero d) ∙ one-mul d

next_power : (d r n : ℕ) → (d ^ (suc r ^ n)) ^ suc r ≡ d ^ (suc r ^ suc n)
next_power d r n = sym (pow_mul d (suc r ^ n) (suc r)) ∙ ap (λ (x : ℕ). d ^ x) (sym (pow-suc (suc r) n))

raised : (m e r : ℕ) → (m * 2 ^ e) ^ suc r ≡ m ^ suc r * 2 ^ (e * suc r)
raised m e r = mul_pow m (2 ^ e) (suc r) ∙ ap (λ (x : ℕ). m ^ suc r * x) (sym (pow_mul 2 e (suc r)))

one_apart : (B r : ℕ) → 2 ^ (B * suc r) ≡ 2 ^ (B * r) * 2 ^ B
one_apart B r = ap (λ (x : ℕ). 2 ^ x) (mul-suc B r) ∙ pow-add 2 (B * r) B

at_most-ceiling : (a c : ℕ) → 0 < c → a ≤ (a + (c - 1)) / c * c
at_most-ceiling a c h = omega (arith, div-add-mod' (a + (c - 1)) c, mod-lt (a + (c - 1)) h)

lower_cancel : (v m D X G F Y : ℕ) → 0 < X → v * (X * G) ≤ m → m * F ≤ D * (X * Y) → v * (F * G) ≤ D * Y
lower_cancel v m D X G F Y o h k =
    le_of_mul-le-mul_right {k = X}
    (le_trans (le_of_eq (simp (mul_assoc, mul_comm, mul_left_comm))) (le_trans (mul-le-mul_right F h) (le_trans k (le_of_eq (simp (mul_assoc, mul_comm))))))
    o

upper_cancel : (v m D X G F Y : ℕ) → 0 < X → m ≤ v * (X * G) → D * (X * Y) ≤ m * F → D * Y ≤ v * (F * G)
upper_cancel v m D X G F Y o h k =
    le_of_mul-le-mul_right {k = X}
    (le_trans (le_of_eq (simp (mul_assoc, mul_comm))) (le_trans k (le_trans (mul-le-mul_right F h) (le_of_eq (simp (mul_assoc, mul_comm, mul_left_comm))))))
    o

-- a bound m on D, raised and cut back to v, bounds the power of D
lower_step : (r B g e m v D : ℕ) → v * 2 ^ (B * r + g) ≤ m ^ suc r → m * 2 ^ e ≤ D * 2 ^ B → v * 2 ^ (e * suc r + g) ≤ D ^ suc r * 2 ^ B
lower_step r B g e m v D h k =
    rw (pow-add 2 (e * suc r) g)
    (lower_cancel v (m ^ suc r) (D ^ suc r) (2 ^ (B * r)) (2 ^ g) (2 ^ (e * suc r)) (2 ^ B) (pow_pos (B * r)) (rw (pow-add 2 (B * r) g) at h)
    (subst (λ (x : ℕ). m ^ suc r * 2 ^ (e * suc r) ≤ D ^ suc r * x) (one_apart B r) (rw (raised m e r, raised D B r) at (pow-le-pow_left k (suc r)))))

upper_step : (r B g e m v D : ℕ) → m ^ suc r ≤ v * 2 ^ (B * r + g) → D * 2 ^ B ≤ m * 2 ^ e → D ^ suc r * 2 ^ B ≤ v * 2 ^ (e * suc r + g)
upper_step r B g e m v D h k =
    rw (pow-add 2 (e * suc r) g)
    (upper_cancel v (m ^ suc r) (D ^ suc r) (2 ^ (B * r)) (2 ^ g) (2 ^ (e * suc r)) (2 ^ B) (pow_pos (B * r)) (rw (pow-add 2 (B * r) g) at h)
    (subst (λ (x : ℕ). D ^ suc r * x ≤ m ^ suc r * 2 ^ (e * suc r)) (one_apart B r) (rw (raised m e r, raised D B r) at (pow-le-pow_left k (suc r)))))

pub lower_holds : (r B n E d : ℕ) → lower r B n E d * 2 ^ E ≤ d ^ (suc r ^ n) * 2 ^ B
lower_holds r B zero E d = rw (pow_one d r) (div-mul-le_self (d * 2 ^ B) (2 ^ E))
lower_holds r B (suc n) E d =
    let s = B * r + E % suc r in
    let m = lower r B n (E / suc r) d in
    let v = min (2 ^ (B + 8)) (m ^ suc r / 2 ^ s) in
    subst (λ (x : ℕ). v * 2 ^ E ≤ x * 2 ^ B) (next_power d r n)
    (subst (λ (x : ℕ). v * 2 ^ x ≤ (d ^ (suc r ^ n)) ^ suc r * 2 ^ B) (div-add-mod' E (suc r))
    (lower_step r B (E % suc r) (E / suc r) m v (d ^ (suc r ^ n))
    (le_trans (mul-le-mul_right (2 ^ s) (min-le_right (2 ^ (B + 8)) (m ^ suc r / 2 ^ s))) (div-mul-le_self (m ^ suc r) (2 ^ s)))
    (lower_holds r B n (E / suc r) d)))

pub upper_holds : (r B n E d : ℕ) → d ^ (suc r ^ n) * 2 ^ B ≤ upper r B n E d * 2 ^ E
upper_holds r B zero E d =
    rw (pow_one d r)
    (le_trans (at_most-ceiling (d * 2 ^ B) (2 ^ min E 64) (pow_pos (min E 64)))
    (mul-le-mul_left (ceiling (d * 2 ^ B) (min E 64)) (pow_mono (min-le_left E 64))))
upper_holds r B (suc n) E d =
    let s = B * r + E % suc r in
    let m = upper r B n (E / suc r) d in
    let v = ceiling (m ^ suc r) s in
    subst (λ (x : ℕ). x * 2 ^ B ≤ v * 2 ^ E) (next_power d r n)
    (subst (λ (x : ℕ). (d ^ (suc r ^ n)) ^ suc r * 2 ^ B ≤ v * 2 ^ x) (div-add-mod' E (suc r))
    (upper_step r B (E % suc r) (E / suc r) m v (d ^ (suc r ^ n)) (at_most-ceiling (m ^ suc r) (2 ^ s) (pow_pos s)) (upper_holds r B n (E / suc r) d)))

-- a bound v on D / 2 ^ E, against 1: D against 2 ^ E
pub under_one : (v D B E : ℕ) → D * 2 ^ B ≤ v * 2 ^ E → v < 2 ^ B → D < 2 ^ E
under_one v D B E h l = lt_of_mul-lt-mul_right (2 ^ B) (lt_of_le_of_lt h (rw (mul_comm (2 ^ E) (2 ^ B)) (mul-lt-mul_of_pos_right l (pow_pos E))))

pub over_one : (v D B E : ℕ) → v * 2 ^ E ≤ D * 2 ^ B → 2 ^ B < v → 2 ^ E < D
over_one v D B E h l = lt_of_mul-lt-mul_right (2 ^ B) (lt_of_lt_of_le (rw (mul_comm (2 ^ E) (2 ^ B)) (mul-lt-mul_of_pos_right l (pow_pos E))) h)

pub at_most_one : (v D B E : ℕ) → D * 2 ^ B ≤ v * 2 ^ E → v ≤ 2 ^ B → D ≤ 2 ^ E
at_most_one v D B E h l = le_of_mul-le-mul_right (le_trans h (rw (mul_comm (2 ^ E) (2 ^ B)) (mul-le-mul_right (2 ^ E) l))) (pow_pos B)

pub at_least_one : (v D B E : ℕ) → v * 2 ^ E ≤ D * 2 ^ B → 2 ^ B ≤ v → 2 ^ E ≤ D
at_least_one v D B E h l = le_of_mul-le-mul_right (le_trans (rw (mul_comm (2 ^ E) (2 ^ B)) (mul-le-mul_right (2 ^ E) l)) h) (pow_pos B)
