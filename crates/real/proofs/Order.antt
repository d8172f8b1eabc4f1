-- From f64 goes one way: a larger f64 never gets a smaller answer, in the order of the numbers. An infinity is no number:
-- plus infinity gives NaR, which stands first, so the larger of the two has to be finite.
use Rattle.std.proofs.Common.{◌≡◌, ℕ, zero, suc, ◌*◌, ◌<◌, ◌≤◌, Bool, true, false, ◌||◌, T, eqb, ltb, ℤ, ap, ◌∙◌, zero-lt-suc, mul-pos, zero-mul, arith, eqb→eq, ltb→lt}
use lib.Ieee.{Float, nan, inf, fin, up, down, below, level, le}
use lib.Ieee.Fits.{up_pos, down_pos, and_l, and_r}
use lib.Ieee.Scale.{finite}
use Rattle.posit.specs.Number.{with_sign}
use Rattle.posit.specs.Rounding.{dyadic}
use Rattle.posit.proofs.Fractions.{at_most}
use Rattle.posit.proofs.Laws.{NoMore, same_nought, to_plus, from_minus, across, both_plus, both_minus, in_order, dyadic_straight, rank}
use Rattle.real.specs.Reals.{FromF64}

either : (p q : Bool) → T (p || q) → (P : Type 0) → (T p → P) → (T q → P) → P
either true q t P f g = f tt
either false q t P f g = g t

some : (m : ℕ) (d e : ℤ) → 0 < suc m * up d * down e
some m d e = mul-pos (mul-pos (zero-lt-suc m) (up_pos d)) (down_pos e)

none : (d e : ℤ) → zero * up d * down e ≡ 0
none d e = ap (λ (x : ℕ). x * down e) (zero-mul (up d)) ∙ zero-mul (down e)

-- ±a ≤ ±b for signs that are alike
plus_le : (a b : ℕ) → T (below false a false b || level false a false b) → a ≤ b
plus_le a b t =
    either (ltb a b) (level false a false b) t (a ≤ b) (λ h. let k = ltb→lt a b h in omega arith)
    (λ h. let k = eqb→eq a b (and_l (eqb a b) true h) in omega arith)

minus_le : (a b : ℕ) → T (below true a true b || level true a true b) → b ≤ a
minus_le a b t =
    either (ltb b a) (level true a true b) t (b ≤ a) (λ h. let k = ltb→lt b a h in omega arith)
    (λ h. let k = eqb→eq a b (and_l (eqb a b) true h) in omega arith)

no_more : (s : Bool) (m : ℕ) (e : ℤ) (t : Bool) (n : ℕ) (d : ℤ) → T (le (fin s m e) (fin t n d)) → NoMore (dyadic (with_sign s m) e) (dyadic (with_sign t n) d)
unfolding le
no_more false zero e false zero d h = same_nought
no_more false zero e false (suc n) d h = to_plus
no_more false (suc m) e false zero d h =
    let l = plus_le (suc m * up e * down d) (zero * up d * down e) h in let p = some m e d in let z = none d e in absurd (omega arith)
no_more false (suc m) e false (suc n) d h =
    both_plus (at_most (suc m * up e) (down e) (suc n * up d) (down d) (down_pos e) (down_pos d) (plus_le (suc m * up e * down d) (suc n * up d * down e) h))
no_more false zero e true zero d h = same_nought
no_more false zero e true (suc n) d h =
    let k = eqb→eq (zero * up e * down d) (suc n * up d * down e)
    (and_l (eqb (zero * up e * down d) (suc n * up d * down e)) (eqb (zero * up e * down d) 0) h) in
    let p = some n d e in let z = none e d in absurd (omega arith)
no_more false (suc m) e true n d h =
    let k = eqb→eq (suc m * up e * down d) 0 (and_r (eqb (suc m * up e * down d) (n * up d * down e)) (eqb (suc m * up e * down d) 0) h) in
    let p = some m e d in
    absurd (omega arith)
no_more true zero e false zero d h = same_nought
no_more true zero e false (suc n) d h = to_plus
no_more true (suc m) e false zero d h = from_minus
no_more true (suc m) e false (suc n) d h = across
no_more true zero e true zero d h = same_nought
no_more true zero e true (suc n) d h =
    let l = minus_le (zero * up e * down d) (suc n * up d * down e) h in let p = some n d e in let z = none e d in absurd (omega arith)
no_more true (suc m) e true zero d h = from_minus
no_more true (suc m) e true (suc n) d h =
    both_minus (at_most (suc n * up d) (down d) (suc m * up e) (down e) (down_pos d) (down_pos e) (minus_le (suc m * up e * down d) (suc n * up d * down e) h))

pub one_way : (x y : Float) → T (le x y) → T (finite y) → (u v : ℕ) → FromF64 x u → FromF64 y v → rank 16 u ≤ rank 16 v
unfolding le
one_way nan y h f u v a b = absurd h
one_way (inf true) y h f u v a b = let k : rank 16 u ≡ 0 = ap (rank 16) a in omega arith
one_way (inf false) nan h f u v a b = elim h [ ]
one_way (inf false) (inf t) h f u v a b = elim f [ ]
one_way (inf false) (fin t n d) h f u v a b = absurd h
one_way (fin s m e) nan h f u v a b = elim h [ ]
one_way (fin s m e) (inf t) h f u v a b = elim f [ ]
one_way (fin s m e) (fin t n d) h f u v a b =
    in_order 1 16 (omega arith) (dyadic (with_sign s m) e) (dyadic (with_sign t n) d) (dyadic_straight (with_sign s m) e) (dyadic_straight (with_sign t n) d)
    (no_more s m e t n d h) u v a b
