-- Of two fractions the smaller has the smaller cut.
use Rattle.std.proofs.Common.{◌≡◌, ℕ, ◌*◌, ◌^◌, ◌<◌, ◌≤◌, subst, mul-le-mul_right, lt_of_mul-lt-mul_right, mul-lt-mul_of_pos_right, mul_right_comm, arith}
use Prim.Native.Nat.{compare, Ordering}
use Rattle.posit.specs.Rounding.{ratio}
use Rattle.posit.proofs.Compare.{Told, less, more, told, compare_is}
use Rattle.posit.proofs.Unique.{AtMost}

told_less : (m n : ℕ) (o : Ordering) → Told m n o → o ≡ Ordering.lt → m < n
told_less m n o t e = unlt (subst (Told m n) e t)
  where
    unlt : Told m n Ordering.lt → m < n
    unlt (less h) = h

told_more : (m n : ℕ) (o : Ordering) → Told m n o → o ≡ Ordering.gt → n < m
told_more m n o t e = ungt (subst (Told m n) e t)
  where
    ungt : Told m n Ordering.gt → n < m
    ungt (more h) = h

module _ (a b a' b' : ℕ) (some : 0 < b) (some' : 0 < b') (h : a * b' ≤ a' * b) where
  scaled : (k : ℕ) → a * 2 ^ k * b' ≤ a' * 2 ^ k * b
  scaled k = let l = mul_right_comm a (2 ^ k) b' in let r = mul_right_comm a' (2 ^ k) b in let m = mul-le-mul_right (2 ^ k) h in omega arith

  pub at_most : AtMost (ratio a b) (ratio a' b')
  at_most =
      record {
        below = λ d k e.
            let x = told_less (d * b) (a * 2 ^ k) (compare (d * b) (a * 2 ^ k)) (told (d * b) (a * 2 ^ k)) e in
            let y = mul-lt-mul_of_pos_right x some' in
            let z = mul_right_comm d b b' in
            let s = scaled k in
            compare_is (d * b') (a' * 2 ^ k) Ordering.lt (less (lt_of_mul-lt-mul_right b (omega arith)));
        above = λ d k e.
            let x = told_more (d * b') (a' * 2 ^ k) (compare (d * b') (a' * 2 ^ k)) (told (d * b') (a' * 2 ^ k)) e in
            let y = mul-lt-mul_of_pos_right x some in
            let z = mul_right_comm d b' b in
            let s = scaled k in
            compare_is (d * b) (a * 2 ^ k) Ordering.gt (more (lt_of_mul-lt-mul_right b' (omega arith)));
      }
