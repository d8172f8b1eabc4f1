-- The laws of the rounding rule, sign and zero included: one answer, order, negation, a posit's own number.
use Rattle.std.proofs.Common.{◌≡◌, ℕ, zero, suc, ◌+◌, ◌-◌, ◌*◌, ◌%◌, ◌^◌, ◌<◌, ◌≤◌, ℤ, pos, negsuc, sym, ap, ◌∙◌, mod-eq_of_lt, pow-suc, arith, pow_pos}
use mathlib.Core.Path.{subst⁻¹}
use lib.Pow.{low}
use lib.Ieee.{up, down}
use Rattle.posit.specs.Number.{opposite}
use Rattle.posit.specs.Rounding.{Cut, Rounded, Known, nought, plus, minus, Rounds, negated, dyadic}
use Rattle.posit.proofs.Compare.{OneWay, ratio_one_way}
use Rattle.posit.proofs.Dyadic.{down_some}
use Rattle.posit.proofs.Complement.{opposite-zero, opposite_is, opposite_twice, opposite_some}
use Rattle.posit.proofs.Unique.{AtMost, rises, unique}

-- no number but zero gives 0
pub never_zero : (es n : ℕ) (c : Cut) → (Rounds es n (plus c) 0 → ⊥) × (Rounds es n (minus c) 0 → ⊥)
never_zero es n c = (λ r. let l = r.least in omega arith, λ r. let l = r.least in let e = opposite-zero n in omega arith)

-- a number whose cut goes one way
abbrev pub Straight : Known → Type 0
Straight nought = Unit {0}
Straight (plus c) = OneWay c
Straight (minus c) = OneWay c

pub dyadic_straight : (k e : ℤ) → Straight (dyadic k e)
dyadic_straight (pos zero) e = tt
dyadic_straight (pos (suc k)) e = ratio_one_way (suc k * up e) (down e) (down_some e)
dyadic_straight (negsuc k) e = ratio_one_way (suc k * up e) (down e) (down_some e)

-- any two answers that the rule allows are equal
pub one_answer : (es n : ℕ) → 3 ≤ n → (x : Known) → Straight x → (u v : ℕ) → Rounds es n x u → Rounds es n x v → u ≡ v
one_answer es n few nought w u v ru rv = ru ∙ sym rv
one_answer es n few (plus c) w u v ru rv = unique es n few c w u v ru rv
one_answer es n few (minus c) w u v ru rv =
    let s = opposite_some n u ru.least in
    let t = opposite_some n v rv.least in
    sym (opposite_twice n u s.0 s.1) ∙ ap (opposite n) (unique es n few c w (opposite n u) (opposite n v) ru rv) ∙ opposite_twice n v t.0 t.1

-- negation mirrors
pub mirrors : (es n : ℕ) → 3 ≤ n → (x : Known) (u : ℕ) → Rounds es n x u → Rounds es n (negated x) (opposite n u)
mirrors es n few nought u r = ap (opposite n) r ∙ opposite-zero n
mirrors es n few (plus c) u r =
    subst⁻¹ (λ (v : ℕ). Rounded es n c v)
    (opposite_twice n u r.least
    (let h = r.most in let z = pow_pos (n - 1) in
    let d : 2 ^ n ≡ 2 ^ suc (n - 1) = ap (λ (x : ℕ). 2 ^ x) (omega arith) in let e = pow-suc 2 (n - 1) in omega arith)) r
mirrors es n few (minus c) u r = r

-- where a pattern stands among all patterns in the order of their numbers, NaR first
abbrev pub rank : ℕ → ℕ → ℕ
rank n u = (u + 2 ^ (n - 1)) % 2 ^ n

-- x is at most y
pub data NoMore : Known → Known → Type 0 where
  same_nought : NoMore nought nought
  to_plus : {c : Cut} → NoMore nought (plus c)
  from_minus : {c : Cut} → NoMore (minus c) nought
  across : {c c' : Cut} → NoMore (minus c) (plus c')
  both_plus : {c c' : Cut} → AtMost c c' → NoMore (plus c) (plus c')
  both_minus : {c c' : Cut} → AtMost c' c → NoMore (minus c) (minus c')

module _ (es n : ℕ) (few : 3 ≤ n) where
  -- half of the patterns
  pub half : 2 ^ n ≡ 2 ^ (n - 1) + 2 ^ (n - 1)
  half = let d : 2 ^ n ≡ 2 ^ suc (n - 1) = ap (λ (x : ℕ). 2 ^ x) (omega arith) in let e = pow-suc 2 (n - 1) in omega arith

  -- an answer is a pattern, and never NaR
  pub never_nar : (x : Known) (u : ℕ) → Rounds es n x u → (u < 2 ^ n) × (u ≡ 2 ^ (n - 1) → ⊥)
  never_nar nought u r = let z = pow_pos (n - 1) in let d = half in (omega arith, λ e. omega arith)
  never_nar (plus c) u r = let h = r.most in let z = pow_pos (n - 1) in let d = half in (omega arith, λ e. omega arith)
  never_nar (minus c) u r =
      let s = opposite_some n u r.least in
      let o = opposite_is n u s.0 in
      let h = r.most in
      let z = pow_pos (n - 1) in
      let d = half in
      (s.1, λ e. omega arith)

  rank_plus : (c : Cut) (u : ℕ) → Rounded es n c u → rank n u ≡ u + 2 ^ (n - 1)
  rank_plus c u r = mod-eq_of_lt (let h = r.most in let z = pow_pos (n - 1) in let d = half in omega arith)

  rank_nought : (u : ℕ) → u ≡ 0 → rank n u ≡ 2 ^ (n - 1)
  rank_nought u e = mod-eq_of_lt (let z = pow_pos (n - 1) in let d = half in omega arith) ∙ (let q : u + 2 ^ (n - 1) ≡ 2 ^ (n - 1) = omega arith in q)

  rank_minus : (c : Cut) (u : ℕ) → Rounded es n c (opposite n u) → rank n u ≡ 2 ^ (n - 1) - opposite n u
  rank_minus c u r =
      let s = opposite_some n u r.least in
      let o = opposite_is n u s.0 in
      let h = r.most in
      let d = half in
      let z = pow_pos (n - 1) in
      ap (λ (x : ℕ). x % 2 ^ n) (let q : u + 2 ^ (n - 1) ≡ 1 * 2 ^ n + (2 ^ (n - 1) - opposite n u) = omega arith in q) ∙ low 1 n (omega arith)

  -- a larger number never gets a smaller answer
  pub in_order : (x y : Known) → Straight x → Straight y → NoMore x y → (u v : ℕ) → Rounds es n x u → Rounds es n y v → rank n u ≤ rank n v
  in_order nought nought sx sy same_nought u v ru rv = let a = rank_nought u ru in let b = rank_nought v rv in omega arith
  in_order nought (plus c) sx sy to_plus u v ru rv = let a = rank_nought u ru in let b = rank_plus c v rv in omega arith
  in_order (minus c) nought sx sy from_minus u v ru rv = let a = rank_minus c u ru in let b = rank_nought v rv in omega arith
  in_order nought (minus c') sx sy h u v ru rv = elim h [ ]
  in_order (plus c) nought sx sy h u v ru rv = elim h [ ]
  in_order (plus c) (minus c') sx sy h u v ru rv = elim h [ ]
  in_order (minus c) (plus c') sx sy across u v ru rv = let a = rank_minus c u ru in let b = rank_plus c' v rv in omega arith
  in_order (plus c) (plus c') sx sy (both_plus m) u v ru rv =
      let a = rank_plus c u ru in
      let b = rank_plus c' v rv in
      let k = rises es n few c c' sx m u v ru rv in
      omega arith
  in_order (minus c) (minus c') sx sy (both_minus m) u v ru rv =
      let a = rank_minus c u ru in
      let b = rank_minus c' v rv in
      let k = rises es n few c' c sy m (opposite n v) (opposite n u) rv ru in
      omega arith
