-- From a magnitude to the number of a pattern of n bits, above and below zero.
use Rattle.std.proofs.Common.{◌≡◌, ℕ, suc, ◌-◌, ◌^◌, ◌<◌, ◌≤◌, pos, ap, pow-suc, arith}
use mathlib.Core.Path.{subst⁻¹}
use lib.Ieee.{Float, neg}
use Rattle.posit.specs.Number.{Number, number, magnitude, opposite}
use Rattle.posit.proofs.Complement.{opposite_is}
use Rattle.posit.proofs.Own.{magnitude_some}
use Rattle.posit.proofs.Patterns.{number_plus, number_minus}
use Rattle.real.specs.Reals.{Exactly, Holds}
use Rattle.real.proofs.Exact.{negated}

module _ (n q p : ℕ) (x : Float) where
  pub holds_plus : 0 < p → p < 2 ^ (n - 1) → Exactly (pos (magnitude 1 n p)) q x → Holds q (number 1 n p) x
  holds_plus l h e = subst⁻¹ (λ (z : Number). Holds q z x) (number_plus 1 n p l h) e

  pub holds_minus : 3 ≤ n → 2 ^ (n - 1) < p → p < 2 ^ n → Exactly (pos (magnitude 1 n (opposite n p))) q x → Holds q (number 1 n p) (neg x)
  holds_minus few l h e =
      let o = opposite_is n p (omega arith) in
      let d : 2 ^ n ≡ 2 ^ suc (n - 1) = ap (λ (k : ℕ). 2 ^ k) (omega arith) in
      let f = pow-suc 2 (n - 1) in
      subst⁻¹ (λ (z : Number). Holds q z (neg x)) (number_minus 1 n p l)
      (negated (magnitude 1 n (opposite n p)) q x (magnitude_some 1 n (opposite n p) few (omega arith) (omega arith)) e)
