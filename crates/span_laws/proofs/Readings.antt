-- An edge that is exactly ±a / 2 ^ 30 before or after a finite f64, in natural numbers.
use Prim.Native.Nat.{ℕ, ◌*◌, ◌^◌}
use mathlib.Core.Path.{◌≡◌, ◌∙◌, ap, subst}
use mathlib.Core.Bool.{Bool, true, false}
use mathlib.Core.Logic.Iff
use mathlib.Core.Logic.{◌↔◌}
use native.Mathlib.Nat.{mul_right_comm, zero-mul}
use lib.IntN.{ℤ}
use lib.Pow.{pow_pos}
use lib.Ieee.{Float, nan, inf, fin, up, down}
use lib.Ieee.Exact.{HasValue}
use lib.Ieee.Fits.{down_pos}
use Rattle.spans.specs.declared.edges.Edge.{Edge}
use Rattle.span_laws.specs.LiesIn.{Before}
use Rattle.span_laws.proofs.Order.{Sized, same_order, no_sign, no_sign_first}

-- m * up e / down e in units of 2 ^ -30, times the denominator
abbrev pub scaled : ℕ → ℤ → ℕ
scaled m e = m * up e * 2 ^ 30

-- y stands to a finite f64 as ±a / 2 ^ 30 does
pub record Reads (t : Bool) (a : ℕ) (κ : Edge) (y : Float) : Type 0 where
  pub before : (s : Bool) (m : ℕ) (e : ℤ) → Before κ y (fin s m e) ↔ Sized κ t (a * down e) s (scaled m e)
  pub after : (s : Bool) (m : ℕ) (e : ℤ) → Before κ (fin s m e) y ↔ Sized κ s (scaled m e) t (a * down e)

pub reads : (t : Bool) (a : ℕ) (κ : Edge) (y : Float) → HasValue y t a (2 ^ 30) → Reads t a κ y
reads t a κ nan v = absurd v
reads t a κ (inf r) v = absurd v
reads t a κ (fin r n d) v =
    subst (λ (b : Bool). Reads b a κ (fin r n d)) v.0
    (record {
      before =
          λ s m e. same_order κ r (n * up d * down e) s (m * up e * down d) (a * down e) (scaled m e) (2 ^ 30) (down d)
          (pow_pos 30) (down_pos d) (own e) (other m e);
      after =
          λ s m e. same_order κ s (m * up e * down d) r (n * up d * down e) (scaled m e) (a * down e) (2 ^ 30) (down d)
          (pow_pos 30) (down_pos d) (other m e) (own e);
    })
  where
    own : (e : ℤ) → n * up d * down e * 2 ^ 30 ≡ a * down e * down d
    own e = mul_right_comm (n * up d) (down e) (2 ^ 30) ∙ ap (λ (x : ℕ). x * down e) v.1 ∙ mul_right_comm a (down d) (down e)

    other : (m : ℕ) (e : ℤ) → m * up e * down d * 2 ^ 30 ≡ scaled m e * down d
    other m e = mul_right_comm (m * up e) (down d) (2 ^ 30)

-- zero read as minus zero
pub minus-zero : (κ : Edge) (y : Float) → HasValue y false 0 (2 ^ 30) → Reads true 0 κ y
minus-zero κ y v =
    let r = reads false 0 κ y v in
    record {
      before = λ s m e. Iff.trans (r.before s m e) (no_sign_first κ (0 * down e) s (scaled m e) (zero-mul (down e)));
      after = λ s m e. Iff.trans (r.after s m e) (no_sign κ s (scaled m e) (0 * down e) (zero-mul (down e)));
    }
