-- The theorem: an f64 converts to a pattern exactly when it lies in that pattern's span.
use Prim.Native.Nat.{ℕ, zero, suc, ◌-◌, ◌*◌, ◌^◌, ◌<◌}
use mathlib.Core.Path.{◌≡◌, ◌∙◌, refl, ap, subst, subst⁻¹}
use mathlib.Core.Bool.{Bool, true, false, not}
use mathlib.Core.Logic.Iff
use mathlib.Core.Logic.{◌↔◌}
use native.Mathlib.Omega.{arith}
use native.Mathlib.Nat.{zero-mul, zero-lt-suc, mul-pos}
use native.Mathlib.Decide.{dec_lt}
use lib.IntN.{ℤ}
use Rattle.std.specs.Prelude.{Some}
use lib.Pow.{pow_pos}
use lib.Ieee.{Float, nan, inf, fin, up, down, neg}
use lib.Ieee.Fits.{up_pos}
use Rattle.posit.specs.Number.{opposite, with_sign}
use Rattle.posit.specs.Rounding.{Rounds, ratio, dyadic}
use Rattle.posit.proofs.Complement.{opposite_is}
use Rattle.posit.proofs.Laws.{never_zero}
use Rattle.real.specs.Reals.{FromF64}
use Rattle.real.proofs.Mirror.{mirrored}
use Rattle.spans.specs.Spans.{SpanOf}
use Rattle.spans.specs.declared.edges.Edge.{Edge}
use Rattle.spans.specs.declared.edges.Edge.TheVariants.{Included}
use Rattle.spans.specs.declared.Span.{Span}
use Rattle.span_laws.specs.LiesIn.{Before, LiesIn}
use Rattle.span_laws.proofs.Order.{Sized, turned}
use Rattle.span_laws.proofs.Readings.{scaled, reads}
use Rattle.span_laws.proofs.Above.{between}
use Rattle.span_laws.proofs.Ends.{at_zero, from-plus, to_plus, from_minus, to_minus}

-- 0 is the pattern of zero alone
zero_only : (b : Bool) (m : ℕ) (e : ℤ)
    → Rounds 1 16 (dyadic (with_sign b m) e) 0 ↔ (Sized Included false (0 * down e) b (scaled m e) × Sized Included b (scaled m e) false (0 * down e))
zero_only b m e = go b m (zero-mul (down e)) (ap (λ (x : ℕ). x * 2 ^ 30) (zero-mul (up e)) ∙ zero-mul (2 ^ 30))
  where
    some : (m : ℕ) → 0 < scaled (suc m) e
    some m = mul-pos (mul-pos (zero-lt-suc m) (up_pos e)) (pow_pos 30)

    go : (b : Bool) (m : ℕ) → 0 * down e ≡ 0 → scaled zero e ≡ 0
        → Rounds 1 16 (dyadic (with_sign b m) e) 0 ↔ (Sized Included false (0 * down e) b (scaled m e) × Sized Included b (scaled m e) false (0 * down e))
    go false zero d z = (λ r. (omega arith, omega arith), λ h. refl)
    go true zero d z = (λ r. (omega arith, tt), λ h. refl)
    go false (suc m) d z =
        (λ r. absurd ((never_zero 1 16 (ratio (suc m * up e) (down e))).0 r), λ h. absurd (let l = h.1 in let k = some m in omega arith))
    go true (suc m) d z =
        (λ r. absurd ((never_zero 1 16 (ratio (suc m * up e) (down e))).1 r), λ h. absurd (let l = h.0 in let k = some m in omega arith))

at_nought : (s : Span) → SpanOf 0 (Some s) → (b : Bool) (m : ℕ) (e : ℤ) → FromF64 (fin b m e) 0 ↔ LiesIn s (fin b m e)
at_nought s v b m e =
    Iff.trans (zero_only b m e)
    (Iff.and
    (subst⁻¹ (λ (κ : Edge). Sized Included false (0 * down e) b (scaled m e) ↔ Before κ s.lower (fin b m e)) v.1.1
    (Iff.symm ((reads false 0 Included s.lower (at_zero s.lower v.1.0)).before b m e)))
    (subst⁻¹ (λ (κ : Edge). Sized Included b (scaled m e) false (0 * down e) ↔ Before κ (fin b m e) s.upper) v.2.1
    (Iff.symm ((reads false 0 Included s.upper (at_zero s.upper v.2.0)).after b m e))))

-- the opposite answers minus the number
mirror : (b : Bool) (m : ℕ) (e : ℤ) (p u : ℕ) → opposite 16 p ≡ u → opposite 16 u ≡ p → FromF64 (fin b m e) p ↔ FromF64 (fin (not b) m e) u
unfolding neg
mirror true m e p u o o' =
    (λ r. subst (FromF64 (fin false m e)) o (mirrored (fin true m e) p r), λ r. subst (FromF64 (fin true m e)) o' (mirrored (fin false m e) u r))
mirror false m e p u o o' =
    (λ r. subst (FromF64 (fin true m e)) o (mirrored (fin false m e) p r), λ r. subst (FromF64 (fin false m e)) o' (mirrored (fin true m e) u r))

-- with the sign changed, an edge above zero is one below it
turns : (κ : Edge) (a : ℕ) (b : Bool) (x : ℕ) → Sized κ false a (not b) x ↔ Sized κ b x true a
turns κ a true x = (turned κ false a false x, turned κ true x true a)
turns κ a false x = (turned κ false a true x, turned κ false x true a)

back_turns : (κ : Edge) (a : ℕ) (b : Bool) (x : ℕ) → Sized κ (not b) x false a ↔ Sized κ true a b x
back_turns κ a true x = (turned κ false x false a, turned κ true a true x)
back_turns κ a false x = (turned κ true x false a, turned κ true a false x)

module _ (p : ℕ) (top : p < 2 ^ 16) (s : Span) (v : SpanOf p (Some s)) where
  above_zero : 0 < p → p < 2 ^ 15 → (b : Bool) (m : ℕ) (e : ℤ) → FromF64 (fin b m e) p ↔ LiesIn s (fin b m e)
  above_zero l h b m e =
      let f = from-plus p s.lower s.start l h v.1 in
      let t = to_plus p s.upper s.end l h v.2 in
      Iff.trans (between p l h s.start s.end f.size t.size f.end t.end b m e)
      (Iff.and (Iff.symm (f.reads.before b m e)) (Iff.symm (t.reads.after b m e)))

  below-zero : 2 ^ 15 < p → (b : Bool) (m : ℕ) (e : ℤ) → FromF64 (fin b m e) p ↔ LiesIn s (fin b m e)
  below-zero l b m e =
      let u : ℕ = 2 ^ 16 - p in
      let f = from_minus p s.upper s.end u l (omega arith) (omega arith) v.2 in
      let t = to_minus p s.lower s.start u l (omega arith) (omega arith) v.1 in
      let o' : opposite 16 u ≡ p = opposite_is 16 u (omega arith) ∙ (let q : 2 ^ 16 - u ≡ p = omega arith in q) in
      let there = Iff.trans (mirror b m e p u (opposite_is 16 p (omega arith)) o')
      (between u (omega arith) (omega arith) s.end s.start f.size t.size f.end t.end (not b) m e) in
      let back = Iff.and (Iff.trans (turns s.end (f.size * down e) b (scaled m e)) (Iff.symm (f.reads.after b m e)))
      (Iff.trans (back_turns s.start (t.size * down e) b (scaled m e)) (Iff.symm (t.reads.before b m e))) in
      Iff.trans there (λ h. ((back.0 h).1, (back.0 h).0), λ h. back.1 (h.1, h.0))

  pub exactly : (x : Float) → FromF64 x p ↔ LiesIn s x
  exactly nan = (λ r. absurd (v.0 r), λ h. absurd h.1)
  exactly (inf b) = (λ r. absurd (v.0 r), λ h. absurd h.1)
  exactly (fin b m e) = go (dec_lt 0 p) (dec_lt p (2 ^ 15))
    where
      go : Dec (0 < p) → Dec (p < 2 ^ 15) → FromF64 (fin b m e) p ↔ LiesIn s (fin b m e)
      go (no z) h =
          let q : p ≡ 0 = omega arith in
          subst⁻¹ (λ (k : ℕ). FromF64 (fin b m e) k ↔ LiesIn s (fin b m e)) q (at_nought s (subst (λ (k : ℕ). SpanOf k (Some s)) q v) b m e)
      go (yes l) (yes h) = above_zero l h b m e
      go (yes l) (no h) = below-zero (omega (arith, v.0)) b m e
