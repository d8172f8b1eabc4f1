-- The places of a span's edges: at the pattern's neighbours but for the ends, and never at NaR.
use Rattle.std.proofs.Common.{◌≡◌, ℕ, ◌+◌, ◌-◌, ◌*◌, ◌%◌, ◌^◌, ◌<◌, cond, eqb, ap, ◌∙◌, mod-eq_of_lt, arith, eq-eqb, ne_eqb}
use mathlib.Core.Path.{subst⁻¹}
use native.Mathlib.Decide.{ℕ_discrete}
use lib.Pow.{low}
use Rattle.spans.specs.Spans.{at, tied, below, above, edge_place, lower_place, upper_place}
use Rattle.spans.specs.declared.edges.Edge.TheVariants.{Missing, Excluded, Included}
use Rattle.spans.specs.declared.edges.Place.{Place}

pub tied_even : (p : ℕ) → p % 2 ≡ 0 → tied p ≡ Included
tied_even p e = rw (eq-eqb (p % 2) 0 e)

pub tied-odd : (p : ℕ) → (p % 2 ≡ 0 → ⊥) → tied p ≡ Excluded
tied-odd p e = rw (ne_eqb (p % 2) 0 e)

pub tied-alike : (p q : ℕ) → p % 2 ≡ q % 2 → tied p ≡ tied q
tied-alike p q e = ap (λ (b : ℕ). cond (eqb b 0) Included Excluded) e

-- the four cases of an edge
module _ (inmost outmost next p : ℕ) where
  pub at_nought : p ≡ 0 → edge_place inmost outmost next p ≡ at 0 Included
  at_nought e = rw (eq-eqb p 0 e)

  module _ (z : p ≡ 0 → ⊥) where
    pub at-inmost : p ≡ inmost → edge_place inmost outmost next p ≡ at 0 Excluded
    at-inmost e = rw (ne_eqb p 0 z, eq-eqb p inmost e)

    module _ (i : p ≡ inmost → ⊥) where
      pub at-outmost : p ≡ outmost → edge_place inmost outmost next p ≡ at 0 Missing
      at-outmost e = rw (ne_eqb p 0 z, ne_eqb p inmost i, eq-eqb p outmost e)

      pub at_next : (p ≡ outmost → ⊥) → edge_place inmost outmost next p ≡ at next (tied p)
      at_next o = rw (ne_eqb p 0 z, ne_eqb p inmost i, ne_eqb p outmost o)

  -- whatever holds of 0 and of the neighbour holds of the edge's posit
  pub either : (P : ℕ → Type 0) → P 0 → ((p ≡ 0 → ⊥) → P next) → P (edge_place inmost outmost next p).posit
  either P zero other = go (ℕ_discrete p 0) (ℕ_discrete p inmost) (ℕ_discrete p outmost)
    where
      go : Dec (p ≡ 0) → Dec (p ≡ inmost) → Dec (p ≡ outmost) → P (edge_place inmost outmost next p).posit
      go (yes z) i o = subst⁻¹ (λ (a : Place). P a.posit) (at_nought z) zero
      go (no z) (yes i) o = subst⁻¹ (λ (a : Place). P a.posit) (at-inmost z i) zero
      go (no z) (no i) (yes o) = subst⁻¹ (λ (a : Place). P a.posit) (at-outmost z i o) zero
      go (no z) (no i) (no o) = subst⁻¹ (λ (a : Place). P a.posit) (at_next z i o) (other z)

pub below_is : (p : ℕ) → (p ≡ 0 → ⊥) → p < 2 ^ 16 → below (2 * p) ≡ 2 * p - 1
below_is p z h =
    ap (λ (k : ℕ). k % 2 ^ 17) (let e : 2 * p + (2 ^ 17 - 1) ≡ 1 * 2 ^ 17 + (2 * p - 1) = omega (arith, z) in e) ∙ low 1 17 (omega arith)

pub above_is : (p : ℕ) → p < 2 ^ 16 → above (2 * p) ≡ 2 * p + 1
above_is p h = mod-eq_of_lt (omega arith)

module _ (p : ℕ) (z : p ≡ 0 → ⊥) (top : p < 2 ^ 16) where
  pub lower_next : (p ≡ 0x0001 → ⊥) → (p ≡ 0x8001 → ⊥) → lower_place p ≡ at (2 * p - 1) (tied p)
  lower_next i o = at_next 0x0001 0x8001 (below (2 * p)) p z i o ∙ ap (λ (v : ℕ). at v (tied p)) (below_is p z top)

  pub upper_next : (p ≡ 0xffff → ⊥) → (p ≡ 0x7fff → ⊥) → upper_place p ≡ at (2 * p + 1) (tied p)
  upper_next i o = at_next 0xffff 0x7fff (above (2 * p)) p z i o ∙ ap (λ (v : ℕ). at v (tied p)) (above_is p top)

-- a 17-bit posit that is not NaR
abbrev pub Posit : ℕ → Type 0
Posit v = (v < 2 ^ 17) × (v ≡ 2 ^ 16 → ⊥)

module _ (p : ℕ) (top : p < 2 ^ 16) where
  pub lower_posit : Posit (lower_place p).posit
  lower_posit =
      either 0x0001 0x8001 (below (2 * p)) p Posit (omega arith, λ e. omega arith)
      (λ z. subst⁻¹ Posit (below_is p z top) (omega arith, λ e. omega arith))

  pub upper_posit : Posit (upper_place p).posit
  upper_posit =
      either 0xffff 0x7fff (above (2 * p)) p Posit (omega arith, λ e. omega arith)
      (λ z. subst⁻¹ Posit (above_is p top) (omega arith, λ e. omega arith))
