-- "The negative patterns mirror these": the lower edge of minus p is minus the upper edge of p, and the span stands there alike.
use Prim.Native.Nat.{ℕ, ◌+◌, ◌-◌, ◌*◌, ◌^◌, ◌<◌}
use mathlib.Core.Path.{◌≡◌, ◌∙◌, sym, ap, subst⁻¹}
use native.Mathlib.Omega.{arith}
use native.Mathlib.Decide.{ℕ_discrete}
use Rattle.posit.specs.Number.{opposite}
use Rattle.posit.proofs.Complement.{opposite_is, opposite-zero}
use Rattle.spans.specs.Spans.{at, tied, lower_place, upper_place}
use Rattle.spans.specs.declared.edges.Edge.{Edge}
use Rattle.spans.specs.declared.edges.Edge.TheVariants.{Missing, Excluded, Included}
use Rattle.spans.specs.declared.edges.Place.{Place}
use Rattle.spans.proofs.Places.{tied-alike, lower_next, upper_next}

abbrev pub minus : Place → Place
minus a = at (opposite 17 a.posit) a.edge

stays : (e : Edge) → at 0 e ≡ minus (at 0 e)
stays e = ap (λ (v : ℕ). at v e) (sym (opposite-zero 17))

pub mirrored_span : (p : ℕ) → p < 2 ^ 16 → lower_place (opposite 16 p) ≡ minus (upper_place p)
mirrored_span p top = go (ℕ_discrete p 0) (ℕ_discrete p 0xffff) (ℕ_discrete p 0x7fff)
  where
    like : (q u : ℕ) → p ≡ q → opposite 16 q ≡ u → lower_place u ≡ minus (upper_place q) → lower_place (opposite 16 p) ≡ minus (upper_place p)
    like q u e o h = subst⁻¹ (λ (k : ℕ). lower_place (opposite 16 k) ≡ minus (upper_place k)) e (ap lower_place o ∙ h)

    go : Dec (p ≡ 0) → Dec (p ≡ 0xffff) → Dec (p ≡ 0x7fff) → lower_place (opposite 16 p) ≡ minus (upper_place p)
    go (yes z) i o = like 0 0 z (opposite-zero 16) (stays Included)
    go (no z) (yes i) o = like 0xffff 1 i (opposite_is 16 0xffff (omega arith)) (stays Excluded)
    go (no z) (no i) (yes o) = like 0x7fff 0x8001 o (opposite_is 16 0x7fff (omega arith)) (stays Missing)
    go (no z) (no i) (no o) =
        let u : ℕ = 2 ^ 16 - p in
        let w : opposite 17 (2 * p + 1) ≡ 2 * u - 1 =
        opposite_is 17 (2 * p + 1) (omega arith) ∙ (let e : 2 ^ 17 - (2 * p + 1) ≡ 2 * u - 1 = omega arith in e) in
        let t : tied u ≡ tied p = tied-alike u p (omega arith) in
        ap lower_place (opposite_is 16 p (omega (arith, z)))
        ∙ lower_next u (λ e. omega arith) (omega (arith, z)) (λ e. i (omega arith)) (λ e. o (omega arith))
        ∙ (λ k. at (sym w k) (t k))
        ∙ ap minus (sym (upper_next p z top i o))
