-- Both places are those of posits.
use Rattle.std.proofs.Common.{◌≡◌, ℕ, ◌+◌, ◌*◌, ◌^◌, ◌<◌, sym, refl, ap, ◌∙◌, subst, arith}
use lib.Ieee.{Float}
use Rattle.posit.specs.Number.{number}
use Rattle.real.specs.Reals.{Holds}
use Rattle.spans.specs.Spans.{edge_place, lower_place, upper_place, Stands}
use Rattle.spans.specs.declared.edges.Place.{Place}
use Rattle.spans.proofs.Places.{above_is}
use Rattle.spans.proofs.span_of.Goals as goal

-- the next pattern of 17 bits above needs no wrapping
high : (p : ℕ) → p < 2 ^ 16 → edge_place 0xffff 0x7fff (2 * p + 1) p ≡ upper_place p
high p top = ap (λ (v : ℕ). edge_place 0xffff 0x7fff v p) (sym (above_is p top))

stands : (a b : Place) (x : Float) → a ≡ b → Holds 30 (number 1 17 a.posit) x → Stands b x a.edge
stands a b x e h = subst (λ (k : Place). Stands k x a.edge) e (h, refl)

pub returns : goal.returns
returns c =
    let p = c.args.p in (
      c.if-p-eq32768.false,
      stands c.place_of-low.result (lower_place p) c.number_17.result c.place_of-low.ensures c.number_17.ensures,
      stands c.place_of-high.result (upper_place p) c.number_17-2.result (c.place_of-high.ensures ∙ high p (omega arith)) c.number_17-2.ensures,
    )
