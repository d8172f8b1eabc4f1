-- Document 01: "The span of a pattern is a pair of f64 edges, lower and upper: the numbers of the 17-bit posits next below
-- and next above the pattern followed by a 0. NaR has no span, and the answer says so." Document 02, P5, for the ends: "zero's
-- span is zero alone, 0x0001's starts at 0 with 0 not included, 0x7FFF's has no upper end, and the negative patterns mirror
-- these. The pair now also says for each edge whether it is included and whether it exists; a missing or zero edge holds +0.0,
-- and a missing one is not included."
use Rattle.std.specs.Prelude.{◌≡◌, ℕ, ◌+◌, ◌-◌, ◌*◌, ◌%◌, ◌^◌, cond, ◌==◌, ◌≢◌, Float, Option, Some, None}
use Rattle.posit.specs.Number.{number}
use Rattle.real.specs.Reals.{Holds}
use Rattle.spans.specs.declared.edges.Edge.{Edge}
use Rattle.spans.specs.declared.edges.Edge.TheVariants.{Missing, Excluded, Included}
use Rattle.spans.specs.declared.edges.Place.{Place}
use Rattle.spans.specs.declared.Span.{Span}

-- the patterns of 17 bits next below and next above v
abbrev pub below : ℕ → ℕ
below v = (v + (2 ^ 17 - 1)) % 2 ^ 17

abbrev pub above : ℕ → ℕ
above v = (v + 1) % 2 ^ 17

-- an edge at the number of the 17-bit posit v. 0 is zero, and stands for the number of a missing edge too
abbrev pub at : ℕ → Edge → Place
at v e = record { posit = v; edge = e }

-- an edge at a dividing number. Document 01, Rounding: "on it the even one"
abbrev pub tied : ℕ → Edge
tied p = cond (p % 2 == 0) Included Excluded

-- The edge of p on one side, by rule at the 17-bit posit `next`. But "zero's span is zero alone"; that of the pattern `inmost` on
-- this side ends at 0 "with 0 not included"; and that of the pattern `outmost` has no end there.
abbrev pub edge_place : ℕ → ℕ → ℕ → ℕ → Place
edge_place inmost outmost next p =
    cond (p == 0) (at 0 Included) (cond (p == inmost) (at 0 Excluded) (cond (p == outmost) (at 0 Missing) (at next (tied p))))

-- "0x0001's starts at 0 .., 0x7FFF's has no upper end, and the negative patterns mirror these": 0xFFFF and 0x8001
abbrev pub lower_place : ℕ → Place
lower_place p = edge_place 0x0001 0x8001 (below (2 * p)) p

abbrev pub upper_place : ℕ → Place
upper_place p = edge_place 0xffff 0x7fff (above (2 * p)) p

-- x is exactly the number at the place, +0.0 for zero, and the span stands there as e says
abbrev pub Stands : Place → Float → Edge → Type 0
Stands a x e = Holds 30 (number 1 17 a.posit) x × (e ≡ a.edge)

-- what each case of the answer says of the pattern p
abbrev pub SpanOf : ℕ → Option Span → Type 0
SpanOf p (Some s) = (p ≢ 0x8000) × Stands (lower_place p) s.lower s.start × Stands (upper_place p) s.upper s.end
SpanOf p None = p ≡ 0x8000

-- how a span stands at an edge, in two bits: 1 "exists", 2 "included"
abbrev pub edge_bits_of : Edge → ℕ
edge_bits_of Missing = 0
edge_bits_of Excluded = 1
edge_bits_of Included = 1 + 2
