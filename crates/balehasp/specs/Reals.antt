-- What the entries for reals return and leave in the places lent, for each case of the answers of the crate real: true with
-- what the answer holds, or false with the places as they were.
use Rattle.std.specs.Prelude.{ℕ, ◌+◌, ◌*◌, ◌≡◌, Bool, true, false, Float, Option, Some, None}
use Rattle.real.specs.declared.numbers.RealAnswer.{RealAnswer}
use Rattle.real.specs.declared.numbers.RealAnswer.TheVariants.{Real, NaR}
use Rattle.real.specs.Reals.{ToF64}
use Rattle.spans.specs.declared.Span.{Span}
use Rattle.spans.specs.Spans.{SpanOf, lower_place, upper_place, edge_bits_of}

abbrev pub RealOut : ℕ → Float → Bool → Float → Type 0
RealOut p was true left = ToF64 p (Real left)
RealOut p was false left = ToF64 p NaR × (left ≡ was)

-- how the span of p stands at its edges, in bits: 1 the lower exists, 2 it is included, 4 the upper exists, 8 it is included
abbrev pub edges_of : ℕ → ℕ
edges_of p = edge_bits_of (lower_place p).edge + 4 * edge_bits_of (upper_place p).edge

abbrev pub span_of : ℕ → Float → Float → Option Span
span_of p lower upper = Some (record { lower = lower; upper = upper; start = (lower_place p).edge; end = (upper_place p).edge })

abbrev pub SpanOut : ℕ → Float → Float → ℕ → Bool → Float → Float → ℕ → Type 0
SpanOut p low up was true lower upper edges = SpanOf p (span_of p lower upper) × (edges ≡ edges_of p)
SpanOut p low up was false lower upper edges = SpanOf p None × (lower ≡ low) × (upper ≡ up) × (edges ≡ was)
