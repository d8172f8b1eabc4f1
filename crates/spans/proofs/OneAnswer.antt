-- The contract of span_of determines its result: any two outcomes that it allows are equal.
use Rattle.std.proofs.Common.{◌≡◌, ℕ, Option, Some, None, sym, refl, ◌∙◌}
use Rattle.posit.specs.Number.{number}
use Rattle.real.proofs.OneAnswer.{one-held}
use Rattle.spans.specs.Spans.{SpanOf, lower_place, upper_place}
use Rattle.spans.specs.declared.Span.{Span}

pub one_span : (p : ℕ) (r s : Option Span) → SpanOf p r → SpanOf p s → r ≡ s
one_span p (Some r) (Some s) v w =
    let l = one-held 30 (number 1 17 (lower_place p).posit) r.lower s.lower v.1.0 w.1.0 in
    let u = one-held 30 (number 1 17 (upper_place p).posit) r.upper s.upper v.2.0 w.2.0 in
    let b = v.1.1 ∙ sym w.1.1 in
    let e = v.2.1 ∙ sym w.2.1 in
    λ i. Some (record { lower = l i; upper = u i; start = b i; end = e i })
one_span p (Some r) None v w = absurd (v.0 w)
one_span p None (Some s) v w = absurd (w.0 v)
one_span p None None v w = refl
