-- What the entries for reals return and leave in the places lent is determined: any two outcomes that a contract allows are
-- equal. The contracts of the other entries are those of the functions that they call, or equations.
use Prim.Native.Nat.{ℕ}
use mathlib.Core.Path.{◌≡◌, ◌∙◌, refl, sym, ap, subst}
use mathlib.Core.Bool.{Bool, true, false}
use lib.Dec.{T}
use lib.Ieee.{Float}
use Rattle.real.specs.declared.numbers.RealAnswer.{RealAnswer}
use Rattle.real.specs.declared.numbers.RealAnswer.TheVariants.{Real, NaR}
use Rattle.real.proofs.OneAnswer.{one_real}
use Rattle.std.specs.Prelude.{Option, Some, None, is_some}
use Rattle.spans.specs.declared.Span.{Span}
use Rattle.spans.proofs.OneAnswer.{one_span}
use Rattle.balehasp.specs.Reals.{RealOut, SpanOut, span_of}

-- whether an answer holds a real, and what an answer holds
abbrev has_real : RealAnswer → Bool
has_real (Real x) = true
has_real NaR = false

abbrev held : Float → RealAnswer → Float
held d (Real x) = x
held d NaR = d

abbrev low : Float → Option Span → Float
low d (Some s) = s.lower
low d None = d

abbrev high : Float → Option Span → Float
high d (Some s) = s.upper
high d None = d

pub one_real_out : (p : ℕ) (was : Float) (r s : Bool) (x y : Float) → RealOut p was r x → RealOut p was s y → (r ≡ s) × (x ≡ y)
one_real_out p was true true x y v w = (refl, ap (held was) (one_real p (Real x) (Real y) v w))
one_real_out p was true false x y v w = absurd (subst T (ap has_real (one_real p (Real x) NaR v w.0)) tt)
one_real_out p was false true x y v w = absurd (subst T (sym (ap has_real (one_real p NaR (Real y) v.0 w))) tt)
one_real_out p was false false x y v w = (refl, v.1 ∙ sym w.1)

pub one_span_out : (p : ℕ) (was up : Float) (old : ℕ) (r s : Bool) (x x' y y' : Float) (b d : ℕ) → SpanOut p was up old r x x' b → SpanOut p was up old s y y' d
    → (r ≡ s) × (x ≡ y) × (x' ≡ y') × (b ≡ d)
one_span_out p was up old true true x x' y y' b d v w =
    let e = one_span p (span_of p x x') (span_of p y y') v.0 w.0 in (refl, ap (low was) e, ap (high up) e, v.1 ∙ sym w.1)
one_span_out p was up old true false x x' y y' b d v w = absurd (subst T (ap is_some (one_span p (span_of p x x') None v.0 w.0)) tt)
one_span_out p was up old false true x x' y y' b d v w = absurd (subst T (sym (ap is_some (one_span p None (span_of p y y') v.0 w.0))) tt)
one_span_out p was up old false false x x' y y' b d v w = (refl, v.1 ∙ sym w.1, v.2 ∙ sym w.2, v.3 ∙ sym w.3)
