-- The spans of two patterns have no f64 in common, and every finite f64 lies in one.
use Prim.Native.Nat.{ℕ, ◌^◌, ◌<◌}
use mathlib.Core.Path.{◌≡◌, refl}
use mathlib.Core.Bool.{false}
use native.Mathlib.Omega.{arith}
use native.Mathlib.Decide.{dec_lt}
use lib.Dec.{T}
use Rattle.std.specs.Prelude.{Some}
use lib.IntN.{pos, negsuc}
use lib.Ieee.{Float, nan, inf, fin, binary64, fits, mul, of_int, neg}
use lib.Ieee.Scale.{finite}
use Rattle.posit.specs.Number.{number, magnitude, opposite, with_sign}
use Rattle.posit.specs.Rounding.{Known, Rounds, dyadic}
use Rattle.posit.specs.Answer.{answer}
use Rattle.posit.proofs.Exists.{answered}
use Rattle.posit.proofs.Laws.{never_nar}
use Rattle.posit.proofs.Patterns.{number-zero}
use Rattle.real.specs.Reals.{Holds}
use Rattle.real.proofs.Exact.{scaled-magnitude}
use Rattle.real.proofs.OneAnswer.{one_pattern}
use Rattle.real.proofs.Signs.{holds_plus, holds_minus}
use Rattle.spans.specs.Spans.{SpanOf, lower_place, upper_place}
use Rattle.spans.specs.declared.Span.{Span}
use Rattle.spans.proofs.Places.{lower_posit, upper_posit}
use Rattle.span_laws.specs.LiesIn.{LiesIn}
use Rattle.span_laws.proofs.Exactly.{exactly}

pub apart : (p q : ℕ) → p < 2 ^ 16 → q < 2 ^ 16 → (s t : Span) → SpanOf p (Some s) → SpanOf q (Some t)
    → (x : Float) → LiesIn s x → LiesIn t x → p ≡ q
apart p q hp hq s t v w x l k = one_pattern x p q ((exactly p hp s v x).1 l) ((exactly q hq t w x).1 k)

-- an f64 that is the number of a 17-bit posit
record Held (v : ℕ) : Type 0 where
  real : Float
  holds : Holds 30 (number 1 17 v) real

held : (v : ℕ) → v < 2 ^ 17 → (v ≡ 2 ^ 16 → ⊥) → Held v
unfolding fits
held v top not_nar = go (dec_lt 0 v) (dec_lt v (2 ^ 16))
  where
    size : ℕ → Float
    size u = mul binary64 (of_int binary64 (pos (magnitude 1 17 u))) (fin false 1 (negsuc 29))

    go : Dec (0 < v) → Dec (v < 2 ^ 16) → Held v
    go (no z) h = record { real = fin false 0 (pos 0); holds = rw (let e : v ≡ 0 = omega arith in e) (rw (number-zero 1 17) (tt, (refl, refl))) }
    go (yes l) (yes h) =
        record {
          real = size v;
          holds = holds_plus 17 30 v (size v) l h
              (scaled-magnitude 17 v 29 (magnitude 1 17 v) (of_int binary64 (pos (magnitude 1 17 v))) (omega arith) (omega arith) (omega arith) refl refl);
        }
    go (yes l) (no h) =
        let u : ℕ = opposite 17 v in
        record {
          real = neg (size u);
          holds = holds_minus 17 30 v (size u) (omega arith) (omega (arith, not_nar)) top
              (scaled-magnitude 17 u 29 (magnitude 1 17 u) (of_int binary64 (pos (magnitude 1 17 u))) (omega arith) (omega arith) (omega arith) refl refl);
        }

pub record Spanned (p : ℕ) : Type 0 where
  pub span : Span
  pub is : SpanOf p (Some span)

pub spanned : (p : ℕ) → p < 2 ^ 16 → (p ≡ 0x8000 → ⊥) → Spanned p
spanned p top not_nar =
    let l = lower_posit p top in
    let u = upper_posit p top in
    let a = held (lower_place p).posit l.0 l.1 in
    let b = held (upper_place p).posit u.0 u.1 in
    record {
      span = record { lower = a.real; upper = b.real; start = (lower_place p).edge; end = (upper_place p).edge };
      is = (not_nar, (a.holds, refl), (b.holds, refl));
    }

pub record Home (x : Float) : Type 0 where
  pub pattern : ℕ
  pub top : pattern < 2 ^ 16
  pub own : Spanned pattern
  pub lies : LiesIn own.span x

pub somewhere : (x : Float) → T (finite x) → Home x
somewhere nan f = absurd f
somewhere (inf s) f = absurd f
somewhere (fin s m e) f =
    let k : Known = dyadic (with_sign s m) e in
    let p : ℕ = answer 1 16 k in
    let r : Rounds 1 16 k p = answered 1 16 (omega arith) k in
    let n = never_nar 1 16 (omega arith) k p r in
    let o = spanned p n.0 n.1 in
    record { pattern = p; top = n.0; own = o; lies = (exactly p n.0 o.span o.is (fin s m e)).0 r }
