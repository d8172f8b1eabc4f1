-- Document 02, P5: "a finite f64 converts to a pattern exactly when it lies in that pattern's span". What "lies in" means, by
-- the exact numbers of the f64 and of the edges.
use Rattle.std.specs.Prelude.{◌*◌, ℤ, ◌≤ℤ◌, ◌<ℤ◌, Float}
use Rattle.std.specs.Float.{nan, inf, fin}
use Rattle.std.specs.Float.Ieee.{up, down}
use Rattle.posit.specs.Number.{with_sign}
use Rattle.spans.specs.declared.edges.Edge.{Edge}
use Rattle.spans.specs.declared.edges.Edge.TheVariants.{Missing, Excluded, Included}
use Rattle.spans.specs.declared.Span.{Span}

-- The whole number k comes before l, one of which is an edge: it is less than l, or at most l where the edge is included. Where
-- the edge is missing nothing is asked.
abbrev pub Ordered : Edge → ℤ → ℤ → Type 0
Ordered Missing k l = Unit {0}
Ordered Excluded k l = k <ℤ l
Ordered Included k l = k ≤ℤ l

-- The same of the numbers of two f64s. That of fin s m e is the fraction m * up e / down e with its sign, so over the product of
-- both denominators the two are whole numbers, and -0.0 is zero. A NaN and an infinity have no number.
abbrev pub Before : Edge → Float → Float → Type 0
Before κ nan y = ⊥
Before κ (inf s) y = ⊥
Before κ (fin s m e) nan = ⊥
Before κ (fin s m e) (inf t) = ⊥
Before κ (fin s m e) (fin t n d) = Ordered κ (with_sign s (m * up e * down d)) (with_sign t (n * up d * down e))

-- x comes after the lower edge and before the upper one
abbrev pub LiesIn : Span → Float → Type 0
LiesIn s x = Before s.start s.lower x × Before s.end x s.upper
