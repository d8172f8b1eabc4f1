-- Where an answer lies (document 02, P4): "whether an answer lies below, on or above the number that was rounded. The rounding
-- rule is to hand this back with the pattern".
use Rattle.std.specs.Prelude.{◌≡◌, ℕ, ◌-◌, ◌≤◌, ◌⊎◌, ℤ, pos, negsuc}
use Prim.Native.Nat.{Ordering}
use Rattle.posit.specs.Number.{magnitude, unit, opposite}
use Rattle.posit.specs.Rounding.{Cut, Known, nought, plus, minus, Reached, Enough, Rounds, divides, largest}
use Rattle.posit.specs.declared.side.Side.{Side}
use Rattle.posit.specs.declared.side.Side.TheVariants.{Below, On, Above}
use Rattle.posit.specs.declared.side.Sided.{Sided}

-- how the number of the posit u stands to a number above zero: the cut at the answer's own number
abbrev pub stands : ℕ → ℕ → Cut → ℕ → Ordering
stands es n c u = c (magnitude es n u) (unit es n)

abbrev pub lies : Ordering → Side
lies Ordering.lt = Below
lies Ordering.eq = On
lies Ordering.gt = Above

-- what lies below a number lies, with the sign changed, above minus that number
abbrev pub mirrored : Side → Side
mirrored Below = Above
mirrored On = On
mirrored Above = Below

-- where the answer u to a number lies; zero is the number of 0
abbrev pub side_of : ℕ → ℕ → Known → ℕ → Side
side_of es n nought u = On
side_of es n (plus c) u = lies (stands es n c u)
side_of es n (minus c) u = mirrored (lies (stands es n c (opposite n u)))

-- a is the answer to x with its side
abbrev pub RoundsSided : ℕ → ℕ → Known → Sided → Type 0
RoundsSided es n x a = Rounds es n x a.pattern × (a.side ≡ side_of es n x a.pattern)

-- "where document 01 names the pattern outright"
abbrev pub outright : ℕ → Sided
outright u = record { pattern = u; side = On }

-- minus an answer
abbrev pub negated_sided : Sided → Sided
negated_sided a = record { pattern = opposite 16 a.pattern; side = mirrored a.side }

-- "-1 below, 0 on, 1 above"
abbrev pub side_number_of : Side → ℤ
side_number_of Below = negsuc 0
side_number_of On = pos 0
side_number_of Above = pos 1

-- What an answer and its side tell of the number: on which side of the answer's own number it lies, and how far it can be, which
-- is to the dividing number on that side, that one too where the answer is even; without end past the largest, and down to zero
-- below the smallest.
abbrev pub Leaves : ℕ → ℕ → Cut → ℕ → Side → Type 0
Leaves es n c u Below = (stands es n c u ≡ Ordering.lt) × ((u ≡ largest n) ⊎ Enough (divides es n c u) u)
Leaves es n c u On = stands es n c u ≡ Ordering.eq
Leaves es n c u Above = (stands es n c u ≡ Ordering.gt) × ((u ≡ 1) ⊎ Reached (divides es n c (u - 1)) u)

pub record Told (es n : ℕ) (c : Cut) (u : ℕ) (s : Side) : Type 0 where
  pub least : 1 ≤ u
  pub most : u ≤ largest n
  pub leaves : Leaves es n c u s

abbrev pub Tells : ℕ → ℕ → Known → ℕ → Side → Type 0
Tells es n nought u s = (u ≡ 0) × (s ≡ On)
Tells es n (plus c) u s = Told es n c u s
Tells es n (minus c) u s = Told es n c (opposite n u) (mirrored s)

-- x is the number of the posit u
abbrev pub Own : ℕ → ℕ → Known → ℕ → Type 0
Own es n x u = Tells es n x u On
