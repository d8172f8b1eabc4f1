-- A test of the rounding rule at a given answer, for a cut of which a test s tells how it stands to a dividing number. That a
-- passed test picks the answer is in Picks.antt.
use Prim.Native.Nat.{ℕ, ◌%◌, Ordering}
use mathlib.Core.Path.{◌≡◌}
use mathlib.Core.Bool.{Bool, true, false, ◌&&◌}
use lib.Dec.{T, leb, eqb}
use Rattle.posit.specs.Rounding.{Cut}

abbrev pub Test : Type 0
Test = Ordering → ℕ → Bool

-- nothing is asked at the end; else the dividing number d lies on the side o, or the number lies on it and u is even
abbrev pub side : Test → Ordering → Bool → ℕ → ℕ → Bool
side s o end u d = elim end [ true ↦ true | false ↦ elim (s o d) [ true ↦ true | false ↦ eqb (u % 2) 0 && s Ordering.eq d ] ]

-- u is the answer, where `below` and `above` are its two dividing numbers
abbrev pub picks : Test → ℕ → ℕ → ℕ → Bool
picks s u below above = (leb 1 u && leb u 0x7fff) && (side s Ordering.lt (eqb u 1) u below && side s Ordering.gt (eqb u 0x7fff) u above)

-- the test tells what the cut says
abbrev pub Tells : Test → Cut → Type 0
Tells s c = (o : Ordering) (d : ℕ) → T (s o d) → c d 30 ≡ o
