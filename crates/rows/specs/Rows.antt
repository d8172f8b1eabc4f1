-- What a row of document 01 ("The ten rows") says of a pattern: the answer itself, or the number that is rounded.
use Rattle.std.specs.Prelude.{ℕ, suc, ◌≡◌, Bool, ◌&&◌, leb, ℤ, pos, negsuc}
use Rattle.posit.specs.Number.{opposite}
use Rattle.posit.specs.Rounding.{Known, negated, Rounds}
use Rattle.posit.specs.Sides.{side_of}
use Rattle.posit.specs.declared.side.Side.{Side}
use Rattle.posit.specs.declared.side.Side.TheVariants.{On}
use Rattle.posit.specs.declared.side.Sided.{Sided}

pub data Row : Type 0 where
  names : ℕ → Row
  rounds : Known → Row

-- r is the row's answer
abbrev pub Meets : Row → ℕ → Type 0
Meets (names u) r = r ≡ u
Meets (rounds x) r = Rounds 1 16 x r

-- Document 02, P4: "It speaks of the kernel's fraction, not of the exact mathematical function. Rows answered before the kernel
-- say "on" where document 01 names the pattern outright or gives the argument itself, and so do the answers 0, 1, -1 and NaR
-- that rows 5 to 7 give without P."
abbrev pub side_in : Row → ℕ → Side
side_in (names u) r = On
side_in (rounds x) r = side_of 1 16 x r

-- a is the row's answer with its side
abbrev pub MeetsSided : Row → Sided → Type 0
MeetsSided w a = Meets w a.pattern × (a.side ≡ side_in w a.pattern)

-- "a to b"
abbrev pub within : ℕ → ℕ → ℕ → Bool
within a b p = leb a p && leb p b

-- "the sign changes"
abbrev pub opposed : Row → Row
opposed (names u) = names (opposite 16 u)
opposed (rounds x) = rounds (negated x)

-- "work on the magnitude of x and put the sign of x back on the answer"
abbrev pub by_sign : (ℕ → Row) → ℤ → Row
by_sign f (pos k) = f k
by_sign f (negsuc k) = opposed (f (suc k))
