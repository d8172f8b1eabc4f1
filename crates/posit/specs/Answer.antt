-- The answer that the rounding rule has for each number, computed: the largest pattern that the number reaches, found bit
-- by bit. The rule itself is `Rounds`; proofs/Exists.antt shows that this meets it.
use Rattle.std.specs.Prelude.{ℕ, zero, suc, ◌+◌, ◌-◌, ◌%◌, ◌^◌, Bool, true, false, ◌&&◌, ◌||◌, ◌==◌, nat_le}
use Prim.Native.Nat.{Ordering}
use Rattle.posit.specs.Number.{opposite}
use Rattle.posit.specs.Rounding.{Cut, Known, nought, plus, minus, divides, largest}

-- `Reached`, tested
abbrev pub passes : Ordering → ℕ → Bool
passes Ordering.lt u = true
passes Ordering.eq u = u % 2 == 0
passes Ordering.gt u = false

-- the number with the cut c reaches u: 1 always, and nothing past the largest
abbrev pub reaches : ℕ → ℕ → Cut → ℕ → Bool
reaches es n c u = nat_le u 1 || (nat_le u (largest n) && passes (divides es n c (u - 1)) u)

-- a number from u up and below u + 2 ^ k at which f holds and after which it does not, if f holds at u and not at the end
unfoldable pub descend : (ℕ → Bool) → ℕ → ℕ → ℕ
descend f zero u = u
descend f (suc k) u = elim (f (u + 2 ^ k)) [ true ↦ descend f k (u + 2 ^ k) | false ↦ descend f k u ]

abbrev pub answer : ℕ → ℕ → Known → ℕ
answer es n nought = 0
answer es n (plus c) = descend (reaches es n c) (n - 1) 0
answer es n (minus c) = opposite n (descend (reaches es n c) (n - 1) 0)
