-- Demand 3: the list of the patterns where exp2's answer is not the posit that the rounding rule picks for the exact 2 ^ x,
-- and what it says. The same list stands in docs/EXP2.md.
use Rattle.std.specs.Prelude.{ℕ, suc, ◌^◌, ◌≤◌, ◌<◌, ◌≡◌}
use mathlib.Core.List.{List, [], Memᴰ}
use Rattle.posit.specs.Number.{number}
use Rattle.rows.specs.Rows.{Meets}
use Rattle.exponential.specs.Exp2.{row}
use Rattle.exp2_sweep.specs.Power.{Picked}

-- a pattern, exp2's answer to it, and the picked posit
pub record Entry : Type 0 where
  pub pattern : ℕ
  pub answer : ℕ
  pub picked : ℕ

abbrev pub differing : List Entry
differing = []

-- p is in the list
pub record Listed (p : ℕ) : Type 0 where
  pub entry : Entry
  pub member : Memᴰ entry differing
  pub here : entry.pattern ≡ p

-- what holds of a pattern p: exp2 answers `answer` by row 2 and nothing else, the rounding rule picks `picked` for 2 ^ x and
-- nothing else, and the two are the same posit or neighbours; p is in the list where they are not the same, and there
-- alone; its entry holds the two
pub record Compared (p : ℕ) : Type 0 where
  pub answer : ℕ
  pub meets : Meets (row p) answer
  pub only_answer : (r : ℕ) → Meets (row p) r → r ≡ answer
  pub picked : ℕ
  pub picks : Picked (number 1 16 p) picked
  pub only_picked : (u : ℕ) → Picked (number 1 16 p) u → u ≡ picked
  pub near : (answer ≤ suc picked) × (picked ≤ suc answer)
  pub listed : (answer ≡ picked → ⊥) → Listed p
  pub unlisted : answer ≡ picked → Listed p → ⊥
  pub holds : (l : Listed p) → (l.entry.answer ≡ answer) × (l.entry.picked ≡ picked)

-- so for every pattern but NaR
abbrev pub Exp2List : Type 0
Exp2List = (p : ℕ) → p < 2 ^ 16 → (p ≡ 0x8000 → ⊥) → Compared p
