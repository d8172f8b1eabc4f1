-- The test at a row of patterns, one after the other, and that it holds at each of them.
use Prim.Native.Nat.{ℕ, zero, suc, ◌+◌, ◌*◌, ◌≤◌, ◌<◌}
use native.Mathlib.Nat.{eq-or-lt_of_le}
use native.Mathlib.Omega.{arith}
use native.Mathlib.Decide.{dec_lt}
use mathlib.Core.Path.{◌≡◌, subst}
use mathlib.Core.Logic.{⊎_elim}
use mathlib.Core.Bool.{Bool, true, false}
use lib.Dec.{T, eqb, eqb→eq}
use Rattle.posit.specs.Number.{number}
use Rattle.exponential.specs.Exp2.{row}
use Rattle.exp2_sweep.proofs.Agreed.{Agreed, agrees, agrees_agreed}

-- a test f passes at the n numbers from i on
abbrev pub sweep : (ℕ → Bool) → ℕ → ℕ → Bool
sweep f zero i = true
sweep f (suc n) i = elim (f i) [ true ↦ sweep f n (suc i) | false ↦ false ]

first_or_rest : (f : ℕ → Bool) (n i p : ℕ) → (T (sweep f n (suc i)) → i < p → T (f p)) → i ≤ p → T (sweep f (suc n) i) → T (f p)
first_or_rest f n i p later l t = go (f i) (λ e. e) t
  where
    go : (b : Bool) → (T b → T (f i)) → T (elim b as (λ _. Bool) [ true ↦ sweep f n (suc i) | false ↦ false ]) → T (f p)
    go true here rest = ⊎_elim (λ (e : i ≡ p). subst (λ (x : ℕ). T (f x)) e (here tt)) (later rest) (eq-or-lt_of_le l)
    go false here rest = absurd rest

pub sweep_at : (f : ℕ → Bool) (n i p : ℕ) → i ≤ p → p < i + n → T (sweep f n i) → T (f p)
sweep_at f zero i p l h t = absurd (omega arith)
sweep_at f (suc n) i p l h t = first_or_rest f n i p (λ rest k. sweep_at f n (suc i) p k (omega arith) rest) l t

-- the test at a pattern; nothing is asked of NaR
abbrev pub test : ℕ → Bool
test p = elim (eqb p 0x8000) [ true ↦ true | false ↦ agrees (number 1 16 p) (row p) ]

pub tested : (p : ℕ) → (p ≡ 0x8000 → ⊥) → T (test p) → Agreed (number 1 16 p) (row p)
tested p h t = go (eqb p 0x8000) (eqb→eq p 0x8000) t
  where
    go : (b : Bool) → (T b → p ≡ 0x8000) → T (elim b as (λ _. Bool) [ true ↦ true | false ↦ agrees (number 1 16 p) (row p) ]) → Agreed (number 1 16 p) (row p)
    go true e t = absurd (h (e tt))
    go false e t = agrees_agreed (number 1 16 p) (row p) t

-- the patterns are swept in parts of 4096: those before part k agree
abbrev pub Before : ℕ → Type 0
Before k = (p : ℕ) → p < 4096 * k → (p ≡ 0x8000 → ⊥) → Agreed (number 1 16 p) (row p)

pub none : Before 0
none p h finite = absurd (omega arith)

pub part : (k : ℕ) → Before k → T (sweep test 4096 (4096 * k)) → Before (suc k)
part k before t p h finite = go (dec_lt p (4096 * k))
  where
    go : Dec (p < 4096 * k) → Agreed (number 1 16 p) (row p)
    go (yes l) = before p l finite
    go (no l) = tested p finite (sweep_at test 4096 (4096 * k) p (omega arith) (omega arith) t)
