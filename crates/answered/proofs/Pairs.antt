-- Which refusal of two answered listings comes first, and what holds of two that are not refused.
use Prim.Native.Nat.{ℕ}
use mathlib.Core.Path.{◌≡◌, refl, sym, ◌∙◌}
use mathlib.Core.Bool.{Bool, true, false, cond, not, ◌&&◌, false≢true}
use mathlib.Core.List.{List}
use Rattle.std.specs.Prelude.{Option, Some, None, is_none}
use Rattle.refusals.specs.declared.Refusal.{Refusal}
use Rattle.refusals.specs.declared.Refusal.TheVariants.{Different}
use Rattle.refusals.specs.Refusals.{◌before◌, refused_when}
use Rattle.sections.specs.Sections.{functions_of, patterns_of}
use Rattle.answered.specs.Answered.{same, answered_refusal, pair_refusal}
use Rattle.answered.proofs.Complete.{Complete, complete, complete_of}
use Rattle.answered.proofs.Same.{same_refl, same_lists, not_same}

-- two answered listings that ask the same
pub record Agreed (b c : List ℕ) : Type 0 where
  pub first : Complete b
  pub second : Complete c
  pub functions : functions_of b ≡ functions_of c
  pub patterns : patterns_of b ≡ patterns_of c

module _ (b c : List ℕ) where
  pub first-first : (r : Option Refusal) → r ≡ answered_refusal b → is_none r ≡ false → pair_refusal b c ≡ r
  unfolding pair_refusal
  first-first r e n = rw (← e, n)

  module _ (x : Complete b) where
    pub second-next : (r : Option Refusal) → r ≡ answered_refusal c → is_none r ≡ false → pair_refusal b c ≡ r
    unfolding pair_refusal
    second-next r e n = rw (complete b x, ← e, n)

    module _ (y : Complete c) where
      pub functions-differ : (functions_of b ≡ functions_of c → ⊥) → pair_refusal b c ≡ Some Different
      unfolding pair_refusal
      functions-differ h = rw (complete b x, complete c y, not_same (functions_of b) (functions_of c) h)

      pub patterns-differ : (patterns_of b ≡ patterns_of c → ⊥) → pair_refusal b c ≡ Some Different
      unfolding pair_refusal
      patterns-differ h = rw (complete b x, complete c y, not_same (patterns_of b) (patterns_of c) h, and-false (same (functions_of b) (functions_of c)))
        where
          and-false : (t : Bool) → t && false ≡ false
          and-false true = refl
          and-false false = refl

  pub agreed : Agreed b c → pair_refusal b c ≡ None
  unfolding pair_refusal
  agreed a = rw (complete b a.first, complete c a.second, a.functions, a.patterns, same_refl (functions_of c), same_refl (patterns_of c))

none_refuses : (r s : Option Refusal) (t u : Bool) → is_none (r before s before refused_when (not (t && u)) Different) ≡ true
    → (is_none r ≡ true) × (is_none s ≡ true) × (t ≡ true) × (u ≡ true)
none_refuses r s t u e = go (is_none r) refl (is_none s) refl t u e
  where
    go : (p : Bool) → is_none r ≡ p → (q : Bool) → is_none s ≡ q → (t u : Bool)
        → is_none (cond p (cond q (refused_when (not (t && u)) Different) s) r) ≡ true
        → (is_none r ≡ true) × (is_none s ≡ true) × (t ≡ true) × (u ≡ true)
    go false h q k t u e = absurd (false≢true (sym h ∙ e))
    go true h false k t u e = absurd (false≢true (sym k ∙ e))
    go true h true k false u e = absurd (false≢true e)
    go true h true k true false e = absurd (false≢true e)
    go true h true k true true e = (h, k, refl, refl)

pub agreed_of : (b c : List ℕ) → is_none (pair_refusal b c) ≡ true → Agreed b c
unfolding pair_refusal
agreed_of b c e =
    let h = none_refuses (answered_refusal b) (answered_refusal c) (same (functions_of b) (functions_of c)) (same (patterns_of b) (patterns_of c)) e in
    record {
      first = complete_of b h.0;
      second = complete_of c h.1;
      functions = same_lists (functions_of b) (functions_of c) h.2;
      patterns = same_lists (patterns_of b) (patterns_of c) h.3;
    }
