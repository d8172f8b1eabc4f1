-- When each refusal comes: "5 and 6 at the call that brings the deciding byte, 1 at the call that completes the functions", and
-- nothing before that, as the bytes b have come so far.
use Prim.Native.Nat.{ℕ, ◌+◌, ◌≤◌, ◌<◌}
use mathlib.Core.Path.{◌≡◌, refl, sym, ap, ◌∙◌}
use mathlib.Core.Bool.{Bool, true, false, cond, false≢true}
use mathlib.Core.List.{List}
use native.Mathlib.Omega.{arith}
use borrow.Author.Tests.{eq-eqb}
use lib.ListN.{length}
use Rattle.refusals.specs.declared.Refusal.{Refusal}
use Rattle.refusals.specs.declared.Refusal.TheVariants.{Function, Cut, Limits}
use Rattle.std.specs.Prelude.{Option, Some, None, is_none}
use Rattle.refusals.specs.Refusals.{number_or_zero, is_cut}
use Rattle.words.specs.Numbers.{number_at_of}
use Rattle.sections.specs.Sections.{past_section, functions_of, past_patterns}
use Rattle.sections.specs.Order.{most_functions, most_patterns, section_refusal_of, all_known_of, sections_refusal}
use Rattle.sections.proofs.Whole.{Whole, cut_count, too_few, too_many, cut-numbers}
use Rattle.sections.proofs.Sound.{functions_first, unknown-next, patterns-last}
use Rattle.listing.specs.Longest.{longest_answered}
use Rattle.listing.specs.Outcome.{refusal_of}
use Rattle.listing.proofs.Calls.{sections_first}
use Rattle.listing.proofs.Room.{never_short}
use Rattle.piece_state.specs.State.{so_far_of}
use Rattle.piece_state.proofs.SoFar.{not_cut, cut_none}

module _ (b : List ℕ) where
  -- by the refusal of the two sections
  met : (r : Option Refusal) → sections_refusal b ≡ r → is_none r ≡ false → is_cut r ≡ false → so_far_of b ≡ r
  met r e n c = not_cut b r (sections_first b longest_answered r (sym e) n) c

  waits : sections_refusal b ≡ Some Cut → so_far_of b ≡ None
  waits e = cut_none b (ap is_cut (sections_first b longest_answered (Some Cut) (sym e) refl))

  by_functions : (r : Option Refusal) → section_refusal_of b 0 1 most_functions ≡ r → is_none r ≡ false → sections_refusal b ≡ r
  by_functions r e n = functions_first b r (sym e) n

  -- "one byte never decides"
  pub one_byte : length b < 2 → so_far_of b ≡ None
  one_byte h = waits (by_functions (Some Cut) (cut_count b 0 1 most_functions h) refl)

  -- "5 at the call that brings the count's SECOND byte"
  module _ (two : 2 ≤ length b) where
    pub no-functions : number_at_of b 0 < 1 → so_far_of b ≡ Some Limits
    no-functions h = met (Some Limits) (by_functions (Some Limits) (too_few b 0 1 most_functions two h) refl) refl refl

    module _ (some : 1 ≤ number_at_of b 0) where
      pub many-functions : most_functions < number_at_of b 0 → so_far_of b ≡ Some Limits
      many-functions h = met (Some Limits) (by_functions (Some Limits) (too_many b 0 1 most_functions two some h) refl) refl refl

      pub functions-coming : number_at_of b 0 ≤ most_functions → length b < past_section b 0 → so_far_of b ≡ None
      functions-coming few h = waits (by_functions (Some Cut) (cut-numbers b 0 1 most_functions two some few h) refl)

  -- "1 at the call that completes the functions section"
  module _ (w : Whole b 0 1 most_functions) where
    pub unknown_function : all_known_of (functions_of b) ≡ false → so_far_of b ≡ Some Function
    unknown_function k = met (Some Function) (unknown-next b w k) refl refl

    module _ (known : all_known_of (functions_of b) ≡ true) where
      by-patterns : (r : Option Refusal) → section_refusal_of b (past_section b 0) 0 most_patterns ≡ r → sections_refusal b ≡ r
      by-patterns r e = patterns-last b w known ∙ e

      pub count-coming : length b < past_section b 0 + 2 → so_far_of b ≡ None
      count-coming h = waits (by-patterns (Some Cut) (cut_count b (past_section b 0) 0 most_patterns h))

      module _ (counted : past_section b 0 + 2 ≤ length b) where
        pub many-patterns : most_patterns < number_at_of b (past_section b 0) → so_far_of b ≡ Some Limits
        many-patterns h = met (Some Limits) (by-patterns (Some Limits) (too_many b (past_section b 0) 0 most_patterns counted (omega arith) h)) refl refl

        pub patterns-coming : number_at_of b (past_section b 0) ≤ most_patterns → length b < past_patterns b → so_far_of b ≡ None
        unfolding past_patterns
        patterns-coming few h = waits (by-patterns (Some Cut) (cut-numbers b (past_section b 0) 0 most_patterns counted (omega arith) few h))

-- "4 and 2 only at the end call"
pub never_four : (b : List ℕ) → number_or_zero (so_far_of b) ≡ 4 → ⊥
unfolding so_far_of
never_four b e = go (is_cut (refusal_of b longest_answered)) refl e
  where
    go : (t : Bool) → is_cut (refusal_of b longest_answered) ≡ t → number_or_zero (cond t None (refusal_of b longest_answered)) ≡ 4 → ⊥
    go true c e = omega arith
    go false c e = false≢true (sym c ∙ eq-eqb (number_or_zero (refusal_of b longest_answered)) 4 e)

pub never_two : (b : List ℕ) → number_or_zero (so_far_of b) ≡ 2 → ⊥
unfolding so_far_of
never_two b e = go (is_cut (refusal_of b longest_answered)) e
  where
    go : (t : Bool) → number_or_zero (cond t None (refusal_of b longest_answered)) ≡ 2 → ⊥
    go true e = omega arith
    go false e = never_short b longest_answered (omega arith) e
