-- What holds of each refusal that the reader of the two sections gives holds of the one that it gives.
use Prim.Native.Nat.{ℕ, ◌+◌}
use mathlib.Core.Bool.{not, ◌||◌}
use mathlib.Core.List.{List}
use Rattle.std.specs.Prelude.{Option, Some, None}
use lib.ListN.{length}
use lib.Dec.{ltb}
use Rattle.refusals.specs.declared.Refusal.{Refusal}
use Rattle.refusals.specs.declared.Refusal.TheVariants.{Function, Cut, Limits}
use Rattle.refusals.specs.Refusals.{◌before◌, refused_when}
use Rattle.refusals.proofs.Refusing.{before_keeps, when_keeps}
use Rattle.words.specs.Numbers.{number_at_of}
use Rattle.sections.specs.Sections.{past_section, functions_of}
use Rattle.sections.specs.Order.{most_functions, most_patterns, section_refusal_of, all_known_of, sections_refusal}

module _ (P : Option Refusal → Type 0) (none : P None) (cut : P (Some Cut)) (limits : P (Some Limits)) where
  section_keeps : (b : List ℕ) (at least most : ℕ) → P (section_refusal_of b at least most)
  unfolding section_refusal_of
  section_keeps b at least most =
      let count = refused_when (ltb (length b) (at + 2)) Cut in
      let outside = ltb (number_at_of b at) least || ltb most (number_at_of b at) in
      let numbers = refused_when (ltb (length b) (past_section b at)) Cut in
      before_keeps P count (refused_when outside Limits before numbers) (when_keeps P (ltb (length b) (at + 2)) Cut none cut) (λ _.
      before_keeps P (refused_when outside Limits) numbers (when_keeps P outside Limits none limits) (λ _.
      when_keeps P (ltb (length b) (past_section b at)) Cut none cut))

  pub sections_keep : P (Some Function) → (b : List ℕ) → P (sections_refusal b)
  unfolding sections_refusal
  sections_keep function b =
      let functions = section_refusal_of b 0 1 most_functions in
      let patterns = section_refusal_of b (past_section b 0) 0 most_patterns in
      let unknown = not (all_known_of (functions_of b)) in
      before_keeps P functions (refused_when unknown Function before patterns) (section_keeps b 0 1 most_functions) (λ _.
      before_keeps P (refused_when unknown Function) patterns (when_keeps P unknown Function none function) (λ _.
      section_keeps b (past_section b 0) 0 most_patterns))
