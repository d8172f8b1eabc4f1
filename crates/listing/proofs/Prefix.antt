-- Of bytes that are longer than any listing the first 2,073 decide with which number they are refused.
use Prim.Native.Nat.{ℕ, ◌+◌, ◌≤◌, ◌<◌}
use mathlib.Core.Path.{◌≡◌, refl, sym, ap, ◌∙◌}
use mathlib.Core.Bool.{Bool, true, false, not}
use mathlib.Core.List.{List}
use Rattle.std.specs.Prelude.{Option, is_none}
use native.Mathlib.Omega.{arith}
use lib.ListN.{length, take, drop, take-append-drop}
use lib.Seq.{length-take-le}
use Rattle.refusals.specs.declared.Refusal.{Refusal}
use Rattle.refusals.specs.declared.Refusal.TheVariants.{Function}
use Rattle.refusals.specs.Refusals.{is_cut, ◌before◌, refused_when}
use Rattle.refusals.proofs.Refusing.{before_keeps, when_keeps}
use Rattle.words.specs.Numbers.{number_at_of}
use Rattle.sections.specs.Sections.{past_section, functions_of}
use Rattle.sections.specs.Order.{most_functions, most_patterns, section_refusal_of, all_known_of, sections_refusal}
use Rattle.sections.proofs.Whole.{whole_of}
use Rattle.sections.proofs.Sound.{sound_of}
use Rattle.sections.proofs.Growing.{roomy_decided, number_grows, sections_grow}
use Rattle.listing.specs.Longest.{longest}
use Rattle.listing.specs.Outcome.{refusal_of}
use Rattle.listing.proofs.Calls.{sections_first, bytes_after}
use Rattle.listing.proofs.Long.{sound_short}

-- as many bytes as the longest listing has are not cut short
pub long_decided : (b : List ℕ) → longest ≤ length b → is_cut (sections_refusal b) ≡ false
unfolding sections_refusal
long_decided b long =
    let Decided : Option Refusal → Type 0 = λ r. is_cut r ≡ false in
    let functions = section_refusal_of b 0 1 most_functions in
    let patterns = section_refusal_of b (past_section b 0) 0 most_patterns in
    let unknown = not (all_known_of (functions_of b)) in
    before_keeps Decided functions (refused_when unknown Function before patterns) (roomy_decided b 0 1 most_functions (omega arith)) (λ n.
    before_keeps Decided (refused_when unknown Function) patterns (when_keeps Decided unknown Function refl refl) (λ _.
    roomy_decided b (past_section b 0) 0 most_patterns (omega (arith, (whole_of b 0 1 most_functions n).high))))

-- the first k bytes
module _ (b : List ℕ) (k : ℕ) (within : k ≤ length b) where
  size : length (take k b) ≡ k
  size = length-take-le k b within

  pub number_same : (at : ℕ) → at + 2 ≤ k → number_at_of (take k b) at ≡ number_at_of b at
  number_same at h =
      sym (number_grows (take k b) (drop k b) at (omega (arith, size))) ∙ ap (λ (l : List ℕ). number_at_of l at) (take-append-drop k b)

  pub sections_same : longest ≤ k → sections_refusal (take k b) ≡ sections_refusal b
  sections_same long =
      sym (sections_grow (take k b) (drop k b) (long_decided (take k b) (omega (arith, size)))) ∙ ap sections_refusal (take-append-drop k b)

  module _ (long : longest < k) where
    refusal-by : (outputs : ℕ) (t : Bool) → is_none (sections_refusal b) ≡ t
        → refusal_of (take k b) outputs ≡ refusal_of b outputs
    refusal-by outputs true e =
        let s = sound_of b e in
        let s' = sound_of (take k b) (ap is_none (sections_same (omega arith)) ∙ e) in
        bytes_after (take k b) outputs s' (omega (arith, size, sound_short (take k b) s'))
        ∙ sym (bytes_after b outputs s (omega (arith, sound_short b s)))
    refusal-by outputs false e =
        let r = sections_refusal b in
        sections_first (take k b) outputs r (sym (sections_same (omega arith))) e ∙ sym (sections_first b outputs r refl e)

    pub first_bytes_decide : (outputs : ℕ) → refusal_of (take k b) outputs ≡ refusal_of b outputs
    first_bytes_decide outputs = refusal-by outputs (is_none (sections_refusal b)) refl
