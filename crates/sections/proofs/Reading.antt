-- What the reader of the two sections has found so far, and what it returns: each is one of the cases of `Sound`.
use Prim.Native.Nat.{ℕ, ◌+◌, ◌*◌, ◌≤◌}
use mathlib.Core.Path.{◌≡◌, refl, sym, ap, ◌∙◌}
use mathlib.Core.Bool.{Bool, true, false}
use mathlib.Core.List.{List}
use native.Mathlib.Omega.{arith}
use lib.ListN.{length}
use Rattle.std.specs.Prelude.{Some, Ok, Err}
use Rattle.refusals.specs.declared.Refusal.{Refusal}
use Rattle.refusals.specs.declared.Refusal.TheVariants.{Function}
use Rattle.refusals.specs.Refusals.{unless_refused}
use Rattle.refusals.proofs.Refusing.{unrefused, refused_for}
use Rattle.words.specs.Numbers.{number_at_of, numbers_at}
use Rattle.sections.specs.Sections.{past_section, functions_of}
use Rattle.sections.specs.Order.{most_functions, most_patterns, section_refusal_of, all_known_of, sections_refusal, sections_of}
use Rattle.sections.proofs.Counts.{length_functions, length_patterns}
use Rattle.sections.proofs.Whole.{Whole, whole_counted}
use Rattle.sections.proofs.Sound.{functions_first, unknown-next, patterns-last, refused_counts, found_counts}

module _ (b : List ℕ) where
  pub first_refused : (e : Refusal) → Err e ≡ unless_refused (section_refusal_of b 0 1 most_functions) (number_at_of b 0)
      → Err e ≡ sections_of b
  first_refused e h =
      let first = refused_for (section_refusal_of b 0 1 most_functions) (number_at_of b 0) h in
      refused_counts b e (functions_first b (Some e) (sym first) refl)

  -- so many functions were found
  module _ (n : ℕ) (f : Ok n ≡ unless_refused (section_refusal_of b 0 1 most_functions) (number_at_of b 0)) where
    functions : Whole b 0 1 most_functions
    functions = (whole_counted b 0 1 most_functions f).0

    count : n ≡ number_at_of b 0
    count = (whole_counted b 0 1 most_functions f).1

    pub within : 2 + 2 * n ≤ length b
    within = omega (arith, count, functions.present)

    known_is : {t : Bool} → t ≡ all_known_of (numbers_at b 2 n) → all_known_of (functions_of b) ≡ t
    unfolding functions_of
    known_is k = ap (λ (m : ℕ). all_known_of (numbers_at b 2 m)) (sym count) ∙ sym k

    pub unknown_refused : false ≡ all_known_of (numbers_at b 2 n) → Err Function ≡ sections_of b
    unknown_refused k = refused_counts b Function (unknown-next b functions (known_is k))

    module _ (k : true ≡ all_known_of (numbers_at b 2 n)) where
      last : sections_refusal b ≡ section_refusal_of b (2 + 2 * n) 0 most_patterns
      last = patterns-last b functions (known_is k) ∙ ap (λ (m : ℕ). section_refusal_of b (2 + 2 * m) 0 most_patterns) (sym count)

      pub second_refused : (e : Refusal)
          → Err e ≡ unless_refused (section_refusal_of b (2 + 2 * n) 0 most_patterns) (number_at_of b (2 + 2 * n))
          → Err e ≡ sections_of b
      second_refused e h =
          let second = refused_for (section_refusal_of b (2 + 2 * n) 0 most_patterns) (number_at_of b (2 + 2 * n)) h in
          refused_counts b e (last ∙ second)

      pub sections_found : (m : ℕ)
          → Ok m ≡ unless_refused (section_refusal_of b (2 + 2 * n) 0 most_patterns) (number_at_of b (2 + 2 * n))
          → Ok (record { functions = n; patterns = m }) ≡ sections_of b
      sections_found m p =
          let h = unrefused (section_refusal_of b (2 + 2 * n) 0 most_patterns) (number_at_of b (2 + 2 * n)) p in
          let place : 2 + 2 * n ≡ past_section b 0 = omega (arith, count) in
          found_counts b n m (last ∙ h.0) (count ∙ sym (length_functions b)) (h.1 ∙ ap (number_at_of b) place ∙ sym (length_patterns b))

-- what the reader leaves to show
pub ruleset reads = (first_refused, within, unknown_refused, second_refused, sections_found)
