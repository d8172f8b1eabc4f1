-- What is known once an answered listing's sections were read, and once one of two was, and what the readers make of the rest.
use Prim.Native.Nat.{ℕ, ◌+◌, ◌*◌, ◌≤◌, ◌<◌}
use mathlib.Core.Path.{◌≡◌, refl, sym, ap, ◌∙◌}
use mathlib.Core.Bool.{true, false}
use mathlib.Core.List.{List}
use Rattle.std.specs.Prelude.{Some, Ok, Err}
use native.Mathlib.Omega.{arith}
use lib.ListN.{length}
use Rattle.refusals.specs.declared.Refusal.{Refusal}
use Rattle.refusals.specs.declared.Refusal.TheVariants.{Cut, After, Count, Different}
use Rattle.words.specs.Numbers.{number_at_of, numbers_at}
use Rattle.sections.specs.declared.Sections.{Sections}
use Rattle.sections.specs.Sections.{past_section, functions_of, patterns_of, past_patterns}
use Rattle.sections.specs.Order.{sections_refusal, sections_of}
use Rattle.sections.proofs.Counts.{functions_are, patterns_are}
use Rattle.sections.proofs.Sound.{read, refused_of, refused_counts, found_counts}
use Rattle.answered.specs.Answered.{asks, answered_refusal, answered_of, same, pair_of}
use Rattle.answered.proofs.Complete.{Complete, sections_first, count-missing, count-wrong, answers-missing, bytes_after, complete, found}
use Rattle.answered.proofs.Same.{same_lists, same_false}
use Rattle.answered.proofs.Pairs.{Agreed, first-first, second-next, functions-differ, patterns-differ, agreed}

pub refused_first : (b : List ℕ) (e : Refusal) → Err e ≡ sections_of b → Err e ≡ answered_of b
refused_first b e h = refused_counts b e (sections_first b (Some e) (sym (refused_of b (sections_refusal b) h)) refl)

module _ (b : List ℕ) (s : Sections) (e : Ok s ≡ sections_of b) where
  abbrev end : ℕ
  end = 4 + 2 * s.functions + 2 * s.patterns

  pub few_functions : s.functions ≤ 10
  few_functions = (read b s e).counts.few

  pub few_patterns : s.patterns ≤ 1024
  few_patterns = (read b s e).counts.some

  pub few_answers : s.functions * s.patterns ≤ 10240
  few_answers = (read b s e).answers

  pub sections_within : end ≤ length b
  sections_within = omega (arith, (read b s e).past, (read b s e).within)

  asks_are : s.functions * s.patterns ≡ asks b
  asks_are =
      let c = (read b s e).counts in
      ap (λ (k : ℕ). k * s.patterns) c.functions ∙ ap (λ (k : ℕ). length (functions_of b) * k) c.patterns

  pub no_count : length b < end + 2 → Err Cut ≡ answered_of b
  no_count k = refused_counts b Cut (count-missing b (read b s e).sound (omega (arith, (read b s e).past)))

  module _ (counted : end + 2 ≤ length b) where
    counted_at : past_patterns b + 2 ≤ length b
    counted_at = omega (arith, (read b s e).past)

    pub wrong_count : (number_at_of b end ≡ s.functions * s.patterns → ⊥) → Err Count ≡ answered_of b
    wrong_count k =
        let h = read b s e in
        let other : number_at_of b (past_patterns b) ≡ asks b → ⊥ = λ q. k (ap (number_at_of b) (sym h.past) ∙ q ∙ sym asks_are) in
        refused_counts b Count (count-wrong b h.sound counted_at other)

    module _ (count : number_at_of b end ≡ s.functions * s.patterns) where
      right : number_at_of b (past_patterns b) ≡ asks b
      right = ap (number_at_of b) (read b s e).past ∙ count ∙ asks_are

      whole : past_section b (past_patterns b) ≡ end + 2 + 2 * (s.functions * s.patterns)
      whole = omega (arith, (read b s e).past, right, asks_are)

      pub no_answers : length b < end + 2 + 2 * (s.functions * s.patterns) → Err Cut ≡ answered_of b
      no_answers k = refused_counts b Cut (answers-missing b (read b s e).sound counted_at right (omega (arith, whole)))

      pub more_bytes : end + 2 + 2 * (s.functions * s.patterns) < length b → Err After ≡ answered_of b
      more_bytes k = refused_counts b After (bytes_after b (read b s e).sound counted_at right (omega (arith, whole)))

      pub answers_found : end + 2 + 2 * (s.functions * s.patterns) ≤ length b → length b ≤ end + 2 + 2 * (s.functions * s.patterns)
          → Ok s ≡ answered_of b
      answers_found k l =
          let h = read b s e in
          let w : Complete b = record {
            sections = h.sound;
            counted = counted_at;
            count = right;
            present = omega (arith, whole);
            nothing_after = omega (arith, whole);
          } in
          found_counts b s.functions s.patterns (complete b w) h.counts.functions h.counts.patterns

-- what the reader of an answered listing leaves to show
pub ruleset reads =
    (few_functions, few_patterns, few_answers, sections_within, refused_first, no_count, wrong_count, no_answers, more_bytes, answers_found)

-- two listings, and what was found of the first
module _ (b c : List ℕ) where
  pub first_refused : (e : Refusal) → Err e ≡ answered_of b → Err e ≡ pair_of b c
  first_refused e h = refused_counts b e (first-first b c (Some e) (sym (refused_of b (answered_refusal b) h)) refl)

  module _ (s : Sections) (x : Ok s ≡ answered_of b) where
    pub functions_within : s.functions ≤ 10
    functions_within = (found b s x).counts.few

    pub patterns_within : s.patterns ≤ 1024
    patterns_within = (found b s x).counts.some

    pub second_refused : (e : Refusal) → Err e ≡ answered_of c → Err e ≡ pair_of b c
    second_refused e h =
        refused_counts b e (second-next b c (found b s x).complete (Some e) (sym (refused_of c (answered_refusal c) h)) refl)

    module _ (t : Sections) (y : Ok t ≡ answered_of c) where
      apart : (functions_of b ≡ functions_of c → ⊥) → Err Different ≡ pair_of b c
      apart h = refused_counts b Different (functions-differ b c (found b s x).complete (found c t y).complete h)

      apart_patterns : (patterns_of b ≡ patterns_of c → ⊥) → Err Different ≡ pair_of b c
      apart_patterns h = refused_counts b Different (patterns-differ b c (found b s x).complete (found c t y).complete h)

      pub more_functions : (s.functions ≡ t.functions → ⊥) → Err Different ≡ pair_of b c
      more_functions h = apart (λ q. h ((found b s x).counts.functions ∙ ap length q ∙ sym (found c t y).counts.functions))

      pub more_patterns : (s.patterns ≡ t.patterns → ⊥) → Err Different ≡ pair_of b c
      more_patterns h = apart_patterns (λ q. h ((found b s x).counts.patterns ∙ ap length q ∙ sym (found c t y).counts.patterns))

      module _ (as_many : s.functions ≡ t.functions) (as_many_patterns : s.patterns ≡ t.patterns) where
        functions_first : numbers_at b 2 s.functions ≡ functions_of b
        functions_first = functions_are b s.functions s.patterns (found b s x).counts.functions (found b s x).counts.patterns

        functions_second : numbers_at c 2 s.functions ≡ functions_of c
        functions_second =
            functions_are c s.functions s.patterns
            (as_many ∙ (found c t y).counts.functions) (as_many_patterns ∙ (found c t y).counts.patterns)

        at : 4 + 2 * s.functions ≡ 2 + 2 * s.functions + 2
        at = omega arith

        patterns_first : numbers_at b (4 + 2 * s.functions) s.patterns ≡ patterns_of b
        patterns_first =
            ap (λ (n : ℕ). numbers_at b n s.patterns) at
            ∙ patterns_are b s.functions s.patterns (found b s x).counts.functions (found b s x).counts.patterns

        patterns_second : numbers_at c (4 + 2 * s.functions) s.patterns ≡ patterns_of c
        patterns_second =
            ap (λ (n : ℕ). numbers_at c n s.patterns) at
            ∙ patterns_are c s.functions s.patterns
            (as_many ∙ (found c t y).counts.functions) (as_many_patterns ∙ (found c t y).counts.patterns)

        pub other_functions : same (numbers_at b 2 s.functions) (numbers_at c 2 s.functions) ≡ false → Err Different ≡ pair_of b c
        other_functions h = apart (λ q. same_false _ _ h (functions_first ∙ q ∙ sym functions_second))

        pub other_patterns : same (numbers_at b (4 + 2 * s.functions) s.patterns) (numbers_at c (4 + 2 * s.functions) s.patterns) ≡ false
            → Err Different ≡ pair_of b c
        other_patterns h = apart_patterns (λ q. same_false _ _ h (patterns_first ∙ q ∙ sym patterns_second))

        pub same_asked : same (numbers_at b 2 s.functions) (numbers_at c 2 s.functions) ≡ true
            → same (numbers_at b (4 + 2 * s.functions) s.patterns) (numbers_at c (4 + 2 * s.functions) s.patterns) ≡ true
            → Ok s ≡ pair_of b c
        same_asked h k =
            let w : Agreed b c = record {
              first = (found b s x).complete;
              second = (found c t y).complete;
              functions = sym functions_first ∙ same_lists _ _ h ∙ functions_second;
              patterns = sym patterns_first ∙ same_lists _ _ k ∙ patterns_second;
            } in
            found_counts b s.functions s.patterns (agreed b c w) (found b s x).counts.functions (found b s x).counts.patterns

-- what the reader of two leaves to show
pub ruleset pairs = (
  functions_within,
  patterns_within,
  first_refused,
  second_refused,
  more_functions,
  more_patterns,
  other_functions,
  other_patterns,
  same_asked,
)
