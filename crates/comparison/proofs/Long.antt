-- How long answered listings get: none is longer than 22,554 bytes, of longer bytes the first 22,555 decide how they are refused, and
-- 317,440 bytes have room for all lines.
use Prim.Native.Nat.{ℕ, ◌*◌, ◌≤◌, ◌<◌}
use mathlib.Core.Path.{◌≡◌, refl, sym, ap, ◌∙◌}
use mathlib.Core.Bool.{Bool, true, false}
use mathlib.Core.List.{List}
use native.Mathlib.Omega.{arith}
use native.Mathlib.Nat.{mul-le-mul}
use borrow.Author.Tests.{ltb-true, ltb-false, eqb-true, eqb-false, le-ltb}
use lib.ListN.{length, take}
use lib.Seq.{length-take-le, take_all}
use lib.Dec.{ltb, eqb}
use Rattle.std.specs.Prelude.{None, is_none}
use Rattle.words.specs.Numbers.{number_at_of}
use Rattle.sections.specs.Sections.{past_section, functions_of, patterns_of, past_patterns}
use Rattle.sections.specs.Order.{most_functions, most_patterns, sections_refusal}
use Rattle.sections.proofs.Counts.{length_functions, length_patterns}
use Rattle.sections.proofs.Sound.{Sound, sound_of}
use Rattle.listing.specs.Longest.{longest_answered}
use Rattle.listing.proofs.Long.{sound_short}
use Rattle.listing.proofs.Prefix.{number_same, sections_same}
use Rattle.answered.specs.Answered.{asks, answered_refusal, pair_refusal}
use Rattle.answered.proofs.Complete.{Complete, complete_of, sections_first, count-wrong, bytes_after}
use Rattle.answered.proofs.Pairs.{agreed_of, first-first, second-next}
use Rattle.line.specs.Line.{room_for}
use Rattle.comparison.specs.Comparison.{differences_of, shown, most_lines_of, said_of}
use Rattle.comparison.proofs.Lines.{most_lines_most}
use Rattle.comparison.proofs.Pairs.{number_said}

few_asks : (b : List ℕ) → Sound b → asks b ≤ most_functions * most_patterns
few_asks b s =
    let f : length (functions_of b) ≤ most_functions = omega (arith, length_functions b, s.functions.high) in
    let p : length (patterns_of b) ≤ most_patterns = omega (arith, length_patterns b, s.patterns.high) in
    mul-le-mul f p

pub complete_short : (b : List ℕ) → Complete b → length b ≤ longest_answered
complete_short b w = omega (arith, w.nothing_after, w.count, few_asks b w.sections, sound_short b w.sections)

-- the first k bytes of longer ones
module _ (b : List ℕ) (k : ℕ) (inside : k ≤ length b) (long : longest_answered < k) where
  size : length (take k b) ≡ k
  size = length-take-le k b inside

  module _ (s : Sound b) (s' : Sound (take k b)) where
    first_count : number_at_of (take k b) 0 ≡ number_at_of b 0
    first_count = number_same b k inside 0 (omega arith)

    second-count : number_at_of (take k b) (past_section b 0) ≡ number_at_of b (past_section b 0)
    second-count = number_same b k inside (past_section b 0) (omega (arith, s.functions.high))

    past_same : past_patterns (take k b) ≡ past_patterns b
    unfolding past_patterns
    past_same = rw (first_count, second-count)

    asks-same : asks (take k b) ≡ asks b
    asks-same = rw (length_functions (take k b), length_functions b, length_patterns (take k b), length_patterns b, first_count, second-count)

    count_same : number_at_of (take k b) (past_patterns (take k b)) ≡ number_at_of b (past_patterns b)
    count_same = ap (number_at_of (take k b)) past_same ∙ number_same b k inside (past_patterns b) (omega (arith, sound_short b s))

    by_count : (t : Bool) → eqb (number_at_of b (past_patterns b)) (asks b) ≡ t → answered_refusal (take k b) ≡ answered_refusal b
    by_count true e =
        let q = eqb-true (number_at_of b (past_patterns b)) (asks b) e in
        bytes_after (take k b) s' (omega (arith, size, past_same, sound_short b s)) (count_same ∙ q ∙ sym asks-same)
        (omega (arith, size, past_same, count_same, q, few_asks b s, sound_short b s))
        ∙ sym (bytes_after b s (omega (arith, sound_short b s)) q (omega (arith, q, few_asks b s, sound_short b s)))
    by_count false e =
        let q = eqb-false (number_at_of b (past_patterns b)) (asks b) e in
        count-wrong (take k b) s' (omega (arith, size, past_same, sound_short b s)) (λ z. q (sym count_same ∙ z ∙ asks-same))
        ∙ sym (count-wrong b s (omega (arith, sound_short b s)) q)

  same_sections : sections_refusal (take k b) ≡ sections_refusal b
  same_sections = sections_same b k inside (omega arith)

  by_sections : (t : Bool) → is_none (sections_refusal b) ≡ t → answered_refusal (take k b) ≡ answered_refusal b
  by_sections true e =
      by_count (sound_of b e) (sound_of (take k b) (ap is_none same_sections ∙ e)) (eqb (number_at_of b (past_patterns b)) (asks b)) refl
  by_sections false e = sections_first (take k b) (sections_refusal b) (sym same_sections) e ∙ sym (sections_first b (sections_refusal b) refl e)

  answered_same : answered_refusal (take k b) ≡ answered_refusal b
  answered_same = by_sections (is_none (sections_refusal b)) refl

-- as many bytes as the program reads of a file
abbrev pub first_bytes : List ℕ → List ℕ
first_bytes b = take 22555 b

first_bytes_same : (b : List ℕ) → answered_refusal (first_bytes b) ≡ answered_refusal b
first_bytes_same b = go (ltb (length b) 22555) refl
  where
    go : (t : Bool) → ltb (length b) 22555 ≡ t → answered_refusal (first_bytes b) ≡ answered_refusal b
    go true e = ap answered_refusal (take_all 22555 b (omega (arith, ltb-true (length b) 22555 e)))
    go false e = answered_same b 22555 (ltb-false (length b) 22555 e) (omega arith)

complete_whole : (b : List ℕ) → Complete b → first_bytes b ≡ b
complete_whole b w = take_all 22555 b (omega (arith, complete_short b w))

module _ (b c : List ℕ) where
  by_second : Complete b → (t : Bool) → is_none (answered_refusal c) ≡ t → pair_refusal b (first_bytes c) ≡ pair_refusal b c
  by_second w true e = ap (pair_refusal b) (complete_whole c (complete_of c e))
  by_second w false e =
      second-next b (first_bytes c) w (answered_refusal c) (sym (first_bytes_same c)) e ∙ sym (second-next b c w (answered_refusal c) refl e)

  by_first : (t : Bool) → is_none (answered_refusal b) ≡ t → pair_refusal (first_bytes b) (first_bytes c) ≡ pair_refusal b c
  by_first true e =
      let w = complete_of b e in
      ap (λ (l : List ℕ). pair_refusal l (first_bytes c)) (complete_whole b w) ∙ by_second w (is_none (answered_refusal c)) refl
  by_first false e =
      first-first (first_bytes b) (first_bytes c) (answered_refusal b) (sym (first_bytes_same b)) e ∙ sym (first-first b c (answered_refusal b) refl e)

  pair_same : pair_refusal (first_bytes b) (first_bytes c) ≡ pair_refusal b c
  pair_same = by_first (is_none (answered_refusal b)) refl

  -- the program may read no more of two files
  pub first_bytes_decide : (short : Bool) (outputs : ℕ) → said_of (first_bytes b) (first_bytes c) short outputs ≡ said_of b c short outputs
  first_bytes_decide short outputs = go (is_none (pair_refusal b c)) refl
    where
      go : (t : Bool) → is_none (pair_refusal b c) ≡ t → said_of (first_bytes b) (first_bytes c) short outputs ≡ said_of b c short outputs
      go true e =
          let a = agreed_of b c e in
          ap (λ (l : List ℕ). said_of l (first_bytes c) short outputs) (complete_whole b a.first)
          ∙ ap (λ (l : List ℕ). said_of b l short outputs) (complete_whole c a.second)
      go false e =
          number_said (first_bytes b) (first_bytes c) (pair_refusal b c) pair_same e short outputs ∙ sym (number_said b c (pair_refusal b c) refl e short outputs)

-- an output of 317,440 bytes has room for all lines
pub room_enough : (b c : List ℕ) (short : Bool) → pair_refusal b c ≡ None → said_of b c short 317440 ≡ shown short (differences_of b c)
unfolding said_of
room_enough b c short e =
    let a = agreed_of b c (ap is_none e) in
    let most = most_lines_most short (asks b) 10240 (few_asks b a.first.sections) (omega arith) in
    rw (e, le-ltb 317440 (room_for * most_lines_of short (asks b)) (omega arith))
